-- A call in a turn of its own.
use Rattle.std.proofs.Common.{◌≡◌, ◌≢◌, Bool, false, true, ◌≤◌, ◌-◌, ◌∙◌, ◌++◌, ◌∷◌, ℕ, List, [], length, None, inl, refl, sym, ap, subst, arith, All}
use Rattle.std.proofs.lemmas.List.Elements.{All-nil, All-cons, All-head, All-tail}
use Rattle.nor_array.specs.After.{after_all}
use Rattle.nor_array.specs.declared.entry.Entry.{Entry}
use Rattle.nor_array.specs.declared.entry.Op.{Op}
use Rattle.nor_array.specs.declared.entry.Reply.{Reply}
use Rattle.nor_array.specs.declared.entry.Op.TheVariants.{Poll}
use Rattle.nor_array.specs.declared.entry.Reply.TheVariants.{Opened, Nothing}
use Rattle.nor_bank.specs.Calls.{entry_of}
use Rattle.nor_bank.specs.State.{BankState}
use Rattle.nor_turn.specs.Fronts.{Name, Front}
use Rattle.nor_turn.specs.Passes.{PassView, Owns, Continues, after_entry, without_turn, front_after, both}
use Rattle.nor_driver.specs.Fronts.{StandsFor, entries_of, closes}
use Rattle.nor_array.specs.Entries.{IsOf}
use Rattle.nor_array.specs.Legal.{Legal}
use Rattle.nor_bank.specs.Calls.{facts_of}
use Rattle.nor_driver.specs.Callers.{Gives, CallerView, HasOpened, Adds, WentOn, Called, IsLegal, Erases, Unopened, Closed, is_opened}
use Rattle.nor_driver.specs.declared.caller.Answer.{Answer}
use Rattle.nor_driver.specs.Made.{MayPoll, IsSame, is_poll, is_waited_out}
use Rattle.nor_bank.proofs.Keeping.{keeps_bank_then, keeps_call}
use Rattle.nor_driver.proofs.Calls.{Makes, goes, rests, closes_poll, tells_more, tells_still, tells_some}
use Rattle.nor_driver.proofs.Going.{stands_more, stands_still}
use Rattle.nor_driver.proofs.Owning.{none_under, opened_on}
use Rattle.nor_driver.proofs.Replies.{given_awaited, tells_data}

-- a call that is waited out leaves a bank that stands for the same front
pub stands_waiting : (first mine old held next : BankState) (front : Front Entry) (caller : ℕ) (op : Op) (r : Reply) (given : List ℕ) → mine ≡ first → held ≡ old → StandsFor first front old
    → is_waited_out r ≡ true → Makes caller op held next r given → StandsFor mine front next
stands_waiting first mine old held next front caller op r given mine_is held_is stands waits makes =
    let before : StandsFor first front held = subst (StandsFor first front) (sym held_is) stands in
    let still : StandsFor first front next =
    record {
      keeps = keeps_bank_then first held next before.keeps (keeps_call caller op held next r makes.call.leaves);
      erase = tells_still caller op held next r given front makes before.erase waits;
      each = λ a can.
          let so = before.each a can in
          stands_still first held next a front so (none_under first held front before) (rests caller op held next r given (after_all a (entries_of front)) makes waits so.stands);
    } in
    subst (λ (f : BankState). StandsFor f front next) (sym mine_is) still

-- the bank goes on by a call, and so does the front
goes_on : (first old new : BankState) (front : Front Entry) (name : Name) (caller : ℕ) (op : Op) (r : Reply) (given : List ℕ) → StandsFor first front old
    → Makes caller op old new r given → (is_poll op ≡ true → HasOpened name caller front) → StandsFor first (front ++ (name, entry_of old new caller op r given) ∷ []) new
goes_on first old new front name caller op r given stands makes polls = record {
  keeps = keeps_bank_then first old new stands.keeps (keeps_call caller op old new r makes.call.leaves);
  erase = tells_more caller op old new r given front name makes stands.erase polls;
  each = λ a can.
      let so = stands.each a can in
      stands_more first old new a front name (entry_of old new caller op r given) so (none_under first old front stands)
      (goes caller op old new r given (after_all a (entries_of front)) makes so.stands);
}

-- one that isn't makes an entry, here with the names that the driver has for these
pub stands_entered : (first mine old held new before later : BankState) (front : Front Entry) (name : Name) (caller len filled : ℕ) (op : ℕ → Op) (r : Reply) (given : List ℕ)
    → mine ≡ first → held ≡ old → before ≡ held → later ≡ new → filled ≡ len → StandsFor first front old → Makes caller (op len) held new r given
    → (is_poll (op len) ≡ true → HasOpened name caller front)
    → StandsFor mine (front ++ (name, entry_of before later caller (op filled) r given) ∷ []) new
stands_entered first mine old held new before later front name caller len filled op r given mine_is held_is before_is later_is filled_is stands makes polls =
    let base : StandsFor first (front ++ (name, entry_of held new caller (op len) r given) ∷ []) new =
    goes_on first held new front name caller (op len) r given (subst (StandsFor first front) (sym held_is) stands) makes polls in
    subst (λ (f : BankState). StandsFor f (front ++ (name, entry_of before later caller (op filled) r given) ∷ []) new) (sym mine_is)
    (subst (λ (b : BankState). StandsFor first (front ++ (name, entry_of b later caller (op filled) r given) ∷ []) new) (sym before_is)
    (subst (λ (b : BankState). StandsFor first (front ++ (name, entry_of held b caller (op filled) r given) ∷ []) new) (sym later_is)
    (subst (λ (n : ℕ). StandsFor first (front ++ (name, entry_of held new caller (op n) r given) ∷ []) new) (sym filled_is) base)))

pub stands_given : (first now new : BankState) (t u : PassView BankState Entry) (e : Entry) → u ≡ after_entry t e → now ≡ new → StandsFor first (front_after t e) new
    → StandsFor first u.turn_front now
stands_given first now new t u e entered same stands =
    subst (λ (b : BankState). StandsFor first u.turn_front b) (sym same)
    (subst (λ (f : Front Entry). StandsFor first f new) (sym (ap (λ (v : PassView BankState Entry). v.turn_front) entered)) stands)

adds : (p t u q : PassView BankState Entry) (e : Entry) (position : ℕ) → IsSame p t → Continues p t.turn_front → position ≡ length t.turn_front
    → u ≡ after_entry t e → q ≡ without_turn u → Adds p e position q.seen
adds p t u q e position same goes place entered given =
    let seen : q.seen ≡ front_after t e = ap (λ (v : PassView BankState Entry). v.seen) given ∙ ap (λ (v : PassView BankState Entry). v.seen) entered in
    record {
      between = goes.added;
      others = goes.others;
      whole = seen ∙ (ap (λ (f : Front Entry). f ++ (t.name, e) ∷ []) (sym goes.whole) ∙ ap (λ (n : Name). (p.seen ++ goes.added) ++ (n, e) ∷ []) same.name);
      place = place ∙ ap length (sym goes.whole);
    }

went_on : (p t u q : PassView BankState Entry) (e : Entry) → IsSame p t → 1 ≤ p.room → u ≡ after_entry t e → q ≡ without_turn u → WentOn 1 p q
went_on p t u q e same room entered given =
    let all : q ≡ without_turn (after_entry t e) = given ∙ ap without_turn entered in
    record {
      table = ap (λ (v : PassView BankState Entry). v.table) all ∙ same.table;
      opening = ap (λ (v : PassView BankState Entry). v.opening) all ∙ same.opening;
      name = ap (λ (v : PassView BankState Entry). v.name) all ∙ same.name;
      splits = ap (λ (v : PassView BankState Entry). v.splits) all ∙ same.splits;
      taken = ap (λ (v : PassView BankState Entry). v.taken) all ∙ same.taken;
      share = ap (λ (v : PassView BankState Entry). v.share) all ∙ same.share;
      room = let now : q.room ≡ t.room - 1 = ap (λ (v : PassView BankState Entry). v.room) all in let before = same.room in omega (arith, room, now, before);
    }

-- ---- the erase of a caller that polls

others_leave : (name : Name) (p : PassView BankState Entry) (added : Front Entry) → p.name ≡ name → All (λ pair. ¬ Owns p pair.0) added
    → All (λ pair. pair.0 ≡ name → closes pair.1.reply pair.1.op ≡ false) added
others_leave name p [] is others = All-nil (λ (pair : Name × Entry). pair.0 ≡ name → closes pair.1.reply pair.1.op ≡ false)
others_leave name p (x ∷ added) is others =
    All-cons (λ (pair : Name × Entry). pair.0 ≡ name → closes pair.1.reply pair.1.op ≡ false) x added
    (λ same. absurd (All-head (λ (pair : Name × Entry). ¬ Owns p pair.0) x added others (inl (same ∙ sym is))))
    (others_leave name p added is (All-tail (λ (pair : Name × Entry). ¬ Owns p pair.0) x added others))

-- what others made leaves it open
pub opened_continues : (p : PassView BankState Entry) (number : ℕ) (front : Front Entry) → HasOpened p.name number p.seen → Continues p front → HasOpened p.name number front
opened_continues p number front has goes =
    subst (HasOpened p.name number) goes.whole (opened_on p.name number p.seen goes.added has (others_leave p.name p goes.added refl goes.others))

-- a pass that took another in has it open
pub opened_joined : (p q r : PassView BankState Entry) (number : ℕ) (erasing : Bool) → (p.ticket ≡ None) × (erasing ≡ true → HasOpened p.name number p.seen) → r ≡ both p q → Continues p r.seen
    → (r.ticket ≡ None) × (erasing ≡ true → HasOpened r.name number r.seen)
opened_joined p q r number erasing rest joined goes = (
  ap (λ (v : PassView BankState Entry). v.ticket) joined ∙ rest.0,
  λ is. subst (λ (n : Name). HasOpened n number r.seen) (sym (ap (λ (v : PassView BankState Entry). v.name) joined)) (opened_continues p number r.seen (rest.1 is) goes),
)

-- it is open in the turn
pub polls_in_turn : (op : Op) (c d : CallerView) (t : PassView BankState Entry) → d ≡ c → (is_poll op ≡ true → MayPoll c) → IsSame d.pass t → Continues d.pass t.turn_front
    → is_poll op ≡ true → HasOpened t.name d.number t.turn_front
polls_in_turn op c d t is polls same goes poll =
    let may : MayPoll d = subst MayPoll (sym is) (polls poll) in
    subst (λ (n : Name). HasOpened n d.number t.turn_front) (sym same.name) (opened_continues d.pass d.number t.turn_front may.opened goes)

-- an entry of its own that doesn't close it leaves it open
pub opened_adds : (p : PassView BankState Entry) (number : ℕ) (e : Entry) (at : ℕ) (front : Front Entry) → HasOpened p.name number p.seen → Adds p e at front → closes e.reply e.op ≡ false
    → HasOpened p.name number front
opened_adds p number e at front has adds leaves =
    subst (HasOpened p.name number) (sym adds.whole)
    (opened_on p.name number (p.seen ++ adds.between) ((p.name, e) ∷ [])
    (opened_on p.name number p.seen adds.between has (others_leave p.name p adds.between refl adds.others))
    (All-cons (λ (pair : Name × Entry). pair.0 ≡ p.name → closes pair.1.reply pair.1.op ≡ false) (p.name, e) [] (λ same. leaves)
    (All-nil (λ (pair : Name × Entry). pair.0 ≡ p.name → closes pair.1.reply pair.1.op ≡ false))))

-- ---- a call that was made

pub call_made : (first held old new before later : BankState) (caller len filled position : ℕ) (op : ℕ → Op) (r : Reply) (given : List ℕ) (p t u q : PassView BankState Entry) (erasing : Bool) (c : CallerView)
    → record { number = caller; pass = p; erasing = erasing } ≡ c → filled ≡ len → is_waited_out r ≡ false → held ≡ old → before ≡ held → later ≡ new
    → StandsFor first t.turn_front old → Makes caller (op len) held new r given → (is_poll (op len) ≡ true → HasOpened t.name caller t.turn_front)
    → IsSame p t → Continues p t.turn_front → 1 ≤ c.pass.room → position ≡ length t.turn_front
    → u ≡ after_entry t (entry_of before later caller (op filled) r given) → q ≡ without_turn u
    → Called first (op len) given c (record { number = caller; pass = q; erasing = erasing }) (record { reply = r; position = position })
call_made first held old new before later caller len filled position op r given p t u q erasing c c_is filled_is waits held_is before_is later_is stood makes polls same goes room place entered given_back =
    let e : Entry = entry_of before later caller (op filled) r given in
    let seen : q.seen ≡ front_after t e = ap (λ (v : PassView BankState Entry). v.seen) given_back ∙ ap (λ (v : PassView BankState Entry). v.seen) entered in
    let stands : StandsFor first (front_after t e) new =
    stands_entered first first old held new before later t.turn_front t.name caller len filled op r given refl held_is before_is later_is filled_is stood makes polls in
    let there : StandsFor first t.turn_front held = subst (StandsFor first t.turn_front) (sym held_is) stood in
    let some : r ≢ Nothing = tells_some caller (op len) held new r given t.turn_front t.name makes there.erase polls in
    subst (λ (v : CallerView). Called first (op len) given v (record { number = caller; pass = q; erasing = erasing }) (record { reply = r; position = position })) c_is
    (record {
      entry = e;
      is = record { called_by = refl; calls = ap op filled_is };
      reply = refl;
      awaited = given_awaited r waits some;
      bytes = subst (λ (n : ℕ). Gives r (op n) given e.bytes) filled_is (tells_data (op filled) given before later r);
      adds = adds p t u q e position same goes place entered given_back;
      legal = λ a can. subst (λ (f : Front Entry). Legal (facts_of first) a (entries_of f)) (sym seen) (stands.each a can).legal;
      number = refl;
      pass = went_on p t u q e same (subst (λ (v : CallerView). 1 ≤ v.pass.room) (sym c_is) room) entered given_back;
    })

closing_polls : (r : Reply) (op : Op) (closing : Bool) → closes r op ≡ closing → (is_poll op ≡ true → ⊥) → closes r op ≡ false
closing_polls r op false is never = is
closing_polls r op true is never = absurd (never (closes_poll r op is))

-- What stands of a caller at rest after an entry: where it has an erase to close, it made no poll.
pub rests_entered : (p t u q : PassView BankState Entry) (number : ℕ) (erasing : Bool) (c : CallerView) (e : Entry) (position : ℕ)
    → record { number = number; pass = p; erasing = erasing } ≡ c → (p.ticket ≡ None) × (erasing ≡ true → HasOpened p.name number p.seen)
    → (is_poll e.op ≡ true → MayPoll c) → IsSame p t → Continues p t.turn_front → position ≡ length t.turn_front → u ≡ after_entry t e → q ≡ without_turn u
    → (q.ticket ≡ None) × (erasing ≡ true → HasOpened q.name number q.seen)
rests_entered p t u q number erasing c e position c_is rest polls same goes place entered given_back = (
  ap (λ (v : PassView BankState Entry). v.ticket) given_back,
  λ is.
      let never : is_poll e.op ≡ true → ⊥ = λ poll. true_false (sym is ∙ subst (λ (v : CallerView). v.erasing ≡ false) (sym c_is) (polls poll).closing) in
      let name : q.name ≡ p.name = ap (λ (v : PassView BankState Entry). v.name) given_back ∙ (ap (λ (v : PassView BankState Entry). v.name) entered ∙ same.name) in
      subst (λ (n : Name). HasOpened n number q.seen) (sym name)
      (opened_adds p number e position q.seen (rest.1 is) (adds p t u q e position same goes place entered given_back) (closing_polls e.reply e.op (closes e.reply e.op) refl never)),
)
  where
    true_false : true ≡ false → ⊥
    true_false is = cc

-- ---- other words for it

-- whether there is an erase to close is no part of a call
pub called_as : (first : BankState) (op : Op) (given : List ℕ) (c d x y : CallerView) (answer : Answer) → x.number ≡ c.number → x.pass ≡ c.pass → y.number ≡ d.number → y.pass ≡ d.pass
    → Called first op given c d answer → Called first op given x y answer
called_as first op given c d x y answer cn cp dn dp called = record {
  entry = called.entry;
  is = subst (λ (n : ℕ). IsOf n op called.entry) (sym cn) called.is;
  reply = called.reply;
  awaited = called.awaited;
  bytes = called.bytes;
  adds = subst (λ (p : PassView BankState Entry). Adds p called.entry answer.position y.pass.seen) (sym cp)
      (subst (λ (q : PassView BankState Entry). Adds c.pass called.entry answer.position q.seen) (sym dp) called.adds);
  legal = subst (λ (q : PassView BankState Entry). IsLegal first q.seen) (sym dp) called.legal;
  number = dn ∙ (called.number ∙ sym cn);
  pass = subst (λ (p : PassView BankState Entry). WentOn 1 p y.pass) (sym cp) (subst (λ (q : PassView BankState Entry). WentOn 1 c.pass q) (sym dp) called.pass);
}

-- an erase that was opened was closed, and else made one entry
pub erases_by : (first : BankState) (op : Op) (c mid d : CallerView) (opening answer : Answer) → Called first op [] c mid opening
    → (is_opened opening.reply ≡ true → Called first Poll [] mid d answer) → (is_opened opening.reply ≡ false → (answer ≡ opening) × (d ≡ mid)) → Erases first op c d answer
erases_by first op c mid d opening answer called closed unopened = by_reply (is_opened opening.reply) refl
  where
    opened_reply : (r : Reply) → is_opened r ≡ true → r ≡ Opened
    opened_reply Opened is = refl
    opened_reply r is = absurd (let both : false ≡ true = is in cc)

    by_reply : (is : Bool) → is_opened opening.reply ≡ is → Erases first op c d answer
    by_reply true is = Closed opening mid (opened_reply opening.reply is) called (closed is)
    by_reply false is =
        let both = unopened is in
        Unopened (ap (λ (x : Answer). is_opened x.reply) both.0 ∙ is)
        (subst (λ (x : Answer). Called first op [] c d x) (sym both.0) (subst (λ (v : CallerView). Called first op [] c v opening) (sym both.1) called))
