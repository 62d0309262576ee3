-- Whose erase is under way, by a front and by the bank.
use Rattle.std.proofs.Common.{◌≡◌, ◌∙◌, ◌++◌, ◌∷◌, ℕ, List, [], true, false, Option, Some, None, refl, sym, ap, subst, arith, All}
use Rattle.std.specs.Option.{option_map}
use Rattle.std.proofs.lemmas.List.{append_assoc}
use Rattle.std.proofs.lemmas.List.Elements.{All-nil, All-head, All-tail, All-append}
use Rattle.nor_array.specs.Entries.{is_halt}
use Rattle.nor_array.specs.declared.entry.Entry.{Entry}
use Rattle.nor_array.specs.declared.entry.Op.{Op}
use Rattle.nor_array.specs.declared.entry.Op.TheVariants.{EraseOpen, EraseAll, Poll}
use Rattle.nor_array.specs.declared.entry.Reply.{Reply}
use Rattle.nor_array.specs.declared.entry.Reply.TheVariants.{Opened, Erased, NotYet, Failed, Halted}
use Rattle.nor_bank.specs.Counts.{KeepsErase, IsNew, GoesOn as ErasesOn}
use Rattle.nor_bank.specs.State.{BankState}
use Rattle.nor_bank.specs.declared.kept.Erasing.{Erasing}
use Rattle.nor_turn.specs.Fronts.{Name, Front}
use Rattle.nor_driver.specs.Callers.{HasOpened}
use Rattle.nor_driver.specs.Fronts.{Opener, closes, opener_after, opener_of, ErasesOwn, AllEraseOwn, StandsFor, entries_of, opened, opens}

true_false : true ≡ false → ⊥
true_false is = cc

-- ---- one entry more

pub opener_last : (o : Option Opener) (front : Front Entry) (name : Name) (e : Entry)
    → opener_of o (front ++ (name, e) ∷ []) ≡ opener_after (opener_of o front) name e.caller e.reply e.op
opener_last o [] name e = refl
opener_last o (p ∷ front) name e = opener_last (opener_after o p.0 p.1.caller p.1.reply p.1.op) front name e

pub own_last : (o : Option Opener) (front : Front Entry) (name : Name) (e : Entry) → AllEraseOwn o front → ErasesOwn (opener_of o front) name e.reply e.op
    → AllEraseOwn o (front ++ (name, e) ∷ [])
own_last o [] name e all one = (one, tt)
own_last o (p ∷ front) name e all one = (all.0, own_last (opener_after o p.0 p.1.caller p.1.reply p.1.op) front name e all.1 one)

-- ---- a part of a front

opener_parts : (o : Option Opener) (before rest : Front Entry) → opener_of o (before ++ rest) ≡ opener_of (opener_of o before) rest
opener_parts o [] rest = refl
opener_parts o (p ∷ before) rest = opener_parts (opener_after o p.0 p.1.caller p.1.reply p.1.op) before rest

own_part : (o : Option Opener) (before rest : Front Entry) → AllEraseOwn o (before ++ rest) → AllEraseOwn (opener_of o before) rest
own_part o [] rest all = all
own_part o (p ∷ before) rest all = own_part (opener_after o p.0 p.1.caller p.1.reply p.1.op) before rest all.1

all_part : {X : Type 0} (P : X → Type 0) (before rest : List X) → All P (before ++ rest) → All P rest
all_part P [] rest all = all
all_part P (x ∷ before) rest all = all_part P before rest (All-tail P x (before ++ rest) all)

-- ---- an erase that was opened stays so

abbrev Runs : Name × Entry → Type 0
Runs pair = is_halt pair.1.reply ≡ false

abbrev Leaves : Name → Name × Entry → Type 0
Leaves name pair = pair.0 ≡ name → closes pair.1.reply pair.1.op ≡ false

stays_one : (me : Opener) (name : Name) (caller : ℕ) (r : Reply) (op : Op) → ErasesOwn (Some me) name r op → is_halt r ≡ false → (name ≡ me.name → closes r op ≡ false)
    → opener_after (Some me) name caller r op ≡ Some me
stays_one me name caller Opened op own runs leaves = absurd (let is : Some me ≡ None = own in cc)
stays_one me name caller Erased Poll own runs leaves = absurd (true_false (leaves (sym own)))
stays_one me name caller (Failed from to lanes) Poll own runs leaves = absurd (true_false (leaves (sym own)))
stays_one me name caller (Halted cause) op own runs leaves = absurd (true_false runs)
stays_one me name caller r op own runs leaves = refl

stays_open : (me : Opener) (later : Front Entry) → AllEraseOwn (Some me) later → All Runs later → All (Leaves me.name) later → opener_of (Some me) later ≡ Some me
stays_open me [] own runs leaves = refl
stays_open me (p ∷ later) own runs leaves =
    let same : opener_after (Some me) p.0 p.1.caller p.1.reply p.1.op ≡ Some me =
    stays_one me p.0 p.1.caller p.1.reply p.1.op own.0 (All-head Runs p later runs) (All-head (Leaves me.name) p later leaves) in
    ap (λ (o : Option Opener). opener_of o later) same
    ∙ stays_open me later (subst (λ (o : Option Opener). AllEraseOwn o later) same own.1) (All-tail Runs p later runs) (All-tail (Leaves me.name) p later leaves)

-- who opened an erase, and didn't close it, has it under way while nothing halts
pub opener_is : (name : Name) (number : ℕ) (front : Front Entry) → HasOpened name number front → AllEraseOwn None front → All (λ pair. is_halt pair.1.reply ≡ false) front
    → opener_of None front ≡ Some (record { name = name; caller = number })
opener_is name number front has own runs =
    ap (opener_of None) has.whole ∙ (opener_parts None has.before ((name, e) ∷ has.later)
    ∙ (ap (λ (o : Option Opener). opener_of o has.later) first ∙ (stays_open me has.later there
    (All-tail Runs (name, e) has.later (all_part Runs has.before ((name, e) ∷ has.later) (subst (All Runs) has.whole runs))) has.unclosed
    ∙ ap (λ (n : ℕ). Some (record { name = name; caller = n })) has.by)))
  where
    e : Entry
    e = has.entry

    me : Opener
    me = record { name = name; caller = e.caller }

    before : Option Opener
    before = opener_of None has.before

    first : opener_after before name e.caller e.reply e.op ≡ Some me
    first = ap (λ (r : Reply). opener_after before name e.caller r e.op) has.opened

    there : AllEraseOwn (Some me) has.later
    there = subst (λ (o : Option Opener). AllEraseOwn o has.later) first (own_part None has.before ((name, e) ∷ has.later) (subst (AllEraseOwn None) has.whole own)).1

-- the front goes on by entries that don't close it
pub opened_on : (name : Name) (number : ℕ) (front more : Front Entry) → HasOpened name number front → All (λ pair. pair.0 ≡ name → closes pair.1.reply pair.1.op ≡ false) more
    → HasOpened name number (front ++ more)
opened_on name number front more has leaves = record {
  before = has.before;
  entry = has.entry;
  later = has.later ++ more;
  whole = ap (λ (f : Front Entry). f ++ more) has.whole ∙ append_assoc has.before ((name, has.entry) ∷ has.later) more;
  opened = has.opened;
  by = has.by;
  unclosed = All-append (Leaves name) has.later more has.unclosed leaves;
}

-- an entry that opens one
pub opened_now : (name : Name) (number : ℕ) (front : Front Entry) (e : Entry) → e.reply ≡ Opened → e.caller ≡ number → HasOpened name number (front ++ (name, e) ∷ [])
opened_now name number front e is by = record { before = front; entry = e; later = []; whole = refl; opened = is; by = by; unclosed = All-nil (Leaves name) }

-- ---- what a bank keeps of it

abbrev pub number_of : Option Opener → Option ℕ
number_of o = option_map (λ (x : Opener). x.caller) o

abbrev pub keeper_of : Option Erasing → Option ℕ
keeper_of e = option_map (λ (x : Erasing). x.caller) e

is_new : (caller : ℕ) (op : Op) (new : Option Erasing) → IsNew caller op new → Some caller ≡ keeper_of new
is_new caller op None is = absurd is
is_new caller (EraseOpen b) (Some now) is = ap (λ (n : ℕ). Some n) (sym is.1)
is_new caller EraseAll (Some now) is = ap (λ (n : ℕ). Some n) (sym is.1)
is_new caller op (Some now) is = absurd is

same_keeper : (polls : ℕ) (old new : Option Erasing) → ErasesOn polls old new → keeper_of old ≡ keeper_of new
same_keeper polls None new is = sym (ap keeper_of is)
same_keeper polls (Some e) None is = absurd is
same_keeper polls (Some e) (Some now) is = ap (λ (n : ℕ). Some n) (sym is.1)

pub keeper_after : (o : Option Opener) (old new : Option Erasing) (name : Name) (caller : ℕ) (r : Reply) (op : Op) → number_of o ≡ keeper_of old → KeepsErase caller op r old new
    → number_of (opener_after o name caller r op) ≡ keeper_of new
keeper_after o old new name caller Opened op same keeps = is_new caller op new keeps
keeper_after o old new name caller NotYet Poll same keeps = same ∙ same_keeper 1 old new keeps
keeper_after o old new name caller Erased Poll same keeps = sym (ap keeper_of keeps)
keeper_after o old new name caller (Failed from to lanes) Poll same keeps = sym (ap keeper_of keeps)
keeper_after o old new name caller (Halted cause) op same keeps = sym (ap keeper_of keeps)
keeper_after o old new name caller r op same keeps = same ∙ same_keeper 0 old new keeps

-- ---- no erase was opened

after_none : (name : Name) (caller : ℕ) (r : Reply) (op : Op) → opens r ≡ 0 → opener_after None name caller r op ≡ None
after_none name caller Opened op none = absurd (omega (arith, none))
after_none name caller Erased Poll none = refl
after_none name caller (Failed from to lanes) Poll none = refl
after_none name caller (Halted cause) op none = refl
after_none name caller r op none = refl

no_opener : (front : Front Entry) → opened (entries_of front) ≡ 0 → opener_of None front ≡ None
no_opener [] none = refl
no_opener (p ∷ front) none =
    let first : opens p.1.reply ≡ 0 = omega (arith, none) in
    let later : opened (entries_of front) ≡ 0 = omega (arith, none) in
    ap (λ (o : Option Opener). opener_of o front) (after_none p.0 p.1.caller p.1.reply p.1.op first) ∙ no_opener front later

pub no_keeper : (e : Option Erasing) → None ≡ keeper_of e → e ≡ None
no_keeper None is = refl
no_keeper (Some e) is = absurd (cc)

pub no_number : (o : Option Opener) → number_of o ≡ None → o ≡ None
no_number None is = refl
no_number (Some o) is = absurd (cc)

-- nothing is under erase where no erase was opened
pub none_under : (first now : BankState) (front : Front Entry) → StandsFor first front now → opened (entries_of front) ≡ 0 → now.erase ≡ None
none_under first now front so none = no_keeper now.erase (sym (ap number_of (no_opener front none)) ∙ so.erase.opener)
