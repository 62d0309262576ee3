-- A front with one entry more, and with no more.
use Rattle.std.proofs.Common.{◌≡◌, ◌<◌, ◌≤◌, ◌+◌, ◌∙◌, ◌++◌, ◌∷◌, ℕ, List, [], true, false, Some, None, refl, sym, ap, subst, arith, rules}
use Rattle.std.specs.Prelude.{All}
use Rattle.std.proofs.lemmas.List.Elements.{All-nil, All-push}
use Rattle.nor_bus.specs.Bus.{lanes_of, more}
use Rattle.nor_bus.specs.Cycles.{KeepsLanes}
use Rattle.nor_bus.proofs.Driving.{keeps_then}
use Rattle.nor_array.specs.Array.{ArrayState}
use Rattle.nor_array.specs.After.{after, after_all}
use Rattle.nor_array.specs.Entries.{is_halt}
use Rattle.nor_array.specs.Legal.{Facts, Agrees, Legal}
use Rattle.nor_array.specs.declared.entry.Entry.{Entry}
use Rattle.nor_array.proofs.Histories.{after_last, legal_more}
use Rattle.nor_bank.specs.Calls.{facts_of}
use Rattle.nor_bank.specs.State.{BankState, word_bytes}
use Rattle.nor_turn.specs.Fronts.{Name, Front}
use Rattle.nor_bank.specs.Stands.{Stands}
use Rattle.nor_bank.proofs.Keeping.{keeps_self}
use Rattle.nor_bank.proofs.Lasting.{facts_last}
use Rattle.nor_history.proofs.Histories.{words_then}
use Rattle.nor_driver.specs.Fronts.{StandsFrom, StandsFor, entries_of, is_call, opens, loses, words_of, opened, lost, words_read, risen, cycles_left}
use Rattle.nor_driver.proofs.Afters.{same_armed}
use Rattle.nor_driver.proofs.Calls.{GoesOn, Rests}
use Rattle.nor_driver.proofs.Cuts.{left_within}
use Rattle.nor_driver.proofs.Owning.{keeper_of}
use Rattle.nor_history.proofs.Histories.{risen_then}

-- ---- lists

pub entries_last : (front : Front Entry) (name : Name) (e : Entry) → entries_of (front ++ (name, e) ∷ []) ≡ entries_of front ++ e ∷ []
entries_last [] name e = refl
entries_last (p ∷ front) name e = ap (λ (es : List Entry). p.1 ∷ es) (entries_last front name e)

opened_last : (es : List Entry) (e : Entry) → opened (es ++ e ∷ []) ≡ opened es + opens e.reply
opened_last [] e = omega arith
opened_last (x ∷ es) e = let h = opened_last es e in omega arith

lost_last : (es : List Entry) (e : Entry) → lost (es ++ e ∷ []) ≡ lost es + loses e.reply
lost_last [] e = omega arith
lost_last (x ∷ es) e = let h = lost_last es e in omega arith

words_last : (w : ℕ) (es : List Entry) (e : Entry) → words_read w (es ++ e ∷ []) ≡ words_read w es + words_of w e.reply e.op
words_last w es e = let h = words_then w es (e ∷ []) in omega (arith, h)

all_last : (P : Entry → Type 0) (es : List Entry) (e : Entry) → All P es → P e → All P (es ++ e ∷ [])
all_last P es e all one = All-push P es e all one

-- ---- what no call changes

same_facts : (old new : BankState) → new.found ≡ old.found → KeepsLanes old.bus new.bus → facts_of new ≡ facts_of old
same_facts old new found lanes = facts_last old new found lanes.count (λ c below. (lanes.each c below).part)

-- ---- no entry yet

pub stands_first : (b : BankState) → b.erase ≡ None → StandsFor b [] b
stands_first b closed = record {
  keeps = keeps_self b;
  erase = record { own = tt; opener = sym (ap keeper_of closed); running = λ run. All-nil (λ (pair : Name × Entry). is_halt pair.1.reply ≡ false) };
  each = λ a stands. record {
    stands = stands;
    legal = tt;
    calls = search rules;
    found = refl;
    lanes = record { count = refl; each = λ c below. record { part = refl; size = refl; locks = refl; bytes = λ small. small } };
    erases = λ c below. refl;
    suspends = λ none c below. refl;
    failed = omega arith;
    reads = λ cut armed. let left = left_within b a cut stands armed in omega (arith, left);
  };
}

-- ---- one entry more

pub stands_more : (first now next : BankState) (a : ArrayState) (front : Front Entry) (name : Name) (e : Entry)
    → StandsFrom first a front now → (opened (entries_of front) ≡ 0 → now.erase ≡ None) → GoesOn now next e (after_all a (entries_of front)) → StandsFrom first a (front ++ (name, e) ∷ []) next
stands_more first now next a front name e so under goes =
    let es : List Entry = entries_of front in
    let whole : entries_of (front ++ (name, e) ∷ []) ≡ es ++ e ∷ [] = entries_last front name e in
    let then : after_all a (entries_of (front ++ (name, e) ∷ [])) ≡ after (after_all a es) e = ap (after_all a) whole ∙ after_last a es e in
    let agrees : Agrees (facts_of first) (after_all a es) e = subst (λ (f : Facts). Agrees f (after_all a es) e) (same_facts first now so.found so.lanes) goes.agrees in
    record {
      stands = subst (Stands next) (sym then) goes.stands;
      legal = subst (Legal (facts_of first) a) (sym whole) (legal_more (facts_of first) a es e so.legal goes.admitted agrees);
      calls = subst (All (λ (x : Entry). is_call x.op ≡ true)) (sym whole) (all_last (λ (x : Entry). is_call x.op ≡ true) es e so.calls goes.call);
      found = goes.found ∙ so.found;
      lanes = keeps_then first.bus now.bus next.bus so.lanes goes.lanes;
      erases = λ c below.
          let there : c < lanes_of now.bus = subst (λ (n : ℕ). c < n) (sym so.lanes.count) below in
          let mid = so.erases c below in
          let last = goes.erases c there in
          last ∙ (ap (λ (n : ℕ). risen n (opens e.reply)) mid ∙ (risen_then _ (opened es) (opens e.reply) ∙ ap (risen _) (sym (ap opened whole ∙ opened_last es e))));
      suspends = λ none c below.
          let earlier : opened es ≡ 0 = none_earlier (opened (entries_of (front ++ (name, e) ∷ []))) (opened es) (opens e.reply) (ap opened whole ∙ opened_last es e) none in
          goes.suspends (under earlier) c (subst (λ (n : ℕ). c < n) (sym so.lanes.count) below) ∙ so.suspends earlier c below;
      failed = failed_more (lost (entries_of (front ++ (name, e) ∷ []))) (lost es) (loses e.reply) first.bus.failed now.bus.failed next.bus.failed (ap lost whole ∙ lost_last es e) so.failed goes.failed;
      reads = λ cut is.
          let before : (after_all a es).armed ≡ Some cut = sym (ap (λ (x : ArrayState). x.armed) then ∙ same_armed (after_all a es) e goes.call) ∙ is in
          let words : words_read (word_bytes first.found) (entries_of (front ++ (name, e) ∷ [])) ≡ words_read (word_bytes first.found) es + words_of (word_bytes first.found) e.reply e.op = ap (words_read (word_bytes first.found)) whole ∙ words_last (word_bytes first.found) es e in
          let left = goes.reads cut before in
          let w : word_bytes now.found ≡ word_bytes first.found = ap word_bytes so.found in
          reads_more _ _ (words_of (word_bytes first.found) e.reply e.op) _ (cycles_left (after (after_all a es) e).power next.bus.armed) cut.after
          words (so.reads cut before) (subst (λ (n : ℕ). words_of n e.reply e.op + cycles_left (after (after_all a es) e).power next.bus.armed ≤ cycles_left (after_all a es).power now.bus.armed) w left)
          (ap (λ (x : ArrayState). cycles_left x.power next.bus.armed) then);
    }
  where
    none_earlier : (all n k : ℕ) → all ≡ n + k → all ≡ 0 → n ≡ 0
    none_earlier all n k is none = omega (arith, is, none)

    failed_more : (n k j f g h : ℕ) → n ≡ k + j → more k f ≤ g → more j g ≤ h → more n f ≤ h
    failed_more n k j f g h is one two = omega (arith, is, one, two)

    reads_more : (all before one y z cut : ℕ) {t : ℕ} → all ≡ before + one → before + y ≤ cut → one + z ≤ y → t ≡ z → all + t ≤ cut
    reads_more all before one y z cut is first then same = omega (arith, is, first, then, same)

-- ---- no entry

-- what is waited out leaves a bank that stands for the same front
pub stands_still : (first now next : BankState) (a : ArrayState) (front : Front Entry)
    → StandsFrom first a front now → (opened (entries_of front) ≡ 0 → now.erase ≡ None) → Rests now next (after_all a (entries_of front)) → StandsFrom first a front next
stands_still first now next a front so under rests = record {
  stands = rests.stands;
  legal = so.legal;
  calls = so.calls;
  found = rests.found ∙ so.found;
  lanes = keeps_then first.bus now.bus next.bus so.lanes rests.lanes;
  erases = λ c below. rests.erases c (subst (λ (n : ℕ). c < n) (sym so.lanes.count) below) ∙ so.erases c below;
  suspends = λ none c below. rests.suspends (under none) c (subst (λ (n : ℕ). c < n) (sym so.lanes.count) below) ∙ so.suspends none c below;
  failed = no_fewer (lost (entries_of front)) first.bus.failed now.bus.failed next.bus.failed so.failed rests.failed;
  reads = λ cut is. let before = so.reads cut is in let left = rests.reads in omega (arith, before, left);
}
  where
    no_fewer : (n f g h : ℕ) → more n f ≤ g → more 0 g ≤ h → more n f ≤ h
    no_fewer n f g h one two = omega (arith, one, two)
