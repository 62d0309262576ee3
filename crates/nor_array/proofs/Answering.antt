-- Every call has an answer that the array admits.
use Rattle.std.proofs.Common.{◌≡◌, ◌<◌, ◌≤◌, ◌+◌, ◌-◌, ℕ, zero, suc, List, [], ◌∷◌, length, replicate, refl, sym, subst, ap, arith, ◌∙◌, Bool, true, false, inl, inr, Option, Some, None}
use Rattle.std.specs.Prelude.{◌&&◌, nat_le, is_some}
use Rattle.std.specs.List.{list_any}
use Rattle.std.proofs.lemmas.Bool.{and_parts, and_from, or_cases, or_left, or_right, cases_Bool, cond-false, leb-true, ltb-true, lt-ltb, eqb-false}
use Rattle.std.proofs.lemmas.List.{length-replicate}
use Rattle.nor_cell.specs.Chip.{span_end}
use Rattle.nor_cell.specs.declared.device.Span.{Span}
use Rattle.nor_array.specs.Array.{ArrayState, range, meets, open_span, is_locked, lowest}
use Rattle.nor_array.specs.Needs.{needs_of}
use Rattle.nor_array.specs.Refusals.{refusal}
use Rattle.nor_array.specs.Admits.{Answers, Unrefused, AsksChips, EndsUnlocked, HasItsCaller, first_locked, would_change, span_changes, program_breaks, erase_breaks}
use Rattle.nor_array.specs.Laws.{Admitted}
use Rattle.nor_array.specs.declared.entry.Op.{Op}
use Rattle.nor_array.specs.declared.entry.Op.TheVariants.{Read, Program, EraseOpen, EraseAll, Poll, Lock, Unlock, IsLocked, Arm, PowerOn}
use Rattle.nor_array.specs.declared.entry.Reply.{Reply}
use Rattle.nor_array.specs.declared.entry.Reply.TheVariants.{Done, Opened, Erased, Bit, Locked, Failed}
use Rattle.nor_array.proofs.Edits.{all_old}
use Rattle.nor_array.proofs.Puts.{AreBytes-ones}

-- a span that passes one test passes the other
any_more : (p q : Span → Bool) (spans : List Span) → ((span : Span) → p span ≡ true → q span ≡ true) → list_any p spans ≡ true → list_any q spans ≡ true
any_more p q [] more some = some
any_more p q (span ∷ spans) more some = elim (or_cases (p span) (list_any p spans) some) [
  | inl here ↦ or_left (q span) (list_any q spans) (more span here)
  | inr later ↦ or_right (q span) (list_any q spans) (any_more p q spans more later)
]

-- no span passes
any_none : (p : Span → Bool) (spans : List Span) → ((span : Span) → p span ≡ false) → list_any p spans ≡ false
any_none p [] none = refl
any_none p (span ∷ spans) none = rw (none span) (any_none p spans none)

-- the lowest number that passes a test is one of those that were tried, and passes it
lowest_found : (test : ℕ → Bool) (k n : ℕ) → is_some (lowest test k n) ≡ true → (p : ℕ) × (k ≤ p) × (p < k + n) × (test p ≡ true)
lowest_found test k zero some = cc
lowest_found test k (suc n) some = elim (cases_Bool (test k)) [
  | inl passes ↦ (k, omega arith, omega arith, passes)
  | inr fails ↦
      let later : is_some (lowest test (k + 1) n) ≡ true = ap is_some (sym (cond-false (test k) (Some k) (lowest test (k + 1) n) fails)) ∙ some in
      let found = lowest_found test (k + 1) n later in
      (found.0, omega (arith, found.1), omega (arith, found.2), found.3)
]

-- a span that would change has a byte in the range
changes_in : (old : List ℕ) (at : ℕ) (new : List ℕ) (span : Span) → span_changes old at new span ≡ true
    → (p : ℕ) × (span.from ≤ p) × (p < span_end span) × (at ≤ p) × (p < at + length new)
changes_in old at new span changes =
    let found = lowest_found (would_change old at new) span.from span.len changes in
    let parts = and_parts _ _ found.3 in
    let inside = and_parts _ _ parts.0 in
    (found.0, found.1, found.2, leb-true at found.0 inside.0, ltb-true found.0 (at + length new) inside.1)

-- so the range meets it
changes_meet : (old : List ℕ) (at : ℕ) (new : List ℕ) (n : ℕ) → n ≡ length new → (span : Span) → span_changes old at new span ≡ true
    → (meets at n span && span_changes old at new span) ≡ true
changes_meet old at new n many span changes =
    let found = changes_in old at new span changes in
    let some : 0 < n = omega arith in
    let before_end : at < span_end span = omega arith in
    let begins : span.from < at + n = omega arith in
    and_from _ _ (and_from _ _ (and_from _ _ (lt-ltb 0 n some) (lt-ltb at (span_end span) before_end)) (lt-ltb span.from (at + n) begins)) changes

-- and it doesn't end before
changes_past : (old : List ℕ) (at : ℕ) (new : List ℕ) (span : Span) (ends changes : Bool) → nat_le (span_end span) at ≡ ends → span_changes old at new span ≡ changes
    → (ends && changes) ≡ false
changes_past old at new span false changes ends is = refl
changes_past old at new span true false ends is = refl
changes_past old at new span true true ends is =
    let found = changes_in old at new span is in
    let before = leb-true (span_end span) at ends in
    absurd (omega arith)

-- what a call of the chips may be told, and the bytes with it
record Told (a : ArrayState) (op : Op) : Type 0 where
  reply : Reply
  bytes : List ℕ
  asks : AsksChips reply op a bytes

-- the lowest locked block is this one
known : (a : ArrayState) (op : Op) (locked : Option ℕ) (reply : Reply) (bytes : List ℕ) → first_locked a op ≡ locked → EndsUnlocked locked op a reply bytes
    → EndsUnlocked (first_locked a op) op a reply bytes
known a op locked reply bytes is ends = (let P : Option ℕ → Type 0 = λ o. EndsUnlocked o op a reply bytes in subst P (sym is) ends)

program_told : (a : ArrayState) (at : ℕ) (new : List ℕ) (locked : Option ℕ) (breaks : Bool) → 0 < length new → first_locked a (Program at new) ≡ locked → program_breaks a at new ≡ breaks
    → Told a (Program at new)
program_told a at new (Some b) breaks some is breaks_is = record { reply = Locked b; bytes = []; asks = known a (Program at new) (Some b) (Locked b) [] is (refl, refl) }
program_told a at new None false some is breaks_is = record { reply = Done; bytes = []; asks = known a (Program at new) None Done [] is (breaks_is, refl) }
program_told a at new None true some is breaks_is =
    let n : at + length new - at ≡ length new = omega arith in
    let left : List ℕ = range a.bytes at (at + length new - at) in
    record {
      reply = Failed at (at + length new) 0;
      bytes = left;
      asks = known a (Program at new) None (Failed at (at + length new) 0) left is (
        breaks_is,
        record {
          begins = omega arith;
          some = omega arith;
          ends = omega arith;
          here = any_more (span_changes a.bytes at new) (λ span. meets at (at + length new - at) span && span_changes a.bytes at new span) a.consts.weak
              (changes_meet a.bytes at new (at + length new - at) n) breaks_is;
          not_before = any_none (λ span. nat_le (span_end span) at && span_changes a.bytes at new span) a.consts.weak
              (λ span. changes_past a.bytes at new span (nat_le (span_end span) at) (span_changes a.bytes at new span) refl refl);
          between = all_old (range a.bytes at (at + length new - at)) (range new (at - at) (at + length new - at));
        },
      );
    }

erase_told : (a : ArrayState) (b : ℕ) (locked : Option ℕ) → first_locked a (EraseOpen b) ≡ locked → Told a (EraseOpen b)
erase_told a b (Some c) is = record { reply = Locked c; bytes = []; asks = known a (EraseOpen b) (Some c) (Locked c) [] is (refl, refl) }
erase_told a b None is = record { reply = Opened; bytes = []; asks = known a (EraseOpen b) None Opened [] is (refl, refl) }

all_told : (a : ArrayState) (locked : Option ℕ) → first_locked a EraseAll ≡ locked → Told a EraseAll
all_told a (Some c) is = record { reply = Locked c; bytes = []; asks = known a EraseAll (Some c) (Locked c) [] is (refl, refl) }
all_told a None is = record { reply = Opened; bytes = []; asks = known a EraseAll None Opened [] is (refl, refl) }

poll_told : (a : ArrayState) (breaks : Bool) → erase_breaks a ≡ breaks → Told a Poll
poll_told a false is = record { reply = Erased; bytes = []; asks = (is, refl) }
poll_told a true is = record {
  reply = Failed (open_span a).from (span_end (open_span a)) 0;
  bytes = replicate (open_span a).len 0xFF;
  asks = (is, record { begins = refl; ends = refl; left = record { size = length-replicate {A = ℕ} (open_span a).len 0xFF; values = AreBytes-ones (open_span a).len } });
}

told : (a : ArrayState) (op : Op) → (needs_of op).idle ≡ false → Told a op
told a (Read at len) needs = record { reply = Done; bytes = range a.bytes at len; asks = (refl, refl) }
told a (Program at new) needs =
    let apart = eqb-false (length new) 0 needs in
    program_told a at new (first_locked a (Program at new)) (program_breaks a at new) (omega arith) refl refl
told a (EraseOpen b) needs = erase_told a b (first_locked a (EraseOpen b)) refl
told a EraseAll needs = all_told a (first_locked a EraseAll) refl
told a Poll needs = poll_told a (erase_breaks a) refl
told a (Lock b) needs = record { reply = Done; bytes = []; asks = (refl, refl) }
told a (Unlock b) needs = record { reply = Done; bytes = []; asks = (refl, refl) }
told a (IsLocked b) needs = record { reply = Bit (is_locked a b); bytes = []; asks = (refl, refl) }
told a (Arm cut mask) needs = absurd (let no : true ≡ false = needs in cc)
told a PowerOn needs = absurd (let no : true ≡ false = needs in cc)

-- an entry of the call, by what refuses it and whether it needs the chips
record Entered (a : ArrayState) (caller : ℕ) (op : Op) (refused : Option Reply) : Type 0 where
  reply : Reply
  bytes : List ℕ
  answers : Answers refused (record { caller = caller; op = op; reply = reply; bytes = bytes }) a

free_entry : (a : ArrayState) (caller : ℕ) (op : Op) (needs_none : Bool) → (needs_of op).idle ≡ needs_none → Entered a caller op None
free_entry a caller op true is = record {
  reply = Done;
  bytes = [];
  answers = let P : Bool → Type 0 = λ b. Unrefused b (record { caller = caller; op = op; reply = Done; bytes = [] }) a in subst P (sym is) (refl, refl);
}
free_entry a caller op false is =
    let t = told a op is in
    record {
      reply = t.reply;
      bytes = t.bytes;
      answers = let P : Bool → Type 0 = λ b. Unrefused b (record { caller = caller; op = op; reply = t.reply; bytes = t.bytes }) a in subst P (sym is) t.asks;
    }

entered : (a : ArrayState) (caller : ℕ) (op : Op) (refused : Option Reply) → Entered a caller op refused
entered a caller op (Some reply) = record { reply = reply; bytes = []; answers = (refl, refl) }
entered a caller op None = free_entry a caller op (needs_of op).idle refl

pub some_answer : (a : ArrayState) (caller : ℕ) (op : Op) → HasItsCaller op caller → Admitted a caller op
some_answer a caller op has =
    let e = entered a caller op (refusal a caller op) in
    record { entry = record { caller = caller; op = op; reply = e.reply; bytes = e.bytes }; caller_is = refl; op_is = refl; admits = (has, e.answers) }
