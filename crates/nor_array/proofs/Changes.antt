-- What each reply changes of an array, and what it leaves.
use Rattle.std.proofs.Common.{◌≡◌, ◌<◌, ◌≤◌, ◌+◌, ◌-◌, ℕ, List, length, take, drop, replicate, refl, sym, subst, ap, arith, ◌∙◌, Bool, true, false, Option, Some, None}
use Rattle.std.specs.Prelude.{◌==◌, ◌&&◌, ◌||◌, nat_le, nat_lt, not, if◌then◌else◌, slice_index_or, IsTrue}
use Rattle.std.specs.Option.{ForSome}
use Rattle.std.proofs.lemmas.Bool.{and_from, or_left, le-leb, lt-ltb, leb-false, ltb-false, eqb-false, or_right}
use Rattle.std.proofs.lemmas.Option.{none-some, same_Some}
use Rattle.std.proofs.lemmas.List.{length-set, length-replicate, get_or-set_other, length-take-le}
use Rattle.nor_cell.specs.Chip.{is_within, span_end}
use Rattle.nor_cell.specs.Ranges.{follow_to}
use Rattle.nor_array.specs.Array.{ArrayState, IsArray, IsThere, Constants, lie_within, open_span, put, range, is_locked, is_on}
use Rattle.nor_array.specs.After.{after, after_reply, after_done, after_opened, after_erased, after_failed, after_halted, left_by, names_locked, with_lock, closed, programmed, all_and}
use Rattle.nor_array.specs.Needs.{needs_of}
use Rattle.nor_array.specs.declared.state.OpenErase.{OpenErase}
use Rattle.nor_array.specs.declared.state.Target.TheVariants.{OneBlock, AllBlocks}
use Rattle.nor_array.specs.Refusals.{is_outside}
use Rattle.nor_array.specs.Admits.{Admits, AreUncertain, AllBetween, ProgramLeaves, HaltLeaves, FailsWithin, first_locked}
use Rattle.nor_array.specs.Laws.{KeepsTheRest, may_change, may_relock, is_of_lock, programs_at, names_under, names_power, names_armed}
use Rattle.nor_array.specs.declared.state.Power.{Power}
use Rattle.nor_array.specs.declared.state.Power.TheVariants.{On, Off, Stuck}
use Rattle.nor_array.specs.declared.entry.Op.{Op}
use Rattle.nor_array.specs.declared.entry.Op.TheVariants.{Program, EraseOpen, EraseAll, Poll, Lock, Unlock, Arm, PowerOn}
use Rattle.nor_array.specs.declared.entry.Reply.{Reply}
use Rattle.nor_array.specs.declared.entry.Reply.TheVariants.{Done, Opened, Erased, Failed, Halted as HaltedReply}
use Rattle.nor_array.specs.declared.entry.Halted.{Halted}
use Rattle.nor_array.specs.declared.entry.Entry.{Entry}
use Rattle.nor_array.proofs.Arrays.{open_inside}
use Rattle.nor_array.proofs.Puts.{put_above, length-programming, AreBytes-ones}
use Rattle.nor_array.proofs.Edits.{Edits, no_edit, put_edit, program_edit, between_edit, edit_named, all_old}
use Rattle.nor_array.proofs.Admitted.{admitted_inside, admitted_failed, admitted_halt, FailureFits}

pub record Changes (named erased relocked : ℕ → Bool) (a b : ArrayState) : Type 0 where
  pub consts : b.consts ≡ a.consts
  pub edits : Edits named erased a.bytes b.bytes
  pub lock_count : length b.locks ≡ length a.locks
  pub locks : (n : ℕ) → relocked n ≡ false → is_locked b n ≡ is_locked a n
  pub under : ForSome b.under (λ open_erase. IsThere open_erase.target a.consts.blocks)

-- an array that changes so is one again
pub changed_array : (named erased relocked : ℕ → Bool) (a b : ArrayState) → IsArray a → Changes named erased relocked a b → IsArray b
changed_array named erased relocked a b is changes = record {
  bytes = changes.edits.bytes;
  blocks =
      let P : ℕ → Constants → Type 0 = λ n consts. IsTrue (follow_to n 0 consts.blocks) in
      subst (P (length b.bytes)) (sym changes.consts) (let Q : ℕ → Type 0 = λ n. P n a.consts in subst Q (sym changes.edits.size) is.blocks);
  weak =
      let P : ℕ → Constants → Type 0 = λ n consts. IsTrue (lie_within n consts.weak) in
      subst (P (length b.bytes)) (sym changes.consts) (let Q : ℕ → Type 0 = λ n. P n a.consts in subst Q (sym changes.edits.size) is.weak);
  locked =
      let P : Constants → Type 0 = λ consts. length consts.locked ≡ length consts.blocks in
      subst P (sym changes.consts) is.locked;
  locks =
      let P : Constants → Type 0 = λ consts. length b.locks ≡ length consts.blocks in
      subst P (sym changes.consts) (changes.lock_count ∙ is.locks);
  under =
      let P : Constants → Type 0 = λ consts. ForSome b.under (λ open_erase. IsThere open_erase.target consts.blocks) in
      subst P (sym changes.consts) changes.under;
}

-- the erase under way, power and the armed cut stay where the reply doesn't name them
record MarksStay (reply : Reply) (op : Op) (a b : ArrayState) : Type 0 where
  under : names_under reply op a ≡ false → b.under ≡ a.under
  power : names_power reply op a ≡ false → b.power ≡ a.power
  armed : names_armed reply op ≡ false → b.armed ≡ a.armed

done_marks : (op : Op) (a : ArrayState) → MarksStay Done op a (after_done op a)
done_marks PowerOn a = record { under = λ not. absurd (let no : true ≡ false = not in cc); power = λ not. absurd (let no : true ≡ false = not in cc); armed = λ not. absurd (let no : true ≡ false = not in cc) }
done_marks (Arm cut mask) a = record { under = λ not. refl; power = λ not. refl; armed = λ not. absurd (let no : true ≡ false = not in cc) }
done_marks op a = record { under = λ not. refl; power = λ not. refl; armed = λ not. refl }

opened_marks : (op : Op) (caller : ℕ) (a : ArrayState) → MarksStay Opened op a (after_opened op caller a)
opened_marks (EraseOpen b) caller a = record { under = λ not. absurd (let no : true ≡ false = not in cc); power = λ not. refl; armed = λ not. refl }
opened_marks EraseAll caller a = record { under = λ not. absurd (let no : true ≡ false = not in cc); power = λ not. refl; armed = λ not. refl }
opened_marks op caller a = record { under = λ not. refl; power = λ not. refl; armed = λ not. refl }

erased_marks : (op : Op) (a : ArrayState) → MarksStay Erased op a (after_erased op a)
erased_marks Poll a = record { under = λ not. absurd (let no : true ≡ false = not in cc); power = λ not. refl; armed = λ not. refl }
erased_marks op a = record { under = λ not. refl; power = λ not. refl; armed = λ not. refl }

failed_marks : (op : Op) (from to lanes : ℕ) (bytes : List ℕ) (a : ArrayState) → MarksStay (Failed from to lanes) op a (after_failed op from bytes a)
failed_marks Poll from to lanes bytes a = record { under = λ not. absurd (let no : true ≡ false = not in cc); power = λ not. refl; armed = λ not. refl }
failed_marks op from to lanes bytes a = record { under = λ not. refl; power = λ not. refl; armed = λ not. refl }

-- what is left of a call's own work is bytes or a lock
record Beside (a b : ArrayState) : Type 0 where
  consts : b.consts ≡ a.consts
  under : b.under ≡ a.under
  armed : b.armed ≡ a.armed

left_beside : (op : Op) (left : List ℕ) (a : ArrayState) → Beside a (left_by op left a)
left_beside (Program at new) left a = record { consts = refl; under = refl; armed = refl }
left_beside (Lock b) left a = record { consts = refl; under = refl; armed = refl }
left_beside (Unlock b) left a = record { consts = refl; under = refl; armed = refl }
left_beside op left a = record { consts = refl; under = refl; armed = refl }

halted_marks : (power : Power) (cause : Halted) (op : Op) (bytes : List ℕ) (a : ArrayState) → a.power ≡ power → MarksStay (HaltedReply cause) op a (after_halted power cause op bytes a)
halted_marks On cause op bytes a on =
    let is : is_on a.power ≡ true = ap is_on on in
    let beside = left_beside op (drop (open_span a).len bytes) (closed (take (open_span a).len bytes) a) in
    record { under = λ not. absurd (let no : true ≡ false = sym is ∙ not in cc); power = λ not. absurd (let no : true ≡ false = sym is ∙ not in cc); armed = λ not. beside.armed }
halted_marks Off cause op bytes a on = record { under = λ not. refl; power = λ not. refl; armed = λ not. refl }
halted_marks (Stuck lane) cause op bytes a on = record { under = λ not. refl; power = λ not. refl; armed = λ not. refl }

marks_stay : (reply : Reply) (e : Entry) (a : ArrayState) → MarksStay reply e.op a (after_reply reply e a)
marks_stay Done e a = done_marks e.op a
marks_stay Opened e a = opened_marks e.op e.caller a
marks_stay Erased e a = erased_marks e.op a
marks_stay (Failed from to lanes) e a = failed_marks e.op from to lanes e.bytes a
marks_stay (HaltedReply cause) e a = halted_marks a.power cause e.op e.bytes a refl
marks_stay reply e a = record { under = λ not. refl; power = λ not. refl; armed = λ not. refl }

-- power-on leaves as many locks, and these as they are where they are kept
powered_count : (consts : Constants) (keeps : Bool) (locks : List Bool) → length locks ≡ length consts.blocks
    → length (if keeps then locks else replicate (length consts.blocks) consts.has_locks) ≡ length locks
powered_count consts true locks many = refl
powered_count consts false locks many = length-replicate (length consts.blocks) consts.has_locks ∙ sym many

powered_kept : (consts : Constants) (keeps : Bool) (locks : List Bool) (n : ℕ) → not keeps ≡ false
    → slice_index_or (if keeps then locks else replicate (length consts.blocks) consts.has_locks) n false ≡ slice_index_or locks n false
powered_kept consts true locks n kept = refl
powered_kept consts false locks n kept = absurd (let no : true ≡ false = kept in cc)

module _ (a : ArrayState) (is : IsArray a) where
  -- nothing changes
  pub stays : (named erased relocked : ℕ → Bool) → Changes named erased relocked a a
  stays named erased relocked = record { consts = refl; edits = no_edit named erased a.bytes is.bytes; lock_count = refl; locks = λ n not. refl; under = is.under }

  -- the range of a program, as a call names it
  in_range : (at len p : ℕ) → at ≤ p → p < at + len → (nat_le at p && nat_lt p (at + len)) ≡ true
  in_range at len p from high = and_from _ _ (le-leb at p from) (lt-ltb p (at + len) high)

  -- a lock that the call isn't of
  one_lock : (b n : ℕ) (locked : Bool) → (b == n) ≡ false → is_locked (with_lock b locked a) n ≡ is_locked a n
  one_lock b n locked not = get_or-set_other a.locks b n locked false (let apart = eqb-false b n not in λ same. apart (sym same))

  done_changes : (erased : ℕ → Bool) (op : Op) → is_outside a (needs_of op).reach ≡ false → Changes (may_change Done op a) erased (may_relock Done op a) a (after_done op a)
  done_changes erased (Program at new) inside = record {
    consts = refl;
    edits = program_edit (may_change Done (Program at new) a) erased a.bytes at new (ltb-false (length a.bytes) (at + length new) inside) is.bytes (in_range at (length new));
    lock_count = refl;
    locks = λ n not. refl;
    under = is.under;
  }
  done_changes erased (Lock b) inside = record {
    consts = refl;
    edits = no_edit (may_change Done (Lock b) a) erased a.bytes is.bytes;
    lock_count = length-set a.locks b true;
    locks = λ n not. one_lock b n true not;
    under = is.under;
  }
  done_changes erased (Unlock b) inside = record {
    consts = refl;
    edits = no_edit (may_change Done (Unlock b) a) erased a.bytes is.bytes;
    lock_count = length-set a.locks b false;
    locks = λ n not. one_lock b n false not;
    under = is.under;
  }
  done_changes erased PowerOn inside = record {
    consts = refl;
    edits = no_edit (may_change Done PowerOn a) erased a.bytes is.bytes;
    lock_count = powered_count a.consts a.consts.keeps a.locks is.locks;
    locks = λ n not. powered_kept a.consts a.consts.keeps a.locks n not;
    under = λ open_erase here. absurd (none-some open_erase here);
  }
  done_changes erased (Arm cut mask) inside = record { consts = refl; edits = no_edit (may_change Done (Arm cut mask) a) erased a.bytes is.bytes; lock_count = refl; locks = λ n not. refl; under = is.under }
  done_changes erased op inside = stays (may_change Done op a) erased (may_relock Done op a)

  opened_changes : (named erased relocked : ℕ → Bool) (op : Op) (caller : ℕ) → is_outside a (needs_of op).reach ≡ false → Changes named erased relocked a (after_opened op caller a)
  opened_changes named erased relocked (EraseOpen b) caller inside = record {
    consts = refl;
    edits = no_edit named erased a.bytes is.bytes;
    lock_count = refl;
    locks = λ n not. refl;
    under = λ open_erase here.
        let P : OpenErase → Type 0 = λ o. IsThere o.target a.consts.blocks in
        subst P (same_Some (record { target = OneBlock b; caller = caller }) open_erase here) (leb-false (length a.consts.blocks) b inside);
  }
  opened_changes named erased relocked EraseAll caller inside = record {
    consts = refl;
    edits = no_edit named erased a.bytes is.bytes;
    lock_count = refl;
    locks = λ n not. refl;
    under = λ open_erase here.
        let P : OpenErase → Type 0 = λ o. IsThere o.target a.consts.blocks in
        subst P (same_Some (record { target = AllBlocks; caller = caller }) open_erase here) tt;
  }
  opened_changes named erased relocked op caller inside = stays named erased relocked

  -- what is under erase gets bytes
  in_block : (p : ℕ) (bytes : List ℕ) → length bytes ≡ (open_span a).len → (open_span a).from ≤ p → p < (open_span a).from + length bytes → is_within (open_span a) p ≡ true
  in_block p bytes many from high =
      let low : p < span_end (open_span a) = omega arith in
      and_from _ _ (le-leb (open_span a).from p from) (lt-ltb p (span_end (open_span a)) low)

  block_edit : (named : ℕ → Bool) (bytes : List ℕ) → AreUncertain (open_span a).len bytes → ((p : ℕ) → is_within (open_span a) p ≡ true → named p ≡ true)
      → Edits named (is_within (open_span a)) a.bytes (put a.bytes (open_span a).from bytes)
  block_edit named bytes are names =
      let many = are.size in
      let ends = open_inside a is in
      put_edit named (is_within (open_span a)) a.bytes (open_span a).from bytes (omega arith) is.bytes are.values
      (λ p from high. names p (in_block p bytes many from high))
      (λ p from high not. absurd (let no : true ≡ false = sym (in_block p bytes many from high) ∙ not in cc))

  closed_changes : (named relocked : ℕ → Bool) (bytes : List ℕ) → AreUncertain (open_span a).len bytes → ((p : ℕ) → is_within (open_span a) p ≡ true → named p ≡ true)
      → Changes named (is_within (open_span a)) relocked a (closed bytes a)
  closed_changes named relocked bytes are names = record {
    consts = refl;
    edits = block_edit named bytes are names;
    lock_count = refl;
    locks = λ n not. refl;
    under = λ open_erase here. absurd (none-some open_erase here);
  }

  erased_changes : (relocked : ℕ → Bool) (op : Op) → Changes (may_change Erased op a) (is_within (open_span a)) relocked a (after_erased op a)
  erased_changes relocked Poll = closed_changes (may_change Erased Poll a) relocked (replicate (open_span a).len 0xFF)
      (record { size = length-replicate {A = ℕ} (open_span a).len 0xFF; values = AreBytes-ones (open_span a).len }) (λ p within. within)
  erased_changes relocked op = stays (may_change Erased op a) (is_within (open_span a)) relocked

  -- a program that fails
  torn_edit : (named erased : ℕ → Bool) (at : ℕ) (new : List ℕ) (from to : ℕ) (bytes : List ℕ) → at + length new ≤ length a.bytes → FailsWithin a at new from to bytes
      → ((p : ℕ) → at ≤ p → p < to → named p ≡ true) → Edits named erased a.bytes (put (programmed a.bytes at (take (from - at) new)) from bytes)
  torn_edit named erased at new from to bytes fits fails names =
      let begins = fails.begins in
      let some = fails.some in
      let ends = fails.ends in
      let front : length (take (from - at) new) ≡ from - at = length-take-le (from - at) new (omega arith) in
      let front_fits : at + length (take (from - at) new) ≤ length a.bytes = omega arith in
      let stored : List ℕ = all_and (range a.bytes at (length (take (from - at) new))) (take (from - at) new) in
      let many : length stored ≡ length (take (from - at) new) = length-programming a.bytes at (take (from - at) new) front_fits in
      let stored_fits : at + length stored ≤ length a.bytes = omega arith in
      between_edit named erased a.bytes (programmed a.bytes at (take (from - at) new)) from (to - from) (range new (from - at) (to - from)) bytes is.bytes
      (program_edit named erased a.bytes at (take (from - at) new) front_fits is.bytes (λ p low high. names p low (omega arith)))
      (omega arith) fails.between (λ p low high. names p (omega arith) (omega arith))
      (λ p low high not. put_above a.bytes at stored stored_fits p (omega arith))

  failed_changes : (relocked : ℕ → Bool) (op : Op) (from to lanes : ℕ) (bytes : List ℕ) → is_outside a (needs_of op).reach ≡ false → FailureFits op a from to bytes
      → Changes (may_change (Failed from to lanes) op a) (is_within (open_span a)) relocked a (after_failed op from bytes a)
  failed_changes relocked (Program at new) from to lanes bytes inside fails = record {
    consts = refl;
    edits = torn_edit (may_change (Failed from to lanes) (Program at new) a) (is_within (open_span a)) at new from to bytes (ltb-false (length a.bytes) (at + length new) inside) fails
        (λ p low high. and_from _ _ (in_range at (length new) p low (let ends = fails.ends in omega arith)) (lt-ltb p to high));
    lock_count = refl;
    locks = λ n not. refl;
    under = is.under;
  }
  failed_changes relocked Poll from to lanes bytes inside fails = closed_changes (may_change (Failed from to lanes) Poll a) relocked bytes fails.left (λ p within. within)
  failed_changes relocked op from to lanes bytes inside fails = stays (may_change (Failed from to lanes) op a) (is_within (open_span a)) relocked

  -- what a halt leaves
  abbrev halt_named : Op → ℕ → Bool
  halt_named op p = programs_at op p || is_within (open_span a) p

  leaves_between : (locked : Option ℕ) (old new bytes : List ℕ) → ProgramLeaves locked old new bytes → AllBetween old new bytes
  leaves_between None old new bytes leaves = leaves
  leaves_between (Some b) old new bytes leaves = let P : List ℕ → Type 0 = λ xs. AllBetween old new xs in subst P (sym leaves) (all_old old new)

  closes : (op : Op) (bytes : List ℕ) → AreUncertain (open_span a).len (take (open_span a).len bytes)
      → Edits (halt_named op) (is_within (open_span a)) a.bytes (closed (take (open_span a).len bytes) a).bytes
  closes op bytes are = block_edit (halt_named op) (take (open_span a).len bytes) are (λ p within. or_right (programs_at op p) (is_within (open_span a) p) within)

  halted_edit : (cause : Halted) (op : Op) (bytes : List ℕ) → is_outside a (needs_of op).reach ≡ false → HaltLeaves cause op a bytes
      → Edits (halt_named op) (is_within (open_span a)) a.bytes (left_by op (drop (open_span a).len bytes) (closed (take (open_span a).len bytes) a)).bytes
  halted_edit cause (Program at new) bytes inside leaves =
      let n = (open_span a).len in
      let within : ℕ → Bool = is_within (open_span a) in
      let narrow = block_edit within (take n bytes) leaves.0 (λ p here. here) in
      between_edit (halt_named (Program at new)) within a.bytes (put a.bytes (open_span a).from (take n bytes)) at (length new) new (drop n bytes) is.bytes
      (closes (Program at new) bytes leaves.0)
      (ltb-false (length a.bytes) (at + length new) inside)
      (leaves_between (first_locked a (Program at new)) (range a.bytes at (length new)) new (drop n bytes) leaves.1)
      (λ p from high. or_left (programs_at (Program at new) p) (within p) (in_range at (length new) p from high))
      (λ p from high not. narrow.kept p not)
  halted_edit cause (Lock b) bytes inside leaves = closes (Lock b) bytes leaves.0
  halted_edit cause (Unlock b) bytes inside leaves = closes (Unlock b) bytes leaves.0
  halted_edit cause op bytes inside leaves = closes op bytes leaves.0

  -- the locks that a halt leaves, of as many blocks, and those of other blocks as they are
  record LocksLeft (op : Op) (left : List ℕ) : Type 0 where
    count : length (left_by op left a).locks ≡ length a.locks
    others : (n : ℕ) → is_of_lock op n ≡ false → is_locked (left_by op left a) n ≡ is_locked a n

  locks_left : (op : Op) (left : List ℕ) → LocksLeft op left
  locks_left (Lock b) left = record { count = length-set a.locks b (names_locked left); others = λ n not. one_lock b n (names_locked left) not }
  locks_left (Unlock b) left = record { count = length-set a.locks b (names_locked left); others = λ n not. one_lock b n (names_locked left) not }
  locks_left op left = record { count = refl; others = λ n not. refl }

  -- what closes and what is left change different things
  closed_locks : (op : Op) (left bytes : List ℕ) → (left_by op left (closed bytes a)).locks ≡ (left_by op left a).locks
  closed_locks (Program at new) left bytes = refl
  closed_locks (Lock b) left bytes = refl
  closed_locks (Unlock b) left bytes = refl
  closed_locks op left bytes = refl

  -- power is on, so the places are those that the reply names
  on_named : (on named : Bool) → on ≡ true → (on && named) ≡ false → named ≡ false
  on_named true named is_on_now not = not
  on_named false named is_on_now not = absurd (let no : true ≡ false = sym is_on_now in cc)

  halted_changes : (power : Power) (cause : Halted) (op : Op) (bytes : List ℕ) → a.power ≡ power
      → (power ≡ On → HaltLeaves cause op a bytes × (is_outside a (needs_of op).reach ≡ false))
      → Changes (may_change (HaltedReply cause) op a) (is_within (open_span a)) (may_relock (HaltedReply cause) op a) a (after_halted power cause op bytes a)
  halted_changes On cause op bytes on facts =
      let left = drop (open_span a).len bytes in
      let block = take (open_span a).len bytes in
      let locks = locks_left op left in
      let same_locks = closed_locks op left block in
      let beside = left_beside op left (closed block a) in
      record {
        consts = beside.consts;
        edits = edit_named (halt_named op) (may_change (HaltedReply cause) op a) (is_within (open_span a)) a.bytes (left_by op left (closed block a)).bytes
            (λ p not. on_named (is_on a.power) (halt_named op p) (ap is_on on) not)
            (halted_edit cause op bytes (facts refl).1 (facts refl).0);
        lock_count = ap length same_locks ∙ locks.count;
        locks = λ n not. ap (λ (xs : List Bool). slice_index_or xs n false) same_locks ∙ locks.others n (on_named (is_on a.power) (is_of_lock op n) (ap is_on on) not);
        under = λ open_erase here. absurd (none-some open_erase (sym beside.under ∙ here));
      }
  halted_changes Off cause op bytes on facts = stays (may_change (HaltedReply cause) op a) (is_within (open_span a)) (may_relock (HaltedReply cause) op a)
  halted_changes (Stuck lane) cause op bytes on facts = stays (may_change (HaltedReply cause) op a) (is_within (open_span a)) (may_relock (HaltedReply cause) op a)

  -- whatever the reply is
  reply_changes : (reply : Reply) (e : Entry) → e.reply ≡ reply → Admits a e → Changes (may_change reply e.op a) (is_within (open_span a)) (may_relock reply e.op a) a (after_reply reply e a)
  reply_changes Done e same admits = done_changes (is_within (open_span a)) e.op (admitted_inside a e admits (λ out. let no = out ∙ same in cc))
  reply_changes Opened e same admits = opened_changes (may_change Opened e.op a) (is_within (open_span a)) (may_relock Opened e.op a) e.op e.caller (admitted_inside a e admits (λ out. let no = out ∙ same in cc))
  reply_changes Erased e same admits = erased_changes (may_relock Erased e.op a) e.op
  reply_changes (Failed from to lanes) e same admits =
      failed_changes (may_relock (Failed from to lanes) e.op a) e.op from to lanes e.bytes (admitted_inside a e admits (λ out. let no = out ∙ same in cc)) (admitted_failed a e from to lanes admits same)
  reply_changes (HaltedReply cause) e same admits =
      halted_changes a.power cause e.op e.bytes refl (λ on. admitted_halt a e cause admits same on)
  reply_changes reply e same admits = stays (may_change reply e.op a) (is_within (open_span a)) (may_relock reply e.op a)

  pub entry_changes : (e : Entry) → Admits a e → Changes (may_change e.reply e.op a) (is_within (open_span a)) (may_relock e.reply e.op a) a (after a e)
  entry_changes e admits = reply_changes e.reply e refl admits

  pub after_is_array : (e : Entry) → Admits a e → IsArray (after a e)
  after_is_array e admits =
      changed_array (may_change e.reply e.op a) (is_within (open_span a)) (may_relock e.reply e.op a) a (after a e) is (entry_changes e admits)

  pub rest_stays : (e : Entry) → Admits a e → KeepsTheRest a e
  rest_stays e admits =
      let changes = entry_changes e admits in
      let marks = marks_stay e.reply e a in
      record {
        consts = changes.consts;
        size = changes.edits.size;
        bytes = changes.edits.kept;
        locks = changes.locks;
        under = marks.under;
        power = marks.power;
        armed = marks.armed;
      }
