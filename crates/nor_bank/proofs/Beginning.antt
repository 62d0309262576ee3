-- What is known of a call that nothing refuses.
use Rattle.std.proofs.Common.{◌≡◌, ◌<◌, ◌≤◌, ◌+◌, ℕ, zero, suc, List, ◌∷◌, length, refl, sym, ◌∙◌, ap, subst, arith, Bool, true, false, ◌==◌, Option, Some, None}
use Rattle.std.specs.Prelude.{if◌then◌else◌}
use Rattle.std.proofs.lemmas.Bool.{le-leb, and_from}
use Rattle.nor_cell.specs.Chip.{covered, blocks_end, block, block_at, is_within}
use Rattle.nor_cell.specs.declared.device.Span.{Span}
use Rattle.nor_cell.proofs.Logic.{not_passed, passes_below}
use Rattle.nor_region.proofs.Following.{found, within}
use Rattle.nor_array.specs.Array.{ArrayState, Constants, chip_target, meets}
use Rattle.nor_array.specs.Needs.{needs_of}
use Rattle.nor_array.specs.Refusals.{first_some, when, kept_halt, while_open, busy_or_occupied, first_busy, touched_open, touches, is_outside, is_too_long, is_power_on, has_nothing}
use Rattle.nor_array.specs.declared.needs.CallNeeds.{CallNeeds}
use Rattle.nor_array.specs.declared.needs.Reach.{Reach}
use Rattle.nor_array.specs.declared.needs.Reach.TheVariants.{Range, Block}
use Rattle.nor_array.specs.declared.entry.Halted.{Halted as HaltCause}
use Rattle.nor_array.specs.declared.entry.Halted.TheVariants.{Off, Stuck}
use Rattle.nor_array.specs.declared.entry.Op.{Op}
use Rattle.nor_array.specs.declared.entry.Op.TheVariants.{Read, Program, EraseOpen, EraseAll, Poll, Lock, Unlock, IsLocked, Arm, PowerOn}
use Rattle.nor_array.specs.declared.entry.Reply.{Reply}
use Rattle.nor_array.specs.declared.entry.Reply.TheVariants.{OutOfRange, TooLong, Nothing, Halted}
use Rattle.nor_array.specs.declared.state.OpenErase.{OpenErase}
use Rattle.nor_array.specs.declared.state.Target.{Target}
use Rattle.nor_array.specs.declared.state.Target.TheVariants.{OneBlock, AllBlocks}
use Rattle.nor_array.proofs.Arrays.{all_covered}
use Rattle.nor_bank.specs.Refused.{outline, kept_cut, Works, is_own}
use Rattle.nor_bank.specs.Stands.{Stands, kept_power, under_of, is_under}
use Rattle.nor_bank.specs.State.{BankState, size_of, blocks_of}
use Rattle.nor_bank.specs.Way.{IsOfBlock}
use Rattle.nor_bank.specs.Work.{refusal_of, reach_refusal}
use Rattle.nor_bank.specs.declared.kept.Erasing.{Erasing}
use Rattle.nor_bank.proofs.Blocks.{touching, none_passes}
use Rattle.nor_bank.proofs.Known.{blocks_follow}
use Rattle.nor_bank.proofs.Meeting.{open_block}
use Rattle.nor_bank.proofs.RefusalOrder.{touched_first}
pub use Rattle.nor_bank.proofs.Refusing.{LiesIn, lies_in}

-- ---- none of the refusals holds

pub none_first : (first : Option Reply) (later : List (Option Reply)) → first_some (first ∷ later) ≡ None → (first ≡ None) × (first_some later ≡ None)
none_first None later none = (refl, none)
none_first (Some r) later none = absurd (cc)

idle_own : (op : Op) → (needs_of op).idle ≡ false → is_own op ≡ false
idle_own (Arm cut mask) busy = absurd (cc)
idle_own PowerOn busy = absurd (cc)
idle_own (Read at len) busy = refl
idle_own (Program at new) busy = refl
idle_own (EraseOpen k) busy = refl
idle_own EraseAll busy = refl
idle_own Poll busy = refl
idle_own (Lock k) busy = refl
idle_own (Unlock k) busy = refl
idle_own (IsLocked k) busy = refl

idle_power : (op : Op) → (needs_of op).idle ≡ false → is_power_on op ≡ false
idle_power PowerOn busy = absurd (cc)
idle_power (Arm cut mask) busy = refl
idle_power (Read at len) busy = refl
idle_power (Program at new) busy = refl
idle_power (EraseOpen k) busy = refl
idle_power EraseAll busy = refl
idle_power Poll busy = refl
idle_power (Lock k) busy = refl
idle_power (Unlock k) busy = refl
idle_power (IsLocked k) busy = refl

not_kept : (halted : Option HaltCause) (op : Op) → is_power_on op ≡ false → kept_halt (kept_power halted) (kept_cut halted) op ≡ None → halted ≡ None
not_kept None op other none = refl
not_kept (Some (Off n)) op other none =
    absurd (let both : Some (Halted (Off n)) ≡ None = sym (ap (λ (p : Bool). if p then None else Some (Halted (Off n))) other) ∙ none in cc)
not_kept (Some (Stuck k)) op other none = absurd (cc)

-- A call that works touches what is there, no halt is kept, and what is under erase isn't in its way.
pub record MayWork (op : Op) (b : BankState) : Type 0 where
  pub there : refusal_of b op ≡ None
  pub running : b.halted ≡ None
  pub own : is_own op ≡ false
  pub beside : while_open (under_of b.erase) (outline b) (needs_of op) ≡ None

touches_there : (refusal : Option Reply) (b : BankState) (caller : ℕ) (op : Op) → refusal_of b op ≡ refusal → Works caller op b → refusal ≡ None
touches_there None b caller op is works = refl
touches_there (Some r) b caller op is works = absurd (let both : Some r ≡ None = sym (touched_first b caller op r is) ∙ works.unrefused in cc)

pub may_work : (caller : ℕ) (op : Op) (b : BankState) → Works caller op b → MayWork op b
may_work caller op b works =
    let o = outline b in
    let outside = none_first (when (is_outside o (needs_of op).reach) OutOfRange) _ works.unrefused in
    let long = none_first (when (is_too_long (needs_of op).reach) TooLong) _ outside.1 in
    let kept = none_first (kept_halt o.power o.armed op) _ long.1 in
    let nothing = none_first (when (has_nothing o caller op) Nothing) _ kept.1 in
    let open_erase = none_first (while_open o.under o (needs_of op)) _ nothing.1 in
    record {
      there = touches_there (refusal_of b op) b caller op refl works;
      running = not_kept b.halted op (idle_power op works.busy) kept.0;
      own = idle_own op works.busy;
      beside = open_erase.0;
    }

-- ---- what is under erase isn't touched

not_occupied : (busy : Option ℕ) (open_erase : OpenErase) (opens : Bool) → busy_or_occupied busy open_erase opens ≡ None → (busy ≡ None) × (opens ≡ false)
not_occupied (Some k) open_erase opens none = absurd (cc)
not_occupied None open_erase true none = absurd (cc)
not_occupied None open_erase false none = (refl, refl)

closed_by : (erase : Option Erasing) (o : ArrayState) (needs : CallNeeds) → while_open (under_of erase) o needs ≡ None → needs.opens ≡ true → erase ≡ None
closed_by None o needs none opens = refl
closed_by (Some e) o needs none opens =
    let is = not_occupied (first_busy (record { target = e.target; caller = e.caller }) o needs) (record { target = e.target; caller = e.caller }) needs.opens none in
    absurd (let both : true ≡ false = sym opens ∙ is.1 in cc)

-- An erase begins only where nothing is under erase.
pub closed_before : (caller : ℕ) (op : Op) (b : BankState) → Works caller op b → (needs_of op).opens ≡ true → b.erase ≡ None
closed_before caller op b works opens = closed_by b.erase (outline b) (needs_of op) (may_work caller op b works).beside opens

-- no block of the erase is touched
untouched : (caller : ℕ) (op : Op) (b : BankState) (e : Erasing) → Works caller op b → b.erase ≡ Some e → (needs_of op).chip_erase ≡ false
    → touched_open e.target (outline b) (needs_of op).reach ≡ None
untouched caller op b e works is no_chip =
    let oe : OpenErase = record { target = e.target; caller = e.caller } in
    let beside : while_open (Some oe) (outline b) (needs_of op) ≡ None = subst (λ (x : Option Erasing). while_open (under_of x) (outline b) (needs_of op) ≡ None) is (may_work caller op b works).beside in
    let free = not_occupied (first_busy oe (outline b) (needs_of op)) oe (needs_of op).opens beside in
    sym (ap (λ (chip : Bool). if chip then None else touched_open e.target (outline b) (needs_of op).reach) no_chip) ∙ free.0

not_if : (t : Bool) (k : ℕ) → (if t then Some k else None) ≡ None → t ≡ false
not_if true k none = absurd (cc)
not_if false k none = refl

module _ (b : BankState) (at len p : ℕ) (low : at ≤ p) (high : p < at + len) where
  met_where : (span : Span) → meets at len span ≡ false → is_within span p ≡ false
  met_where span apart = not_passed (is_within span p) (λ inside.
      let both : true ≡ false = sym (touching at len p span low high inside) ∙ apart in cc)

  apart_by : (target : Target) → at + len ≤ size_of b.found → touched_open target (outline b) (Range at len) ≡ None
      → is_within (covered (chip_target target) (blocks_of b.found)) p ≡ false
  apart_by (OneBlock k) fits none = met_where (block (blocks_of b.found) k) (not_if (touches (outline b) (Range at len) k) k none)
  apart_by AllBlocks fits none =
      let blocks = blocks_of b.found in
      let below : p < size_of b.found = omega (arith, high, fits) in
      let k = block_at blocks p in
      let there : k < length blocks = found blocks (size_of b.found) 0 p (blocks_follow b.found) below (omega arith) in
      let inside : is_within (block blocks k) p ≡ true = within blocks (size_of b.found) 0 p (blocks_follow b.found) below (omega arith) in
      let fails = none_passes (touches (outline b) (Range at len)) 0 (length blocks) k none (omega arith) (omega (arith, there)) in
      absurd (let both : true ≡ false = sym (touching at len p (block blocks k) low high inside) ∙ fails in cc)

-- So no byte of a range that is read or programmed is under erase.
pub range_beside : (caller : ℕ) (op : Op) (b : BankState) (a : ArrayState) (at len p : ℕ) → Works caller op b → Stands b a → (needs_of op).reach ≡ Range at len
    → (needs_of op).chip_erase ≡ false → at ≤ p → p < at + len → is_under a.under a.consts p ≡ false
range_beside caller op b a at len p works stands reach no_chip low high = by b.erase refl stands.under
  where
    inside : LiesIn (size_of b.found) at len
    inside = lies_in (size_of b.found) at len (sym (ap (λ (r : Reach). reach_refusal b.found r) reach) ∙ (may_work caller op b works).there)

    by : (erase : Option Erasing) → b.erase ≡ erase → a.under ≡ under_of erase → is_under a.under a.consts p ≡ false
    by None is under = ap (λ (u : Option OpenErase). is_under u a.consts p) under
    by (Some e) is under =
        ap (λ (u : Option OpenErase). is_under u a.consts p) under
        ∙ (ap (λ (k : Constants). is_within (covered (chip_target e.target) k.blocks) p) stands.consts
        ∙ apart_by b at len p low high e.target inside.within
        (ap (λ (r : Reach). touched_open e.target (outline b) r) (sym reach) ∙ untouched caller op b e works is no_chip))

pub some_range : (len : ℕ) → (len == 0) ≡ false → 0 < len
some_range zero busy = absurd (cc)
some_range (suc n) busy = omega arith

-- An erase of all blocks is in the way of every call that works, but a poll.
not_all : (caller : ℕ) (op : Op) (b : BankState) (e : Erasing) → Works caller op b → (op ≡ Poll → ⊥) → b.erase ≡ Some e → e.target ≡ AllBlocks → ⊥
not_all caller op b e works unpolled is all = go op refl
  where
    none_touched : (needs_of op).chip_erase ≡ false → touched_open AllBlocks (outline b) (needs_of op).reach ≡ None
    none_touched no_chip = ap (λ (t : Target). touched_open t (outline b) (needs_of op).reach) (sym all) ∙ untouched caller op b e works is no_chip

    range : (at len : ℕ) → (needs_of op).reach ≡ Range at len → (needs_of op).chip_erase ≡ false → 0 < len → ⊥
    range at len reach no_chip some =
        let inside = lies_in (size_of b.found) at len (sym (ap (λ (r : Reach). reach_refusal b.found r) reach) ∙ (may_work caller op b works).there) in
        let fits = inside.within in
        let out = apart_by b at len at (omega arith) (omega (arith, some)) AllBlocks inside.within
        (ap (λ (r : Reach). touched_open AllBlocks (outline b) r) (sym reach) ∙ none_touched no_chip) in
        let end = all_covered (size_of b.found) (blocks_of b.found) (blocks_follow b.found) in
        let inside_all : is_within (covered (chip_target AllBlocks) (blocks_of b.found)) at ≡ true = and_from _ _ (le-leb 0 at (omega arith)) (passes_below at (0 + blocks_end (blocks_of b.found)) (omega (arith, fits, some, end))) in
        let both : true ≡ false = sym inside_all ∙ out in cc

    one : (k : ℕ) → (needs_of op).reach ≡ Block k → (needs_of op).chip_erase ≡ false → ⊥
    one k reach no_chip =
        let there = sym (ap (λ (r : Reach). reach_refusal b.found r) reach) ∙ (may_work caller op b works).there in
        let hit = open_block (outline b) k there in
        let none = ap (λ (r : Reach). touched_open AllBlocks (outline b) r) (sym reach) ∙ none_touched no_chip in
        let both : Some k ≡ None = sym hit ∙ none in cc

    go : (o : Op) → op ≡ o → ⊥
    go (Read at len) same = range at len (ap (λ (x : Op). (needs_of x).reach) same) (ap (λ (x : Op). (needs_of x).chip_erase) same)
        (some_range len (sym (ap (λ (x : Op). (needs_of x).idle) same) ∙ works.busy))
    go (Program at new) same = range at (length new) (ap (λ (x : Op). (needs_of x).reach) same) (ap (λ (x : Op). (needs_of x).chip_erase) same)
        (some_range (length new) (sym (ap (λ (x : Op). (needs_of x).idle) same) ∙ works.busy))
    go (EraseOpen k) same = one k (ap (λ (x : Op). (needs_of x).reach) same) (ap (λ (x : Op). (needs_of x).chip_erase) same)
    go EraseAll same = let none = closed_before caller op b works (ap (λ (x : Op). (needs_of x).opens) same) in let both : Some e ≡ None = sym is ∙ none in cc
    go Poll same = unpolled same
    go (Lock k) same = one k (ap (λ (x : Op). (needs_of x).reach) same) (ap (λ (x : Op). (needs_of x).chip_erase) same)
    go (Unlock k) same = one k (ap (λ (x : Op). (needs_of x).reach) same) (ap (λ (x : Op). (needs_of x).chip_erase) same)
    go (IsLocked k) same = one k (ap (λ (x : Op). (needs_of x).reach) same) (ap (λ (x : Op). (needs_of x).chip_erase) same)
    go (Arm cut mask) same = let both : true ≡ false = sym (ap (λ (x : Op). (needs_of x).idle) same) ∙ works.busy in cc
    go PowerOn same = let both : true ≡ false = sym (ap (λ (x : Op). (needs_of x).idle) same) ∙ works.busy in cc

-- So the open erase is of one block.
pub of_block : (caller : ℕ) (op : Op) (b : BankState) → Works caller op b → (op ≡ Poll → ⊥) → IsOfBlock b.erase
of_block caller op b works unpolled = by b.erase refl
  where
    by : (erase : Option Erasing) → b.erase ≡ erase → IsOfBlock erase
    by None is = tt
    by (Some e) is = block_of_target e.target refl
      where
        block_of_target : (target : Target) → e.target ≡ target → (k : ℕ) × (e.target ≡ OneBlock k)
        block_of_target (OneBlock k) same = (k, same)
        block_of_target AllBlocks same = absurd (not_all caller op b e works unpolled is same)
