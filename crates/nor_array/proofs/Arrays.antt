-- What holds of every plain array, and goes on to hold.
use Rattle.std.proofs.Common.{◌≡◌, ◌≤◌, ◌+◌, ℕ, List, [], ◌∷◌, ◌++◌, length, take, drop, refl, sym, subst, ap, arith, ◌∙◌, true, Option, Some, None}
use Rattle.std.specs.Prelude.{IsTrue}
use Rattle.std.proofs.lemmas.Bool.{eqb-true}
use Rattle.std.specs.Option.{ForSome}
use Rattle.std.proofs.Math.Seq.{take-append_seam}
use Rattle.nor_cell.specs.Bits.{AreBytes}
use Rattle.nor_cell.specs.Chip.{span_end, no_span, covered, blocks_end, AllBlocks as AllOfChip}
use Rattle.nor_cell.specs.Ranges.{follow_to}
use Rattle.nor_cell.specs.declared.device.Span.{Span}
use Rattle.nor_cell.proofs.Spans.{ends_between, blocks_end_is}
use Rattle.nor_array.specs.Array.{Constants, ArrayState, IsArray, lie_within, IsThere, chip_target, erase_span, open_span, put, range}
use Rattle.nor_array.specs.After.{all_and, programmed}
use Rattle.nor_array.proofs.Puts.{length-put, AreBytes-put, length-programming, AreBytes-all_and, AreBytes-range}
use Rattle.nor_array.specs.declared.state.OpenErase.{OpenErase}
use Rattle.nor_array.specs.declared.state.Target.{Target}
use Rattle.nor_array.specs.declared.state.Target.TheVariants.{OneBlock, AllBlocks}

-- blocks that follow each other to the end cover all
pub all_covered : (size : ℕ) (blocks : List Span) → follow_to size 0 blocks ≡ true → blocks_end blocks ≡ size
all_covered size [] follow = eqb-true 0 size follow
all_covered size (span ∷ blocks) follow = blocks_end_is size (span ∷ blocks) follow refl

pub all_of : (size : ℕ) (blocks seen : List Span) → IsTrue (follow_to size 0 blocks) → blocks ≡ seen → record { from = 0; len = size } ≡ covered AllOfChip seen
all_of size blocks seen follow same =
    let to : ℕ → Span = λ n. record { from = 0; len = n } in
    ap to (sym (all_covered size blocks follow) ∙ ap blocks_end same)

-- what is under erase lies in the bytes
target_inside : (target : Target) (size : ℕ) (blocks : List Span) → follow_to size 0 blocks ≡ true → IsThere target blocks → span_end (covered (chip_target target) blocks) ≤ size
target_inside (OneBlock b) size blocks follow there = (ends_between size 0 blocks b no_span follow there).1
target_inside AllBlocks size blocks follow there = let end = all_covered size blocks follow in omega arith

erase_inside : (under : Option OpenErase) (consts : Constants) (size : ℕ) → follow_to size 0 consts.blocks ≡ true
    → ForSome under (λ open_erase. IsThere open_erase.target consts.blocks) → span_end (erase_span under consts) ≤ size
erase_inside None consts size follow there = omega arith
erase_inside (Some open_erase) consts size follow there = target_inside open_erase.target size consts.blocks follow (there open_erase refl)

pub open_inside : (a : ArrayState) → IsArray a → span_end (open_span a) ≤ length a.bytes
open_inside a is = erase_inside a.under a.consts (length a.bytes) is.blocks is.under

-- the same of what is named
pub named_inside : (a seen : ArrayState) (open_erase : OpenErase) (span : Span) → IsArray a → a ≡ seen → a.under ≡ Some open_erase
    → span ≡ covered (chip_target open_erase.target) seen.consts.blocks → span_end span ≤ length seen.bytes
named_inside a seen open_erase span is same here of =
    let ends : span_end (covered (chip_target open_erase.target) a.consts.blocks) ≤ length a.bytes =
    target_inside open_erase.target (length a.bytes) a.consts.blocks is.blocks (is.under open_erase here) in
    let P : ArrayState → Type 0 = λ s. span_end (covered (chip_target open_erase.target) s.consts.blocks) ≤ length s.bytes in
    let Q : Span → Type 0 = λ s. span_end s ≤ length seen.bytes in
    subst Q (sym of) (subst P same ends)

-- other bytes, as many, make an array too
pub with_bytes : (a : ArrayState) (xs : List ℕ) → IsArray a → length xs ≡ length a.bytes → AreBytes xs → IsArray (record a { bytes = xs })
with_bytes a xs is same are = record {
  bytes = are;
  blocks = let P : ℕ → Type 0 = λ n. IsTrue (follow_to n 0 a.consts.blocks) in subst P (sym same) is.blocks;
  weak = let P : ℕ → Type 0 = λ n. IsTrue (lie_within n a.consts.weak) in subst P (sym same) is.weak;
  locked = is.locked;
  locks = is.locks;
  under = is.under;
}

-- so do they as a slice of them is written back
pub stored : (a : ArrayState) (n : ℕ) (old xs : List ℕ) → IsArray a → old ≡ a.bytes → length old ≡ n → length xs ≡ length old → AreBytes xs
    → IsArray (record a { bytes = take n (xs ++ drop (length xs) a.bytes) })
stored a n old xs is here whole same are =
    let n_is : n ≡ length xs = omega arith in
    let back : take n (xs ++ drop (length xs) a.bytes) ≡ xs = rw n_is (take-append_seam xs (drop (length xs) a.bytes)) in
    let P : List ℕ → Type 0 = λ ys. IsArray (record a { bytes = ys }) in
    subst P (sym back) (with_bytes a xs is (same ∙ ap length here) are)

-- bytes put in the place of as many
pub stored_put : (a : ArrayState) (n : ℕ) (old xs : List ℕ) (at : ℕ) (new : List ℕ) → IsArray a → old ≡ a.bytes → length old ≡ n
    → xs ≡ put old at new → at + length new ≤ length old → AreBytes new → IsArray (record a { bytes = take n (xs ++ drop (length xs) a.bytes) })
stored_put a n old xs at new is here whole made fits are =
    stored a n old xs is here whole (ap length made ∙ length-put old at new fits)
    (let P : List ℕ → Type 0 = AreBytes in subst P (sym made) (AreBytes-put old at new fits (subst P (sym here) is.bytes) are))

-- bytes that are programmed
pub stored_programmed : (a : ArrayState) (n : ℕ) (old xs : List ℕ) (at : ℕ) (new : List ℕ) → IsArray a → old ≡ a.bytes → length old ≡ n
    → xs ≡ programmed old at new → at + length new ≤ length old → IsArray (record a { bytes = take n (xs ++ drop (length xs) a.bytes) })
stored_programmed a n old xs at new is here whole made fits =
    let same = length-programming old at new fits in
    let P : List ℕ → Type 0 = AreBytes in
    stored_put a n old xs at (all_and (range old at (length new)) new) is here whole made (omega arith)
    (AreBytes-all_and (range old at (length new)) new (AreBytes-range old at (length new) (subst P (sym here) is.bytes)))
