-- A bus word of the range is read, and told whether it changes.
use Rattle.std.proofs.Common.{◌≡◌, ◌≢◌, ◌<◌, ◌+◌, ◌-◌, ◌*◌, ℕ, List, length, slice_index, refl, sym, ap, ◌∙◌, arith, bit_and, Some, None, is_some}
use Rattle.nor_cell.specs.Bits.{AreBytes}
use Rattle.nor_probe.specs.declared.probing.Found.{Found}
use Rattle.nor_array.specs.Array.{lowest}
use Rattle.nor_bus.specs.Bus.{BusState, bank_byte, units_of}
use Rattle.nor_bus.specs.Driven.{AllLanes, AnswersPart, EachPart, Went, reached}
use Rattle.nor_bank.specs.Pieces.{CanProgramAll, ReadsWord}
use Rattle.nor_bank.specs.Programs.{ProgramsPiece, changes_of, datum_at}
use Rattle.nor_bank.specs.Ranges.{MeetsWord, IsShowing}
use Rattle.nor_bank.specs.Runs.{limit_in}
use Rattle.nor_cell.specs.declared.geometry.Geometry.{Geometry}
use Rattle.nor_cell.proofs.Logic.{not_passed}
use Rattle.nor_bus.specs.Driven.{IsOwn}
use Rattle.nor_bank.proofs.Breaking.{still_byte}
use Rattle.nor_bank.proofs.OneWord.{OneRead, byte_small, new_byte, old_byte, one_passes, one_read, same_lasts, same_shown, weak_still}
use Rattle.nor_bank.proofs.Searching.{lowest_passes}

module _ (w : ℕ) (f : Found) (u at : ℕ) (new : List ℕ) (old now : BusState) (before padded word : List ℕ) (some : 0 < w) (small : AreBytes before) (went : Went 1 1 old now)
    (units : units_of now ≡ units_of old) (reads : EachPart before (AnswersPart (reached u old)) old now) (pads : (j : ℕ) → j < w → slice_index padded j ≡ datum_at at new (u * w + j))
    (anded : (k : ℕ) → slice_index word k ≡ bit_and (slice_index before k) (slice_index padded k)) (can : CanProgramAll w f at (length new) old) (meets : MeetsWord w u at (length new)) where
  one : OneRead w f.geometry.device u at new old now before padded word
  one = one_read w f.query.set f.geometry (limit_in f) u at new old now before padded word can.words meets some small went units reads pads anded

  -- a word that stays
  pub reads_none : word ≡ before → ReadsWord w f.geometry at new u None old now
  reads_none same =
      let device = f.geometry.device in
      let byte = bank_byte device old.lanes in
      record {
        same = one.read.same;
        tells = not_passed (is_some (lowest (changes_of f.geometry old at new) (u * w) w)) (λ passes.
            let is = lowest_passes (changes_of f.geometry old at new) (u * w) w passes in
            let a = is.place in
            let low = is.from in
            let high = is.before in
            let still : bit_and (byte a) (datum_at at new a) ≡ byte a =
            sym (new_byte w device u at a new old now before padded word one low high)
            ∙ (ap (λ (l : List ℕ). slice_index l (a - u * w)) same ∙ old_byte w device u at a new old now before padded word one low high) in
            let fails = still_byte byte at new a (byte_small w device old a can.words.own.bank can.words.chips) still in
            let both = is.passes in
            cc);
      }

  -- and one that changes
  pub reads_some : word ≢ before → length word ≡ w → length before ≡ w → ReadsWord w f.geometry at new u (Some word) old now
  reads_some apart long size =
      let device = f.geometry.device in
      record {
        same = one.read.same;
        tells = (
          λ j less.
              let back : u * w + j - u * w ≡ j = omega arith in
              sym (ap (λ (n : ℕ). slice_index word n) back) ∙ new_byte w device u at (u * w + j) new old now before padded word one (omega arith) (omega (arith, less)),
          one_passes w device u at new old now before padded word can.words.own.bank can.words.chips one long size apart,
        );
      }

-- no words make a piece that leaves all as it was
pub piece_none : (w : ℕ) (g : Geometry) (at u n : ℕ) (new : List ℕ) (bus : BusState) → n ≡ 0 → IsOwn w g bus → AllLanes IsShowing bus → ProgramsPiece g 0 at new (u * w) ((u + n) * w) bus bus
piece_none w g at u n new bus none own shows =
    let same : (u + n) * w ≡ u * w = ap (λ (k : ℕ). (u + k) * w) none ∙ (let h : (u + 0) * w ≡ u * w = omega arith in h) in
    record {
      lasts = same_lasts bus bus refl shows;
      shown = same_shown bus bus refl shows;
      done = λ a low high. absurd (omega (arith, same, low, high));
      below = λ a low. refl;
      above = λ a high. refl;
      named = λ units. weak_still w g (u + n) (u * w) at new bus own units (λ q low high. absurd (omega (arith, same, low, high)));
    }
