-- Places under erase, of a bank and of its chips.
use Rattle.std.proofs.Common.{◌≡◌, ◌<◌, ◌⊎◌, inl, inr, ℕ, List, length, slice_index, refl, sym, ◌∙◌, ap, subst, arith, Bool, true, false, Option, Some, None}
use Rattle.std.specs.Prelude.{◌&&◌, nat_le}
use Rattle.std.proofs.lemmas.Bool.Decides.{nat_tests}
use Rattle.nor_cell.specs.Bits.{unit_len}
use Rattle.nor_cell.specs.Chip.{ChipState, covered, is_within}
use Rattle.nor_cell.specs.Power.{is_erasing_at}
use Rattle.nor_cell.specs.Wiring.{bank_place, lane_at, place_at}
use Rattle.nor_cell.specs.declared.device.Device.{Device}
use Rattle.nor_cell.specs.declared.device.Span.{Span}
use Rattle.nor_cell.proofs.Logic.{some_bytes}
use Rattle.nor_lane.proofs.Places.{lane_at-bank_place, place_at-bank_place}
use Rattle.nor_bus.specs.Bus.{lane, lanes_of, chip_at, bank_byte}
use Rattle.nor_poll.specs.UnderErase.{part_of, state_at}
use Rattle.nor_array.specs.Array.{ArrayState, Constants, chip_target}
use Rattle.nor_array.specs.declared.state.OpenErase.{OpenErase}
use Rattle.nor_bank.specs.Stands.{Stands, EraseIs, is_under, under_of}
use Rattle.nor_bank.specs.State.{BankState, blocks_of}
use Rattle.nor_bank.specs.declared.kept.Erasing.{Erasing}
use Rattle.nor_bank.proofs.ClosingSpans.{open_place}
use Rattle.nor_bank.proofs.HoldingLanes.{none_erasing, erasing_within}
use Rattle.nor_bank.proofs.Known.{known_own, known_parts}
use Rattle.nor_bank.proofs.Standing.{is_on_now}

-- ---- tests of a place

-- a place that fails one of two tests
pub and_none : (x y : Bool) → (x ≡ false) ⊎ (y ≡ false) → (x && y) ≡ false
and_none true y (inl fails) = absurd (cc)
and_none true y (inr fails) = fails
and_none false y fails = refl

pub fails_above : (a b : ℕ) → b < a → nat_le a b ≡ false
fails_above a b less = grind (arith, nat_tests)

-- ---- places under erase

-- a byte of the bank, by the place of its chip
pub byte_of_place : (device : Device) (chips : List ChipState) (n c q : ℕ) → length chips ≡ n → c < n
    → bank_byte device chips (bank_place n (unit_len device) c q) ≡ slice_index (chip_at chips c).cells q
byte_of_place device chips n c q count below =
    let d = unit_len device in
    ap (λ (m : ℕ). slice_index (chip_at chips (lane_at m d (bank_place n d c q))).cells (place_at m d (bank_place n d c q))) count
    ∙ (ap (λ (k : ℕ). slice_index (chip_at chips k).cells (place_at n d (bank_place n d c q))) (lane_at-bank_place n d c q (some_bytes device) below)
    ∙ ap (λ (k : ℕ). slice_index (chip_at chips c).cells k) (place_at-bank_place n d c q (some_bytes device) below))

module _ (b : BankState) (a : ArrayState) (stands : Stands b a) where
  pub array_blocks : a.consts.blocks ≡ blocks_of b.found
  array_blocks = ap (λ (k : Constants). k.blocks) stands.consts

  pub lane_below : (c : ℕ) → c < lanes_of b.bus → c < b.found.geometry.lanes
  lane_below c below = subst (λ (m : ℕ). c < m) (known_own b.found b.bus stands.known).count below

  -- what is under erase is what the bank keeps of it
  pub under_kept : (e : Erasing) → b.erase ≡ Some e → (p : ℕ) → is_under a.under a.consts p ≡ is_within (covered (chip_target e.target) (blocks_of b.found)) p
  under_kept e is p =
      ap (λ (u : Option OpenErase). is_under u a.consts p) (stands.under ∙ ap under_of is)
      ∙ ap (λ (bs : List Span). is_within (covered (chip_target e.target) bs) p) array_blocks

  -- A place of a chip lies in it as its byte of the bank does.
  pub under_place : (e : Erasing) → b.erase ≡ Some e → (c q : ℕ) → c < lanes_of b.bus
      → is_under a.under a.consts (bank_place b.found.geometry.lanes (unit_len b.found.geometry.device) c q) ≡ is_within (part_of (chip_target e.target) (lane b.bus c)) q
  under_place e is c q below =
      under_kept e is (bank_place b.found.geometry.lanes (unit_len b.found.geometry.device) c q)
      ∙ open_place b.found (lane b.bus c) e.target (known_parts b.found b.bus stands.known c below) c q (lane_below c below)

  pub not_erasing_by : (erase : Option Erasing) → b.erase ≡ erase → EraseIs erase b.found b.bus → (c q : ℕ) → c < lanes_of b.bus
      → is_under a.under a.consts (bank_place b.found.geometry.lanes (unit_len b.found.geometry.device) c q) ≡ false → is_erasing_at (lane b.bus c) q ≡ false
  not_erasing_by None is quiet c q below out = none_erasing (lane b.bus c) q (quiet c below).shown.job (quiet c below).held
  not_erasing_by (Some e) is under c q below out =
      erasing_within (state_at e.lanes c) (chip_target e.target) (lane b.bus c) q (under.each c below) (sym (under_place e is c q below) ∙ out)

  -- Elsewhere no chip erases, while power is on.
  pub not_erasing : b.halted ≡ None → (c q : ℕ) → c < lanes_of b.bus
      → is_under a.under a.consts (bank_place b.found.geometry.lanes (unit_len b.found.geometry.device) c q) ≡ false → is_erasing_at (lane b.bus c) q ≡ false
  not_erasing running = not_erasing_by b.erase refl (is_on_now b a stands running).erase
