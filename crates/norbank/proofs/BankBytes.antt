-- What reading a bank leaves of it, and how it ends.
use Rattle.std.proofs.Common.{◌≡◌, ◌<◌, ◌≤◌, ◌+◌, ◌*◌, ◌/◌, ◌%◌, ◌∙◌, ℕ, zero, suc, List, [], ◌∷◌, ◌++◌, length, slice_index, refl, sym, ap, subst, arith, codes}
use Rattle.std.proofs.Math.Nat.{mul_left_comm, mul-le-mul}
use Rattle.hex.specs.Hex.{encode_lower, lower_digits}
use Rattle.nor_cell.specs.Bits.{unit_len}
use Rattle.nor_cell.specs.Chip.{ChipState}
use Rattle.nor_cell.specs.declared.device.Device.{Device}
use Rattle.nor_cell.specs.declared.device.Device.TheVariants.{X8, X16, X16Byte}
use Rattle.nor_bus.specs.Bus.{BusState, IsBank, IsWired, lane, lanes_of, chip_at, units_of, wide, bank_byte, bank_bytes, bank_size}
use Rattle.nor_bus.specs.Cycles.{KeepsLanes}
use Rattle.nor_bus.specs.Driven.{EachLane, AllLanes, Went}
use Rattle.nor_bus.proofs.Driving.{some_lane, few_lanes, fills_word, bank_kept, still_none}
use Rattle.nor_bus.proofs.Sizes.{bus_units}
use Rattle.nor_io.proofs.Putting.{encode-append}
use Rattle.nor_lane.proofs.Places.{lane_at_below}
use Rattle.nor_bank.specs.Ranges.{IsReadable, AreOfBank}
use Rattle.nor_probe.specs.Asking.{Resets}
use Rattle.norbank.specs.Open.{IsPowered, IsIdleChip, IsOpen, SameBytes}
use Rattle.norbank.specs.Text.{hex_line}

-- ---- bytes of a bank

-- bytes that are the bank's, one by one
pub bytes_of : (device : Device) (chips : List ChipState) (at : ℕ) (bytes : List ℕ) → AreOfBank device chips at bytes → bytes ≡ bank_bytes device chips at (length bytes)
bytes_of device chips at [] are = refl
bytes_of device chips at (b ∷ bytes) are =
    let here : at + 0 ≡ at = omega arith in
    let head : b ≡ bank_byte device chips at = are 0 (omega arith) ∙ ap (λ (n : ℕ). bank_byte device chips n) here in
    let tail : bytes ≡ bank_bytes device chips (at + 1) (length bytes) =
    bytes_of device chips (at + 1) bytes (λ i below. are (suc i) (omega arith) ∙ (let e : at + suc i ≡ at + 1 + i = omega arith in ap (λ (n : ℕ). bank_byte device chips n) e)) in
    ap (λ (n : ℕ). n ∷ bytes) head ∙ ap (λ (l : List ℕ). bank_byte device chips at ∷ l) tail

-- one range after another
pub bank_bytes-add : (device : Device) (chips : List ChipState) (m a n : ℕ) → bank_bytes device chips a (m + n) ≡ bank_bytes device chips a m ++ bank_bytes device chips (a + m) n
bank_bytes-add device chips zero a n =
    let e : 0 + n ≡ n = omega arith in
    let f : a ≡ a + 0 = omega arith in
    ap (λ (k : ℕ). bank_bytes device chips a k) e ∙ ap (λ (k : ℕ). bank_bytes device chips k n) f
bank_bytes-add device chips (suc m) a n =
    let e : suc m + n ≡ suc (m + n) = omega arith in
    let f : a + 1 + m ≡ a + suc m = omega arith in
    ap (λ (k : ℕ). bank_bytes device chips a k) e
    ∙ (ap (λ (l : List ℕ). bank_byte device chips a ∷ l) (bank_bytes-add device chips m (a + 1) n)
    ∙ ap (λ (k : ℕ). bank_byte device chips a ∷ (bank_bytes device chips (a + 1) m ++ bank_bytes device chips k n)) f)

-- the text of one range after another
pub encode-add : (device : Device) (chips : List ChipState) (a m n : ℕ)
    → encode_lower (bank_bytes device chips a (m + n)) ≡ encode_lower (bank_bytes device chips a m) ++ encode_lower (bank_bytes device chips (a + m) n)
encode-add device chips a m n = ap encode_lower (bank_bytes-add device chips m a n) ∙ encode-append lower_digits (bank_bytes device chips a m) (bank_bytes device chips (a + m) n)

-- the line of a range that isn't empty
pub line_some : (device : Device) (chips : List ChipState) (at len : ℕ) → 0 < len
    → hex_line (bank_bytes device chips at len) ≡ encode_lower (bank_bytes device chips at len) ++ codes "\n"
line_some device chips at zero some = absurd (omega arith)
line_some device chips at (suc len) some = refl

-- ---- chips that were reset

cells_same : (s t : ChipState) → IsIdleChip s → Resets s t → t.cells ≡ s.cells
cells_same s t is resets = ap (λ (x : ChipState). x.cells) (resets is.resting)

byte_same : (width : ℕ) (device : Device) (old new : BusState) (a : ℕ) → IsBank width device old.lanes → KeepsLanes old new → EachLane Resets old new → AllLanes IsIdleChip old
    → bank_byte device new.lanes a ≡ bank_byte device old.lanes a
byte_same width device old new a bank kept resets idle =
    let n = lanes_of old in
    let d = unit_len device in
    let c = a / d % n in
    let below : c < n = lane_at_below n d a (some_lane width device old.lanes bank) in
    let cells = cells_same (lane old c) (lane new c) (idle c below) (resets c below) in
    ap (λ (m : ℕ). slice_index (chip_at new.lanes (a / d % m)).cells (a / (m * d) * d + a % d)) kept.count
    ∙ ap (λ (l : List ℕ). slice_index l (a / (n * d) * d + a % d)) cells

bytes_same : (width : ℕ) (device : Device) (old new : BusState) (len at : ℕ) → IsBank width device old.lanes → KeepsLanes old new → EachLane Resets old new → AllLanes IsIdleChip old
    → bank_bytes device new.lanes at len ≡ bank_bytes device old.lanes at len
bytes_same width device old new zero at bank kept resets idle = refl
bytes_same width device old new (suc len) at bank kept resets idle =
    ap (λ (b : ℕ). b ∷ bank_bytes device new.lanes (at + 1) len) (byte_same width device old new at bank kept resets idle)
    ∙ ap (λ (l : List ℕ). bank_byte device old.lanes at ∷ l) (bytes_same width device old new len (at + 1) bank kept resets idle)

size_same : (width : ℕ) (device : Device) (old new : BusState) → IsBank width device old.lanes → KeepsLanes old new → bank_size new.lanes ≡ bank_size old.lanes
size_same width device old new bank kept =
    let first = some_lane width device old.lanes bank in
    ap (λ (n : ℕ). n * length (chip_at new.lanes 0).cells) kept.count ∙ ap (λ (n : ℕ). lanes_of old * n) (kept.each 0 first).size

pub same_after : (old new : BusState) → KeepsLanes old new → EachLane Resets old new → AllLanes IsIdleChip old → SameBytes old new
same_after old new kept resets idle = λ width device bank.
    (bank_kept width device old new kept bank, size_same width device old new bank kept, λ at len. bytes_same width device old new len at bank kept resets idle)

-- ---- a bus that stays open

pub still_open : (l m : ℕ) (old new : BusState) → IsOpen old → Went l m old new → new.lanes ≡ old.lanes → IsOpen new
still_open l m old new is went same = record {
  powered = record { power = went.power is.powered.power; armed = still_none l m old.armed new.armed went.armed is.powered.armed };
  chips = let there : (c : ℕ) → c < length new.lanes → IsReadable (chip_at new.lanes c) = subst (λ (ls : List ChipState). (c : ℕ) → c < length ls → IsReadable (chip_at ls c)) (sym same) is.chips in there;
}

-- a chip that was reset can be read
reset_readable : (s t : ChipState) → IsIdleChip s → Resets s t → IsReadable t
reset_readable s t is resets = subst IsReadable (sym (resets is.resting)) (record {
  shown = record { mode = refl; step = is.resting.rest.step; job = is.resting.rest.job; fault = refl };
  held = is.resting.held;
  bytes = is.bytes;
})

-- and a bus whose chips were reset is open
pub now_open : (l m : ℕ) (old new : BusState) → IsPowered old → Went l m old new → EachLane Resets old new → AllLanes IsIdleChip old → IsOpen new
now_open l m old new is went resets idle = record {
  powered = record { power = went.power is.power; armed = still_none l m old.armed new.armed went.armed is.armed };
  chips = λ c below.
      let there = subst (λ (n : ℕ). c < n) went.kept.count below in
      reset_readable (lane old c) (lane new c) (idle c there) (resets c there);
}

-- how many bytes the bank has, by its bus words
pub bank_words : (width : ℕ) (device : Device) (bus : BusState) → IsWired width bus → IsBank width device bus.lanes → bank_size bus.lanes ≡ units_of bus * width
bank_words width device bus wired bank =
    let whole = (bus_units width bus wired).2 in
    let first = some_lane width device bus.lanes bank in
    let d : wide (lane bus 0) ≡ unit_len device = ap unit_len (bank.devices 0 first) in
    let fills = fills_word width device bus.lanes bank in
    ap (λ (n : ℕ). lanes_of bus * n) (sym whole)
    ∙ (ap (λ (n : ℕ). lanes_of bus * (units_of bus * n)) d
    ∙ (mul_left_comm (lanes_of bus) (units_of bus) (unit_len device) ∙ ap (λ (n : ℕ). units_of bus * n) fills))

unit_most : (device : Device) → unit_len device ≤ 2
unit_most X8 = omega arith
unit_most X16 = omega arith
unit_most X16Byte = omega arith

-- a bank has at most 2 ^ 30 bytes
pub few_bytes : (width : ℕ) (bus : BusState) → IsWired width bus → units_of bus * width ≤ 1073741824
few_bytes width bus wired =
    let lanes : length bus.lanes * unit_len wired.device ≤ 8 = mul-le-mul (few_lanes width wired.device bus.lanes wired.bank) (unit_most wired.device) in
    let most : width ≤ 8 = subst (λ (n : ℕ). n ≤ 8) (fills_word width wired.device bus.lanes wired.bank) lanes in
    mul-le-mul (bus_units width bus wired).1 most
