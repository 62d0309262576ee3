-- From the chips of all records to the bank of a file.
use Rattle.std.proofs.Common.{◌≡◌, ◌<◌, ◌≤◌, ℕ, zero, suc, List, length, IsTrue, sym, ap, subst, ◌∙◌, arith, get_or, Some, None}
use Rattle.std.proofs.lemmas.Bool.Decides.{nat_tests}
use Rattle.std.proofs.lemmas.List.{length-map}
use Rattle.nor_cell.specs.Cells.{chip_of}
use Rattle.nor_cell.specs.Chip.{ChipState}
use Rattle.nor_cell.specs.Power.{powered}
use Rattle.nor_cell.specs.Table.{set_of}
use Rattle.nor_cell.specs.Wiring.{is_wiring}
use Rattle.nor_cell.specs.declared.cells.Cells.{Cells}
use Rattle.nor_cell.specs.declared.device.Device.{Device}
use Rattle.nor_cell.specs.declared.device.Device.TheVariants.{X8, X16, X16Byte}
use Rattle.nor_cell.specs.declared.device.Set.{Set}
use Rattle.nor_cell.specs.declared.device.Set.TheVariants.{Intel}
use Rattle.nor_bus.specs.Bus.{IsBank}
use Rattle.nor_bus.proofs.Mapped.{state_there}
use Rattle.nor_query.specs.Derived.{table_blocks}
use Rattle.nor_image.specs.Image.{image_refusal, width_of, device_of, lanes_of_file, machine_of, table_in, IsImageOf, IsCause}
use Rattle.nor_image.specs.Written.{AreStorable}
use Rattle.nor_image.specs.Reading.{IsRefusal, AreChips, AreLanes, chips_of}
use Rattle.nor_image.specs.declared.error.ImageError.{ImageError}
use Rattle.nor_image.specs.declared.error.ImageError.TheVariants.{BadMagic, BadHeader, Truncated, Trailing, SizeDiffers, NoMemory}

-- a bank has a lane
pub some_lanes : (width n : ℕ) (device : Device) → IsTrue (is_wiring width n device) → 0 < n
some_lanes width zero device h = absurd (cc)
some_lanes width (suc n) device h = omega arith

-- and at most four
pub few_lanes : (width n : ℕ) (device : Device) → IsTrue (is_wiring width n device) → n ≤ 4
few_lanes width n X8 h = grind (arith, nat_tests)
few_lanes width n X16 h = grind (arith, nat_tests)
few_lanes width n X16Byte h = grind (arith, nat_tests)

-- as many chips as cells
as_many : (lanes : List Cells) → length (chips_of Intel lanes) ≡ length lanes
as_many lanes = length-map lanes (λ (c : Cells). powered (chip_of Intel c))

-- so lane 0 is there
pub lane_0 : (file : List ℕ) (lanes : List Cells) → AreLanes file lanes → 0 < lanes_of_file file → 0 < length lanes
lane_0 file lanes so some = let many = as_many lanes in let count = (so Intel).count in omega arith

-- its table names the set of all
pub first_table : (file : List ℕ) (lanes : List Cells) (first : Cells) → AreLanes file lanes → 0 < lanes_of_file file
    → first ≡ get_or lanes 0 first → first.table ≡ table_in file 12
first_table file lanes first so some is =
    sym (ap (λ (s : ChipState). s.part.table) (state_there (λ (c : Cells). powered (chip_of Intel c)) lanes 0 first (lane_0 file lanes so some) is))
    ∙ ap (λ (s : ChipState). s.part.table) ((so Intel).each 0 some)

-- the cells' chips, of the set that lane 0's table names, are those of the file
pub chips_of_file : (file : List ℕ) (lanes : List Cells) (first : Cells) (set : Set) (chips : List ChipState) → AreLanes file lanes → 0 < lanes_of_file file
    → first ≡ get_or lanes 0 first → set ≡ set_of first.table → chips ≡ chips_of set lanes → AreChips file (machine_of file) (lanes_of_file file) chips
chips_of_file file lanes first set chips so some is named made =
    let machine : set ≡ machine_of file = named ∙ ap set_of (first_table file lanes first so some is) in
    subst (λ (xs : List ChipState). AreChips file (machine_of file) (lanes_of_file file) xs) (sym (made ∙ ap (λ (s : Set). chips_of s lanes) machine)) (so (machine_of file))

-- the chips are a bank
pub is_bank : (file : List ℕ) (set : Set) (chips : List ChipState) → AreChips file set (lanes_of_file file) chips
    → IsTrue (is_wiring (width_of file) (lanes_of_file file) (device_of file)) → IsBank (width_of file) (device_of file) chips
is_bank file set chips so wired = record {
  wiring = subst (λ (k : ℕ). IsTrue (is_wiring (width_of file) k (device_of file))) (sym so.count) wired;
  devices = λ c below. ap (λ (s : ChipState). s.part.device) (so.each c (subst (λ (k : ℕ). c < k) so.count below));
  sizes = λ c below. so.sizes c (subst (λ (k : ℕ). c < k) so.count below) ∙ sym (so.sizes 0 (some_lanes (width_of file) (lanes_of_file file) (device_of file) wired));
}

-- they are the file's bank
pub is_image : (file : List ℕ) (width : ℕ) (chips : List ChipState) → AreChips file (machine_of file) (lanes_of_file file) chips → image_refusal file ≡ None
    → width ≡ width_of file → IsImageOf file width chips
is_image file width chips so formed same = record {
  well_formed = formed;
  bus = sym same;
  count = so.count;
  each = λ c below. so.each c (subst (λ (k : ℕ). c < k) so.count below);
}

-- the machine, the sizes and the blocks are those that the file gives
pub are_storable : (file : List ℕ) (chips : List ChipState) → AreChips file (machine_of file) (lanes_of_file file) chips → 0 < lanes_of_file file → AreStorable chips
are_storable file chips so some = record {
  machine = λ c below.
      let each = so.each c (subst (λ (k : ℕ). c < k) so.count below) in
      ap (λ (s : ChipState). s.part.set) each ∙ sym (ap (λ (s : ChipState). set_of s.part.table) (so.each 0 some));
  sizes = λ c below. so.fits c (subst (λ (k : ℕ). c < k) so.count below);
  blocks = λ c below.
      let each = so.each c (subst (λ (k : ℕ). c < k) so.count below) in
      ap (λ (s : ChipState). s.part.blocks) each ∙ sym (ap (λ (s : ChipState). table_blocks s.part.table) each);
}

-- a refusal is a cause
pub refusal_is : (file : List ℕ) (e : ImageError) → IsRefusal e → image_refusal file ≡ Some e → IsCause file e
refusal_is file BadMagic is h = h
refusal_is file (BadHeader at) is h = h
refusal_is file (Truncated at) is h = h
refusal_is file (Trailing at) is h = h
refusal_is file (SizeDiffers lane) is h = h
refusal_is file NoMemory is h = absurd is
