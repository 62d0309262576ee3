-- What the fields of a record refuse, and the chip that it stores.
use Rattle.std.proofs.Common.{◌≡◌, ◌+◌, ◌==◌, ℕ, List, [], ◌∷◌, ◌++◌, slice_index, refl, ap, ◌∙◌, Option, Some, None}
use Rattle.std.specs.Option.{option_or}
use Rattle.nor_cell.specs.Cells.{chip_of}
use Rattle.nor_cell.specs.Power.{powered}
use Rattle.nor_cell.specs.declared.cells.Cells.{Cells}
use Rattle.nor_cell.specs.declared.device.Device.{Device}
use Rattle.nor_cell.specs.declared.device.Set.{Set}
use Rattle.nor_bus.specs.Bus.{no_chip}
use Rattle.nor_io.specs.Fields.{u32_at}
use Rattle.nor_query.specs.Derived.{table_blocks}
use Rattle.nor_image.specs.Image.{Field, first_refusal, refusal_of, record_fields, number_fields, table_field, size_field, weak_fields, lock_fields, cells_field, weak_count, locks_of, table_in, weak_in, bytes_at, cells_at, size_in, chip_in}
use Rattle.nor_image.specs.declared.error.ImageError.{ImageError}
use Rattle.nor_image.proofs.Refusals.{or_none, or_some, first_refusal-append}

-- nothing follows
or_nil : (p : Option ImageError) → option_or p None ≡ p
or_nil None = refl
or_nil (Some e) = refl

-- the parts of a record, in their order
pub in_parts : (file : List ℕ) (c at : ℕ) → first_refusal file (record_fields file c at) ≡
    option_or (first_refusal file (number_fields file at))
    (option_or (refusal_of file (table_field at))
    (option_or (refusal_of file (size_field file c at))
    (option_or (first_refusal file (weak_fields file at (weak_count file at)))
    (option_or (first_refusal file (lock_fields file c at)) (refusal_of file (cells_field file at))))))
unfolding record_fields
in_parts file c at =
    let weak = weak_fields file at (weak_count file at) in
    let locks = lock_fields file c at in
    let cells : List Field = cells_field file at ∷ [] in
    let behind : first_refusal file (locks ++ cells) ≡ option_or (first_refusal file locks) (refusal_of file (cells_field file at)) =
    first_refusal-append file locks cells ∙ ap (option_or (first_refusal file locks)) (or_nil (refusal_of file (cells_field file at))) in
    let last : first_refusal file (weak ++ (locks ++ cells)) ≡ option_or (first_refusal file weak) (option_or (first_refusal file locks) (refusal_of file (cells_field file at))) =
    first_refusal-append file weak (locks ++ cells) ∙ ap (option_or (first_refusal file weak)) behind in
    first_refusal-append file (number_fields file at) (table_field at ∷ size_field file c at ∷ (weak ++ (locks ++ cells)))
    ∙ ap (λ (o : Option ImageError). option_or (first_refusal file (number_fields file at)) (option_or (refusal_of file (table_field at)) (option_or (refusal_of file (size_field file c at)) o))) last

-- a refusal in one part, where those before it are right
pub in_numbers : (file : List ℕ) (c at : ℕ) (e : ImageError) → first_refusal file (number_fields file at) ≡ Some e → first_refusal file (record_fields file c at) ≡ Some e
in_numbers file c at e h = in_parts file c at ∙ or_some _ _ e h

pub in_table : (file : List ℕ) (c at : ℕ) (e : ImageError) → first_refusal file (number_fields file at) ≡ None
    → refusal_of file (table_field at) ≡ Some e → first_refusal file (record_fields file c at) ≡ Some e
in_table file c at e numbers h = in_parts file c at ∙ (or_none _ _ numbers ∙ or_some _ _ e h)

pub in_size : (file : List ℕ) (c at : ℕ) (e : ImageError) → first_refusal file (number_fields file at) ≡ None
    → refusal_of file (table_field at) ≡ None → refusal_of file (size_field file c at) ≡ Some e → first_refusal file (record_fields file c at) ≡ Some e
in_size file c at e numbers table h = in_parts file c at ∙ (or_none _ _ numbers ∙ (or_none _ _ table ∙ or_some _ _ e h))

pub in_weak : (file : List ℕ) (c at : ℕ) (e : ImageError) → first_refusal file (number_fields file at) ≡ None
    → refusal_of file (table_field at) ≡ None → refusal_of file (size_field file c at) ≡ None
    → first_refusal file (weak_fields file at (weak_count file at)) ≡ Some e → first_refusal file (record_fields file c at) ≡ Some e
in_weak file c at e numbers table size h = in_parts file c at ∙ (or_none _ _ numbers ∙ (or_none _ _ table ∙ (or_none _ _ size ∙ or_some _ _ e h)))

pub in_locks : (file : List ℕ) (c at : ℕ) (e : ImageError) → first_refusal file (number_fields file at) ≡ None
    → refusal_of file (table_field at) ≡ None → refusal_of file (size_field file c at) ≡ None
    → first_refusal file (weak_fields file at (weak_count file at)) ≡ None
    → first_refusal file (lock_fields file c at) ≡ Some e → first_refusal file (record_fields file c at) ≡ Some e
in_locks file c at e numbers table size weak h =
    in_parts file c at ∙ (or_none _ _ numbers ∙ (or_none _ _ table ∙ (or_none _ _ size ∙ (or_none _ _ weak ∙ or_some _ _ e h))))

-- the cells decide, where all else is right
pub in_cells : (file : List ℕ) (c at : ℕ) → first_refusal file (number_fields file at) ≡ None
    → refusal_of file (table_field at) ≡ None → refusal_of file (size_field file c at) ≡ None
    → first_refusal file (weak_fields file at (weak_count file at)) ≡ None → first_refusal file (lock_fields file c at) ≡ None
    → first_refusal file (record_fields file c at) ≡ refusal_of file (cells_field file at)
in_cells file c at numbers table size weak locks =
    in_parts file c at ∙ (or_none _ _ numbers ∙ (or_none _ _ table ∙ (or_none _ _ size ∙ (or_none _ _ weak ∙ or_none _ _ locks))))

-- The cells of a record make the chip that it stores.
pub record IsMade (file : List ℕ) (device : Device) (at : ℕ) (cells : Cells) : Type 0 where
  pub device_is : cells.device ≡ device
  pub table : cells.table ≡ table_in file at
  pub blocks : cells.blocks.items ≡ table_blocks (table_in file at)
  pub weak : cells.weak.items ≡ weak_in file at (weak_count file at)
  pub stuck : cells.stuck ≡ (slice_index file (at + 9) == 1)
  pub pace_program : cells.pace_program ≡ u32_at file at
  pub pace_erase : cells.pace_erase ≡ u32_at file (at + 4)
  pub pace_suspend : cells.pace_suspend ≡ slice_index file (at + 8)
  pub bytes : cells.bytes.items ≡ bytes_at file (cells_at file at) (size_in file at)
  pub locks : cells.locks.items ≡ locks_of file at
  pub suspends : cells.suspends ≡ u32_at file (at + 12)
  pub erases : cells.erases ≡ u32_at file (at + 16)

pub chip_made : (set : Set) (file : List ℕ) (device : Device) (at : ℕ) (cells : Cells) → IsMade file device at cells → powered (chip_of set cells) ≡ chip_in file set device at
chip_made set file device at cells is = λ i. powered (record no_chip {
  part = record {
    set = set;
    device = is.device_is i;
    table = is.table i;
    blocks = is.blocks i;
    weak = is.weak i;
    stuck = is.stuck i;
    pace_program = is.pace_program i;
    pace_erase = is.pace_erase i;
    pace_suspend = is.pace_suspend i;
  };
  cells = is.bytes i;
  locks = is.locks i;
  suspends = is.suspends i;
  erases = is.erases i;
})
