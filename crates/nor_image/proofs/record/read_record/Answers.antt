use Rattle.std.proofs.Common.{rules, ◌≡◌, ◌≢◌, ◌+◌, ◌*◌, ℕ, List, length, Some, None, subst, sym, ap, ◌∙◌, arith}
use Rattle.nor_cell.specs.Bits.{AreBytes}
use Rattle.nor_cell.specs.Cells.{given_or_open}
use Rattle.nor_cell.specs.Ranges.{is_none_or_each}
use Rattle.nor_bus.proofs.Sizes.{chip_size}
use Rattle.nor_cell.specs.declared.device.Set.{Set}
use Rattle.nor_cell.specs.declared.device.Span.{Span}
use Rattle.nor_query.specs.Derived.{table_blocks}
use Rattle.nor_image.specs.Image.{record_fields, weak_fields, weak_in, first_refusal, weak_count, size_in, locks_at, locks_from, locks_len, cells_at, bytes_at, is_size_by}
use Rattle.nor_image.specs.Reading.{IsRefusal, kept_of_each}
use Rattle.nor_image.specs.declared.error.ImageError.TheVariants.{NoMemory}
use Rattle.nor_image.proofs.LockBits.{locks_of_is, count_is, fields_are, count_few, len_few, stored_fit}
use Rattle.nor_image.proofs.Records.{IsMade, chip_made, in_numbers, in_table, in_size, in_weak, in_locks, in_cells}
use Rattle.nor_image.proofs.Refusals.{any_at}
use Rattle.nor_image.proofs.record.read_record.Goals as goal

pub returns-in_err-numbers : goal.returns-in_err-numbers
returns-in_err-numbers c =
    let h = c.in_err-numbers.ensures in
    let stop : first_refusal c.args.file.now (record_fields c.args.file.now c.args.lane c.args.at) ≡ Some c.in_err-numbers.field-0.0 =
    in_numbers c.args.file.now c.args.lane c.args.at c.in_err-numbers.field-0.0 h.0 in
    search (rules, stop, h.1)

pub returns-in_err-table : goal.returns-in_err-table
returns-in_err-table c =
    let h = c.in_err-table.ensures.read in
    let stop : first_refusal c.args.file.now (record_fields c.args.file.now c.args.lane c.args.at) ≡ Some c.in_err-table.field-0.0 =
    in_table c.args.file.now c.args.lane c.args.at c.in_err-table.field-0.0 c.in_ok-numbers.ensures.0 h.0 in
    search (rules, stop, h.1)

pub returns-in_err-size : goal.returns-in_err-size
returns-in_err-size c =
    let h = c.in_err-size.ensures.read in
    let stop : first_refusal c.args.file.now (record_fields c.args.file.now c.args.lane c.args.at) ≡ Some c.in_err-size.field-0.0 =
    in_size c.args.file.now c.args.lane c.args.at c.in_err-size.field-0.0 c.in_ok-numbers.ensures.0 c.in_ok-table.ensures.read.0 h.0 in
    search (rules, stop, h.1)

pub returns-in_err-weak : goal.returns-in_err-weak
returns-in_err-weak c =
    let file = c.args.file.now in
    let stop : c.in_err-weak.field-0.0 ≢ NoMemory
    → (first_refusal c.args.file.now (record_fields c.args.file.now c.args.lane c.args.at) ≡ Some c.in_err-weak.field-0.0) × IsRefusal c.in_err-weak.field-0.0 =
    λ has_memory.
    let h = c.in_err-weak.ensures.read has_memory in (
      in_weak c.args.file.now c.args.lane c.args.at c.in_err-weak.field-0.0 c.in_ok-numbers.ensures.0 c.in_ok-table.ensures.read.0 c.in_ok-size.ensures.read.0
          (subst (λ (n : ℕ). first_refusal c.args.file.now (weak_fields c.args.file.now c.args.at n) ≡ Some c.in_err-weak.field-0.0) c.in_ok-numbers.ensures.1.weak_count h.0),
      h.1,
    ) in
    search (rules, stop)

pub returns-in_err-locks : goal.returns-in_err-locks
returns-in_err-locks c =
    let file = c.args.file.now in
    let weak_n : c.from.result ≡ weak_count c.args.file.now c.args.at = c.from.ensures ∙ c.in_ok-numbers.ensures.1.weak_count in
    let place : c.args.at + 536 + 4 * c.from.result ≡ locks_at c.args.file.now c.args.at = ap (λ (n : ℕ). c.args.at + 536 + 4 * n) weak_n in
    let count = count_is c.args.file.now c.args.at c.args.header.version c.machine_of-set.result c.in_ok-table.table c.stored_count-count.result
    c.requires.version c.machine_of-set.ensures c.in_ok-table.ensures.read.1 c.stored_count-count.ensures in
    let before = ap (λ (set : Set). kept_of_each set c.args.before.now) c.machine_of-set.ensures ∙ c.requires.before in
    let weak = subst (λ (n : ℕ). first_refusal c.args.file.now (weak_fields c.args.file.now c.args.at n) ≡ None) c.in_ok-numbers.ensures.1.weak_count c.in_ok-weak.ensures.read.0 in
    let fields = fields_are c.args.file.now c.args.lane c.args.at c.args.header.version (kept_of_each c.machine_of-set.result c.args.before.now) (c.args.at + 536 + 4 * c.from.result) c.stored_count-count.result
    c.requires.version before place count in
    let stop : c.in_err-locks.field-0.0 ≢ NoMemory
    → (first_refusal c.args.file.now (record_fields c.args.file.now c.args.lane c.args.at) ≡ Some c.in_err-locks.field-0.0) × IsRefusal c.in_err-locks.field-0.0 =
    λ has_memory.
    let h = c.in_err-locks.ensures has_memory in (
      in_locks c.args.file.now c.args.lane c.args.at c.in_err-locks.field-0.0 c.in_ok-numbers.ensures.0 c.in_ok-table.ensures.read.0 c.in_ok-size.ensures.read.0 weak
          (ap (first_refusal c.args.file.now) (sym fields) ∙ h.0),
      h.1,
    ) in
    search (rules, stop)

pub returns-in_err-bytes : goal.returns-in_err-bytes
returns-in_err-bytes c =
    let weak_n : c.from.result ≡ weak_count c.args.file.now c.args.at = c.from.ensures ∙ c.in_ok-numbers.ensures.1.weak_count in
    let place : c.args.at + 536 + 4 * c.from.result ≡ locks_at c.args.file.now c.args.at = ap (λ (n : ℕ). c.args.at + 536 + 4 * n) weak_n in
    let count = count_is c.args.file.now c.args.at c.args.header.version c.machine_of-set.result c.in_ok-table.table c.stored_count-count.result
    c.requires.version c.machine_of-set.ensures c.in_ok-table.ensures.read.1 c.stored_count-count.ensures in
    let before = ap (λ (set : Set). kept_of_each set c.args.before.now) c.machine_of-set.ensures ∙ c.requires.before in
    let weak = subst (λ (n : ℕ). first_refusal c.args.file.now (weak_fields c.args.file.now c.args.at n) ≡ None) c.in_ok-numbers.ensures.1.weak_count c.in_ok-weak.ensures.read.0 in
    let fields = fields_are c.args.file.now c.args.lane c.args.at c.args.header.version (kept_of_each c.machine_of-set.result c.args.before.now) (c.args.at + 536 + 4 * c.from.result) c.stored_count-count.result
    c.requires.version before place count in
    let end : c.args.at + 536 + 4 * c.from.result + c.locks_len.result ≡ cells_at c.args.file.now c.args.at =
    λ i. place i + (c.locks_len.ensures ∙ (λ j. locks_len (c.requires.version j) (count j))) i in
    let stop : c.in_err-bytes.field-0.0 ≢ NoMemory
    → (first_refusal c.args.file.now (record_fields c.args.file.now c.args.lane c.args.at) ≡ Some c.in_err-bytes.field-0.0) × IsRefusal c.in_err-bytes.field-0.0 =
    λ has_memory.
    let h = c.in_err-bytes.ensures.read has_memory in (
      in_cells c.args.file.now c.args.lane c.args.at c.in_ok-numbers.ensures.0 c.in_ok-table.ensures.read.0 c.in_ok-size.ensures.read.0 weak
          (ap (first_refusal c.args.file.now) (sym fields) ∙ c.in_ok-locks.ensures.0)
          ∙ (sym (any_at c.args.file.now _ _ _ _ end c.in_ok-size.ensures.read.1) ∙ h.0),
      h.1,
    ) in
    search (rules, stop)

pub returns : goal.returns
returns c =
    let numbers = c.in_ok-numbers.ensures.1 in
    let made = c.in_ok-make_cells.ensures.made in
    let weak_n : c.from.result ≡ weak_count c.args.file.now c.args.at = c.from.ensures ∙ numbers.weak_count in
    let place : c.args.at + 536 + 4 * c.from.result ≡ locks_at c.args.file.now c.args.at = ap (λ (n : ℕ). c.args.at + 536 + 4 * n) weak_n in
    let size : c.in_ok-size.size ≡ size_in c.args.file.now c.args.at = c.in_ok-size.ensures.read.1 in
    let count = count_is c.args.file.now c.args.at c.args.header.version c.machine_of-set.result c.in_ok-table.table c.stored_count-count.result
    c.requires.version c.machine_of-set.ensures c.in_ok-table.ensures.read.1 c.stored_count-count.ensures in
    let before = ap (λ (set : Set). kept_of_each set c.args.before.now) c.machine_of-set.ensures ∙ c.requires.before in
    let fields = fields_are c.args.file.now c.args.lane c.args.at c.args.header.version (kept_of_each c.machine_of-set.result c.args.before.now) (c.args.at + 536 + 4 * c.from.result) c.stored_count-count.result
    c.requires.version before place count in
    let end : c.args.at + 536 + 4 * c.from.result + c.locks_len.result ≡ cells_at c.args.file.now c.args.at =
    λ i. place i + (c.locks_len.ensures ∙ (λ j. locks_len (c.requires.version j) (count j))) i in
    let weak = subst (λ (n : ℕ). first_refusal c.args.file.now (weak_fields c.args.file.now c.args.at n) ≡ None) numbers.weak_count c.in_ok-weak.ensures.read.0 in
    let places = c.in_ok-weak.ensures.read.1 ∙ ap (weak_in c.args.file.now c.args.at) numbers.weak_count in
    let cells = c.in_ok-bytes.ensures.read.1 ∙ (λ i. bytes_at c.args.file.now (end i) (size i)) in
    let table = c.in_ok-table.ensures.read.1 in
    let blocks = c.in_ok-blocks.ensures.blocks ∙ ap table_blocks table in
    let locks = c.in_ok-locks.ensures.1 ∙ (λ i. locks_from c.args.file.now (place i + 4) (count i)) in
    let is : IsMade c.args.file.now c.args.header.geometry.device c.args.at c.in_ok-make_cells.field-0 = record {
      device_is = made.device;
      table = made.table ∙ table;
      blocks = made.blocks ∙ blocks;
      weak = made.weak ∙ places;
      stuck = made.stuck ∙ numbers.stuck;
      pace_program = made.pace_program ∙ numbers.pace_program;
      pace_erase = made.pace_erase ∙ numbers.pace_erase;
      pace_suspend = made.pace_suspend ∙ numbers.pace_suspend;
      bytes = made.bytes ∙ cells;
      locks = made.locks ∙ ((λ i. given_or_open (locks i) (length (blocks i))) ∙ sym (locks_of_is c.args.file.now c.args.at));
      suspends = made.suspends ∙ numbers.suspends;
      erases = made.erases ∙ numbers.erases;
    } in (
      in_cells c.args.file.now c.args.lane c.args.at c.in_ok-numbers.ensures.0 c.in_ok-table.ensures.read.0 c.in_ok-size.ensures.read.0 weak
          (ap (first_refusal c.args.file.now) (sym fields) ∙ c.in_ok-locks.ensures.0)
          ∙ (sym (any_at c.args.file.now _ _ _ _ end size) ∙ c.in_ok-bytes.ensures.read.0),
      record {
        chip = λ set. chip_made set c.args.file.now c.args.header.geometry.device c.args.at c.in_ok-make_cells.field-0 is;
        table = is.table;
        weak = ap length made.weak ∙ (c.in_ok-weak.ensures.count ∙ numbers.weak_count);
        locks = is.locks;
        size = ap length made.bytes ∙ (c.in_ok-bytes.ensures.size ∙ size);
        bytes = subst AreBytes (sym made.bytes) c.in_ok-bytes.ensures.bytes;
        fits = (λ i. is_size_by (made.table i) ((ap length made.bytes ∙ c.in_ok-bytes.ensures.size) i)) ∙ c.in_ok-size.ensures.fits;
        same = ap length made.bytes ∙ (c.in_ok-bytes.ensures.size ∙ c.in_ok-size.ensures.same);
        few_blocks = (let a = ap (λ (xs : List Span). length xs) made.blocks in let b = ap (λ (xs : List ℕ). length xs) made.bytes in let d = c.in_ok-bytes.ensures.size in let e = c.in_ok-blocks.ensures.few in omega arith);
        first_table = (let a = c.in_ok-table.ensures.whole in let b = c.requires.behind_header in omega arith);
      },
    )

pub read_locks-requires-clause-near : goal.read_locks-requires-clause-near
read_locks-requires-clause-near c =
    let few = count_few c.args.header.version c.machine_of-set.result c.in_ok-table.table c.in_ok-blocks.blocks.items c.stored_count-count.result c.in_ok-size.size
    c.stored_count-count.ensures c.in_ok-blocks.ensures.blocks c.in_ok-blocks.ensures.few c.in_ok-size.ensures.sized in
    let near = c.requires.near in
    let weak : c.from.result ≡ c.in_ok-numbers.numbers.weak_count = c.from.ensures in
    let most = c.in_ok-numbers.ensures.1.few_weak in
    omega arith

pub overflow_add-locks_at-3 : goal.overflow_add-locks_at-3
overflow_add-locks_at-3 c =
    let few = count_few c.args.header.version c.machine_of-set.result c.in_ok-table.table c.in_ok-blocks.blocks.items c.stored_count-count.result c.in_ok-size.size
    c.stored_count-count.ensures c.in_ok-blocks.ensures.blocks c.in_ok-blocks.ensures.few c.in_ok-size.ensures.sized in
    let near = c.requires.near in
    let weak : c.from.result ≡ c.in_ok-numbers.numbers.weak_count = c.from.ensures in
    let most = c.in_ok-numbers.ensures.1.few_weak in
    let long = len_few c.args.header.version c.stored_count-count.result c.stored_count-count.result (omega arith) in
    let len : c.locks_len.result ≡ locks_len c.args.header.version c.stored_count-count.result = c.locks_len.ensures in
    omega arith

pub read_cells-requires : goal.read_cells-requires
read_cells-requires c =
    let few = count_few c.args.header.version c.machine_of-set.result c.in_ok-table.table c.in_ok-blocks.blocks.items c.stored_count-count.result c.in_ok-size.size
    c.stored_count-count.ensures c.in_ok-blocks.ensures.blocks c.in_ok-blocks.ensures.few c.in_ok-size.ensures.sized in
    let near = c.requires.near in
    let weak : c.from.result ≡ c.in_ok-numbers.numbers.weak_count = c.from.ensures in
    let most = c.in_ok-numbers.ensures.1.few_weak in
    let long = len_few c.args.header.version c.stored_count-count.result c.stored_count-count.result (omega arith) in
    let len : c.locks_len.result ≡ locks_len c.args.header.version c.stored_count-count.result = c.locks_len.ensures in
    let size = (chip_size c.in_ok-size.size c.in_ok-size.ensures.sized).1 in
    record { near = omega arith }

pub make_cells-requires-clause-locks : goal.make_cells-requires-clause-locks
make_cells-requires-clause-locks c =
    let first = c.args.at + 536 + 4 * c.from.result + 4 in
    let locks = c.in_ok-locks.ensures.1 ∙ ap (λ (n : ℕ). locks_from c.args.file.now first n) c.stored_count-count.ensures in
    (λ i. is_none_or_each (length (c.in_ok-blocks.ensures.blocks i)) (length (locks i)))
    ∙ stored_fit c.args.header.version c.machine_of-set.result c.in_ok-table.table c.args.file.now first

pub locks_len-requires : goal.locks_len-requires
locks_len-requires c =
    let few = count_few c.args.header.version c.machine_of-set.result c.in_ok-table.table c.in_ok-blocks.blocks.items c.stored_count-count.result c.in_ok-size.size
    c.stored_count-count.ensures c.in_ok-blocks.ensures.blocks c.in_ok-blocks.ensures.few c.in_ok-size.ensures.sized in
    omega arith
