use Rattle.std.proofs.Common.{◌≡◌, length, ap, arith}
use Rattle.nor_cell.specs.Chip.{Part}
use Rattle.nor_image.specs.Image.{kept_locks}
use Rattle.nor_image.specs.declared.header.Version.TheVariants.{Two}
use Rattle.nor_image.proofs.ReadBack.{length-kept_bytes}
use Rattle.nor_image.proofs.write.chip_len.Goals as goal

pub returns : goal.returns
returns g c =
    let s = g.C.Chip.state c.args.chip.now in
    let is = c.cells.ensures.cells in
    let long = length-kept_bytes Two s.part (kept_locks c.args.set s.part.table s.locks) s.cells s.suspends s.erases c.cells.ensures.ranges.table_size in
    let weak = ap (λ p. length p.weak) is.part in
    let cells = ap length is.bytes in
    let table = ap (λ (p : Part). p.table) is.part in
    let locks : length (kept_locks c.args.set s.part.table s.locks) ≡ length (kept_locks c.args.set c.cells.result.now.table c.cells.result.now.locks.items) =
    λ i. length (kept_locks c.args.set (table i) (is.locks i)) in
    let value = c.record_len.ensures.value in
    omega arith
