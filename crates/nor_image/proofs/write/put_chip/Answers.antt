use Rattle.std.proofs.Common.{◌≡◌, ℕ, List, length, subst, sym, ap, arith}
use Rattle.nor_cell.specs.Chip.{Part}
use Rattle.nor_image.specs.Image.{kept_locks}
use Rattle.nor_image.specs.Written.{kept_bytes}
use Rattle.nor_image.specs.Writing.{Puts}
use Rattle.nor_image.specs.declared.header.Version.TheVariants.{Two}
use Rattle.nor_image.proofs.ReadBack.{length-kept_bytes}
use Rattle.nor_image.proofs.write.put_chip.Goals as goal

pub put_cells-requires : goal.put_cells-requires
put_cells-requires g c =
    let s = g.C.Chip.state c.args.chip.now in
    let is = c.cells.ensures.cells in
    let long = length-kept_bytes Two s.part (kept_locks c.args.set s.part.table s.locks) s.cells s.suspends s.erases c.cells.ensures.ranges.table_size in
    let weak = ap (λ p. length p.weak) is.part in
    let cells = ap length is.bytes in
    let table = ap (λ (p : Part). p.table) is.part in
    let locks : length (kept_locks c.args.set s.part.table s.locks) ≡ length (kept_locks c.args.set c.cells.result.now.table c.cells.result.now.locks.items) =
    λ i. length (kept_locks c.args.set (table i) (is.locks i)) in
    let room = c.requires in
    omega arith

pub returns-clause-bytes : goal.returns-clause-bytes
unfolding kept_bytes
returns-clause-bytes g c =
    let is = c.cells.ensures.cells in
    subst (λ (bytes : List ℕ). Puts bytes c.args.at c.args.file.now c.put_cells.new.file c.put_cells.result)
    (sym (λ i. kept_bytes Two (is.part i) (kept_locks c.args.set (is.part i).table (is.locks i)) (is.bytes i) (is.suspends i) (is.erases i))) c.put_cells.ensures.kept
