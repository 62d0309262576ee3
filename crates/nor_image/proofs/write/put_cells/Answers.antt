use Rattle.std.proofs.Common.{◌≡◌, ◌++◌, ℕ, List, Bool, length, subst, ap, ◌∙◌, arith}
use Rattle.std.specs.Int.{w32, to_le_bytes}
use Rattle.nor_cell.specs.Cells.{part_of}
use Rattle.nor_cell.specs.declared.device.Set.TheVariants.{Intel}
use Rattle.nor_image.specs.Written.{number_bytes, place_bytes, lock_bytes, kept_bytes}
use Rattle.nor_image.specs.Writing.{Puts}
use Rattle.nor_image.specs.declared.header.Version.TheVariants.{Two}
use Rattle.nor_image.proofs.Putting.{puts_next}
use Rattle.nor_image.proofs.ReadBack.{length-place_bytes, length-lock_bytes, length-number_bytes}
use Rattle.nor_image.proofs.write.put_cells.Goals as goal

pub put_locks-at-requires : goal.put_locks-at-requires
put_locks-at-requires c =
    let numbers = length-number_bytes (part_of Intel c.args.cells.now) c.args.cells.now.suspends c.args.cells.now.erases in
    let a = c.put_numbers-at.ensures.numbers.end_is in
    let b = c.put-at.ensures.end_is in
    let d = c.put-at-2.ensures.end_is in
    let e = c.put_places-at.ensures.end_is in
    let f = c.put_numbers-at.ensures.numbers.size in
    let g = c.put-at.ensures.size in
    let h = c.put-at-2.ensures.size in
    let i = c.put_places-at.ensures.size in
    let four : length c.to_le_bytes.result ≡ 4 = ap length c.to_le_bytes.ensures in
    let long = length-place_bytes c.deref.result.now in
    let weak = ap length c.deref.ensures.value in
    let locks = ap (λ (ls : List Bool). length ls) c.kept_locks.ensures in
    omega arith

pub put-requires : goal.put-requires
put-requires c =
    let numbers = length-number_bytes (part_of Intel c.args.cells.now) c.args.cells.now.suspends c.args.cells.now.erases in
    let a = c.put_numbers-at.ensures.numbers.end_is in
    let b = c.put-at.ensures.end_is in
    let d = c.put-at-2.ensures.end_is in
    let e = c.put_places-at.ensures.end_is in
    let f = c.put_numbers-at.ensures.numbers.size in
    let g = c.put-at.ensures.size in
    let h = c.put-at-2.ensures.size in
    let i = c.put_places-at.ensures.size in
    let j = c.put_locks-at.ensures.end_is in
    let k = c.put_locks-at.ensures.size in
    let four : length c.to_le_bytes.result ≡ 4 = ap length c.to_le_bytes.ensures in
    let long = length-place_bytes c.deref.result.now in
    let weak = ap length c.deref.ensures.value in
    let locks = ap (λ (ls : List Bool). length ls) c.kept_locks.ensures in
    let bits = length-lock_bytes Two c.kept_locks.result.now in
    let bytes = ap length c.deref-2.ensures.value in
    omega arith

pub returns-clause-kept : goal.returns-clause-kept
unfolding kept_bytes
returns-clause-kept c =
    let all = puts_next (puts_next (puts_next (puts_next (puts_next c.put_numbers-at.ensures.numbers c.put-at.ensures) c.put-at-2.ensures) c.put_places-at.ensures) c.put_locks-at.ensures) c.put.ensures in
    let cells : c.len.result ≡ length c.args.cells.now.bytes.items = omega (arith, c.len.ensures, c.args.cells.now.bytes.ok) in
    let size = c.to_le_bytes.ensures ∙ ap (to_le_bytes w32) cells in
    subst (λ (bytes : List ℕ). Puts bytes c.args.at c.args.file.now c.put.new.file c.put.result)
    (λ i. number_bytes (part_of Intel c.args.cells.now) c.args.cells.now.suspends c.args.cells.now.erases ++ c.args.cells.now.table ++ size i ++ place_bytes (c.deref.ensures.value i) ++ lock_bytes Two (c.kept_locks.ensures i) ++ c.deref-2.ensures.value i)
    all
