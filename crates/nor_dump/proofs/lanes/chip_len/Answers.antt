use Rattle.std.proofs.Common.{◌≡◌, ℕ, sym, subst, true, rules}
use Rattle.nor_cell.specs.Ranges.{is_chip_size}
use Rattle.nor_dump.specs.Made.{chip_size}
use Rattle.nor_dump.proofs.Sizes.{table_sized}
use Rattle.nor_dump.proofs.lanes.chip_len.Goals as goal

pub returns-clause-sized : goal.returns-clause-sized
returns-clause-sized c =
    let is : c.size.result ≡ chip_size c.args.table.now = search rules in
    subst (λ (n : ℕ). is_chip_size n ≡ true) (sym is) (table_sized c.args.table.now c.requires)
