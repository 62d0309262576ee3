use Rattle.std.proofs.Common.{◌≤◌, ◌*◌, ◌^◌, ◌%◌, ℕ, arith, pow_mono}
use Rattle.nor_cell.proofs.table.most_reads.Goals as goal

-- so many reads fit
few_reads : (m : ℕ) → m ≤ 20 → 1 * 2 ^ m % 4294967296 ≤ 1048576
few_reads m least =
    let most : 2 ^ m ≤ 2 ^ 20 = pow_mono least in
    omega arith

pub returns-clause-few : goal.returns-clause-few
returns-clause-few c = few_reads c.min.result (omega arith)
