use Rattle.std.proofs.Common.{◌≡◌, ◌<◌, ◌+◌, ◌-◌, ℕ, arith, subst, true}
use Rattle.nor_cell.specs.Chip.{block, block_at, is_within}
use Rattle.nor_bank.specs.State.{blocks_of}
use Rattle.nor_bank.proofs.Meeting.{range_count, range_touched}
use Rattle.nor_bank.proofs.bank.Bank.touched.Goals as goal

pub returns-in-Range-clause-touches : goal.returns-in-Range-clause-touches
returns-in-Range-clause-touches g c =
    let at = c.in-Range.at in
    let len = c.in-Range.len in
    let some : 0 < len = grind arith in
    let ends_in = subst (λ (p : ℕ). is_within (block (blocks_of c.self.inside.found) c.block_of-last.result) (p + len - 1) ≡ true) c.from.ensures c.block_of-last.ensures.inside in
    range_touched _ _ at len c.block_of.result c.block_of-last.result c.args.reach c.self.view_is c.in-Range.is some
    c.block_of.ensures.inside ends_in c.block_of.ensures.block c.block_of-last.ensures.block

pub returns-in-Range-clause-count : goal.returns-in-Range-clause-count
returns-in-Range-clause-count g c =
    let at = c.in-Range.at in
    let len = c.in-Range.len in
    let some : 0 < len = grind arith in
    let ends_in = subst (λ (p : ℕ). c.block_of-last.result ≡ block_at (blocks_of c.self.inside.found) (p + len - 1)) c.from.ensures c.block_of-last.ensures.first in
    range_count _ _ at len c.block_of.result c.block_of-last.result c.args.reach c.self.view_is c.in-Range.is some c.block_of.ensures.first ends_in
