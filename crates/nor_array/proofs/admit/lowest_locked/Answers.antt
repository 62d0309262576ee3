use Rattle.std.proofs.Common.{◌+◌, ◌-◌, ◌&&◌, ℕ, Bool, sym, arith, length, ◌∙◌}
use Rattle.nor_array.specs.Array.{is_locked}
use Rattle.nor_array.specs.Refusals.{touches}
use Rattle.nor_array.proofs.Lowest.{lowest_over}
use Rattle.nor_array.proofs.admit.lowest_locked.Goals as goal

pub loop-block-preserved : goal.loop-block-preserved
loop-block-preserved c =
    let test : ℕ → Bool = λ b. touches c.args.array.now c.args.reach b && is_locked c.args.array.now b in
    c.loop-block.invariant ∙ lowest_over test c.loop-block.block (length c.args.array.now.consts.blocks - c.loop-block.block) (length c.args.array.now.consts.blocks - (c.loop-block.block + 1)) (omega arith) (sym c.touches_locked.ensures ∙ c.if-touches_locked.false)
