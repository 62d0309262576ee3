use Rattle.std.proofs.Common.{◌≡◌, ◌-◌, length}
use Rattle.nor_region.specs.Map.{spans_of}
use Rattle.nor_array.specs.Array.{OfBlocks, lowest}
use Rattle.nor_array.specs.Refusals.{touches}
use Rattle.nor_array.proofs.refuse.lowest_touched.Given as goal

-- none below has passed
abbrev pub invariant-loop-block : goal.invariant-loop-block
invariant-loop-block l =
    OfBlocks (spans_of l.map) (λ a. lowest (touches a l.reach) 0 (length a.consts.blocks) ≡ lowest (touches a l.reach) l.block (length a.consts.blocks - l.block))
