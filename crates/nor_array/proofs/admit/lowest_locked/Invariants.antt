use Rattle.std.proofs.Common.{◌≡◌, ◌-◌, ◌&&◌, ℕ, Bool, length}
use Rattle.nor_array.specs.Array.{is_locked}
use Rattle.nor_array.specs.Refusals.{touches}
use Rattle.nor_array.specs.Array.{lowest}
use Rattle.nor_array.proofs.admit.lowest_locked.Given as goal

-- none below has passed
abbrev pub invariant-loop-block : goal.invariant-loop-block
invariant-loop-block l =
    let test : ℕ → Bool = λ b. touches l.array l.reach b && is_locked l.array b in
    lowest test 0 (length l.array.consts.blocks) ≡ lowest test l.block (length l.array.consts.blocks - l.block)
