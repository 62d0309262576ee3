use Rattle.std.proofs.Common.{◌≡◌, ◌∙◌, ℕ, List, length, ap, arith}
use Rattle.std.specs.List.{sum}
use Rattle.nor_drill.proofs.Sums.{all_bytes}
use Rattle.nor_drill.proofs.sum.sum_of_chip.Goals as goal

pub returns-clause-sum : goal.returns-clause-sum
returns-clause-sum g c =
    let done : c.loop-byte.byte-index ≡ length c.bytes_of-bytes.result.now = omega arith in
    c.loop-byte.invariant.sum ∙ all_bytes c.bytes_of-bytes.result.now c.loop-byte.byte-index done ∙ ap (λ (b : List ℕ). sum b) c.bytes_of-bytes.ensures.bytes
