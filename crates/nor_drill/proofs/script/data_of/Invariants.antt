use Rattle.std.proofs.Common.{◌≡◌, ◌+◌, ◌*◌, ◌%◌, map}
use Rattle.std.specs.List.{range_with_len}
use Rattle.nor_drill.proofs.script.data_of.Given as goal

abbrev pub invariant-loop-j : goal.invariant-loop-j
invariant-loop-j l = l.data.items ≡ map (λ j. (l.b + 37 * j) % 256) (range_with_len 0 l.j)
