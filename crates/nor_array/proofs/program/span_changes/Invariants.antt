use Rattle.std.proofs.Common.{◌≡◌, ◌+◌, ◌-◌}
use Rattle.nor_array.specs.Array.{lowest}
use Rattle.nor_array.specs.Admits.{would_change}
use Rattle.nor_array.proofs.program.span_changes.Given as goal

-- none below has passed
abbrev pub invariant-loop-place : goal.invariant-loop-place
invariant-loop-place l =
    lowest (would_change l.old l.at l.new) l.fn.span.from l.fn.span.len ≡ lowest (would_change l.old l.at l.new) l.place (l.fn.span.from + l.fn.span.len - l.place)
