use Rattle.std.proofs.Common.{◌≡◌, ◌+◌, ◌==◌, drop}
use Rattle.std.specs.List.{position_or_len}
use Rattle.nor_script.proofs.field.end_of.Given as goal

-- none so far
abbrev pub invariant-loop-k : goal.invariant-loop-k
invariant-loop-k l = l.k + position_or_len (λ b. b == l.end) (drop l.k l.text) ≡ position_or_len (λ b. b == l.end) l.text
