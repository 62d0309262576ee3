use Rattle.std.proofs.Common.{◌≡◌, ◌++◌, drop, string_bytes}
use Rattle.nor_show.specs.Lines.{spaced}
use Rattle.nor_show.proofs.lines.write_spaced.Given as goal

-- what was written, and the numbers to come
abbrev pub invariant-loop-number : goal.invariant-loop-number
invariant-loop-number l = string_bytes l.text ++ spaced (drop l.number-index l.numbers) ≡ string_bytes l.initial.text ++ spaced l.numbers
