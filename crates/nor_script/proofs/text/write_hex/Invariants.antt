use Rattle.std.proofs.Common.{◌≡◌, ◌≤◌, false, length, drop}
use Rattle.std.specs.Fmt.{digits_onto, digits}
use Rattle.nor_script.proofs.text.write_hex.Given as goal

-- the digits of the rest stand before those that are written
abbrev pub invariant-loop-start : goal.invariant-loop-start
invariant-loop-start l = (l.start ≤ 64) × (length l.buffer ≡ 64) × (digits_onto l.start 16 false l.rest (drop l.start l.buffer) ≡ digits 16 false l.n)

abbrev pub decreases-loop-start : goal.decreases-loop-start
decreases-loop-start l = l.start
