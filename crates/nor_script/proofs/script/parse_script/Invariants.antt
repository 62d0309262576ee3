use Rattle.std.proofs.Common.{◌+◌, ◌≤◌, length}
use Rattle.nor_script.specs.Script.{script_of}
use Rattle.nor_script.proofs.Reading.{IsRead}
use Rattle.nor_script.proofs.script.parse_script.Given as goal

-- the lines so far are read, and each of them had a byte
abbrev pub invariant-lines : goal.invariant-lines
invariant-lines l = record {
  few : l.number + length l.rest ≤ length l.text;
  read : IsRead (script_of l.race l.text) l.race l.has_callers (l.number + 1) l.lines.items l.rest;
}

abbrev pub decreases-lines : goal.decreases-lines
decreases-lines l = length l.rest
