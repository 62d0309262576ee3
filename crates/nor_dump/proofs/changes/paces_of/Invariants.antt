use Rattle.std.proofs.Common.{◌≡◌, drop}
use Rattle.nor_dump.specs.Changes.{paces_from}
use Rattle.nor_dump.proofs.changes.paces_of.Given as goal

-- the changes to come give the paces of all
abbrev pub invariant-loop-change : goal.invariant-loop-change
invariant-loop-change l = paces_from l.paces (drop l.change-index l.changes) ≡ paces_from l.initial.paces l.changes
