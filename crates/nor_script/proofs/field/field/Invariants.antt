use Rattle.std.proofs.Common.{◌≡◌, ◌-◌}
use Rattle.nor_script.specs.Grammar.{field_of}
use Rattle.nor_script.proofs.field.field.Given as goal

-- the field is one of those that are left
abbrev pub invariant-loop : goal.invariant-loop
invariant-loop l = field_of l.rest (l.k - l.counter) ≡ field_of l.line l.k
