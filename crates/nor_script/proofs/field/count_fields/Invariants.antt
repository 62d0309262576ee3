use Rattle.std.proofs.Common.{◌≡◌, ◌+◌, ◌==◌, ◌≤◌, drop}
use Rattle.std.specs.Prelude.{count_by}
use Rattle.nor_script.proofs.field.count_fields.Given as goal

-- the spaces so far, and those to come
abbrev pub invariant-loop-byte : goal.invariant-loop-byte
invariant-loop-byte l = record {
  few : l.spaces ≤ l.byte-index;
  all : l.spaces + count_by (λ b. b == 0x20) (drop l.byte-index l.line) ≡ count_by (λ b. b == 0x20) l.line;
}
