use Rattle.std.proofs.Common.{◌≡◌, ◌<◌, ◌≤◌, ℕ, length, get_or}
use Rattle.std.specs.Prelude.{if◌then◌else◌}
use Rattle.nor_query.specs.Fields.{is_named}
use Rattle.nor_query.proofs.decoding.free_bytes.Given as goal

-- the places so far are done, and the others as they were
abbrev pub invariant-loop-at : goal.invariant-loop-at
invariant-loop-at l = record {
  len : length l.rest ≡ 512;
  done : (k : ℕ) → k < l.at → get_or l.rest k 0 ≡ (if is_named l.set l.regions l.ext k then 0 else get_or l.table k 0);
  left : (k : ℕ) → l.at ≤ k → get_or l.rest k 0 ≡ get_or l.table k 0;
}
