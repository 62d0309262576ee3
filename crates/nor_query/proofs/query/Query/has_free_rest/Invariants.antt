use Rattle.std.proofs.Common.{◌≡◌, ◌<◌, ℕ, length, true, get_or}
use Rattle.nor_query.specs.Fields.{is_named}
use Rattle.nor_query.proofs.query.Query.has_free_rest.Given as goal

-- no place with a name has a byte so far
abbrev pub invariant-loop-at : goal.invariant-loop-at
invariant-loop-at l = (k : ℕ) → k < l.at → is_named l.self.set (length l.self.regions.items) l.self.ext k ≡ true → get_or l.self.rest k 0 ≡ 0
