use Rattle.std.proofs.Common.{length}
use Rattle.nor_dump.proofs.changes.+is_ascending_below.Given as goal

abbrev pub decreases-is_ascending_below : goal.decreases-is_ascending_below
decreases-is_ascending_below l = length l.places.now
