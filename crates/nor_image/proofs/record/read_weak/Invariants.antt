use Rattle.nor_image.proofs.WeakPlaces.{AreWeak}
use Rattle.nor_image.proofs.record.read_weak.Given as goal

abbrev pub invariant-loop-k : goal.invariant-loop-k
invariant-loop-k l = AreWeak l.file l.device l.at l.size l.k l.least l.weak.items
