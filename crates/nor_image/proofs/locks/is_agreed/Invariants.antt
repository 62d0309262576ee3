use Rattle.std.proofs.Common.{◌≡◌, true, take}
use Rattle.nor_image.specs.Image.{is_agreed}
use Rattle.nor_image.specs.Reading.{kept_of_each}
use Rattle.nor_image.proofs.locks.is_agreed.Given as goal

abbrev pub invariant-loop-cells : goal.invariant-loop-cells
invariant-loop-cells l = is_agreed (kept_of_each l.set (take l.cells-index l.before)) l.count l.k l.locked ≡ true
