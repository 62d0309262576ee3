use Rattle.std.proofs.Common.{take}
use Rattle.nor_image.specs.Written.{place_bytes}
use Rattle.nor_image.specs.Writing.{Puts}
use Rattle.nor_image.proofs.write.put_places.Given as goal

abbrev pub invariant-loop-place : goal.invariant-loop-place
invariant-loop-place l = Puts (place_bytes (take l.place-index l.places)) l.fn.at l.fn.file l.file l.at
