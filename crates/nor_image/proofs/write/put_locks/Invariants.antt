use Rattle.std.proofs.Common.{◌++◌, length, map, take}
use Rattle.std.specs.Int.{w32, to_le_bytes, from_bool}
use Rattle.nor_image.specs.Writing.{Puts}
use Rattle.nor_image.proofs.write.put_locks.Given as goal

abbrev pub invariant-loop-locked : goal.invariant-loop-locked
invariant-loop-locked l = Puts (to_le_bytes w32 (length l.locks) ++ map from_bool (take l.locked-index l.locks)) l.fn.at l.fn.file l.file l.at
