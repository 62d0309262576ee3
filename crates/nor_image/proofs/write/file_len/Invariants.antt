use Rattle.std.proofs.Common.{◌≡◌, ◌<◌, ◌+◌, ◌-◌, ◌^◌, length, take}
use Rattle.nor_image.specs.Written.{bank_set, records_bytes}
use Rattle.nor_image.specs.declared.header.Version.TheVariants.{Two}
use Rattle.nor_image.proofs.write.file_len.Given as goal

abbrev pub invariant-loop-lane : goal.invariant-loop-lane
invariant-loop-lane g l = l.len < 2 ^ 64 - 1 → l.len ≡ 12 + length (records_bytes Two (bank_set l.bank.lanes) (take l.lane l.bank.lanes))
