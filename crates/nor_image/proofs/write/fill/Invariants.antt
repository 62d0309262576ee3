use Rattle.std.proofs.Common.{length}
use Rattle.nor_bus.specs.Bus.{chip_at}
use Rattle.nor_image.specs.Written.{header_bytes, bank_set}
use Rattle.nor_image.specs.declared.header.Version.TheVariants.{Two}
use Rattle.nor_image.proofs.Putting.{IsFilled}
use Rattle.nor_image.proofs.write.fill.Given as goal

abbrev pub invariant-loop-lane : goal.invariant-loop-lane
invariant-loop-lane g l =
    IsFilled (bank_set l.bank.lanes) (header_bytes Two g.W.BusWord.WIDTH (chip_at l.bank.lanes 0).part.device (length l.bank.lanes)) l.bank.lanes l.lane l.fn.file l.file l.at
