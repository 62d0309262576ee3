use Rattle.std.proofs.Common.{◌∙◌, arith}
use Rattle.nor_array.proofs.Programmed.{and_step, and_all}
use Rattle.nor_array.proofs.bytes_edits.and_each.Goals as goal

pub loop-i-preserved : goal.loop-i-preserved
loop-i-preserved c =
    and_step c.loop-i.i c.loop-i.bytes c.args.bytes.now c.args.new.now c.loop-i.invariant (omega arith) (omega arith)

pub returns : goal.returns
returns c =
    c.loop-i.invariant ∙ and_all c.loop-i.i c.args.bytes.now c.args.new.now (omega arith) (omega arith)
