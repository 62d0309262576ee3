use Rattle.std.proofs.Common.{arith}
use Rattle.std.proofs.Math.ListN.{drop_of_length-le}
use Rattle.nor_script.proofs.Putting.{all_digits}
use Rattle.nor_script.proofs.text.write_hex.Goals as goal

pub loop-start-init : goal.loop-start-init
loop-start-init c = (omega arith, c.told-buffer, all_digits c.args.n _ (drop_of_length-le c.args.buffer.now {i = 64} (omega (arith, c.told-buffer))))
