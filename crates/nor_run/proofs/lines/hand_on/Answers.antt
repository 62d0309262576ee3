use Rattle.nor_run.proofs.Calling.{counted_one}
use Rattle.nor_run.proofs.lines.hand_on.Goals as goal

pub returns-in-Ok : goal.returns-in-Ok
returns-in-Ok g c = (
  c.in-Ok.ensures,
  counted_one c.args.ran (record { caller = c.args.caller; op = c.args.op.now; reply = c.args.reply; bytes = c.args.bytes.now }) c.ran_on.result c.ran_on.ensures,
)

pub returns-in-Err : goal.returns-in-Err
returns-in-Err g c = c.in-Err.ensures
