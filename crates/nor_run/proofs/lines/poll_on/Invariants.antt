use Rattle.std.proofs.Common.{[]}
use Rattle.nor_array.specs.Array.{ArrayState}
use Rattle.nor_history.specs.Histories.{Leads}
use Rattle.nor_bank.specs.Stands.{Stands}
use Rattle.nor_bank.specs.Work.{KeepsBank}
use Rattle.nor_run.specs.Running.{IsPolled}
use Rattle.nor_run.proofs.Calling.{PollsNear, polls_left}
use Rattle.nor_run.proofs.lines.poll_on.Given as goal

abbrev pub invariant-polls : goal.invariant-polls
invariant-polls g l = record {
  waits : (a : ArrayState) → Stands l.fn.bank a → Leads [] l.fn.bank l.bank a;
  keeps : KeepsBank l.fn.bank l.bank;
  polled : IsPolled l.caller l.bank;
  near : PollsNear l.fn.bank l.bank;
}

abbrev pub decreases-polls : goal.decreases-polls
decreases-polls g l = polls_left l.bank
