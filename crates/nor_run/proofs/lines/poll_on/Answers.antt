use Rattle.std.proofs.Common.{[]}
use Rattle.nor_array.specs.declared.entry.Op.TheVariants.{Poll}
use Rattle.nor_history.specs.Histories.{Makes}
use Rattle.nor_bank.proofs.Keeping.{keeps_call, keeps_bank_then}
use Rattle.nor_run.proofs.Calling.{near_all, near_more, polls_on, waits_more}
use Rattle.nor_run.proofs.lines.poll_on.Goals as goal

pub polls-preserved : goal.polls-preserved
polls-preserved g c =
    let made : Makes c.args.caller Poll c.polls.bank c.poll.new.self c.poll.result [] = record { call = c.poll.ensures.call; keeps = keeps_call c.args.caller Poll c.polls.bank c.poll.new.self c.poll.result c.poll.ensures.call.leaves } in
    record {
      waits = waits_more c.args.caller c.args.bank.now c.polls.bank c.poll.new.self c.poll.result c.in-NotYet.is c.polls.invariant.keeps c.polls.invariant.waits made;
      keeps = keeps_bank_then c.args.bank.now c.polls.bank c.poll.new.self c.polls.invariant.keeps made.keeps;
      near =
          near_more c.args.caller c.args.bank.now c.polls.bank c.poll.new.self c.poll.result c.polls.invariant.near made
          (polls_on c.args.caller c.polls.bank c.poll.new.self c.poll.result c.in-NotYet.is c.polls.invariant.polled made).fewer;
      polled = (polls_on c.args.caller c.polls.bank c.poll.new.self c.poll.result c.in-NotYet.is c.polls.invariant.polled made).polled;
    }

pub returns-in_default : goal.returns-in_default
returns-in_default g c =
    let kept = keeps_call c.args.caller Poll c.polls.bank c.poll.new.self c.poll.result c.poll.ensures.call.leaves in
    record {
      polls = record {
        mid = c.polls.bank;
        keeps = c.polls.invariant.keeps;
        waits = c.polls.invariant.waits;
        after = c.polls.invariant.near.after;
        near = near_all c.args.bank.now c.polls.bank c.polls.invariant.near;
        last = record { call = c.poll.ensures.call; keeps = kept };
        ended = c.in_default.not-NotYet;
      };
      keeps = keeps_bank_then c.args.bank.now c.polls.bank c.poll.new.self c.polls.invariant.keeps kept;
    }
