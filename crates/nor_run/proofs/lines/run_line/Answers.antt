use Rattle.nor_run.proofs.Calling.{caller_of, call_word, erase_word, erase_all_word}
use Rattle.nor_run.proofs.lines.run_line.Goals as goal

pub run_call-requires-clause-own : goal.run_call-requires-clause-own
run_call-requires-clause-own g c = caller_of c.args.line.now.word c.in-Call.op c.args.line.now.caller c.in-Call.is c.requires.caller

pub returns-in-Call-clause-runs : goal.returns-in-Call-clause-runs
returns-in-Call-clause-runs g c =
    call_word g.T.Taker.takes c.args.line.now.word c.in-Call.op c.args.line.now.caller c.args.ran c.args.bank.now c.run_call.new.bank _ _ c.run_call.result c.in-Call.is c.run_call.ensures.runs

pub returns-in-Erase-clause-runs : goal.returns-in-Erase-clause-runs
returns-in-Erase-clause-runs g c =
    erase_word g.T.Taker.takes c.args.line.now.word c.in-Erase.block c.args.line.now.caller c.args.ran c.args.bank.now c.run_erase.new.bank _ _ c.run_erase.result c.in-Erase.is c.run_erase.ensures.runs

pub returns-in-EraseAll-clause-runs : goal.returns-in-EraseAll-clause-runs
returns-in-EraseAll-clause-runs g c =
    erase_all_word g.T.Taker.takes c.args.line.now.word c.args.line.now.caller c.args.ran c.args.bank.now c.run_erase-in-EraseAll.new.bank _ _ c.run_erase-in-EraseAll.result c.in-EraseAll.is c.run_erase-in-EraseAll.ensures.runs
