use Rattle.std.proofs.Common.{◌∙◌, length, drop, sym, ap, subst, arith}
use Rattle.nor_array.specs.declared.entry.Op.TheVariants.{EraseOpen, EraseAll as EraseAllOp}
use Rattle.nor_script.specs.declared.line.Word.{Word}
use Rattle.nor_race.specs.Tasks.{RunsWord}
use Rattle.nor_race.specs.declared.task.Task.{Task}
use Rattle.nor_race.proofs.Joining.{back_in_place}
use Rattle.nor_race.proofs.Working.{ran_word, ran_call, ran_erase}
use Rattle.nor_race.proofs.work.run_line.Goals.{in-Call, in-Erase, in-EraseAll}
use Rattle.nor_race.proofs.work.run_line.Goals as goal

pub returns-clause-runs : goal.returns-clause-runs
returns-clause-runs g c = elim c.match-line.branch [
  | in-Call w ↦
      ran_word c.args.lines.now c.args.driver.now.opening c.args.caller.now c.match-line.caller c.args.task.now c.match-line.task c.index-lines-task.result c.requires.line c.index-lines-task.is
      (ap (λ (t : Task). t.line) w.task-is)
      (subst (λ (word : Word). RunsWord word c.args.driver.now.opening c.args.caller.now c.match-line.caller c.match-line.task) (sym w.in-Call.is)
      (ran_call c.args.driver.now.opening w.in-Call.op w.call-task.new.into c.args.caller.now c.match-line.caller w.call-task.new.caller c.match-line.task w.call-task.result w.caller-is
      (ap (λ (t : Task). t.bytes.items) w.task-is
      ∙ back_in_place w.call-task.new.into (drop (length w.call-task.new.into) c.args.task.now.bytes.items) c.args.task.now.bytes.len
      (let a = w.call-task.auto.into in let b = w.as_mut_slice.ensures.len in omega (arith, a, b))) (ap (λ (t : Task). t.answer) w.task-is) (ap (λ (t : Task). t.close) w.task-is ∙ c.requires.line.none) w.call-task.ensures.called))
  | in-Erase w ↦
      ran_word c.args.lines.now c.args.driver.now.opening c.args.caller.now c.match-line.caller c.args.task.now c.match-line.task c.index-lines-task.result c.requires.line c.index-lines-task.is
      (ap (λ (t : Task). t.line) w.task-is)
      (subst (λ (word : Word). RunsWord word c.args.driver.now.opening c.args.caller.now c.match-line.caller c.match-line.task) (sym w.in-Erase.is)
      (ran_erase c.args.driver.now.opening (EraseOpen w.in-Erase.block) c.args.caller.now w.erase_start-task.new.caller c.match-line.caller w.close-task.new.caller c.match-line.task w.erase_start-task.result
      w.close-task.result w.caller-is (ap (λ (t : Task). t.answer) w.task-is) (ap (λ (t : Task). t.close) w.task-is) w.erase_start-task.ensures.called w.close-task.ensures.closes))
  | in-EraseAll w ↦
      ran_word c.args.lines.now c.args.driver.now.opening c.args.caller.now c.match-line.caller c.args.task.now c.match-line.task c.index-lines-task.result c.requires.line c.index-lines-task.is
      (ap (λ (t : Task). t.line) w.task-is)
      (subst (λ (word : Word). RunsWord word c.args.driver.now.opening c.args.caller.now c.match-line.caller c.match-line.task) (sym w.in-EraseAll.is)
      (ran_erase c.args.driver.now.opening EraseAllOp c.args.caller.now w.erase_all_start-task.new.caller c.match-line.caller w.close-task-in-EraseAll.new.caller c.match-line.task w.erase_all_start-task.result
      w.close-task-in-EraseAll.result w.caller-is (ap (λ (t : Task). t.answer) w.task-is) (ap (λ (t : Task). t.close) w.task-is) w.erase_all_start-task.ensures.called w.close-task-in-EraseAll.ensures.closes))
]
