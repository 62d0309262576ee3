use Rattle.nor_script.proofs.Answered.{answers_line, answers_more}
use Rattle.nor_script.proofs.laws.scripts_are_answered_line_by_line.Goals as goal

pub returns : goal.returns
returns c = record { line = answers_line; lines = answers_more }
