use Rattle.nor_script.proofs.Callers.{says_races, says_script}
use Rattle.nor_script.proofs.laws.texts_say_scripts.Goals as goal

pub returns : goal.returns
returns c = record { scripts = says_script; races = says_races }
