use Rattle.std.proofs.Common.{rules}
use Rattle.nor_intel.proofs.commands.command.Goals as goal
use Rattle.nor_intel.proofs.commands.command.Goals.{in_default-via-in-64+else-takes_jobs-3, in_default-via-in-232+else-loads, in_default-via-in-32+else-takes_jobs-4, in_default-via-in-96+else-takes_jobs-5, in_default-via-in-208+else-resumes, in_default-via-in_default-1}

pub returns-in_default : goal.returns-in_default
returns-in_default c = elim c.in_default.branch [
  | in_default-via-in-64+else-takes_jobs-3 w ↦ search rules
  | in_default-via-in-232+else-loads w ↦ search rules
  | in_default-via-in-32+else-takes_jobs-4 w ↦ search rules
  | in_default-via-in-96+else-takes_jobs-5 w ↦ search rules
  | in_default-via-in-208+else-resumes w ↦ search rules
  | in_default-via-in_default-1 w ↦ search rules
]
