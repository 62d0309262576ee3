-- A write changes neither what the chip is, nor its cells, nor how many locks there are.
use Rattle.std.proofs.Common.{ℕ, length-set, rules}
use Rattle.nor_cell.specs.Chip.{ChipState, Mode, Step, Rest, Fault, Held}
use Rattle.nor_cell.specs.Look.{resumed_from}
use Rattle.nor_cell.specs.Amd.{array_steps, locks_steps, query_steps, mode_steps, abort_steps, fault_steps}
use Rattle.nor_cell.specs.Steps.{Keeps}

resumed_keeps : (h : Held) (s : ChipState) → Keeps s (resumed_from h s)
resumed_keeps h s = search rules

array_keeps : (k : Step) (s : ChipState) (u v code : ℕ) → Keeps s (array_steps k s u v code)
array_keeps Rest s u v code = search (rules, resumed_keeps)
array_keeps _ s u v code = search rules

locks_keep : (k : Step) (s : ChipState) (u code : ℕ) → Keeps s (locks_steps k s u code)
locks_keep k s u code = search (rules, length-set)

query_keeps : (k : Step) (s : ChipState) (code : ℕ) → Keeps s (query_steps k s code)
query_keeps k s code = search rules

abort_keeps : (k : Step) (s : ChipState) (u code : ℕ) → Keeps s (abort_steps k s u code)
abort_keeps k s u code = search rules

mode_keeps : (m : Mode) (s : ChipState) (u v : ℕ) → Keeps s (mode_steps m s u v)
mode_keeps m s u v = search (rules, array_keeps, locks_keep, query_keeps)

pub steps_keep : (f : Fault) (s : ChipState) (u v : ℕ) → Keeps s (fault_steps f s u v)
steps_keep f s u v = search (rules, mode_keeps, abort_keeps)
