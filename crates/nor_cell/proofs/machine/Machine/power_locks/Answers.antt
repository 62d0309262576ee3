use Rattle.std.proofs.Common.{◌≡◌, List, Bool, sym, subst, ap, ◌∙◌, replicate}
use Rattle.std.specs.Prelude.{vec_len}
use Rattle.nor_cell.specs.Chip.{ChipState}
use Rattle.nor_cell.specs.Machine.{machine_of}
use Rattle.nor_cell.specs.Power.{locks_after}
use Rattle.nor_cell.specs.Ranges.{AreOffered}
use Rattle.nor_cell.specs.Table.{has_locks}
use Rattle.nor_cell.specs.declared.device.Set.{Set}
use Rattle.nor_cell.proofs.Locking.{filled_offered, amd_keeps}
use Rattle.nor_cell.proofs.machine.Machine.power_locks.Goals as goal

pub invariant_of-self-inside-clause-offered : goal.invariant_of-self-inside-clause-offered
invariant_of-self-inside-clause-offered c =
    let table = c.self.inside.cells.table in
    let count = vec_len c.self.inside.cells.locks in
    let filled : c.fill.new.self.items ≡ replicate count (has_locks table) = c.fill.ensures.items (λ y e. e) ∙ ap (λ (b : Bool). replicate count b) c.has_locks-locked.ensures in
    subst (λ (l : List Bool). AreOffered table l) (sym filled) (filled_offered table count)

pub returns-in-Amd : goal.returns-in-Amd
returns-in-Amd c =
    let m = c.self.inside in
    let kept = amd_keeps m.cells.table m.cells.locks.items m.cells.offered ∙ ap (λ (set : Set). locks_after set m.cells.table m.cells.locks.items) (sym c.in-Amd.is) in
    subst (λ (s : ChipState). s ≡ record s { locks = locks_after s.part.set s.part.table s.locks }) c.self.view_is
    (ap (λ (l : List Bool). record (machine_of m.set m.cells m.mode m.step m.job m.held m.flags m.fault m.toggle_6 m.toggle_2 m.load.items) { locks = l }) kept)
