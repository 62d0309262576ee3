use Rattle.std.proofs.Common.{◌≡◌, ◌+◌, ◌-◌, ◌*◌, ◌≤◌, ◌++◌, ℕ, List, sym, subst, ap, arith, ◌∙◌, length, true}
use Rattle.nor_cell.specs.Bits.{unit_len, unit_bytes}
use Rattle.nor_cell.specs.Chip.{ChipState, BufferData, BufferConfirm}
use Rattle.nor_cell.specs.Loads.{first_of}
use Rattle.nor_cell.specs.Machine.{machine_of, step_of, takes, loaded, StepFits, LoadFits}
use Rattle.nor_cell.specs.declared.device.Device.{Device}
use Rattle.nor_cell.specs.declared.state.NextStep.{NextStep}
use Rattle.nor_cell.proofs.Loading.{idle_fits, first_is, first_stays, load_inside, load_short, load_some, step_changes, loaded_more, loaded_last}
use Rattle.nor_cell.proofs.machine.Machine.take_unit.Goals as goal
use Rattle.nor_cell.proofs.machine.Machine.take_unit.Goals.{then-is_empty, else-is_empty, then-missing-gt1, else-missing-gt1}

pub invariant_of-self : goal.invariant_of-self
invariant_of-self c =
    let s = c.args.self.now in
    let z = c.self.inside.cells in
    let d = c.in-BufferData in
    let load = c.self.inside.load.items in
    let next = load ++ unit_bytes z.device c.args.value in
    let step : s.step ≡ BufferData d.block d.missing d.first load = ap (λ (t : ChipState). t.step) (sym c.self.view_is) ∙ ap (λ k. step_of k load) d.is in
    let first : c.if-is_empty.first ≡ first_of d.first load c.args.at = elim c.if-is_empty.branch [
      | then-is_empty w ↦ w.first-is ∙ sym (first_is d.first c.args.at load (sym c.is_empty.ensures ∙ w.if-is_empty.true))
      | else-is_empty w ↦ w.first-is ∙ sym (first_stays d.first c.args.at load (sym c.is_empty.ensures ∙ w.if-is_empty.false))
    ] in
    let fits : LoadFits d.missing d.first load z = subst (λ (k : NextStep). StepFits k load z) d.is c.self.invariant.step_inside in
    let takes_it : takes (BufferData d.block d.missing d.first load) s c.args.at ≡ true = subst (λ k. takes k s c.args.at ≡ true) step c.requires.next in
    let device : s.part.device ≡ z.device = ap (λ (t : ChipState). t.part.device) (sym c.self.view_is) in
    let cells : s.cells ≡ z.bytes.items = ap (λ (t : ChipState). t.cells) (sym c.self.view_is) in
    let inside : unit_len z.device * c.if-is_empty.first + length next ≤ length z.bytes.items =
    subst (λ (n : ℕ). unit_len z.device * n + length next ≤ length z.bytes.items) (sym first)
    (subst (λ (xs : List ℕ). unit_len z.device * first_of d.first load c.args.at + length next ≤ length xs) cells
    (subst (λ (w : Device). unit_len w * first_of d.first load c.args.at + length (load ++ unit_bytes w c.args.value) ≤ length s.cells) device
    (load_inside s d.block d.missing d.first load c.args.at c.args.value (length s.cells) takes_it c.requires.unit))) in
    let short : length next + unit_len z.device * (d.missing - 1) ≤ 512 = load_short z.device c.args.value load d.missing fits.short fits.some in
    let step_inside : StepFits c.if-missing-gt1.self next z = elim c.if-missing-gt1.branch [
      | then-missing-gt1 w ↦ subst (λ (k : NextStep). StepFits k next z) (sym w.self-is) (record { inside = inside; short = short; some = omega (arith, w.if-missing-gt1.true); room = fits.room })
      | else-missing-gt1 w ↦ subst (λ (k : NextStep). StepFits k next z) (sym w.self-is) (record { inside = inside; some = load_some z.device c.args.value load })
    ] in
    record { size = c.self.invariant.size; mode_offered = c.self.invariant.mode_offered; step_inside = subst (λ (l : List ℕ). StepFits c.if-missing-gt1.self l z) (sym c.push_unit.ensures) step_inside; job_inside = idle_fits c.self.inside.job load _ z (ap (λ (t : ChipState). t.job) c.self.view_is ∙ c.requires.job) }

pub returns-after-missing-gt1 : goal.returns-after-missing-gt1
returns-after-missing-gt1 c =
    let s = c.args.self.now in
    let m = c.self.inside in
    let d = c.in-BufferData in
    let load = c.self.inside.load.items in
    let next = load ++ unit_bytes m.cells.device c.args.value in
    let step : s.step ≡ BufferData d.block d.missing d.first load = ap (λ (t : ChipState). t.step) (sym c.self.view_is) ∙ ap (λ k. step_of k load) d.is in
    let first : c.if-is_empty.first ≡ first_of d.first load c.args.at = elim c.if-is_empty.branch [
      | then-is_empty w ↦ w.first-is ∙ sym (first_is d.first c.args.at load (sym c.is_empty.ensures ∙ w.if-is_empty.true))
      | else-is_empty w ↦ w.first-is ∙ sym (first_stays d.first c.args.at load (sym c.is_empty.ensures ∙ w.if-is_empty.false))
    ] in
    let changed = step_changes m.set m.cells m.mode m.step c.if-missing-gt1.self m.job m.held m.flags m.fault m.toggle_6 m.toggle_2 load next
    (ap (λ (t : ChipState). t.job) c.self.view_is ∙ c.requires.job) (ap (λ (t : ChipState). t.fault) c.self.view_is ∙ c.requires.fault) in
    let device : m.cells.device ≡ s.part.device = ap (λ (t : ChipState). t.part.device) c.self.view_is in
    let whole : record s { step = step_of c.if-missing-gt1.self next } ≡ loaded s.step s c.args.at c.args.value = elim c.if-missing-gt1.branch [
      | then-missing-gt1 w ↦
          ap (λ (k : NextStep). record s { step = step_of k next }) w.self-is
          ∙ ap (λ (n : ℕ). record s { step = BufferData d.block (d.missing - 1) n next }) first
          ∙ ap (λ (w : Device). record s { step = BufferData d.block (d.missing - 1) (first_of d.first load c.args.at) (load ++ unit_bytes w c.args.value) }) device
          ∙ loaded_more s d.block d.missing d.first load c.args.at c.args.value step w.if-missing-gt1.true
      | else-missing-gt1 w ↦
          ap (λ (k : NextStep). record s { step = step_of k next }) w.self-is
          ∙ ap (λ (n : ℕ). record s { step = BufferConfirm n next }) first
          ∙ ap (λ (w : Device). record s { step = BufferConfirm (first_of d.first load c.args.at) (load ++ unit_bytes w c.args.value) }) device
          ∙ loaded_last s d.block d.missing d.first load c.args.at c.args.value step w.if-missing-gt1.false
    ] in
    ap (λ (l : List ℕ). machine_of m.set m.cells m.mode c.if-missing-gt1.self m.job m.held m.flags m.fault m.toggle_6 m.toggle_2 l) c.push_unit.ensures
    ∙ changed ∙ ap (λ (t : ChipState). record t { step = step_of c.if-missing-gt1.self next }) c.self.view_is ∙ whole
