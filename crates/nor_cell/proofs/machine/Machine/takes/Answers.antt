use Rattle.std.proofs.Common.{◌≡◌, ◌+◌, ◌*◌, ◌/◌, ◌==◌, sym, ap, ◌∙◌, length, false}
use Rattle.nor_cell.specs.Bits.{unit_len}
use Rattle.nor_cell.specs.Chip.{ChipState, BufferData, block_of, place}
use Rattle.nor_cell.specs.Loads.{room}
use Rattle.nor_cell.specs.Machine.{step_of, takes}
use Rattle.nor_cell.proofs.Loading.{takes_later}
use Rattle.nor_cell.proofs.machine.Machine.takes.Goals as goal

pub returns-then-unit-at : goal.returns-then-unit-at
returns-then-unit-at c =
    let s = c.args.self.now in
    let d = c.in-BufferData in
    let load = c.self.inside.load.items in
    let step : s.step ≡ BufferData d.block d.missing d.first load = ap (λ (t : ChipState). t.step) (sym c.self.view_is) ∙ ap (λ k. step_of k load) d.is in
    let some : (length load == 0) ≡ false = sym c.is_empty.ensures ∙ c.if-is_empty.false in
    let same : block_of s c.args.at ≡ d.block = sym c.block_of.ensures ∙ c.if-block_of-block.true in
    let device : unit_len s.part.device ≡ c.unit_len-unit.result = ap (λ (t : ChipState). unit_len t.part.device) (sym c.self.view_is) ∙ sym c.unit_len-unit.ensures in
    let behind : place s.part c.args.at ≡ place s.part d.first + length load = rw device (c.if-unit-at.true ∙ ap (λ n. c.unit_len-unit.result * d.first + n) c.len.ensures.value) in
    let later : takes (BufferData d.block d.missing d.first load) s c.args.at ≡ (c.args.at / room s == d.first / room s) = takes_later s d.block d.missing d.first load c.args.at some same behind in
    ap (λ n. c.args.at / n == d.first / n) c.room-page.ensures.value ∙ sym later ∙ ap (λ k. takes k s c.args.at) (sym step)
