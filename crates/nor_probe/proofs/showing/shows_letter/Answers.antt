use Rattle.std.proofs.Common.{◌∙◌, ℕ, List, ap, arith}
use Rattle.nor_cell.specs.Bits.{unit_len}
use Rattle.nor_bus.specs.Words.{query_word}
use Rattle.nor_bus.proofs.Sizes.{bus_units}
use Rattle.nor_probe.specs.Found.{lanes_read}
use Rattle.nor_probe.proofs.showing.shows_letter.Goals as goal

pub returns-clause-lanes : goal.returns-clause-lanes
returns-clause-lanes g c =
    let size = bus_units g.W.BusWord.WIDTH (g.B.Bus.state c.args.bus.now) c.read_query.ensures.wired in
    let low = c.query_address.ensures.low in
    c.in_ok-word.ensures.lanes (omega arith)

pub returns-clause-shows : goal.returns-clause-shows
returns-clause-shows g c = λ shows.
    let old = g.B.Bus.state c.args.bus.now in
    let size = bus_units g.W.BusWord.WIDTH old c.read_query.ensures.wired in
    let low = c.query_address.ensures.low in
    let word = c.in_ok-word.ensures.word (omega arith) shows in
    c.lanes_read.ensures ∙ (ap (λ (w : List ℕ). lanes_read (unit_len c.args.g.device) c.args.g.lanes w c.args.letter) word
    ∙ ap (λ (u : ℕ). lanes_read (unit_len c.args.g.device) c.args.g.lanes (query_word old.lanes u) c.args.letter) c.query_address.ensures.value)
