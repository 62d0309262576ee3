use Rattle.std.proofs.Common.{◌≡◌, ◌∙◌, sym, ap, subst, arith, ℕ, List, IfOk}
use Rattle.nor_cell.specs.Bits.{unit_len}
use Rattle.nor_bus.specs.Words.{query_word}
use Rattle.nor_bus.proofs.Sizes.{bus_units}
use Rattle.nor_probe.specs.Tables.{table_word, low_byte, difference_in}
use Rattle.nor_probe.proofs.TablesRead.{known_low, none_odd, none_differs, first_lane}
use Rattle.nor_probe.proofs.tables.byte_at.Goals as goal

pub returns-in-Some-clause-differs : goal.returns-in-Some-clause-differs
returns-in-Some-clause-differs g c = λ all shows.
    let chips = (g.B.Bus.state c.args.bus.now).lanes in
    let known = sym c.known_byte.ensures ∙ c.in-Some.is in
    none_differs c.args.g c.args.offset (table_word c.args.g chips c.args.offset)
    (none_odd c.args.g (table_word c.args.g chips c.args.offset) c.in-Some.byte (first_lane g.W.BusWord.WIDTH c.args.g.lanes (unit_len c.args.g.device) c.requires.wiring)
    (λ k below. known_low c.args.g chips c.args.offset c.in-Some.byte k known shows below))

pub returns-in-Some-clause-byte : goal.returns-in-Some-clause-byte
returns-in-Some-clause-byte g c = λ all shows.
    let known = sym c.known_byte.ensures ∙ c.in-Some.is in
    sym (known_low c.args.g (g.B.Bus.state c.args.bus.now).lanes c.args.offset c.in-Some.byte 0 known shows
    (first_lane g.W.BusWord.WIDTH c.args.g.lanes (unit_len c.args.g.device) c.requires.wiring))

pub returns-clause-lanes : goal.returns-clause-lanes
returns-clause-lanes g c =
    let size = bus_units g.W.BusWord.WIDTH (g.B.Bus.state c.args.bus.now) c.read_query.ensures.wired in
    let low = c.query_address.ensures.low in
    c.in_ok-word.ensures.lanes (omega arith)

pub returns-clause-differs : goal.returns-clause-differs
returns-clause-differs g c = λ all shows.
    let old = g.B.Bus.state c.args.bus.now in
    let size = bus_units g.W.BusWord.WIDTH old c.read_query.ensures.wired in
    let low = c.query_address.ensures.low in
    let word = c.in_ok-word.ensures.word (omega arith) all ∙ ap (query_word old.lanes) c.query_address.ensures.value in
    c.common_byte.ensures.differs ∙ ap (difference_in c.args.g c.args.offset) word

pub returns-clause-byte : goal.returns-clause-byte
returns-clause-byte g c = λ all shows.
    let old = g.B.Bus.state c.args.bus.now in
    let size = bus_units g.W.BusWord.WIDTH old c.read_query.ensures.wired in
    let low = c.query_address.ensures.low in
    let word = c.in_ok-word.ensures.word (omega arith) all ∙ ap (query_word old.lanes) c.query_address.ensures.value in
    subst (λ (w : List ℕ). IfOk c.common_byte.result (λ byte. byte ≡ low_byte c.args.g w 0)) word c.common_byte.ensures.byte
