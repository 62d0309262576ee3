use Rattle.std.proofs.Common.{◌≤◌, ◌+◌, ◌-◌, ◌/◌, ℕ, length, map, refl, ap, ◌∙◌, arith, Bool}
use Rattle.nor_cell.proofs.Logic.{quotient_rises}
use Rattle.nor_bank.specs.Pieces.{due_in}
use Rattle.nor_bank.proofs.Padding.{some_byte}
use Rattle.nor_bank.proofs.PiecesEnds.{read_leaves, read_lost, so_none}
use Rattle.nor_bank.proofs.PiecesKept.{Keeps, Passed, kept_size, so_next}
use Rattle.nor_bank.proofs.PiecesStops.{ends_becomes, ends_cost, ends_run, ends_takes, ends_there, in_range_of, stops_becomes, stops_run, stops_takes, stops_there}
use Rattle.nor_bank.proofs.WordByWord.{goes_so, of_range, stops_so}
use Rattle.nor_bank.proofs.pieces.program_range.Goals as goal

pub loop-u-init : goal.loop-u-init
loop-u-init g c = record {
  size = refl;
  so = so_none g.W.BusWord.WIDTH c.args.found.now c.args.at c.args.new.now c.word_of-first.result c.word_of-last.result _ (g.B.Bus.state c.args.bus.now) c.word_of-first.ensures;
}

-- ---- what the calls ask for

pub due_words-due-requires-clause-before : goal.due_words-due-requires-clause-before
due_words-due-requires-clause-before g c = let order = c.loop-u.invariant.so.order in omega (arith, order)

pub program_waiting-requires : goal.program_waiting-requires
program_waiting-requires g c =
    let order = c.loop-u.invariant.so.order in
    let few = c.loop-u.invariant.so.few in
    let within = c.due_words-due.ensures.within in
    let compact = g.met.W.BusWord.compact in
    (omega (arith, compact), (c.requires.wiring, (omega (arith, order, within), (omega (arith, few, within), λ several. c.loop-u.invariant.so.buffered (omega (arith, several, within))))))

pub program_waiting-requires-2 : goal.program_waiting-requires-2
program_waiting-requires-2 g c =
    let order = c.loop-u.invariant.so.order in
    let few = c.loop-u.invariant.so.few in
    let some = c.requires.some in
    let first = c.word_of-first.ensures in
    let last = c.word_of-last.ensures in
    let rises = quotient_rises c.args.at (c.args.at + (length c.args.new.now - 1)) g.W.BusWord.WIDTH (some_byte g.W.BusWord.WIDTH g.met.W.BusWord.sized) (omega arith) in
    let near = c.loop-u.auto.u-end (omega (arith, first, last, rises)) in
    let compact = g.met.W.BusWord.compact in
    (omega (arith, compact), (c.requires.wiring, (omega (arith, order, near), (omega (arith, few), c.loop-u.invariant.so.buffered))))

-- ---- a word couldn't be read

pub returns-in-Err-clause-becomes : goal.returns-in-Err-clause-becomes
returns-in-Err-clause-becomes g c = λ can.
    let u = c.loop-u.u in
    let first = c.word_of-first.result in
    read_leaves g.W.BusWord.WIDTH c.args.found.now c.args.at c.args.new.now first c.word_of-last.result (u - first) u c.loop-u.waiting (map g.W.BusWord.bytes c.loop-u.words)
    (g.B.Bus.state c.args.bus.now) (g.B.Bus.state c.loop-u.bus) (g.B.Bus.state c.changed_word.new.bus) c.loop-u.invariant.so c.in-Err.ensures.lost c.in-Err.ensures.fails can

pub returns-in-Err-clause-takes : goal.returns-in-Err-clause-takes
returns-in-Err-clause-takes g c =
    let w = g.W.BusWord.WIDTH in
    let first = c.word_of-first.result in
    let last = c.word_of-last.result in
    let less = c.loop-u-test.true in
    let in_range = in_range_of w c.args.at (length c.args.new.now) first last c.loop-u.u (some_byte w g.met.W.BusWord.sized) c.requires.some c.word_of-first.ensures c.word_of-last.ensures c.loop-u.auto.u
    (omega (arith, less)) in
    read_lost w c.args.found.now c.args.at c.args.new.now first last c.loop-u.u c.loop-u.waiting (map g.W.BusWord.bytes c.loop-u.words)
    (g.B.Bus.state c.args.bus.now) (g.B.Bus.state c.loop-u.bus) (g.B.Bus.state c.changed_word.new.bus) in_range less c.loop-u.invariant.so c.in-Err.ensures.lost

-- ---- a piece in which it ends

pub returns-in_default-clause-becomes : goal.returns-in_default-clause-becomes
returns-in_default-clause-becomes g c = λ can.
    let w = g.W.BusWord.WIDTH in
    let f = c.args.found.now in
    let first = c.word_of-first.result in
    let last = c.word_of-last.result in
    let less = c.loop-u-test.true in
    let old = g.B.Bus.state c.args.bus.now in
    let now = g.B.Bus.state c.loop-u.bus in
    let mid = g.B.Bus.state c.changed_word.new.bus in
    let after = g.B.Bus.state c.program_waiting.new.bus in
    let due = c.due_words-due.result in
    let wide = some_byte w g.met.W.BusWord.sized in
    let of = of_range c.args.at (length c.args.new.now) w first last c.loop-u.u wide c.requires.some c.word_of-first.ensures (c.word_of-last.ensures ∙ ap (λ (n : ℕ). n / w) (let some = c.requires.some in omega (arith, some))) c.loop-u.auto.u less in
    let in_range = in_range_of w c.args.at (length c.args.new.now) first last c.loop-u.u wide c.requires.some c.word_of-first.ensures c.word_of-last.ensures c.loop-u.auto.u (omega (arith, less)) in
    let passed : Passed g.W.BusWord.bytes w f c.args.at c.args.new.now c.loop-u.u c.loop-u.waiting due c.loop-u.words c.in-Ok.word c.program_waiting.result now mid after = record {
      went = c.in-Ok.ensures.went;
      reads = λ can. c.in-Ok.ensures.tells f can of.meets;
      due_is = c.due_words-due.ensures.due ∙ ap (λ (b : Bool). due_in w f c.loop-u.waiting c.loop-u.u b) c.is_some.ensures;
      takes = c.program_waiting.ensures.takes;
      none = c.program_waiting.ensures.none;
      becomes = c.program_waiting.ensures.becomes;
    } in
    stops_becomes g.W.BusWord.bytes w f c.args.at c.args.new.now first last c.loop-u.u c.loop-u.waiting c.loop-u.words c.in-Ok.word c.program_waiting.result old now mid after in_range less c.loop-u.invariant
    (stops_so c.program_waiting.result c.in_default.not-Skipped c.in_default.not-Stored) due passed c.program_waiting.ensures.this can

pub returns-in_default-clause-takes : goal.returns-in_default-clause-takes
returns-in_default-clause-takes g c =
    let w = g.W.BusWord.WIDTH in
    let f = c.args.found.now in
    let first = c.word_of-first.result in
    let last = c.word_of-last.result in
    let less = c.loop-u-test.true in
    let old = g.B.Bus.state c.args.bus.now in
    let now = g.B.Bus.state c.loop-u.bus in
    let mid = g.B.Bus.state c.changed_word.new.bus in
    let after = g.B.Bus.state c.program_waiting.new.bus in
    let due = c.due_words-due.result in
    let wide = some_byte w g.met.W.BusWord.sized in
    let of = of_range c.args.at (length c.args.new.now) w first last c.loop-u.u wide c.requires.some c.word_of-first.ensures (c.word_of-last.ensures ∙ ap (λ (n : ℕ). n / w) (let some = c.requires.some in omega (arith, some))) c.loop-u.auto.u less in
    let in_range = in_range_of w c.args.at (length c.args.new.now) first last c.loop-u.u wide c.requires.some c.word_of-first.ensures c.word_of-last.ensures c.loop-u.auto.u (omega (arith, less)) in
    let passed : Passed g.W.BusWord.bytes w f c.args.at c.args.new.now c.loop-u.u c.loop-u.waiting due c.loop-u.words c.in-Ok.word c.program_waiting.result now mid after = record {
      went = c.in-Ok.ensures.went;
      reads = λ can. c.in-Ok.ensures.tells f can of.meets;
      due_is = c.due_words-due.ensures.due ∙ ap (λ (b : Bool). due_in w f c.loop-u.waiting c.loop-u.u b) c.is_some.ensures;
      takes = c.program_waiting.ensures.takes;
      none = c.program_waiting.ensures.none;
      becomes = c.program_waiting.ensures.becomes;
    } in
    stops_takes g.W.BusWord.bytes w f c.args.at c.args.new.now first last c.loop-u.u c.loop-u.waiting c.loop-u.words c.in-Ok.word c.program_waiting.result old now mid after in_range less c.loop-u.invariant
    (stops_so c.program_waiting.result c.in_default.not-Skipped c.in_default.not-Stored) due passed c.program_waiting.ensures.this

pub returns-in_default-clause-there : goal.returns-in_default-clause-there
returns-in_default-clause-there g c =
    let w = g.W.BusWord.WIDTH in
    let f = c.args.found.now in
    let first = c.word_of-first.result in
    let last = c.word_of-last.result in
    let less = c.loop-u-test.true in
    let old = g.B.Bus.state c.args.bus.now in
    let now = g.B.Bus.state c.loop-u.bus in
    let mid = g.B.Bus.state c.changed_word.new.bus in
    let after = g.B.Bus.state c.program_waiting.new.bus in
    let due = c.due_words-due.result in
    let wide = some_byte w g.met.W.BusWord.sized in
    let of = of_range c.args.at (length c.args.new.now) w first last c.loop-u.u wide c.requires.some c.word_of-first.ensures (c.word_of-last.ensures ∙ ap (λ (n : ℕ). n / w) (let some = c.requires.some in omega (arith, some))) c.loop-u.auto.u less in
    let in_range = in_range_of w c.args.at (length c.args.new.now) first last c.loop-u.u wide c.requires.some c.word_of-first.ensures c.word_of-last.ensures c.loop-u.auto.u (omega (arith, less)) in
    let passed : Passed g.W.BusWord.bytes w f c.args.at c.args.new.now c.loop-u.u c.loop-u.waiting due c.loop-u.words c.in-Ok.word c.program_waiting.result now mid after = record {
      went = c.in-Ok.ensures.went;
      reads = λ can. c.in-Ok.ensures.tells f can of.meets;
      due_is = c.due_words-due.ensures.due ∙ ap (λ (b : Bool). due_in w f c.loop-u.waiting c.loop-u.u b) c.is_some.ensures;
      takes = c.program_waiting.ensures.takes;
      none = c.program_waiting.ensures.none;
      becomes = c.program_waiting.ensures.becomes;
    } in
    stops_there g.W.BusWord.bytes w f c.args.at c.args.new.now first last c.loop-u.u c.loop-u.waiting c.loop-u.words c.in-Ok.word c.program_waiting.result old now mid after in_range less c.loop-u.invariant
    (stops_so c.program_waiting.result c.in_default.not-Skipped c.in_default.not-Stored) due passed c.program_waiting.ensures.this wide

pub returns-in_default-clause-run : goal.returns-in_default-clause-run
returns-in_default-clause-run g c = λ can.
    let w = g.W.BusWord.WIDTH in
    let f = c.args.found.now in
    let first = c.word_of-first.result in
    let last = c.word_of-last.result in
    let less = c.loop-u-test.true in
    let old = g.B.Bus.state c.args.bus.now in
    let now = g.B.Bus.state c.loop-u.bus in
    let mid = g.B.Bus.state c.changed_word.new.bus in
    let after = g.B.Bus.state c.program_waiting.new.bus in
    let due = c.due_words-due.result in
    let wide = some_byte w g.met.W.BusWord.sized in
    let of = of_range c.args.at (length c.args.new.now) w first last c.loop-u.u wide c.requires.some c.word_of-first.ensures (c.word_of-last.ensures ∙ ap (λ (n : ℕ). n / w) (let some = c.requires.some in omega (arith, some))) c.loop-u.auto.u less in
    let in_range = in_range_of w c.args.at (length c.args.new.now) first last c.loop-u.u wide c.requires.some c.word_of-first.ensures c.word_of-last.ensures c.loop-u.auto.u (omega (arith, less)) in
    let passed : Passed g.W.BusWord.bytes w f c.args.at c.args.new.now c.loop-u.u c.loop-u.waiting due c.loop-u.words c.in-Ok.word c.program_waiting.result now mid after = record {
      went = c.in-Ok.ensures.went;
      reads = λ can. c.in-Ok.ensures.tells f can of.meets;
      due_is = c.due_words-due.ensures.due ∙ ap (λ (b : Bool). due_in w f c.loop-u.waiting c.loop-u.u b) c.is_some.ensures;
      takes = c.program_waiting.ensures.takes;
      none = c.program_waiting.ensures.none;
      becomes = c.program_waiting.ensures.becomes;
    } in
    stops_run g.W.BusWord.bytes w f c.args.at c.args.new.now first last c.loop-u.u c.loop-u.waiting c.loop-u.words c.in-Ok.word c.program_waiting.result old now mid after in_range less c.loop-u.invariant
    (stops_so c.program_waiting.result c.in_default.not-Skipped c.in_default.not-Stored) due passed c.program_waiting.ensures.this can

pub returns-in_default-clause-costs : goal.returns-in_default-clause-costs
returns-in_default-clause-costs g c = λ goes. absurd (let stops = stops_so c.program_waiting.result c.in_default.not-Skipped c.in_default.not-Stored in cc)

-- ---- one word more

pub loop-u-preserved : goal.loop-u-preserved
loop-u-preserved g c =
    let w = g.W.BusWord.WIDTH in
    let f = c.args.found.now in
    let first = c.word_of-first.result in
    let last = c.word_of-last.result in
    let less = c.loop-u-test.true in
    let old = g.B.Bus.state c.args.bus.now in
    let now = g.B.Bus.state c.loop-u.bus in
    let mid = g.B.Bus.state c.changed_word.new.bus in
    let after = g.B.Bus.state c.program_waiting.new.bus in
    let due = c.due_words-due.result in
    let wide = some_byte w g.met.W.BusWord.sized in
    let of = of_range c.args.at (length c.args.new.now) w first last c.loop-u.u wide c.requires.some c.word_of-first.ensures (c.word_of-last.ensures ∙ ap (λ (n : ℕ). n / w) (let some = c.requires.some in omega (arith, some))) c.loop-u.auto.u less in
    let in_range = in_range_of w c.args.at (length c.args.new.now) first last c.loop-u.u wide c.requires.some c.word_of-first.ensures c.word_of-last.ensures c.loop-u.auto.u (omega (arith, less)) in
    let passed : Passed g.W.BusWord.bytes w f c.args.at c.args.new.now c.loop-u.u c.loop-u.waiting due c.loop-u.words c.in-Ok.word c.program_waiting.result now mid after = record {
      went = c.in-Ok.ensures.went;
      reads = λ can. c.in-Ok.ensures.tells f can of.meets;
      due_is = c.due_words-due.ensures.due ∙ ap (λ (b : Bool). due_in w f c.loop-u.waiting c.loop-u.u b) c.is_some.ensures;
      takes = c.program_waiting.ensures.takes;
      none = c.program_waiting.ensures.none;
      becomes = c.program_waiting.ensures.becomes;
    } in
    let size = c.loop-u.invariant.size in
    let room = c.due_words-due.ensures.room in
    let keeps : Keeps c.loop-u.waiting due c.keep_word-waiting.result c.loop-u.words c.keep_word-waiting.new.words c.in-Ok.word =
    record { room = omega (arith, size, room); none = c.keep_word-waiting.ensures.none; some = c.keep_word-waiting.ensures.some } in
    record {
      size = kept_size c.loop-u.waiting due c.keep_word-waiting.result c.loop-u.words c.keep_word-waiting.new.words c.in-Ok.word keeps ∙ size;
      so = so_next g.W.BusWord.bytes w f c.args.at c.args.new.now first c.loop-u.u c.loop-u.waiting due c.keep_word-waiting.result c.loop-u.words c.keep_word-waiting.new.words c.program_waiting.result
          old now mid after c.loop-u.auto.u of.meets size (goes_so c.program_waiting.result c.in-Skipped.is) c.loop-u.invariant.so c.in-Ok.word passed keeps;
    }

-- ---- behind the last word

pub returns-clause-becomes : goal.returns-clause-becomes
returns-clause-becomes g c = λ can.
    let w = g.W.BusWord.WIDTH in
    let f = c.args.found.now in
    let first = c.word_of-first.result in
    let last = c.word_of-last.result in
    let old = g.B.Bus.state c.args.bus.now in
    let mid = g.B.Bus.state c.loop-u.bus in
    let after = g.B.Bus.state c.program_waiting-2.new.bus in
    let wide = some_byte w g.met.W.BusWord.sized in
    let starts = c.word_of-first.ensures in
    let ends = c.word_of-last.ensures in
    let rises = quotient_rises c.args.at (c.args.at + (length c.args.new.now - 1)) w wide (omega arith) in
    let order : first ≤ last = omega (arith, starts, ends, rises) in
    let near = c.loop-u.auto.u-end (omega (arith, order)) in
    let far = c.loop-u-test.false in
    let in_range = in_range_of w c.args.at (length c.args.new.now) first last (last + 1) wide c.requires.some starts ends (omega (arith, order)) (omega arith) in
    ends_becomes g.W.BusWord.bytes w f c.args.at c.args.new.now first last c.loop-u.u c.loop-u.waiting c.loop-u.words c.program_waiting-2.result old mid after wide in_range (omega (arith, near, far)) c.loop-u.invariant
    c.program_waiting-2.ensures.takes c.program_waiting-2.ensures.becomes c.program_waiting-2.ensures.this can

pub returns-clause-takes : goal.returns-clause-takes
returns-clause-takes g c =
    let w = g.W.BusWord.WIDTH in
    let f = c.args.found.now in
    let first = c.word_of-first.result in
    let last = c.word_of-last.result in
    let old = g.B.Bus.state c.args.bus.now in
    let mid = g.B.Bus.state c.loop-u.bus in
    let after = g.B.Bus.state c.program_waiting-2.new.bus in
    let wide = some_byte w g.met.W.BusWord.sized in
    let starts = c.word_of-first.ensures in
    let ends = c.word_of-last.ensures in
    let rises = quotient_rises c.args.at (c.args.at + (length c.args.new.now - 1)) w wide (omega arith) in
    let order : first ≤ last = omega (arith, starts, ends, rises) in
    let near = c.loop-u.auto.u-end (omega (arith, order)) in
    let far = c.loop-u-test.false in
    let in_range = in_range_of w c.args.at (length c.args.new.now) first last (last + 1) wide c.requires.some starts ends (omega (arith, order)) (omega arith) in
    ends_takes g.W.BusWord.bytes w f c.args.at c.args.new.now first last c.loop-u.u c.loop-u.waiting c.loop-u.words c.program_waiting-2.result old mid after wide in_range (omega (arith, near, far)) c.loop-u.invariant
    c.program_waiting-2.ensures.takes

pub returns-clause-costs : goal.returns-clause-costs
returns-clause-costs g c = λ goes can.
    let w = g.W.BusWord.WIDTH in
    let f = c.args.found.now in
    let first = c.word_of-first.result in
    let last = c.word_of-last.result in
    let old = g.B.Bus.state c.args.bus.now in
    let mid = g.B.Bus.state c.loop-u.bus in
    let after = g.B.Bus.state c.program_waiting-2.new.bus in
    let wide = some_byte w g.met.W.BusWord.sized in
    let starts = c.word_of-first.ensures in
    let ends = c.word_of-last.ensures in
    let rises = quotient_rises c.args.at (c.args.at + (length c.args.new.now - 1)) w wide (omega arith) in
    let order : first ≤ last = omega (arith, starts, ends, rises) in
    let near = c.loop-u.auto.u-end (omega (arith, order)) in
    let far = c.loop-u-test.false in
    let in_range = in_range_of w c.args.at (length c.args.new.now) first last (last + 1) wide c.requires.some starts ends (omega (arith, order)) (omega arith) in
    ends_cost g.W.BusWord.bytes w f c.args.at c.args.new.now first last c.loop-u.u c.loop-u.waiting c.loop-u.words c.program_waiting-2.result old mid after wide in_range (omega (arith, near, far)) c.loop-u.invariant
    c.program_waiting-2.ensures.takes c.program_waiting-2.ensures.becomes c.program_waiting-2.ensures.this can goes

pub returns-clause-there : goal.returns-clause-there
returns-clause-there g c =
    let w = g.W.BusWord.WIDTH in
    let f = c.args.found.now in
    let first = c.word_of-first.result in
    let last = c.word_of-last.result in
    let old = g.B.Bus.state c.args.bus.now in
    let mid = g.B.Bus.state c.loop-u.bus in
    let after = g.B.Bus.state c.program_waiting-2.new.bus in
    let wide = some_byte w g.met.W.BusWord.sized in
    let starts = c.word_of-first.ensures in
    let ends = c.word_of-last.ensures in
    let rises = quotient_rises c.args.at (c.args.at + (length c.args.new.now - 1)) w wide (omega arith) in
    let order : first ≤ last = omega (arith, starts, ends, rises) in
    let near = c.loop-u.auto.u-end (omega (arith, order)) in
    let far = c.loop-u-test.false in
    let in_range = in_range_of w c.args.at (length c.args.new.now) first last (last + 1) wide c.requires.some starts ends (omega (arith, order)) (omega arith) in
    ends_there g.W.BusWord.bytes w f c.args.at c.args.new.now first last c.loop-u.u c.loop-u.waiting c.loop-u.words c.program_waiting-2.result old mid after wide in_range (omega (arith, near, far)) c.loop-u.invariant
    c.program_waiting-2.ensures.takes c.program_waiting-2.ensures.this

pub returns-clause-run : goal.returns-clause-run
returns-clause-run g c = λ can.
    let w = g.W.BusWord.WIDTH in
    let f = c.args.found.now in
    let first = c.word_of-first.result in
    let last = c.word_of-last.result in
    let old = g.B.Bus.state c.args.bus.now in
    let mid = g.B.Bus.state c.loop-u.bus in
    let after = g.B.Bus.state c.program_waiting-2.new.bus in
    let wide = some_byte w g.met.W.BusWord.sized in
    let starts = c.word_of-first.ensures in
    let ends = c.word_of-last.ensures in
    let rises = quotient_rises c.args.at (c.args.at + (length c.args.new.now - 1)) w wide (omega arith) in
    let order : first ≤ last = omega (arith, starts, ends, rises) in
    let near = c.loop-u.auto.u-end (omega (arith, order)) in
    let far = c.loop-u-test.false in
    let in_range = in_range_of w c.args.at (length c.args.new.now) first last (last + 1) wide c.requires.some starts ends (omega (arith, order)) (omega arith) in
    ends_run g.W.BusWord.bytes w f c.args.at c.args.new.now first last c.loop-u.u c.loop-u.waiting c.loop-u.words c.program_waiting-2.result old mid after wide in_range (omega (arith, near, far)) c.loop-u.invariant
    c.program_waiting-2.ensures.takes c.program_waiting-2.ensures.becomes c.program_waiting-2.ensures.this can
