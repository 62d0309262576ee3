use Rattle.std.proofs.Common.{◌≤◌, ◌+◌, ◌*◌, ℕ, length, map, take, get_or, arith, ap, sym, subst, IfOk, IfErr, OnOk}
use Rattle.std.proofs.lemmas.List.{length-take-le}
use Rattle.nor_bus.specs.Driven.{Counted}
use Rattle.nor_poll.specs.Buffer.{LoadHalts, load_most}
use Rattle.nor_poll.specs.Word.{WordHalts, word_most}
use Rattle.nor_bank.specs.Pieces.{EndsPiece, HaltsPiece, word_cost_in}
use Rattle.nor_bank.proofs.Padding.{some_byte}
use Rattle.nor_bank.proofs.PiecesProgrammed.{few_lanes, first_alone, first_taken, one_ends, one_halts, several_counted, several_end, several_halt}
use Rattle.nor_bank.proofs.pieces.program_piece.Goals as goal

-- ---- a word alone

pub returns-then-piece-eq1-clause-ends : goal.returns-then-piece-eq1-clause-ends
returns-then-piece-eq1-clause-ends g c =
    let f = c.args.found.now in
    let old = g.B.Bus.state c.args.bus.now in
    let now = g.B.Bus.state c.program_word.new.bus in
    let all = map g.W.BusWord.bytes c.args.words.now in
    let xs = c.args.words.now in
    let word = get_or xs 0 c.index-words-0.result in
    let size = c.told-words in
    let first = first_alone g.W.BusWord.bytes g.met.W.BusWord.small xs word (ap (get_or xs 0) c.index-words-0.is) (omega (arith, size)) in
    let r = c.program_word.result in
    subst (λ (n : ℕ). IfOk r (λ lanes. EndsPiece g.W.BusWord.WIDTH f c.args.piece.first n all lanes.bits old now)) (sym c.if-piece-eq1.true)
    (one_ends g.W.BusWord.WIDTH f c.args.piece.first (g.W.BusWord.bytes word) all old now (some_byte g.W.BusWord.WIDTH g.met.W.BusWord.sized) first r
    (subst (λ (l : ℕ). OnOk r (Counted 5 (word_most f.query.set l) old now)) c.limit-limit.ensures.value c.program_word.ensures.cycles)
    c.program_word.ensures.done c.program_word.ensures.broken)

pub returns-then-piece-eq1-clause-halts : goal.returns-then-piece-eq1-clause-halts
returns-then-piece-eq1-clause-halts g c =
    let f = c.args.found.now in
    let old = g.B.Bus.state c.args.bus.now in
    let now = g.B.Bus.state c.program_word.new.bus in
    let all = map g.W.BusWord.bytes c.args.words.now in
    let xs = c.args.words.now in
    let word = get_or xs 0 c.index-words-0.result in
    let size = c.told-words in
    let first = first_alone g.W.BusWord.bytes g.met.W.BusWord.small xs word (ap (get_or xs 0) c.index-words-0.is) (omega (arith, size)) in
    let r = c.program_word.result in
    subst (λ (n : ℕ). IfErr r (λ halt. HaltsPiece g.W.BusWord.WIDTH f c.args.piece.first n all halt old now)) (sym c.if-piece-eq1.true)
    (one_halts g.W.BusWord.WIDTH f c.args.piece.first (g.W.BusWord.bytes word) all old now (some_byte g.W.BusWord.WIDTH g.met.W.BusWord.sized) first r
    (subst (λ (l : ℕ). IfErr r (WordHalts f.query.set g.W.BusWord.WIDTH f.geometry c.args.piece.first (g.W.BusWord.bytes word) l old now)) c.limit-limit.ensures.value c.program_word.ensures.halts))

-- ---- several words

pub returns-clause-ends : goal.returns-clause-ends
returns-clause-ends g c =
    let f = c.args.found.now in
    let old = g.B.Bus.state c.args.bus.now in
    let now = g.B.Bus.state c.program_buffer.new.bus in
    let xs = c.args.words.now in
    let n = c.args.piece.words in
    let size = c.told-words in
    let few = c.requires.few in
    let some = c.requires.some in
    let apart = c.if-piece-eq1.false in
    let fits : n ≤ length xs = omega (arith, size, few) in
    let long = length-take-le n xs fits in
    let m = length (take n xs) in
    let r = c.program_buffer.result in
    subst (λ (k : ℕ). IfOk r (λ lanes. EndsPiece g.W.BusWord.WIDTH f c.args.piece.first k (map g.W.BusWord.bytes xs) lanes.bits old now)) long
    (several_end g.W.BusWord.WIDTH f c.args.piece.first m (map g.W.BusWord.bytes (take n xs)) (map g.W.BusWord.bytes xs) old now
    (some_byte g.W.BusWord.WIDTH g.met.W.BusWord.sized) (omega (arith, long, some, apart)) (first_taken g.W.BusWord.bytes g.met.W.BusWord.small xs n fits) r
    (subst (λ (l : ℕ). OnOk r (Counted (m + 6) (load_most f.query.set m l) old now)) c.limit-limit-2.ensures.value c.program_buffer.ensures.cycles)
    c.program_buffer.ensures.done c.program_buffer.ensures.broken)

pub returns-clause-counted : goal.returns-clause-counted
returns-clause-counted g c =
    let f = c.args.found.now in
    let old = g.B.Bus.state c.args.bus.now in
    let now = g.B.Bus.state c.program_buffer.new.bus in
    let xs = c.args.words.now in
    let n = c.args.piece.words in
    let size = c.told-words in
    let few = c.requires.few in
    let some = c.requires.some in
    let apart = c.if-piece-eq1.false in
    let fits : n ≤ length xs = omega (arith, size, few) in
    let long = length-take-le n xs fits in
    let m = length (take n xs) in
    let r = c.program_buffer.result in
    subst (λ (k : ℕ). OnOk r (Counted k (k * word_cost_in f) old now)) long
    (several_counted g.W.BusWord.WIDTH f c.args.piece.first m (map g.W.BusWord.bytes (take n xs)) (map g.W.BusWord.bytes xs) old now
    (some_byte g.W.BusWord.WIDTH g.met.W.BusWord.sized) (omega (arith, long, some, apart)) (first_taken g.W.BusWord.bytes g.met.W.BusWord.small xs n fits)
    (c.requires.buffered (omega (arith, some, apart))) r
    (subst (λ (l : ℕ). OnOk r (Counted (m + 6) (load_most f.query.set m l) old now)) c.limit-limit-2.ensures.value c.program_buffer.ensures.cycles))

pub returns-clause-halts : goal.returns-clause-halts
returns-clause-halts g c =
    let f = c.args.found.now in
    let old = g.B.Bus.state c.args.bus.now in
    let now = g.B.Bus.state c.program_buffer.new.bus in
    let xs = c.args.words.now in
    let n = c.args.piece.words in
    let size = c.told-words in
    let few = c.requires.few in
    let some = c.requires.some in
    let apart = c.if-piece-eq1.false in
    let fits : n ≤ length xs = omega (arith, size, few) in
    let long = length-take-le n xs fits in
    let m = length (take n xs) in
    let r = c.program_buffer.result in
    subst (λ (k : ℕ). IfErr r (λ halt. HaltsPiece g.W.BusWord.WIDTH f c.args.piece.first k (map g.W.BusWord.bytes xs) halt old now)) long
    (several_halt g.W.BusWord.WIDTH f c.args.piece.first m (map g.W.BusWord.bytes (take n xs)) (map g.W.BusWord.bytes xs) old now
    (some_byte g.W.BusWord.WIDTH g.met.W.BusWord.sized) (omega (arith, long, some, apart)) (first_taken g.W.BusWord.bytes g.met.W.BusWord.small xs n fits)
    (c.requires.buffered (omega (arith, some, apart))) r
    (subst (λ (l : ℕ). IfErr r (LoadHalts f.query.set g.W.BusWord.WIDTH f.geometry c.args.piece.first (map g.W.BusWord.bytes (take n xs)) l old now)) c.limit-limit-2.ensures.value c.program_buffer.ensures.halts))

-- ---- the lanes that broke off

pub returns-then-piece-eq1-clause-few : goal.returns-then-piece-eq1-clause-few
returns-then-piece-eq1-clause-few g c = few_lanes c.program_word.result c.args.found.now.geometry.lanes _ (λ lanes are. are.past) c.program_word.ensures.broken

pub returns-clause-few : goal.returns-clause-few
returns-clause-few g c = few_lanes c.program_buffer.result c.args.found.now.geometry.lanes _ (λ lanes are. are.past) c.program_buffer.ensures.broken
