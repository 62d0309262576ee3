use Rattle.std.proofs.Common.{arith, get_or, length, map, drop, subst, ap, sym, ◌∙◌, ◌≡◌, ◌∷◌, [], ◌+◌, ◌<◌, ℕ, List}
use Rattle.std.proofs.lemmas.List.{length-map, drop_all}
use Rattle.nor_bus.specs.Bus.{lane, lanes_of}
use Rattle.nor_bus.specs.Driven.{Lost, Went}
use Rattle.nor_bus.proofs.Driving.{lost_then}
use Rattle.nor_poll.specs.Buffer.{ReachesAll, DarkensInWords}
use Rattle.nor_poll.proofs.Reading.{darkens}
use Rattle.nor_poll.proofs.WordSending.{sent_none, next_word, word_at, sent_more, sent_dark, sent_all}
use Rattle.nor_cell.proofs.Logic.{on_err}
use Rattle.nor_poll.proofs.buffer.write_words.Goals as goal

pub loop-k-init : goal.loop-k-init
loop-k-init g c = sent_none g.W.BusWord.WIDTH c.args.g c.args.at (map g.W.BusWord.bytes c.args.words.now) (g.B.Bus.state c.args.bus.now)

pub returns-in_err-write_word-clause-dark : goal.returns-in_err-write_word-clause-dark
returns-in_err-write_word-clause-dark g c =
    let old = g.B.Bus.state c.args.bus.now in
    let mid = g.B.Bus.state c.loop-k.bus in
    let new = g.B.Bus.state c.write_word.new.bus in
    let k = c.loop-k.k in
    let words = map g.W.BusWord.bytes c.args.words.now in
    let count : length words ≡ length c.args.words.now = length-map c.args.words.now g.W.BusWord.bytes in
    on_err c.from_residual.result (ReachesAll g.W.BusWord.WIDTH c.args.g c.args.at (length c.args.words.now) old
    → (i : ℕ) → i < lanes_of old → DarkensInWords i c.args.at words (lane old i) (lane new i)) (λ reaches.
    sent_dark g.W.BusWord.WIDTH c.args.g c.args.at k (get_or words k []) words (drop (k + 1) words) old mid new (next_word k words (omega (arith, count))) (darkens mid new c.in_err-write_word.ensures.fails)
    c.loop-k.invariant (subst (λ (n : ℕ). ReachesAll g.W.BusWord.WIDTH c.args.g c.args.at n old) (sym count) reaches))

pub returns-in_err-write_word-clause-lost : goal.returns-in_err-write_word-clause-lost
returns-in_err-write_word-clause-lost g c =
    let old = g.B.Bus.state c.args.bus.now in
    let new = g.B.Bus.state c.write_word.new.bus in
    let k = c.loop-k.k in
    on_err c.from_residual.result (Lost (length c.args.words.now) old new)
    (lost_then k 1 (length c.args.words.now) old (g.B.Bus.state c.loop-k.bus) new (omega arith) c.loop-k.invariant.went c.in_err-write_word.ensures.lost)

pub loop-k-preserved : goal.loop-k-preserved
loop-k-preserved g c =
    let k = c.loop-k.k in
    let words = map g.W.BusWord.bytes c.args.words.now in
    let count : length words ≡ length c.args.words.now = length-map c.args.words.now g.W.BusWord.bytes in
    let word = g.W.BusWord.bytes c.index-words-k.result in
    let is : drop k words ≡ word ∷ drop (k + 1) words = next_word k words (omega (arith, count)) ∙ ap (λ (w : List ℕ). w ∷ drop (k + 1) words) (word_at g.W.BusWord.bytes c.args.words.now k c.index-words-k.result c.loop-k-test.true ∙ ap g.W.BusWord.bytes (sym c.index-words-k.is)) in
    sent_more g.W.BusWord.WIDTH c.args.g c.args.at k c.behind.result word words (g.B.Bus.state c.args.bus.now) (g.B.Bus.state c.loop-k.bus) (g.B.Bus.state c.write_word.new.bus) is c.behind.ensures
    (omega (arith, count)) c.write_word.ensures.wired c.in_ok-write_word.ensures.lanes c.in_ok-write_word.ensures.went c.loop-k.invariant

pub returns-clause-lanes : goal.returns-clause-lanes
returns-clause-lanes g c =
    let old = g.B.Bus.state c.args.bus.now in
    let k = c.loop-k.k in
    let words = map g.W.BusWord.bytes c.args.words.now in
    let count : length words ≡ length c.args.words.now = length-map c.args.words.now g.W.BusWord.bytes in
    λ reaches.
    sent_all g.W.BusWord.WIDTH c.args.g c.args.at k words old (g.B.Bus.state c.loop-k.bus) (drop_all k words (omega (arith, count))) c.loop-k.invariant
    (subst (λ (n : ℕ). ReachesAll g.W.BusWord.WIDTH c.args.g c.args.at n old) (sym count) reaches)

pub returns-clause-went : goal.returns-clause-went
returns-clause-went g c =
    let same : c.loop-k.k ≡ length c.args.words.now = omega arith in
    subst (λ (n : ℕ). Went n n (g.B.Bus.state c.args.bus.now) (g.B.Bus.state c.loop-k.bus)) same c.loop-k.invariant.went
