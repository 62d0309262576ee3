use Rattle.std.proofs.Common.{refl, arith, ◌∙◌}
use Rattle.nor_word.proofs.Anding.{and_more, and_all}
use Rattle.nor_word.proofs.word.BusWord.and.Goals as goal

pub loop-k-init : goal.loop-k-init
loop-k-init g c = record { size = refl; done = λ j below. absurd (omega arith); later = λ j le. refl }

pub loop-k-preserved : goal.loop-k-preserved
loop-k-preserved g c =
    and_more c.loop-k.k _ _ _ _ (let wide = g.met.Self.BusWord.wide c.args.self in omega arith) c.loop-k.invariant
    (let low = c.byte.ensures in let high = c.byte-in-loop-k.ensures in c.with_byte-word.ensures ∙ cc)

pub returns : goal.returns
returns g c = and_all c.loop-k.k _ _ _ c.loop-k.invariant (let wide = g.met.Self.BusWord.wide c.args.self in omega arith) (let wide = g.met.Self.BusWord.wide c.args.other in omega arith)
