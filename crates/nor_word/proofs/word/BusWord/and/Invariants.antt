use Rattle.nor_word.proofs.Anding.{IsAndTo}
use Rattle.nor_word.proofs.word.BusWord.and.Given as goal

abbrev pub invariant-loop-k : goal.invariant-loop-k
invariant-loop-k g l = IsAndTo l.k (g.Self.BusWord.bytes l.self) (g.Self.BusWord.bytes l.other) (g.Self.BusWord.bytes l.word)
