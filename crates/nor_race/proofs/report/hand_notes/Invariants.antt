use Rattle.std.proofs.Common.{◌≡◌, List, take}
use Rattle.nor_array.specs.declared.entry.Entry.{Entry}
use Rattle.nor_race.specs.Told.{AreTold, HandsAll}
use Rattle.nor_race.proofs.report.hand_notes.Given as goal

abbrev pub invariant-loop-k : goal.invariant-loop-k
invariant-loop-k g l = record {
  handed : (es : List Entry) → AreTold l.lines l.notes es → HandsAll g.T.Taker.takes (take l.k es) l.fn.taker l.taker l.ran;
  few : l.ran.entries ≡ l.k;
}
