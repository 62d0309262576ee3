use Rattle.nor_race.proofs.Printing.{line_there, note_calls, note_handed}
use Rattle.nor_race.proofs.report.hand_note.Goals as goal

pub bounds-lines-line : goal.bounds-lines-line
bounds-lines-line g c = line_there c.args.lines.now c.args.notes.now c.args.k c.line.result c.requires.history c.requires.there c.line.ensures

pub hand_word-requires : goal.hand_word-requires
hand_word-requires g c = record {
  call =
      note_calls c.args.lines.now c.args.notes.now c.args.k c.line.result c.note.result.now c.index-lines-line.result
      c.requires.history c.note.ensures (c.line.ensures c.note.result.now c.note.ensures) c.index-lines-line.is;
}

pub returns : goal.returns
returns g c = λ es e told at.
    note_handed g.T.Taker.takes c.args.lines.now c.args.notes.now c.args.k c.line.result c.note.result.now c.index-lines-line.result
    c.args.taker.now c.hand_word.new.taker c.hand_word.result es e
    c.requires.history c.note.ensures (c.line.ensures c.note.result.now c.note.ensures) c.index-lines-line.is c.hand_word.ensures told at
