use Rattle.std.proofs.Common.{◌≡◌, ◌∙◌, ◌==◌, ℕ, ap}
use Rattle.nor_script.specs.declared.line.Line.{Line}
use Rattle.nor_race.specs.Noted.{NoteView}
use Rattle.nor_race.proofs.Blank.{all_cuts, cuts_more}
use Rattle.nor_race.proofs.making.blank_cuts.Goals as goal

pub loop-i-preserved : goal.loop-i-preserved
loop-i-preserved c =
    cuts_more c.args.lines.now c.loop-i.i c.index-lines-i.result c.loop-i.cuts.items c.push.new.self.items c.blank_note.result c.requires.script c.loop-i.invariant c.loop-i-test.true c.index-lines-i.is
    (let none : c.index-lines-i.result.caller ≡ 0 = ap (λ (l : Line). l.caller) c.index-lines-i.is ∙ c.if-lines-i-ne0.false in ap (λ (n : ℕ). n == 0) none) (ap (λ (n : NoteView). n.line) c.blank_note.ensures) (ap (λ (n : NoteView). n.closes) c.blank_note.ensures) c.in_ok-push.ensures.items

pub returns : goal.returns
returns c = all_cuts c.args.lines.now c.loop-i.i c.loop-i.cuts.items c.loop-i.invariant c.loop-i-test.false
