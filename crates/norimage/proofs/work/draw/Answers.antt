use Rattle.norimage.proofs.Drawings.{drawn_asked}
use Rattle.norimage.proofs.work.draw.Goals as goal

pub returns-in-Ok-clause-gives : goal.returns-in-Ok-clause-gives
returns-in-Ok-clause-gives g c out =
    drawn_asked c.args.image.now out (g.H.Shelf.state c.args.shelf.now).files c.in_ok-survey.survey c.in-Ok.svg.items c.in_ok-survey.ensures.told c.in-Ok.ensures
