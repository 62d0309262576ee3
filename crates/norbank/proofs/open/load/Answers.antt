use Rattle.std.proofs.Common.{◌∙◌, Err, ap}
use Rattle.nor_io.specs.declared.shelf.LoadError.{LoadError}
use Rattle.norbank.proofs.Opening.{fails_load}
use Rattle.norbank.proofs.open.load.Goals as goal

pub returns-in-Err-clause-stops : goal.returns-in-Err-clause-stops
returns-in-Err-clause-stops g c =
    fails_load c.args.file c.in-Err.error c.of_load.result c.args.name.now (g.H.Shelf.state c.args.shelf.now) (g.H.Shelf.state c.load.new.self) c.of_load.ensures
    (λ is. c.load.ensures.absent (c.in-Err.is ∙ ap (λ (e : LoadError). Err e) is))
    (λ is. c.load.ensures.too_large (c.in-Err.is ∙ ap (λ (e : LoadError). Err e) is))
    (λ is. c.load.ensures.fault (c.in-Err.is ∙ ap (λ (e : LoadError). Err e) is))
