use Rattle.std.proofs.Common.{◌≡◌, ℕ, List, true, subst, rules}
use Rattle.std.specs.Option.{IfSome}
use Rattle.std.proofs.lemmas.Result.{IfOk-weaker, IfErr-weaker}
use Rattle.nor_cell.specs.Wiring.{is_wiring}
use Rattle.nor_cell.specs.declared.geometry.Geometry.{Geometry}
use Rattle.nor_dump.specs.declared.changes.Change.{Change}
use Rattle.norimage.specs.Ends.{Gives, IsMadeIn, Stops, StopsBy}
use Rattle.norimage.specs.Stops.{first_some, bank_stops}
use Rattle.norimage.specs.Words.{Make}
use Rattle.norimage.proofs.Making.{made_asked, stopped_asked}
use Rattle.norimage.proofs.work.make.Goals as goal

pub returns-in-Ok-clause-gives : goal.returns-in-Ok-clause-gives
returns-in-Ok-clause-gives g c =
    let was = g.H.Shelf.state c.args.shelf.now in
    let width = c.args.width in
    let table = c.args.table.now in
    let raw = c.args.raw.now in
    let wired : is_wiring width c.args.lanes c.args.device ≡ true = search rules in
    IfOk-weaker c.make_with.result (λ bytes. IfSome was.files (IsMadeIn width c.in-Ok.g c.deref.result.now table raw bytes.items))
    (λ bytes. (out : List ℕ) → Gives (Make out width c.args.device c.args.lanes table raw c.args.options.now) bytes.items was)
    (λ bytes is. λ out.
    made_asked out width c.args.device c.args.lanes table raw c.args.options.now c.in_ok-changes.changes.items c.in_ok-changes.ensures.changes was.files bytes.items wired
    (subst (λ (at : Geometry). IfSome was.files (IsMadeIn width at c.in_ok-changes.changes.items table raw bytes.items)) c.in-Ok.ensures.made
    (subst (λ (changes : List Change). IfSome was.files (IsMadeIn width c.in-Ok.g changes table raw bytes.items)) c.deref.ensures.value is)))
    c.make_with.ensures.gives

pub returns-in-Ok-clause-stops : goal.returns-in-Ok-clause-stops
returns-in-Ok-clause-stops g c =
    let was = g.H.Shelf.state c.args.shelf.now in
    let now = g.H.Shelf.state c.make_with.new.shelf in
    let width = c.args.width in
    let table = c.args.table.now in
    let raw = c.args.raw.now in
    let wired : is_wiring width c.args.lanes c.args.device ≡ true = search rules in
    IfErr-weaker c.make_with.result (StopsBy (λ files. first_some (bank_stops c.in-Ok.g c.deref.result.now raw (files table) (files raw))) was now)
    (λ stop. (out : List ℕ) → Stops (Make out width c.args.device c.args.lanes table raw c.args.options.now) was now stop)
    (λ stop is. λ out.
    stopped_asked out width c.args.device c.args.lanes table raw c.args.options.now c.in_ok-changes.changes.items c.in_ok-changes.ensures.changes was now stop wired
    (subst (λ (at : Geometry). StopsBy (λ files. first_some (bank_stops at c.in_ok-changes.changes.items raw (files table) (files raw))) was now stop) c.in-Ok.ensures.made
    (subst (λ (changes : List Change). StopsBy (λ files. first_some (bank_stops c.in-Ok.g changes raw (files table) (files raw))) was now stop) c.deref.ensures.value is)))
    c.make_with.ensures.stops
