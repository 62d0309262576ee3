use Rattle.std.proofs.Common.{◌∙◌, sym, subst, ◌≤◌, false, true, ◌≡◌}
use Rattle.std.specs.List.{list_all}
use Rattle.nor_dump.specs.Changes.{paces_of, is_in, fit_weak}
use Rattle.nor_dump.proofs.Fits.{no_error, weak_error}
use Rattle.nor_dump.specs.declared.changes.Paces.{Paces}
use Rattle.nor_dump.proofs.changes.check.Goals as goal

pub returns-then-branch : goal.returns-then-branch
returns-then-branch c =
    let g = c.args.g in
    let changes = c.args.changes.now in
    let slow : (paces_of changes).suspend ≤ 16 = subst (λ (p : Paces). p.suspend ≤ 16) c.paces_of.ensures c.if-paces_of-gt16.false in
    let lanes : list_all (is_in g.lanes) changes ≡ true = sym c.are_in.ensures ∙ c.if-not-are_in.false in
    let fit : fit_weak g.device c.args.size changes g.lanes ≡ true = sym c.in_ok-fit_weak.ensures ∙ c.if-branch.true in
    no_error g c.args.size changes slow lanes fit

pub returns-else-branch : goal.returns-else-branch
returns-else-branch c =
    let g = c.args.g in
    let changes = c.args.changes.now in
    let slow : (paces_of changes).suspend ≤ 16 = subst (λ (p : Paces). p.suspend ≤ 16) c.paces_of.ensures c.if-paces_of-gt16.false in
    let lanes : list_all (is_in g.lanes) changes ≡ true = sym c.are_in.ensures ∙ c.if-not-are_in.false in
    let fit : fit_weak g.device c.args.size changes g.lanes ≡ false = sym c.in_ok-fit_weak.ensures ∙ c.if-branch.false in
    weak_error g c.args.size changes slow lanes fit
