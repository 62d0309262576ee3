use Rattle.std.proofs.Common.{◌≡◌, ℕ, List, Bool, arith, sym, subst, ap, ◌∙◌, length}
use Rattle.nor_cell.specs.Cells.{given_or_open}
use Rattle.nor_cell.specs.Ranges.{AreOffered}
use Rattle.nor_cell.proofs.Locking.{given_offered, given_each}
use Rattle.nor_cell.proofs.make.make_cells.Goals as goal

pub invariant_of-result : goal.invariant_of-result
invariant_of-result c =
    let parts = c.args.parts in
    let each = length c.args.parts.blocks.items in
    let count : c.len.result ≡ each = omega (arith, c.len.ensures, c.args.parts.blocks.ok) in
    let is : c.in_ok-locks.locks.items ≡ given_or_open parts.locks.items each = c.in_ok-locks.ensures ∙ ap (λ (n : ℕ). given_or_open parts.locks.items n) count in
    record {
      sized = c.requires.sized;
      ascending = c.requires.ascending;
      whole = c.requires.whole;
      few_weak = c.requires.few_weak;
      pace = c.requires.pace;
      follow = c.requires.follow;
      locked = ap (λ (l : List Bool). length l) is ∙ given_each parts.locks.items each c.requires.locks;
      offered = subst (λ (l : List Bool). AreOffered parts.table l) (sym is) (given_offered parts.table parts.locks.items each c.requires.offered);
    }
