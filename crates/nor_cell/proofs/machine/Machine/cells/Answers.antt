use Rattle.std.proofs.Common.{subst, List, ℕ}
use Rattle.nor_cell.specs.Bits.{AreBytes}
use Rattle.nor_cell.specs.Ranges.{IsChip}
use Rattle.nor_cell.proofs.machine.Machine.cells.Goals as goal

pub returns-clause-ranges : goal.returns-clause-ranges
returns-clause-ranges c =
    let z = c.self.inside.cells in
    let bytes : AreBytes z.bytes.items = subst (λ (xs : List ℕ). AreBytes xs) c.deref.ensures.value c.are_bytes.ensures in
    subst IsChip c.self.view_is (record {
      size = z.sized;
      bytes = bytes;
      table_size = c.is_table.ensures.size;
      table_bytes = c.is_table.ensures.bytes;
      weak = z.ascending;
      weak_units = z.whole;
      few_weak = z.few_weak;
      pace = z.pace;
      blocks = z.follow;
      locks = z.locked;
    })
