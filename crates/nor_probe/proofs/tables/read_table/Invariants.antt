use Rattle.std.proofs.Common.{◌≡◌}
use Rattle.nor_bus.specs.Bus.{units_of}
use Rattle.nor_probe.proofs.TablesRead.{ReadSoFar}
use Rattle.nor_probe.proofs.tables.read_table.Given as goal

abbrev pub invariant-loop-offset : goal.invariant-loop-offset
invariant-loop-offset g l = record {
  so_far : ReadSoFar l.fn.g l.offset (g.B.Bus.state l.initial.bus) (g.B.Bus.state l.bus) l.table;
  units : units_of (g.B.Bus.state l.bus) ≡ units_of (g.B.Bus.state l.initial.bus);
}
