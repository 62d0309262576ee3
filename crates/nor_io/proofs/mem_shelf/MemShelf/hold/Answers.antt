-- The map of files after an insert is the old one with the name set.
use Rattle.std.proofs.Common.{arith}
use Rattle.std.proofs.lemmas.Map.Text.{text_keys}
use Rattle.nor_io.proofs.mem_shelf.MemShelf.hold.Goals as goal

pub returns-clause-ok : goal.returns-clause-ok
returns-clause-ok c = record {
  named = grind (arith, text_keys);
  others = λ other differs. grind (arith, text_keys);
}
