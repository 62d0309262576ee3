use Rattle.std.proofs.Common.{◌≡◌, ◌++◌, drop, string_bytes}
use Rattle.nor_show.specs.Lines.{region_lines}
use Rattle.nor_show.proofs.lines.write_regions.Given as goal

-- what was written, and the lines of the regions to come
abbrev pub invariant-loop-k : goal.invariant-loop-k
invariant-loop-k l = string_bytes l.text ++ region_lines l.k-counter (drop l.k-counter l.regions) ≡ string_bytes l.initial.text ++ region_lines 0 l.regions
