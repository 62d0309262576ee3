use Rattle.std.proofs.Common.{◌≡◌, ◌==◌, ℕ, List, [], ◌∷◌, length, true, false, refl, sym, ap, subst, ◌∙◌}
use Rattle.nor_cell.specs.Chip.{has_blocks, blocks_end}
use Rattle.nor_cell.specs.declared.device.Span.{Span}
use Rattle.nor_cell.proofs.Spans.{blocks_end_is}
use Rattle.nor_cell.proofs.blocks.all_blocks.Goals as goal

some_blocks : (blocks : List Span) → (length blocks == 0) ≡ false → has_blocks blocks ≡ true
some_blocks [] h = cc
some_blocks (span ∷ blocks) h = refl

pub returns-else-is_empty-clause-span : goal.returns-else-is_empty-clause-span
returns-else-is_empty-clause-span c =
    let z = c.args.cells.now in
    let some : (length z.blocks.items == 0) ≡ false = subst (λ (n : ℕ). (n == 0) ≡ false) z.blocks.ok.0 (sym c.is_empty.ensures ∙ c.if-is_empty.false) in
    let size : c.len.result ≡ length z.bytes.items = c.len.ensures ∙ z.bytes.ok.0 in
    let all : blocks_end z.blocks.items ≡ length z.bytes.items = blocks_end_is (length z.bytes.items) z.blocks.items z.follow (some_blocks z.blocks.items some) in
    let same : c.len.result ≡ blocks_end z.blocks.items = size ∙ sym all in
    ap (λ (n : ℕ). record { from = 0; len = n }) same
