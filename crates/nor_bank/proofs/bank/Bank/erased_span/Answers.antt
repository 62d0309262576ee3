use Rattle.std.proofs.Common.{◌≡◌, ◌∙◌, ℕ, ap, sym, arith}
use Rattle.nor_cell.specs.Chip.{block, span_end}
use Rattle.nor_cell.specs.declared.device.Span.{Span}
use Rattle.nor_array.specs.declared.state.Target.{Target}
use Rattle.nor_bank.specs.Erases.{erased_span}
use Rattle.nor_bank.specs.State.{BankState, blocks_of}
use Rattle.nor_bank.proofs.ClosingStands.{span_inside, all_erased}
use Rattle.nor_bank.proofs.bank.Bank.erased_span.Goals as goal

pub returns-in-OneBlock-clause-ends : goal.returns-in-OneBlock-clause-ends
returns-in-OneBlock-clause-ends g c =
    let f = c.args.self.now.found in
    let found : block (blocks_of c.self.inside.found) c.in-OneBlock.block ≡ block (blocks_of f) c.in-OneBlock.block =
    ap (λ (b : BankState). block (blocks_of b.found) c.in-OneBlock.block) c.self.view_is in
    let target : block (blocks_of f) c.in-OneBlock.block ≡ erased_span f c.args.target = ap (λ (t : Target). erased_span f t) (sym c.in-OneBlock.is) in
    let is : c.span.result ≡ erased_span f c.args.target = c.span.ensures ∙ (found ∙ target) in
    let inside = span_inside f c.args.target c.requires in
    let ends : span_end c.span.result ≡ span_end (erased_span f c.args.target) = ap (λ (s : Span). span_end s) is in
    let size = c.size-size.ensures in
    let small = c.size-size.type_inv in
    omega (arith, inside, ends, size, small)

pub returns-in-AllBlocks-clause-span : goal.returns-in-AllBlocks-clause-span
returns-in-AllBlocks-clause-span g c =
    let f = c.args.self.now.found in
    let to : ℕ → Span = λ n. record { from = 0; len = n } in
    ap to c.size-size.ensures ∙ (all_erased f ∙ ap (λ (t : Target). erased_span f t) (sym c.in-AllBlocks.is))
