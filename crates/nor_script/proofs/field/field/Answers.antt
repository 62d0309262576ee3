use Rattle.std.proofs.Common.{◌≡◌, ◌+◌, ◌-◌, ◌==◌, ◌∙◌, ℕ, suc, List, take, drop, ap, sym, arith}
use Rattle.nor_script.specs.Grammar.{field_of}
use Rattle.nor_script.proofs.Fields.{first_part, next_part}
use Rattle.nor_script.proofs.field.field.Goals as goal

pub loop-preserved : goal.loop-preserved
loop-preserved c =
    let more = c.loop-test.true in
    let place : c.args.k - c.loop.counter ≡ suc (c.args.k - (c.loop.counter + 1)) = omega (arith, more) in
    let left : c.behind-rest.result.now ≡ drop (c.end_of.result + 1) c.loop.rest.now = c.behind-rest.ensures in
    ap (λ (xs : List ℕ). field_of xs (c.args.k - (c.loop.counter + 1))) (left ∙ ap (λ (n : ℕ). drop (n + 1) c.loop.rest.now) c.end_of.ensures)
    ∙ sym (next_part (λ b. b == 0x20) c.loop.rest.now (c.args.k - (c.loop.counter + 1)))
    ∙ ap (field_of c.loop.rest.now) (sym place) ∙ c.loop.invariant

pub returns : goal.returns
returns c =
    let none : c.args.k - c.loop.counter ≡ 0 = let end = c.loop.auto.counter-end in let done = c.loop-test.false in omega (arith, done) in
    ap (λ (n : ℕ). take n c.loop.rest.now) c.end_of-2.ensures ∙ sym (first_part (λ b. b == 0x20) c.loop.rest.now)
    ∙ ap (field_of c.loop.rest.now) (sym none) ∙ c.loop.invariant
