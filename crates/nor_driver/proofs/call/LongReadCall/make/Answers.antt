use Rattle.std.proofs.Common.{◌≡◌, ◌∙◌, ℕ, List, Some, None, Option, refl, sym, subst}
use Rattle.std.specs.Prelude.{IfSome}
use Rattle.nor_array.specs.declared.entry.Op.TheVariants.{Read as ReadOp}
use Rattle.nor_array.specs.declared.entry.Reply.{Reply}
use Rattle.nor_bank.specs.State.{BankState, size_of}
use Rattle.nor_bank.specs.Whole.{IsCallOf}
use Rattle.nor_bank.specs.Work.{range_refusal}
use Rattle.nor_driver.proofs.Calls.{long_reads}
use Rattle.nor_driver.proofs.call.LongReadCall.make.Goals as goal

its_call : (b : BankState) (caller at len n : ℕ) (given : List ℕ) (o : Option Reply) (r : Reply) → o ≡ Some r → n ≡ len
    → IfSome o (λ x. (k : ℕ) (bytes : List ℕ) → IsCallOf k (ReadOp at n) b b x bytes) → IsCallOf caller (ReadOp at len) b b r given
its_call b caller at len n given None r some same call = absurd (cc)
its_call b caller at len n given (Some x) r some same call =
    let is : x ≡ r = cc in
    subst (λ (m : ℕ). IsCallOf caller (ReadOp at m) b b r given) same (subst (λ (y : Reply). IsCallOf caller (ReadOp at n) b b y given) is (call caller given))

pub returns : goal.returns
returns g c =
    let bank = c.args.bank.now in
    let at = c.args.self.now.at in
    let len = c.args.self.now.len in
    let r = c.unwrap.result in
    record {
      call = its_call bank c.args._caller at len c.from.result c.args._into.now c.range_refusal.result r c.unwrap.ensures c.from.ensures c.range_refusal.ensures.call;
      reads = long_reads bank at len r (sym c.unwrap.ensures ∙ subst (λ (n : ℕ). c.range_refusal.result ≡ range_refusal (size_of bank.found) at n) c.from.ensures c.range_refusal.ensures.refusal);
      kind = refl;
      length = refl;
    }
