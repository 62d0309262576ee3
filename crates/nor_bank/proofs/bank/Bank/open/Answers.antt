use Rattle.std.proofs.Common.{◌<◌, ℕ, Some, refl, ap, sym, subst}
use Rattle.nor_bank.specs.State.{BankState}
use Rattle.nor_bank.specs.declared.kept.Erasing.{Erasing}
use Rattle.nor_bank.proofs.bank.Bank.open.Goals as goal

pub returns-clause-opens : goal.returns-clause-opens
returns-clause-opens g c =
    let e : Erasing = record { target = c.args.target; caller = c.args.caller; polls = 0; lanes = c.all_run.result } in
    record {
      erase = e;
      kept = ap (λ (b : BankState). record b { erase = Some e }) c.self.view_is;
      target_is = refl;
      caller_is = refl;
      unpolled = refl;
      run = λ k below. c.all_run.ensures k (subst (λ (n : ℕ). k < n) (sym (ap (λ (b : BankState). b.found.geometry.lanes) c.self.view_is)) below);
    }
