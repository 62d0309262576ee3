use Rattle.std.proofs.Common.{◌≡◌, ◌∙◌, ℕ, List, inr, Err, ap, subst}
use Rattle.nor_io.specs.Puts.{PutsText}
use Rattle.norbank.specs.Does.{found_lines}
use Rattle.norbank.specs.declared.stop.Stop.TheVariants.{Output}
use Rattle.norbank.proofs.Reading.{told}
use Rattle.norbank.proofs.Stopping.{stopped_by}
use Rattle.norbank.proofs.show.show_bank.Goals as goal

pub returns-in_err-put-clause-shows : goal.returns-in_err-put-clause-shows
returns-in_err-put-clause-shows g c =
    let found = c.in_ok-found.found in
    let width = g.W.BusWord.WIDTH in
    let before = g.K.Sink.state c.args.out.now in
    let after = g.K.Sink.state c.put.new.self in
    let text : c.as_bytes.result.now ≡ found_lines width found = c.as_bytes.ensures.value ∙ c.in_ok-text.ensures ∙ ap (λ (w : ℕ). found_lines w found) c.WIDTH.ensures in
    record {
      is = inr (inr (
        found,
        c.in_ok-found.ensures.found,
        told width c.args.bank.lanes (found_lines width found) before after c.from_residual-in_err-put.result (Err c.in_err-put.field-0.0) found c.in_ok-found.ensures.found
            (subst (λ (t : List ℕ). PutsText t before after (Err c.in_err-put.field-0.0)) text c.in_err-put.ensures.puts)
            (stopped_by c.from_residual-in_err-put.result (Output c.in_err-put.field-0.0) c.from_residual-in_err-put.ensures.1),
      ));
    }
