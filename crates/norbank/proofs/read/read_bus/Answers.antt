use Rattle.std.proofs.Common.{◌≡◌, ◌<◌, ◌≤◌, ◌+◌, ◌∙◌, ℕ, List, inl, inr, Ok, Err, refl, sym, subst, arith}
use Rattle.nor_bus.specs.Bus.{bank_bytes, bank_size}
use Rattle.nor_io.specs.Puts.{PutsText}
use Rattle.norbank.specs.Text.{hex_line}
use Rattle.norbank.specs.declared.stop.Stop.TheVariants.{Output}
use Rattle.norbank.proofs.BankBytes.{bank_words, few_bytes}
use Rattle.norbank.proofs.Reading.{past, inside}
use Rattle.norbank.proofs.Stopping.{stopped_by}
use Rattle.norbank.proofs.read.read_bus.Goals as goal

pub returns-then-from-size_of-clause-reads : goal.returns-then-from-size_of-clause-reads
returns-then-from-size_of-clause-reads g c = λ device bank.
    let width = g.W.BusWord.WIDTH in
    let old = g.B.Bus.state c.args.bus.now in
    let new = g.B.Bus.state c.found_on.new.bus in
    let kept = c.found_on.ensures.bytes width device bank in
    let size : c.size_of.result ≡ bank_size old.lanes = c.size_of.ensures.value ∙ (sym (bank_words width device new c.size_of.ensures.wired kept.0) ∙ kept.1) in
    let beyond : bank_size old.lanes < c.args.at + c.args.len = omega arith in
    record { is = inl (past width old.lanes c.args.at c.args.len (g.K.Sink.state c.args.out.now) c.in_ok-found_on.field-0 c.in_ok-found_on.ensures.found beyond) }

pub returns-in_err-print_bytes-clause-reads : goal.returns-in_err-print_bytes-clause-reads
returns-in_err-print_bytes-clause-reads g c = λ device bank.
    let width = g.W.BusWord.WIDTH in
    let old = g.B.Bus.state c.args.bus.now in
    let new = g.B.Bus.state c.found_on.new.bus in
    let before = g.K.Sink.state c.args.out.now in
    let after = g.K.Sink.state c.print_bytes.new.out in
    let kept = c.found_on.ensures.bytes width device bank in
    let size : c.size_of.result ≡ bank_size old.lanes = c.size_of.ensures.value ∙ (sym (bank_words width device new c.size_of.ensures.wired kept.0) ∙ kept.1) in
    let within : c.args.at + c.args.len ≤ bank_size old.lanes = omega arith in
    let error = c.in_err-print_bytes.field-0.0 in
    let puts : PutsText (hex_line (bank_bytes device old.lanes c.args.at c.args.len)) before after (Err error) =
    subst (λ (l : List ℕ). PutsText (hex_line l) before after (Err error)) (kept.2 c.args.at c.args.len) (c.in_err-print_bytes.ensures.puts device kept.0) in
    record {
      is = inr (inside width old.lanes c.args.at c.args.len (hex_line (bank_bytes device old.lanes c.args.at c.args.len)) before after c.from_residual-in_err-print_bytes.result (Err error)
          c.in_ok-found_on.field-0 c.in_ok-found_on.ensures.found within puts (stopped_by c.from_residual-in_err-print_bytes.result (Output error) c.from_residual-in_err-print_bytes.ensures.1));
    }

pub returns-clause-reads : goal.returns-clause-reads
returns-clause-reads g c = λ device bank.
    let width = g.W.BusWord.WIDTH in
    let old = g.B.Bus.state c.args.bus.now in
    let new = g.B.Bus.state c.found_on.new.bus in
    let before = g.K.Sink.state c.args.out.now in
    let after = g.K.Sink.state c.print_bytes.new.out in
    let kept = c.found_on.ensures.bytes width device bank in
    let size : c.size_of.result ≡ bank_size old.lanes = c.size_of.ensures.value ∙ (sym (bank_words width device new c.size_of.ensures.wired kept.0) ∙ kept.1) in
    let within : c.args.at + c.args.len ≤ bank_size old.lanes = omega arith in
    let puts : PutsText (hex_line (bank_bytes device old.lanes c.args.at c.args.len)) before after (Ok c.in_ok-print_bytes.field-0) =
    subst (λ (l : List ℕ). PutsText (hex_line l) before after (Ok c.in_ok-print_bytes.field-0)) (kept.2 c.args.at c.args.len) (c.in_ok-print_bytes.ensures.puts device kept.0) in
    record {
      is = inr (inside width old.lanes c.args.at c.args.len (hex_line (bank_bytes device old.lanes c.args.at c.args.len)) before after _ (Ok c.in_ok-print_bytes.field-0)
          c.in_ok-found_on.field-0 c.in_ok-found_on.ensures.found within puts refl);
    }

pub print_bytes-requires-clause-few : goal.print_bytes-requires-clause-few
print_bytes-requires-clause-few g c =
    let few = few_bytes g.W.BusWord.WIDTH (g.B.Bus.state c.found_on.new.bus) c.size_of.ensures.wired in
    let size = c.size_of.ensures.value in
    omega arith
