use Rattle.std.proofs.Common.{rules, ◌≡◌, ◌+◌, ◌==◌, ◌∙◌, ℕ, take, drop, ap, sym}
use Rattle.std.specs.List.{before_first, after_first}
use Rattle.nor_script.specs.Grammar.{line_of}
use Rattle.nor_script.specs.Script.{script_of}
use Rattle.nor_script.proofs.Reading.{skip_line, too_many, bad_line, good_line, bad_reads, shorter, nonempty}
use Rattle.nor_script.proofs.script.parse_script.Goals as goal

pub lines-preserved-then-is_skipped : goal.lines-preserved-then-is_skipped
lines-preserved-then-is_skipped c =
    let before : take c.end_of-end.result c.lines.rest.now ≡ before_first (λ b. b == 10) c.lines.rest.now = ap (λ (n : ℕ). take n c.lines.rest.now) c.end_of-end.ensures in
    let after : c.behind-rest.result.now ≡ after_first (λ b. b == 10) c.lines.rest.now = c.behind-rest.ensures ∙ ap (λ (n : ℕ). drop (n + 1) c.lines.rest.now) c.end_of-end.ensures in
    record {
      few = shorter c.lines.number _ c.end_of-end.result c.lines.rest.now c.behind-rest.result.now c.lines.invariant.few (nonempty _ c.is_empty.result c.is_empty.ensures c.lines-test.true) c.behind-rest.ensures;
      read = skip_line (script_of c.args.race c.args.text.now) c.args.race c.lines.has_callers (c.lines.number + 1) c.lines.lines.items c.lines.rest.now _ c.behind-rest.result.now c.lines.invariant.read before after (sym c.is_skipped.ensures ∙ c.if-is_skipped.true);
    }

pub returns-then-len-ge-MAX_LINES : goal.returns-then-len-ge-MAX_LINES
returns-then-len-ge-MAX_LINES c =
    let before : take c.end_of-end.result c.lines.rest.now ≡ before_first (λ b. b == 10) c.lines.rest.now = ap (λ (n : ℕ). take n c.lines.rest.now) c.end_of-end.ensures in
    let after : c.behind-rest.result.now ≡ after_first (λ b. b == 10) c.lines.rest.now = c.behind-rest.ensures ∙ ap (λ (n : ℕ). drop (n + 1) c.lines.rest.now) c.end_of-end.ensures in
    λ some. too_many (script_of c.args.race c.args.text.now) c.args.race c.lines.has_callers (c.lines.number + 1) c.lines.lines.items c.lines.rest.now _ c.behind-rest.result.now c.lines.invariant.read before after (sym c.is_skipped.ensures ∙ c.if-is_skipped.false) (search rules)

pub returns-in_err-line : goal.returns-in_err-line
returns-in_err-line c =
    let before : take c.end_of-end.result c.lines.rest.now ≡ before_first (λ b. b == 10) c.lines.rest.now = ap (λ (n : ℕ). take n c.lines.rest.now) c.end_of-end.ensures in
    let after : c.behind-rest.result.now ≡ after_first (λ b. b == 10) c.lines.rest.now = c.behind-rest.ensures ∙ ap (λ (n : ℕ). drop (n + 1) c.lines.rest.now) c.end_of-end.ensures in
    bad_reads (script_of c.args.race c.args.text.now) (line_of c.args.race c.lines.has_callers (c.lines.number + 1) (take c.end_of-end.result c.lines.rest.now)) c.in_err-line.field-0.0 c.from_residual.result
    (bad_line (script_of c.args.race c.args.text.now) c.args.race c.lines.has_callers (c.lines.number + 1) c.lines.lines.items c.lines.rest.now _ c.behind-rest.result.now c.in_err-line.field-0.0 c.lines.invariant.read before after (sym c.is_skipped.ensures ∙ c.if-is_skipped.false) (search rules))
    c.in_err-line.ensures (search rules)

pub lines-preserved : goal.lines-preserved
lines-preserved c =
    let before : take c.end_of-end.result c.lines.rest.now ≡ before_first (λ b. b == 10) c.lines.rest.now = ap (λ (n : ℕ). take n c.lines.rest.now) c.end_of-end.ensures in
    let after : c.behind-rest.result.now ≡ after_first (λ b. b == 10) c.lines.rest.now = c.behind-rest.ensures ∙ ap (λ (n : ℕ). drop (n + 1) c.lines.rest.now) c.end_of-end.ensures in
    record {
      few = shorter c.lines.number _ c.end_of-end.result c.lines.rest.now c.behind-rest.result.now c.lines.invariant.few (nonempty _ c.is_empty.result c.is_empty.ensures c.lines-test.true) c.behind-rest.ensures;
      read = good_line (script_of c.args.race c.args.text.now) c.args.race c.lines.has_callers _ (c.lines.number + 1) c.lines.lines.items _ c.lines.rest.now _ c.behind-rest.result.now c.in_ok-line.line c.lines.invariant.read before after (sym c.is_skipped.ensures ∙ c.if-is_skipped.false) (search rules) c.in_ok-line.ensures c.in_ok-push.ensures.items c.with_caller-has_callers.ensures;
    }
