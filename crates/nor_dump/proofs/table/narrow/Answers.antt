use Rattle.std.proofs.Common.{◌≡◌, ◌<◌, ◌+◌, ◌*◌, length, Bool, false, Some, None, sym, ap, ◌∙◌, arith, if◌then◌else◌}
use Rattle.std.proofs.Math.ListN.{length-set}
use Rattle.nor_dump.specs.Table.{low_bytes, are_low}
use Rattle.nor_dump.proofs.Words.{high_stops, low_more, high_more, low_ends}
use Rattle.nor_dump.proofs.table.narrow.Goals as goal

pub returns-then-words-n-ne0 : goal.returns-then-words-n-ne0
returns-then-words-n-ne0 c =
    let words = c.args.words.now in
    let bad : are_low words ≡ false = sym c.loop-n.invariant.high ∙ high_stops words c.loop-n.n (omega arith) c.if-words-n-ne0.true in
    ap (λ (b : Bool). if b then Some (low_bytes words) else None) (sym bad)

pub loop-n-preserved : goal.loop-n-preserved
loop-n-preserved c =
    let words = c.args.words.now in
    let inside : 2 * c.loop-n.n + 1 < length words = omega arith in
    record {
      size = simp length-set c.loop-n.invariant.size;
      low = low_more words c.loop-n.table c.loop-n.n inside (omega arith) ∙ c.loop-n.invariant.low;
      high = sym (high_more words c.loop-n.n inside c.if-words-n-ne0.false) ∙ c.loop-n.invariant.high;
    }

pub returns : goal.returns
returns c = low_ends c.args.words.now c.loop-n.table c.loop-n.n (omega arith) (omega arith) c.loop-n.invariant.low c.loop-n.invariant.high
