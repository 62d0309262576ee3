use Rattle.std.proofs.Common.{rules, of_calls, ◌≡◌, ◌≤◌, ◌<◌, ℕ, List, sym, subst, arith, true, false, nat_lt, length, get_or, leb}
use Rattle.std.specs.List.Sorted.{IsPartitionPoint}
use Rattle.std.proofs.lemmas.Bool.Decides.{nat_tests}
use Rattle.std.proofs.lemmas.Fn.{always_returns_same}
use Rattle.std.proofs.lemmas.List.Sorted.{IsPartitionedBy-leb}
use Rattle.std.proofs.lemmas.List.Sums.{position_or_len_is}
use Rattle.nor_cell.specs.Chip.{block_at, span_end, no_span}
use Rattle.nor_cell.specs.declared.device.Span.{Span}
use Rattle.nor_cell.proofs.Spans.{ends_rise}
use Rattle.nor_cell.proofs.blocks.block_at.Goals as goal

ends_by : (p : ℕ) (span : Span) → leb (span_end span) p ≡ true → nat_lt p (span_end span) ≡ false
ends_by p span h = grind (arith, nat_tests)

ends_after : (p : ℕ) (span : Span) → leb (span_end span) p ≡ false → nat_lt p (span_end span) ≡ true
ends_after p span h = grind (arith, nat_tests)

-- where the blocks stop ending before the place
point_is : (blocks : List Span) (p i : ℕ) → i ≤ length blocks →
    IsPartitionPoint (λ span. leb (span_end span) p ≡ true) (λ span. leb (span_end span) p ≡ false) blocks i → i ≡ block_at blocks p
point_is blocks p i le h =
    sym (position_or_len_is (λ span. nat_lt p (span_end span)) blocks i no_span le
    (λ k lt. ends_by p (get_or blocks k no_span) (h.0 k no_span (omega arith) lt))
    (λ lt. ends_after p (get_or blocks i no_span) (h.1 i no_span (omega arith) lt)))

pub returns : goal.returns
returns c =
    let z = c.args.cells.now in
    let same : c.as_slice.result.now ≡ z.blocks.items = c.as_slice.ensures.value in
    let rise = subst (λ (l : List Span). (i j : ℕ) (d : Span) → i ≤ j → j < length l → span_end (get_or l i d) ≤ span_end (get_or l j d)) (sym same) (ends_rise _ z.blocks.items z.follow) in
    let point = c.partition_point.ensures.partitioned (λ span. leb (span_end span) c.args.place) (always_returns_same _ _ _ (λ a r f k. search (rules, of_calls)))
    (IsPartitionedBy-leb span_end c.as_slice.result.now c.args.place rise) in
    rw (sym same) (point_is c.as_slice.result.now c.args.place c.partition_point.result c.partition_point.ensures.bound point)
