-- The blocks of regions that lie end to end.
use Rattle.std.proofs.Common.{◌≡◌, ◌<◌, ◌≤◌, ℕ, zero, suc, ◌+◌, ◌-◌, ◌*◌, ◌/◌, List, [], ◌∷◌, ◌++◌, length, map, refl, sym, ◌∙◌, ap, arith, true, inl, inr, length-append}
use Rattle.std.specs.Prelude.{sum_by}
use Rattle.std.proofs.lemmas.Bool.{cases_lt, lt-ltb, le-ltb, and_from, eq-eqb}
use Rattle.std.proofs.lemmas.List.{get_or-append_right, map-append}
use Rattle.std.proofs.lemmas.List.Sums.{sum_by-cons}
use Rattle.std.proofs.Math.Nat.{div-eq_of_lt, add-div_right}
use Rattle.nor_cell.specs.Chip.{block, block_at, no_span}
use Rattle.nor_cell.specs.Ranges.{follow_to}
use Rattle.nor_cell.specs.declared.device.Span.{Span}
use Rattle.nor_region.specs.Map.{blocks_from, laid, scaled_region, scaled_span}
use Rattle.nor_region.specs.Regions.{region_len, total_len}
use Rattle.nor_region.specs.declared.region.Region.{Region}

-- a region has as many blocks as it counts
pub length-blocks_from : (from count size : ℕ) → length (blocks_from from count size) ≡ count
length-blocks_from from zero size = refl
length-blocks_from from (suc count) size = ap suc (length-blocks_from (from + size) count size)

-- regions have as many blocks as they count
pub length-laid : (regions : List Region) (from : ℕ) → length (laid from regions) ≡ sum_by (λ region. region.count) regions
length-laid [] from = refl
length-laid (region ∷ regions) from =
    let blocks = blocks_from from region.count region.size in
    let rest = laid (from + region.count * region.size) regions in
    length-append blocks rest
    ∙ (ap (λ n. n + length rest) (length-blocks_from from region.count region.size)
    ∙ (ap (λ n. region.count + n) (length-laid regions (from + region.count * region.size)) ∙ sym (sum_by-cons (λ r. r.count) region regions)))

-- the block of a place in the first region
pub block_at-here : (count from size at : ℕ) (rest : List Span) → 0 < size → from ≤ at → at < from + count * size → block_at (blocks_from from count size ++ rest) at ≡ (at - from) / size
block_at-here zero from size at rest some low inside = absurd (omega arith)
block_at-here (suc count) from size at rest some low inside = elim (cases_lt at (from + size)) [
  | inl here ↦
      let less : at - from < size = omega arith in
      rw (lt-ltb at (from + size) here) (sym (div-eq_of_lt less))
  | inr past ↦
      let later = block_at-here count (from + size) size at rest some past (omega arith) in
      let parts : at - from ≡ (at - (from + size)) + size = omega arith in
      let one_more : (at - from) / size ≡ (at - (from + size)) / size + 1 = ap (λ n. n / size) parts ∙ add-div_right (at - (from + size)) some in
      rw (le-ltb at (from + size) past) (omega arith)
]

-- a place behind the first region lies in a later one
pub block_at-later : (count from size at : ℕ) (rest : List Span) → from + count * size ≤ at → block_at (blocks_from from count size ++ rest) at ≡ count + block_at rest at
block_at-later zero from size at rest past = omega arith
block_at-later (suc count) from size at rest past =
    let more : from + size ≤ at = omega arith in
    let later = block_at-later count (from + size) size at rest (omega arith) in
    rw (le-ltb at (from + size) more) (omega arith)

-- a block of the first region
pub block-here : (count from size b : ℕ) (rest : List Span) → b < count → block (blocks_from from count size ++ rest) b ≡ record { from = from + b * size; len = size }
block-here zero from size b rest less = absurd (omega arith)
block-here (suc count) from size zero rest less =
    let same : from ≡ from + 0 * size = omega arith in
    ap (λ n. record { from = n; len = size }) same
block-here (suc count) from size (suc b) rest less =
    let same : (from + size) + b * size ≡ from + suc b * size = omega arith in
    block-here count (from + size) size b rest (omega arith) ∙ ap (λ n. record { from = n; len = size }) same

-- a block of a later region
pub block-later : (count from size b : ℕ) (rest : List Span) → count ≤ b → block (blocks_from from count size ++ rest) b ≡ block rest (b - count)
block-later count from size b rest past = get_or-append_right (blocks_from from count size) rest count b no_span (length-blocks_from from count size) past

-- what follows one region follows it from the region's end
follow-region : (count from size end : ℕ) (rest : List Span) → follow_to end (from + count * size) rest ≡ true → follow_to end from (blocks_from from count size ++ rest) ≡ true
follow-region zero from size end rest follow =
    let same : from + 0 * size ≡ from = omega arith in
    rw (← same) follow
follow-region (suc count) from size end rest follow =
    let same : (from + size) + count * size ≡ from + suc count * size = omega arith in
    and_from _ _ (eq-eqb from from refl) (follow-region count (from + size) size end rest (rw same follow))

-- the blocks of regions follow each other, as far as the regions have bytes
pub follow-laid : (regions : List Region) (from : ℕ) → follow_to (from + total_len regions) from (laid from regions) ≡ true
follow-laid [] from =
    let same : from ≡ from + 0 = omega arith in
    eq-eqb from (from + 0) same
follow-laid (region ∷ regions) from =
    let len = region.count * region.size in
    let same : (from + len) + total_len regions ≡ from + total_len (region ∷ regions) = omega (arith, sum_by-cons region_len region regions) in
    follow-region region.count from region.size (from + total_len (region ∷ regions)) (laid (from + len) regions) (rw (← same) (follow-laid regions (from + len)))

-- wider regions have wider blocks
blocks_from-scaled : (count from size lanes : ℕ) → blocks_from (lanes * from) count (lanes * size) ≡ map (scaled_span lanes) (blocks_from from count size)
blocks_from-scaled zero from size lanes = refl
blocks_from-scaled (suc count) from size lanes =
    let same : lanes * from + lanes * size ≡ lanes * (from + size) = omega arith in
    ap (λ spans. record { from = lanes * from; len = lanes * size } ∷ spans)
    (ap (λ n. blocks_from n count (lanes * size)) same ∙ blocks_from-scaled count (from + size) size lanes)

-- wider regions, end to end, have wider blocks
pub laid-scaled : (regions : List Region) (from lanes : ℕ) → laid (lanes * from) (map (scaled_region lanes) regions) ≡ map (scaled_span lanes) (laid from regions)
laid-scaled [] from lanes = refl
laid-scaled (region ∷ regions) from lanes =
    let len = region.count * region.size in
    let same : lanes * from + region.count * (lanes * region.size) ≡ lanes * (from + len) = omega arith in
    let blocks = blocks_from from region.count region.size in
    let rest = laid (from + len) regions in
    ap (λ n. blocks_from (lanes * from) region.count (lanes * region.size) ++ laid n (map (scaled_region lanes) regions)) same
    ∙ (ap (λ spans. spans ++ laid (lanes * (from + len)) (map (scaled_region lanes) regions)) (blocks_from-scaled region.count from region.size lanes)
    ∙ (ap (λ spans. map (scaled_span lanes) blocks ++ spans) (laid-scaled regions (from + len) lanes) ∙ sym (map-append (scaled_span lanes) blocks rest)))

-- the bytes of one region and the rest, scaled
widen : (count size lanes rest : ℕ) → count * (lanes * size) + lanes * rest ≡ lanes * (count * size + rest)
widen count size lanes rest = omega arith

-- and more bytes in all
pub total_len-scaled : (regions : List Region) (lanes : ℕ) → total_len (map (scaled_region lanes) regions) ≡ lanes * total_len regions
total_len-scaled [] lanes = omega arith
total_len-scaled (region ∷ regions) lanes =
    let here : total_len (map (scaled_region lanes) (region ∷ regions)) ≡ region.count * (lanes * region.size) + total_len (map (scaled_region lanes) regions) = sum_by-cons region_len (scaled_region lanes region) (map (scaled_region lanes) regions) in
    let there : total_len (region ∷ regions) ≡ region.count * region.size + total_len regions = sum_by-cons region_len region regions in
    let rest = total_len-scaled regions lanes in
    here ∙ (ap (λ n. region.count * (lanes * region.size) + n) rest ∙ (widen region.count region.size lanes (total_len regions) ∙ ap (λ n. lanes * n) (sym there)))
