-- What the loops that read a table keep.
use Rattle.std.proofs.Common.{◌≡◌, ℕ, zero, suc, ◌+◌, ◌*◌, List, [], ◌∷◌, ◌++◌, refl, ◌∙◌, ap, arith, true}
use Rattle.std.specs.List.{list_all}
use Rattle.std.specs.Prelude.{Bool, ◌%◌, ◌==◌, ◌||◌}
use Rattle.std.proofs.lemmas.Bool.{and_parts, and_from}
use Rattle.std.proofs.lemmas.List.Folds.{list_all-append}
use Rattle.nor_region.specs.declared.region.Region.{Region}
use Rattle.nor_region.specs.Regions.{is_region, are_regions}
use Rattle.nor_query.specs.Valid.{is_table_region}
use Rattle.nor_query.specs.Fields.{region_at, regions_at}

-- one region more
pub regions_at_more : (table : List ℕ) (at n : ℕ) → regions_at table at (n + 1) ≡ regions_at table at n ++ region_at table (at + 4 * n) ∷ []
regions_at_more table at zero =
    let here : at ≡ at + 4 * 0 = omega arith in
    ap (λ p. region_at table p ∷ []) here
regions_at_more table at (suc n) =
    let rest = regions_at_more table (at + 4) n in
    let here : (at + 4) + 4 * n ≡ at + 4 * suc n = omega arith in
    let count : suc n + 1 ≡ suc (n + 1) = omega arith in
    ap (λ k. regions_at table at k) count ∙ (ap (λ regions. region_at table at ∷ regions) rest ∙ ap (λ p. region_at table at ∷ (regions_at table (at + 4) n ++ region_at table p ∷ [])) here)

-- what each passes, and one more passes
pub list_all_push : (test : Region → Bool) (regions : List Region) (region : Region) → list_all test regions ≡ true → test region ≡ true → list_all test (regions ++ region ∷ []) ≡ true
list_all_push test regions region all here = list_all-append test regions (region ∷ []) ∙ and_from _ _ all (and_from _ _ here refl)

-- regions of a table are regions of a chip
pub table_regions : (regions : List Region) → list_all is_table_region regions ≡ true → are_regions regions ≡ true
table_regions [] all = refl
table_regions (region ∷ regions) all =
    let both = and_parts (is_table_region region) (list_all is_table_region regions) all in
    let here = and_parts (is_region region) (region.size == 128 || region.size % 256 == 0) both.0 in
    and_from _ _ here.0 (table_regions regions both.1)
