-- Erase regions laid end to end, and the blocks that they are.
use Rattle.std.specs.Prelude.{◌<◌, ◌≤◌, ◌+◌, ◌*◌, ◌^◌, ℕ, zero, suc, List, [], ◌∷◌, ◌++◌, reverse, length, Bool, not, ◌==◌, nat_lt, All, if◌then◌else◌, Option, Some, None}
use Rattle.nor_cell.specs.declared.device.Span.{Span}
use Rattle.nor_region.specs.Regions.{total_len}
use Rattle.nor_region.specs.declared.region.Region.{Region}
use Rattle.nor_region.specs.declared.region.RegionError.{RegionError}
use Rattle.nor_region.specs.declared.region.RegionError.TheVariants.{NoRegions, TooManyRegions, SizeMismatch}

-- so many blocks of one size, from a place on
abbrev pub blocks_from : (from count size : ℕ) → List Span
blocks_from from zero size = []
blocks_from from (suc count) size = record { from = from; len = size } ∷ blocks_from (from + size) count size

-- the blocks of regions that lie end to end, from a place on
abbrev pub laid : ℕ → List Region → List Span
laid from [] = []
laid from (region ∷ regions) = blocks_from from region.count region.size
    ++ laid (from + region.count * region.size) regions

-- the blocks of a map
abbrev pub spans_of : List Region → List Span
spans_of regions = laid 0 regions

-- the regions of a chip in the order of their addresses: the last of the table first where the chip is reversed
abbrev pub in_order : Bool → List Region → List Region
in_order reversed regions = if reversed then reverse regions else regions

-- why regions are no map of a chip of this size: the first of three reasons
abbrev pub refusal : List Region → ℕ → Option RegionError
refusal regions size =
    if length regions == 0 then Some NoRegions
    else if nat_lt 8 (length regions) then Some TooManyRegions
    else if not (total_len regions == size) then Some (SizeMismatch (total_len regions) size)
    else None

-- a region, and a span, of so many chips side by side
abbrev pub scaled_region : ℕ → Region → Region
scaled_region lanes region = record { count = region.count; size = lanes * region.size }

abbrev pub scaled_span : ℕ → Span → Span
scaled_span lanes span = record { from = lanes * span.from; len = lanes * span.len }

-- What holds of each map: it has one to eight regions, none without blocks or bytes, and below 2 ^ 32 bytes in all.
pub record IsMap (regions : List Region) : Type 0 where
  pub some : 0 < length regions
  pub few : length regions ≤ 8
  pub counts : All (λ region. 0 < region.count) regions
  pub sizes : All (λ region. 0 < region.size) regions
  pub total : total_len regions < 2 ^ 32
