-- Erase regions: so many blocks of one size.
use Rattle.std.specs.Prelude.{◌*◌, ℕ, Bool, ◌&&◌, nat_le, List, sum_by}
use Rattle.std.specs.List.{list_all}
use Rattle.nor_region.specs.declared.region.Region.{Region}

-- how many bytes a region has
abbrev pub region_len : Region → ℕ
region_len region = region.count * region.size

-- how many bytes regions have in all
abbrev pub total_len : List Region → ℕ
total_len regions = sum_by region_len regions

-- 1 to 65,536 blocks of 128 to 16,776,960 bytes
abbrev pub is_region : Region → Bool
is_region region = nat_le 1 region.count && nat_le region.count 65536 && nat_le 128 region.size
    && nat_le region.size 16776960

abbrev pub are_regions : List Region → Bool
are_regions regions = list_all is_region regions
