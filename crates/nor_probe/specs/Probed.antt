-- What probing answers of a bank.
use Rattle.std.specs.Prelude.{◌≡◌, ℕ, List, Option, Some, None, map, length}
use Rattle.std.specs.Option.{option_or, option_map}
use Rattle.nor_cell.specs.Chip.{ChipState}
use Rattle.nor_cell.specs.declared.geometry.Geometry.{Geometry}
use Rattle.nor_region.specs.Map.{in_order, scaled_region, scaled_span, spans_of}
use Rattle.nor_query.specs.Checks.{first_error}
use Rattle.nor_query.specs.Derived.{is_reversed, table_blocks}
use Rattle.nor_query.specs.Stands.{StandsFor}
use Rattle.nor_probe.specs.Found.{found_geometry}
use Rattle.nor_probe.specs.Tables.{table_read, first_difference}
use Rattle.nor_probe.specs.declared.error.ProbeError.{ProbeError}
use Rattle.nor_probe.specs.declared.error.ProbeError.TheVariants.{NoAnswer, Query}
use Rattle.nor_probe.specs.declared.probing.Found.{Found}

-- by the wiring that the bank answers to: lanes whose tables differ, or a table that is refused
abbrev pub refusal_in : Option Geometry → List ChipState → Option ProbeError
refusal_in None chips = Some NoAnswer
refusal_in (Some g) chips = option_or (first_difference g chips) (option_map Query (first_error (table_read g chips 0)))

-- why probing refuses a bank of these chips on a bus of so many bytes; None where it accepts it
abbrev pub refusal : ℕ → List ChipState → Option ProbeError
refusal width chips = refusal_in (found_geometry width chips) chips

-- The first wiring that the bank answers to, and the table that all its lanes show.
pub record IsCommonTable (width : ℕ) (chips : List ChipState) (g : Geometry) (table : List ℕ) : Type 0 where
  pub wiring : found_geometry width chips ≡ Some g
  pub same : first_difference g chips ≡ None
  pub bytes : table ≡ table_read g chips 0

-- What a table says of a bank of such chips on a wiring: the query that it stands for, and its regions in the order of their
-- addresses, as wide as all lanes side by side.
pub record IsFoundBy (g : Geometry) (table : List ℕ) (found : Found) : Type 0 where
  pub wiring : found.geometry ≡ g
  pub stands : StandsFor table found.query
  pub regions : found.map ≡ map (scaled_region g.lanes)
      (in_order (is_reversed found.query.extended found.query.minor (length found.query.regions.items)) found.query.regions.items)
  pub blocks : spans_of found.map ≡ map (scaled_span g.lanes) (table_blocks table)

-- Some table says it.
pub record IsOfTable (found : Found) : Type 0 where
  pub table : List ℕ
  pub says : IsFoundBy found.geometry table found

-- What is found on a bank: the first wiring that it answers to, and what the table says that all lanes show.
pub record IsFoundOn (width : ℕ) (chips : List ChipState) (found : Found) : Type 0 where
  pub wiring : found_geometry width chips ≡ Some found.geometry
  pub same : first_difference found.geometry chips ≡ None
  pub says : IsFoundBy found.geometry (table_read found.geometry chips 0) found
