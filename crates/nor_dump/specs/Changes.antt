-- What a bank that is made has other than all banks: paces, weak places, stuck lanes.
use Rattle.std.specs.Prelude.{ℕ, zero, suc, List, [], ◌∷◌, length, Bool, true, false, not, ◌==◌, ◌&&◌, nat_le, nat_lt, if◌then◌else◌, Option, Some, None}
use Rattle.std.specs.List.{list_any, list_all, filter_map}
use Rattle.nor_cell.specs.Ranges.{is_ascending_below, begin_units}
use Rattle.nor_cell.specs.declared.device.Device.{Device}
use Rattle.nor_cell.specs.declared.geometry.Geometry.{Geometry}
use Rattle.nor_dump.specs.declared.changes.Change.{Change}
use Rattle.nor_dump.specs.declared.changes.Change.TheVariants.{Pace, Weak, Stuck}
use Rattle.nor_dump.specs.declared.changes.ChangeError.{ChangeError}
use Rattle.nor_dump.specs.declared.changes.ChangeError.TheVariants.{BadPace, BadLane, BadWeak}
use Rattle.nor_dump.specs.declared.changes.Paces.{Paces}

-- the last paces that are given, or those given before
abbrev pub paces_from : Paces → List Change → Paces
paces_from paces [] = paces
paces_from paces (Pace new ∷ changes) = paces_from new changes
paces_from paces (Weak lane place ∷ changes) = paces_from paces changes
paces_from paces (Stuck lane ∷ changes) = paces_from paces changes

abbrev pub paces_of : List Change → Paces
paces_of changes = paces_from (record { program = 2; erase = 4; suspend = 2 }) changes

-- the weak places of a lane, in the order in which they are given
abbrev pub weak_at : ℕ → Change → Option ℕ
weak_at lane (Pace paces) = None
weak_at lane (Weak of place) = if of == lane then Some place else None
weak_at lane (Stuck of) = None

abbrev pub weak_of : ℕ → List Change → List ℕ
weak_of lane changes = filter_map (weak_at lane) changes

abbrev pub sticks : ℕ → Change → Bool
sticks lane (Pace paces) = false
sticks lane (Weak of place) = false
sticks lane (Stuck of) = of == lane

abbrev pub is_stuck : ℕ → List Change → Bool
is_stuck lane changes = list_any (sticks lane) changes

-- whether a change speaks of a lane that there is
abbrev pub is_in : ℕ → Change → Bool
is_in lanes (Pace paces) = true
is_in lanes (Weak of place) = nat_lt of lanes
is_in lanes (Stuck of) = nat_lt of lanes

-- the weak places that a chip of so many bytes may have: at most 256, ascending, each the first byte of a unit
abbrev pub is_weak_list : Device → ℕ → List ℕ → Bool
is_weak_list device size places =
    nat_le (length places) 256 && is_ascending_below size places && begin_units device places

-- those of the first n lanes
abbrev pub fit_weak : Device → ℕ → List Change → ℕ → Bool
fit_weak device size changes zero = true
fit_weak device size changes (suc n) = fit_weak device size changes n && is_weak_list device size (weak_of n changes)

-- what is wrong with changes of a bank whose chips have so many bytes
abbrev pub change_error : Geometry → ℕ → List Change → Option ChangeError
change_error g size changes =
    if nat_lt 16 (paces_of changes).suspend then Some BadPace
    else if not (list_all (is_in g.lanes) changes) then Some BadLane
    else if fit_weak g.device size changes g.lanes then None
    else Some BadWeak
