-- What is found on a well wired bus is its own.
use Rattle.std.proofs.Common.{◌≡◌, ◌<◌, ◌∙◌, ℕ, List, slice_index, Some, None, sym, ap, subst, arith}
use Rattle.std.specs.Option.{option_and_then, option_or, option_map, is_some}
use Rattle.nor_cell.specs.declared.geometry.Geometry.{Geometry}
use Rattle.nor_bus.specs.Bus.{BusState, lane, lanes_of}
use Rattle.nor_bus.proofs.Driving.{some_lane}
use Rattle.nor_lane.specs.Candidates.{wiring}
use Rattle.nor_query.specs.Checks.{first_error}
use Rattle.nor_probe.specs.Found.{found_geometry}
use Rattle.nor_probe.specs.Probed.{refusal, refusal_in, IsFoundBy, IsFoundOn}
use Rattle.nor_probe.specs.Tables.{table_word, low_byte, odd_lane, difference_in, table_read, first_difference}
use Rattle.nor_probe.specs.WellWired.{shown_table, IsWellWired, ShowsItself, AllShow, IsOwnFound}
use Rattle.nor_probe.specs.declared.error.ProbeError.TheVariants.{Query}
use Rattle.nor_probe.specs.declared.probing.Found.{Found}
use Rattle.nor_probe.proofs.OneTable.{byte_shown, table_shown, one_table}
use Rattle.nor_probe.proofs.OwnWiring.{ShowQry, own_first}
use Rattle.nor_probe.proofs.Searching.{find_none}
use Rattle.nor_probe.proofs.TablesRead.{none_odd}

-- ---- a well wired bus

chips_show : (width : ℕ) (g : Geometry) (bus : BusState) → IsWellWired width g bus → ShowQry g.device bus.lanes
chips_show width g bus well = record {
  devices = well.own.bank.devices;
  tables = λ c below. (well.chips c below).qry;
  bytes = λ c below. (well.chips c below).chip.table_bytes;
}

own_wiring : (width : ℕ) (g : Geometry) (bus : BusState) → IsWellWired width g bus → found_geometry width bus.lanes ≡ Some g
own_wiring width g bus well =
    own_first width g.device bus.lanes well.own.bank.wiring (chips_show width g bus well) ∙ ap (λ (n : ℕ). Some (wiring n g.device)) well.own.count

own_geometry : (width : ℕ) (g : Geometry) (bus : BusState) → IsWellWired width g bus → wiring (lanes_of bus) g.device ≡ g
own_geometry width g bus well = ap (λ (n : ℕ). wiring n g.device) well.own.count

own_byte : (width : ℕ) (g : Geometry) (bus : BusState) (c n : ℕ) → IsWellWired width g bus → c < lanes_of bus → n < 512
    → low_byte g (table_word g bus.lanes n) c ≡ slice_index (shown_table (lane bus c)) n
own_byte width g bus c n well below inside =
    subst (λ (h : Geometry). low_byte h (table_word h bus.lanes n) c ≡ slice_index (shown_table (lane bus c)) n) (own_geometry width g bus well)
    (byte_shown g.device bus.lanes c n (chips_show width g bus well) below inside)

own_table : (width : ℕ) (g : Geometry) (bus : BusState) (c : ℕ) → IsWellWired width g bus → c < lanes_of bus → table_read g bus.lanes c ≡ shown_table (lane bus c)
own_table width g bus c well below =
    subst (λ (h : Geometry). table_read h bus.lanes c ≡ shown_table (lane bus c)) (own_geometry width g bus well)
    (table_shown g.device bus.lanes c (chips_show width g bus well) below (well.chips c below).chip.table_size)

-- Its own wiring is found, and reads the tables that the chips show.
pub shows_itself : (width : ℕ) (g : Geometry) (bus : BusState) → IsWellWired width g bus → ShowsItself width g bus
shows_itself width g bus well = record { wiring = own_wiring width g bus well; tables = λ c below. own_table width g bus c well below }

-- ---- one table on all lanes

first_below : (width : ℕ) (g : Geometry) (bus : BusState) → IsWellWired width g bus → 0 < lanes_of bus
first_below width g bus well = some_lane width g.device bus.lanes well.own.bank

same_none : (width : ℕ) (g : Geometry) (bus : BusState) (table : List ℕ) → IsWellWired width g bus → AllShow table bus → first_difference g bus.lanes ≡ None
unfolding first_difference
same_none width g bus table well all =
    let some = first_below width g bus well in
    let count = well.own.count in
    ap (option_and_then (λ n. difference_in g n (table_word g bus.lanes n)))
    (find_none (λ n. is_some (odd_lane g (table_word g bus.lanes n))) 0 512
    (λ n above inside. ap is_some (none_odd g (table_word g bus.lanes n) (slice_index table n) (omega (arith, some, count))
    (λ c less. own_byte width g bus c n well (omega (arith, less, count)) (omega (arith, inside)) ∙ ap (λ (t : List ℕ). slice_index t n) (all c (omega (arith, less, count)))))))

-- Such a table, where no check of it fails, isn't refused.
pub accepts : (width : ℕ) (g : Geometry) (bus : BusState) (table : List ℕ) → IsWellWired width g bus → AllShow table bus → first_error table ≡ None → refusal width bus.lanes ≡ None
accepts width g bus table well all passes =
    let some = first_below width g bus well in
    let read : table_read g bus.lanes 0 ≡ table = own_table width g bus 0 well some ∙ all 0 some in
    ap (λ o. refusal_in o bus.lanes) (own_wiring width g bus well)
    ∙ (ap (λ o. option_or o (option_map Query (first_error (table_read g bus.lanes 0)))) (same_none width g bus table well all)
    ∙ (ap (λ (t : List ℕ). option_map Query (first_error t)) read ∙ ap (option_map Query) passes))

all_alike : (width : ℕ) (g : Geometry) (bus : BusState) → IsWellWired width g bus → first_difference g bus.lanes ≡ None → AllShow (shown_table (lane bus 0)) bus
all_alike width g bus well none = λ c below.
    one_table g.device bus.lanes c (chips_show width g bus well) (first_below width g bus well) below (λ k less. (well.chips k less).chip.table_size)
    (subst (λ (h : Geometry). first_difference h bus.lanes ≡ None) (sym (own_geometry width g bus well)) none)

same_some : (g h : Geometry) → Some g ≡ Some h → g ≡ h
same_some g h is = cc

-- What is found is the bus's own.
pub own_found : (width : ℕ) (g : Geometry) (bus : BusState) (found : Found) → IsWellWired width g bus → IsFoundOn width bus.lanes found → IsOwnFound g bus found
own_found width g bus found well is =
    let wired : found.geometry ≡ g = same_some found.geometry g (sym is.wiring ∙ own_wiring width g bus well) in
    let none : first_difference g bus.lanes ≡ None = subst (λ (x : Geometry). first_difference x bus.lanes ≡ None) wired is.same in
    let says : IsFoundBy g (table_read g bus.lanes 0) found = subst (λ (x : Geometry). IsFoundBy x (table_read x bus.lanes 0) found) wired is.says in
    record {
      table = shown_table (lane bus 0);
      same = all_alike width g bus well none;
      says = subst (λ (t : List ℕ). IsFoundBy g t found) (own_table width g bus 0 well (first_below width g bus well)) says;
    }
