-- A bank that answers to a wiring, and what is then read of it.
use Rattle.std.proofs.Common.{◌≡◌, ◌<◌, ◌∙◌, ℕ, List, map, true, Option, Some, None, OnSome, sym, ap, subst}
use Rattle.std.specs.List.{find, range_with_len}
use Rattle.std.specs.Option.{option_and_then, option_or, option_map, is_some}
use Rattle.nor_cell.proofs.Logic.{find_passes}
use Rattle.nor_cell.specs.Between.{IsIdle}
use Rattle.nor_cell.specs.declared.geometry.Geometry.{Geometry}
use Rattle.nor_bus.specs.Bus.{BusState, lane}
use Rattle.nor_bus.specs.Cycles.{KeepsLanes}
use Rattle.nor_bus.specs.Driven.{EachLane, AllLanes, Counted}
use Rattle.nor_lane.specs.Candidates.{candidates_of}
use Rattle.nor_query.specs.Checks.{first_error}
use Rattle.nor_probe.specs.Asking.{Asks, Rests, ShowsQuery, Stays}
use Rattle.nor_probe.specs.Found.{query_address, shows_qry, found_geometry}
use Rattle.nor_probe.specs.Probed.{refusal, refusal_in, IsCommonTable}
use Rattle.nor_probe.specs.Tables.{low_byte, odd_lane, difference_in, table_read, first_difference}
use Rattle.nor_probe.specs.declared.error.ProbeError.{ProbeError}
use Rattle.nor_probe.specs.declared.error.ProbeError.TheVariants.{Query}
use Rattle.nor_probe.proofs.Shown.{asked_shows, asked_stays, asked_rests, shows_kept, word_kept}

-- ---- cycles

-- ---- a wiring that was found

on_some : {X : Type 0} (o : Option X) (x : X) (P : Type 0) → o ≡ Some x → OnSome o P → P
on_some None x P is fact = absurd cc
on_some (Some y) x P is fact = fact

-- The chips were asked, and answer to a wiring.
pub record Answers (width : ℕ) (g : Geometry) (old now : BusState) : Type 0 where
  pub counted : Counted 0 21 old now
  pub asks : EachLane Asks old now
  pub wiring : AllLanes IsIdle old → found_geometry width old.lanes ≡ Some g

pub answers_of : (width : ℕ) (g : Geometry) (old now : BusState) (found : Option Geometry) → Counted 0 21 old now → OnSome found (EachLane Asks old now)
    → (AllLanes IsIdle old → found ≡ found_geometry width old.lanes) → found ≡ Some g → Answers width g old now
answers_of width g old now found counted asked is some = record {
  counted = counted;
  asks = on_some found g (EachLane Asks old now) some asked;
  wiring = λ rests. sym (is rests) ∙ some;
}

all_show : (width : ℕ) (g : Geometry) (old now : BusState) → Answers width g old now → AllLanes IsIdle old → AllLanes ShowsQuery now
all_show width g old now answers rests = λ c below.
    let there = subst (λ (n : ℕ). c < n) answers.counted.went.kept.count below in
    asked_shows (lane old c) (lane now c) (answers.asks c there) (rests c there)

qry_shown : (width : ℕ) (g : Geometry) (old now : BusState) → Answers width g old now → AllLanes IsIdle old → shows_qry g now.lanes ≡ true
qry_shown width g old now answers rests =
    shows_kept g old now answers.counted.went.kept ∙ find_passes (λ (x : Geometry). shows_qry x old.lanes) (candidates_of width) g (answers.wiring rests)

table_kept : (g : Geometry) (a b : BusState) (c : ℕ) → KeepsLanes a b → table_read g b.lanes c ≡ table_read g a.lanes c
unfolding table_read
table_kept g a b c kept = λ i. map (λ n. low_byte g (word_kept a b (query_address g.device n) kept i) c) (range_with_len 0 512)

difference_kept : (g : Geometry) (a b : BusState) → KeepsLanes a b → first_difference g b.lanes ≡ first_difference g a.lanes
unfolding first_difference
difference_kept g a b kept = λ i.
    option_and_then (λ n. difference_in g n (word_kept a b (query_address g.device n) kept i))
    (find (λ n. is_some (odd_lane g (word_kept a b (query_address g.device n) kept i))) (range_with_len 0 512))

-- ---- what was read then

pub read_rests : (width : ℕ) (g : Geometry) (old now new : BusState) → Answers width g old now → EachLane Stays now new → EachLane Rests old new
read_rests width g old now new answers stays = λ c below.
    let there = subst (λ (n : ℕ). c < n) (sym answers.counted.went.kept.count) below in
    asked_rests (lane old c) (lane new c) (asked_stays (lane old c) (lane now c) (lane new c) (answers.asks c below) (stays c there))

pub common_table : (width : ℕ) (g : Geometry) (old now : BusState) (table : List ℕ) → Answers width g old now
    → (AllLanes ShowsQuery now → shows_qry g now.lanes ≡ true → None ≡ first_difference g now.lanes)
    → (AllLanes ShowsQuery now → shows_qry g now.lanes ≡ true → table ≡ table_read g now.lanes 0)
    → AllLanes IsIdle old → IsCommonTable width old.lanes g table
common_table width g old now table answers same is rests =
    let all = all_show width g old now answers rests in
    let shows = qry_shown width g old now answers rests in
    let kept = answers.counted.went.kept in
    record {
      wiring = answers.wiring rests;
      same = sym (same all shows ∙ difference_kept g old now kept);
      bytes = is all shows ∙ table_kept g old now 0 kept;
    }

pub lanes_refused : (width : ℕ) (g : Geometry) (old now : BusState) (e : ProbeError) → Answers width g old now
    → (AllLanes ShowsQuery now → shows_qry g now.lanes ≡ true → Some e ≡ first_difference g now.lanes)
    → AllLanes IsIdle old → refusal width old.lanes ≡ Some e
lanes_refused width g old now e answers differs rests =
    let all = all_show width g old now answers rests in
    let shows = qry_shown width g old now answers rests in
    let here = sym (differs all shows ∙ difference_kept g old now answers.counted.went.kept) in
    ap (λ o. refusal_in o old.lanes) (answers.wiring rests)
    ∙ ap (λ o. option_or o (option_map Query (first_error (table_read g old.lanes 0)))) here
