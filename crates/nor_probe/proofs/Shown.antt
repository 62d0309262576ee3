-- What several readings of the query table show together.
use Rattle.std.proofs.Common.{slice_index_or, All, IsTrue, suc, ◌≡◌, ◌<◌, ◌≤◌, ◌+◌, ◌*◌, ◌&&◌, ℕ, List, length, refl, sym, ap, subst, ◌∙◌, arith, Bool, true, false, drop, ◌∷◌, Some, cond}
use Rattle.std.specs.List.{find}
use Rattle.std.proofs.lemmas.List.Elements.{All-get_or}
use Rattle.std.proofs.Math.Seq.{drop-cons}
use Rattle.nor_cell.specs.Bits.{unit_bytes, unit_len}
use Rattle.nor_cell.specs.Chip.{ChipState, Part, Query}
use Rattle.nor_cell.specs.Shown.{query_at}
use Rattle.nor_cell.specs.Between.{IsIdle, reset}
use Rattle.nor_cell.proofs.Between.{query_idle}
use Rattle.nor_cell.specs.declared.geometry.Geometry.{Geometry}
use Rattle.nor_bus.specs.Bus.{BusState, lane, chip_at}
use Rattle.nor_bus.specs.Cycles.{KeepsLanes}
use Rattle.nor_bus.specs.Driven.{EachLane, AllLanes, Went, Counted}
use Rattle.nor_bus.specs.Words.{query_word}
use Rattle.nor_bus.proofs.Words.{same_chips, same_words}
use Rattle.nor_bus.proofs.Driving.{went_then}
use Rattle.nor_cell.specs.Wiring.{is_wiring}
use Rattle.nor_lane.specs.Candidates.{candidates_of}
use Rattle.nor_lane.proofs.Geometries.{candidates_fit}
use Rattle.nor_probe.specs.Asking.{Resets, Asks, ShowsQuery, Stays, Rests}
use Rattle.nor_probe.specs.Found.{lanes_read, query_address, shows_at, shows_qry, found_geometry}

-- ---- chips that stay as they are

pub stay_then : (s m t : ChipState) → Stays s m → Stays m t → Stays s t
stay_then s m t first second = λ is. let e = first is in second (subst ShowsQuery (sym e) is) ∙ e

-- a bus whose chips stay
pub same_lanes : (a b : BusState) → KeepsLanes a b → EachLane Stays a b → AllLanes ShowsQuery a → b.lanes ≡ a.lanes
same_lanes a b kept stays shows = same_chips a.lanes b.lanes kept.count (λ c below. stays c below (shows c below))

-- they go on showing their tables
pub moved : (a b : BusState) → b.lanes ≡ a.lanes → AllLanes ShowsQuery a → AllLanes ShowsQuery b
moved a b same shows =
    let there : (c : ℕ) → c < length b.lanes → ShowsQuery (chip_at b.lanes c) = subst (λ (ls : List ChipState). (c : ℕ) → c < length ls → ShowsQuery (chip_at ls c)) (sym same) shows in there

-- three letters, one after another
pub all_letters : (g : Geometry) (old a b : BusState) (q r y : Bool) → KeepsLanes old a → KeepsLanes a b → EachLane Stays old a → EachLane Stays a b
    → (AllLanes ShowsQuery old → q ≡ shows_at g old.lanes 0x10 0x51) → (AllLanes ShowsQuery a → r ≡ shows_at g a.lanes 0x11 0x52) → (AllLanes ShowsQuery b → y ≡ shows_at g b.lanes 0x12 0x59)
    → AllLanes ShowsQuery old → (q && r && y) ≡ shows_qry g old.lanes
all_letters g old a b q r y k l first second one two three shows =
    let same_a = same_lanes old a k first shows in
    let shows_a = moved old a same_a shows in
    let same_b = same_lanes a b l second shows_a ∙ same_a in
    let shows_b = moved old b same_b shows in
    let p : q ≡ shows_at g old.lanes 0x10 0x51 = one shows in
    let s : r ≡ shows_at g old.lanes 0x11 0x52 = two shows_a ∙ ap (λ (ls : List ChipState). shows_at g ls 0x11 0x52) same_a in
    let t : y ≡ shows_at g old.lanes 0x12 0x59 = three shows_b ∙ ap (λ (ls : List ChipState). shows_at g ls 0x12 0x59) same_b in
    ap (λ (x : Bool). x && r && y) p ∙ (ap (λ (x : Bool). shows_at g old.lanes 0x10 0x51 && x && y) s ∙ ap (λ (x : Bool). shows_at g old.lanes 0x10 0x51 && shows_at g old.lanes 0x11 0x52 && x) t)

-- ---- chips that were asked

pub asked_shows : (s m : ChipState) → Asks s m → IsIdle s → ShowsQuery m
asked_shows s m asks is = subst ShowsQuery (sym (asks is)) (record { mode = refl; job = is.rest.job; fault = refl })

pub asked_stays : (s m t : ChipState) → Asks s m → Stays m t → Asks s t
asked_stays s m t asks stays = λ is. stays (asked_shows s m asks is) ∙ asks is

pub asked_rests : (s t : ChipState) → Asks s t → Rests s t
asked_rests s t asks = λ is. (subst IsIdle (sym (asks is)) (query_idle s is), ap reset (asks is))

pub rests_asked : (s m t : ChipState) → Rests s m → Asks m t → Asks s t
rests_asked s m t first asks = λ is. let x = first is in asks x.0 ∙ ap (λ (r : ChipState). record r { mode = Query }) x.1

pub rests_then : (s m t : ChipState) → Rests s m → Rests m t → Rests s t
rests_then s m t first second = λ is. let x = first is in let y = second x.0 in (y.0, y.1 ∙ x.1)

pub rests_reset : (s m t : ChipState) → Rests s m → Resets m t → Resets s t
rests_reset s m t first last = λ is. let x = first is in last x.0 ∙ x.1

-- ---- what a wiring shows depends on what the chips are alone

pub word_kept : (a b : BusState) (u : ℕ) → KeepsLanes a b → query_word b.lanes u ≡ query_word a.lanes u
word_kept a b u kept = same_words (λ s. query_at s.part u) (λ s. query_at s.part u) a.lanes b.lanes kept.count
    (λ c below. ap (λ (p : Part). unit_bytes p.device (query_at p u)) (kept.each c below).part)

at_kept : (g : Geometry) (a b : BusState) (n v : ℕ) → KeepsLanes a b → shows_at g b.lanes n v ≡ shows_at g a.lanes n v
at_kept g a b n v kept = ap (λ (w : List ℕ). lanes_read (unit_len g.device) g.lanes w v) (word_kept a b (query_address g.device n) kept)

pub shows_kept : (g : Geometry) (a b : BusState) → KeepsLanes a b → shows_qry g b.lanes ≡ shows_qry g a.lanes
shows_kept g a b kept =
    ap (λ (x : Bool). x && shows_at g b.lanes 0x11 0x52 && shows_at g b.lanes 0x12 0x59) (at_kept g a b 0x10 0x51 kept)
    ∙ (ap (λ (x : Bool). shows_at g a.lanes 0x10 0x51 && x && shows_at g b.lanes 0x12 0x59) (at_kept g a b 0x11 0x52 kept)
    ∙ ap (λ (x : Bool). shows_at g a.lanes 0x10 0x51 && shows_at g a.lanes 0x11 0x52 && x) (at_kept g a b 0x12 0x59 kept))

-- ---- one wiring after another

-- The first i wirings were tried, and none of them showed.
pub record Tried (width i : ℕ) (old now : BusState) : Type 0 where
  pub went : Went (7 * i) (7 * i) old now
  pub rests : EachLane Rests old now
  pub left : AllLanes IsIdle old → found_geometry width old.lanes ≡ find (λ (g : Geometry). shows_qry g old.lanes) (drop i (candidates_of width))

resting_now : (old now : BusState) → KeepsLanes old now → EachLane Rests old now → AllLanes IsIdle old → AllLanes IsIdle now
resting_now old now kept rests is = λ c below. let there = subst (λ (n : ℕ). c < n) kept.count below in (rests c there (is c there)).0

next_rests : (old now new : BusState) → KeepsLanes old now → EachLane Rests old now → EachLane Rests now new → EachLane Rests old new
next_rests old now new kept first second = λ c below. rests_then (lane old c) (lane now c) (lane new c) (first c below) (second c (subst (λ (n : ℕ). c < n) (sym kept.count) below))

next_asks : (old now new : BusState) → KeepsLanes old now → EachLane Rests old now → EachLane Asks now new → EachLane Asks old new
next_asks old now new kept first second = λ c below. rests_asked (lane old c) (lane now c) (lane new c) (first c below) (second c (subst (λ (n : ℕ). c < n) (sym kept.count) below))

-- what this wiring shows
this_shows : (g : Geometry) (old now : BusState) (shows : Bool) → KeepsLanes old now → EachLane Rests old now → (AllLanes IsIdle now → shows ≡ shows_qry g now.lanes)
    → AllLanes IsIdle old → shows ≡ shows_qry g old.lanes
this_shows g old now shows kept rests answer is = answer (resting_now old now kept rests is) ∙ shows_kept g old now kept

-- one more was tried, and didn't show
pub tried_more : (width i : ℕ) (g : Geometry) (old now new : BusState) (shows : Bool) → Tried width i old now
    → Went 7 7 now new → EachLane Asks now new → (AllLanes IsIdle now → shows ≡ shows_qry g now.lanes)
    → drop i (candidates_of width) ≡ g ∷ drop (i + 1) (candidates_of width) → shows ≡ false → Tried width (i + 1) old new
tried_more width i g old now new shows so went asks answer is hidden = record {
  went = went_then (7 * i) (7 * i) 7 7 (7 * (i + 1)) (7 * (i + 1)) old now new (omega arith) (omega arith) so.went went;
  rests = next_rests old now new so.went.kept so.rests (λ c below. asked_rests (lane now c) (lane new c) (asks c below));
  left = λ all.
      let p = λ (x : Geometry). shows_qry x old.lanes in
      let here : p g ≡ false = sym (this_shows g old now shows so.went.kept so.rests answer all) ∙ hidden in
      so.left all ∙ (ap (find p) is ∙ ap (λ (b : Bool). cond b (Some g) (find p (drop (i + 1) (candidates_of width)))) here);
}

-- one more was tried, and shows
pub tried_found : (width i : ℕ) (g : Geometry) (old now : BusState) (shows : Bool) → Tried width i old now
    → (AllLanes IsIdle now → shows ≡ shows_qry g now.lanes)
    → drop i (candidates_of width) ≡ g ∷ drop (i + 1) (candidates_of width) → shows ≡ true → AllLanes IsIdle old → Some g ≡ found_geometry width old.lanes
tried_found width i g old now shows so answer is seen all =
    let p = λ (x : Geometry). shows_qry x old.lanes in
    let here : p g ≡ true = sym (this_shows g old now shows so.went.kept so.rests answer all) ∙ seen in
    sym (so.left all ∙ (ap (find p) is ∙ ap (λ (b : Bool). cond b (Some g) (find p (drop (i + 1) (candidates_of width)))) here))

-- one more was tried, and the chips show their tables
pub tried_asks : (width i : ℕ) (old now new : BusState) → Tried width i old now → EachLane Asks now new → EachLane Asks old new
tried_asks width i old now new so asks = next_asks old now new so.went.kept so.rests asks

-- so many cycles
pub tried_counted : (width i : ℕ) (old now : BusState) → Tried width i old now → i ≤ 3 → Counted 0 21 old now
tried_counted width i old now so few = record { cycles = 7 * i; enough = omega arith; few = omega arith; went = so.went }

-- and seven more
pub tried_and_seven : (width i : ℕ) (old now new : BusState) → Tried width i old now → Went 7 7 now new → i < 3 → Counted 0 21 old new
tried_and_seven width i old now new so went few =
    record { cycles = 7 * i + 7; enough = omega arith; few = omega arith; went = went_then (7 * i) (7 * i) 7 7 (7 * i + 7) (7 * i + 7) old now new (omega arith) (omega arith) so.went went }

-- the wiring that is tried next
pub next_wiring : (width i : ℕ) (xs : List Geometry) (d : Geometry) → xs ≡ candidates_of width → i < length xs
    → drop i (candidates_of width) ≡ slice_index_or xs i d ∷ drop (i + 1) (candidates_of width)
next_wiring width i xs d is below =
    let next : drop (suc i) xs ≡ drop (i + 1) xs = let e : suc i ≡ i + 1 = omega arith in ap (λ (n : ℕ). drop n xs) e in
    subst (λ (ys : List Geometry). drop i ys ≡ slice_index_or xs i d ∷ drop (i + 1) ys) is (drop-cons xs i d below ∙ ap (λ (ys : List Geometry). slice_index_or xs i d ∷ ys) next)

-- it is a wiring of the word
pub candidate_fits : (width i : ℕ) (xs : List Geometry) (d : Geometry) → xs ≡ candidates_of width → i < length xs
    → let g = slice_index_or xs i d in IsTrue (is_wiring width g.lanes g.device)
candidate_fits width i xs d is below =
    let fits = λ (g : Geometry). IsTrue (is_wiring width g.lanes g.device) in
    All-get_or fits xs i d below (subst (λ (ys : List Geometry). All fits ys) (sym is) (candidates_fit width))
