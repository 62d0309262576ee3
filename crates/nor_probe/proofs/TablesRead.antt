-- Reading the tables of all lanes, byte by byte.
use Rattle.std.proofs.Common.{◌≡◌, ◌≢◌, ◌<◌, ◌≤◌, ◌+◌, ◌-◌, ◌*◌, ◌%◌, ◌⊎◌, inl, inr, ◌==◌, ◌&&◌, ◌||◌, not, ◌∙◌, ℕ, zero, suc, List, length, slice_index, slice_set, Bool, true, false, Option, Some, None, if◌then◌else◌, refl, sym, ap, subst, arith}
use Rattle.std.specs.Option.{option_map, option_and_then, is_some}
use Rattle.std.proofs.lemmas.Bool.{cases_eq}
use Rattle.std.proofs.lemmas.Grind.{get_or-set_at}
use Rattle.std.proofs.lemmas.List.{get_or-set_other, length-set}
use Rattle.std.proofs.lemmas.List.FromFn.{fill_by_all}
use Rattle.nor_cell.specs.Bits.{unit_len}
use Rattle.nor_cell.specs.Chip.{ChipState, Part}
use Rattle.nor_cell.specs.Shown.{query_at}
use Rattle.nor_cell.specs.declared.device.Device.{Device}
use Rattle.nor_cell.specs.declared.device.Device.TheVariants.{X8, X16, X16Byte}
use Rattle.nor_cell.specs.declared.geometry.Geometry.{Geometry}
use Rattle.nor_word.specs.Word.{lane_of}
use Rattle.nor_bus.specs.Bus.{BusState, lane}
use Rattle.nor_bus.specs.Driven.{Went, Lost, EachLane, AllLanes, Counted}
use Rattle.nor_bus.proofs.Driving.{went_none, went_then, lost_then}
use Rattle.nor_probe.specs.Asking.{ShowsQuery, Stays}
use Rattle.nor_probe.specs.Found.{query_address, shows_at, shows_qry}
use Rattle.nor_probe.specs.Tables.{table_word, low_byte, odd_lane, difference_in, table_read, first_difference, known_byte, reads_at, reads_before}
use Rattle.nor_probe.specs.declared.error.ProbeError.{ProbeError}
use Rattle.nor_probe.specs.declared.error.ProbeError.TheVariants.{LaneDiffers}
use Rattle.nor_probe.proofs.Lanes.{nothing_said, nothing_in_lane, each_reads}
use Rattle.nor_probe.proofs.Searching.{find_none, find_first}
use Rattle.nor_probe.proofs.Shown.{stay_then, same_lanes, moved}

-- ---- bytes that are known before they are read

-- no chip shows anything below bus address 0x10
nothing_below : (part : Part) (device : Device) (u : ℕ) → part.device ≡ device → u < 0x10 → query_at part u ≡ 0
nothing_below part X8 u is below = grind (arith, is, below)
nothing_below part X16 u is below = grind (arith, is, below)
nothing_below part X16Byte u is below = grind (arith, is, below)

nothing_low : (g : Geometry) (chips : List ChipState) (n c : ℕ) → query_address g.device n < 0x10 → low_byte g (table_word g chips n) c ≡ 0
nothing_low g chips n c below =
    let none : lane_of (unit_len g.device) (table_word g chips n) c ≡ 0 =
    nothing_in_lane (unit_len g.device) (table_word g chips n) c
    (λ p. nothing_said (λ s. query_at s.part (query_address g.device n)) chips p (λ s. nothing_below s.part s.part.device (query_address g.device n) refl below)) in
    ap (λ (v : ℕ). v % 256) none

letters : (q r y : Bool) → (q && r && y) ≡ true → (q ≡ true) × (r ≡ true) × (y ≡ true)
letters true true true is = (refl, refl, refl)
letters true true false is = absurd cc
letters true false y is = absurd cc
letters false r y is = absurd cc

letter_low : (g : Geometry) (chips : List ChipState) (n v c : ℕ) → v < 256 → shows_at g chips n v ≡ true → c < g.lanes → low_byte g (table_word g chips n) c ≡ v
letter_low g chips n v c small shows below =
    let reads : lane_of (unit_len g.device) (table_word g chips n) c ≡ v = each_reads (unit_len g.device) g.lanes v (table_word g chips n) shows c below in
    ap (λ (x : ℕ). x % 256) reads ∙ (let e : v % 256 ≡ v = omega arith in e)

-- which bytes these are
which_known : (device : Device) (n v : ℕ) → known_byte device n ≡ Some v
    → ((n ≡ 0x10) × (v ≡ 0x51)) ⊎ (((n ≡ 0x11) × (v ≡ 0x52)) ⊎ (((n ≡ 0x12) × (v ≡ 0x59)) ⊎ ((query_address device n < 0x10) × (v ≡ 0))))
which_known device n v is = grind (arith, is)

-- Every lane reads what is known.
pub known_low : (g : Geometry) (chips : List ChipState) (n v c : ℕ) → known_byte g.device n ≡ Some v → shows_qry g chips ≡ true → c < g.lanes
    → low_byte g (table_word g chips n) c ≡ v
known_low g chips n v c known shows below =
    let all = letters (shows_at g chips 0x10 0x51) (shows_at g chips 0x11 0x52) (shows_at g chips 0x12 0x59) shows in
    by_case all.0 all.1 all.2 (which_known g.device n v known)
  where
    by_case : shows_at g chips 0x10 0x51 ≡ true → shows_at g chips 0x11 0x52 ≡ true → shows_at g chips 0x12 0x59 ≡ true
        → ((n ≡ 0x10) × (v ≡ 0x51)) ⊎ (((n ≡ 0x11) × (v ≡ 0x52)) ⊎ (((n ≡ 0x12) × (v ≡ 0x59)) ⊎ ((query_address g.device n < 0x10) × (v ≡ 0))))
        → low_byte g (table_word g chips n) c ≡ v
    by_case q r y (inl e) = ap (λ (m : ℕ). low_byte g (table_word g chips m) c) e.0 ∙ (letter_low g chips 0x10 0x51 c (omega arith) q below ∙ sym e.1)
    by_case q r y (inr (inl e)) = ap (λ (m : ℕ). low_byte g (table_word g chips m) c) e.0 ∙ (letter_low g chips 0x11 0x52 c (omega arith) r below ∙ sym e.1)
    by_case q r y (inr (inr (inl e))) = ap (λ (m : ℕ). low_byte g (table_word g chips m) c) e.0 ∙ (letter_low g chips 0x12 0x59 c (omega arith) y below ∙ sym e.1)
    by_case q r y (inr (inr (inr e))) = nothing_low g chips n c e.0 ∙ sym e.1

same_fails : (a b : ℕ) → a ≡ b → not (a == b) ≡ false
same_fails a b is = grind (arith, is)

-- lanes that read the same don't differ
pub none_odd : (g : Geometry) (word : List ℕ) (v : ℕ) → 0 < g.lanes → ((c : ℕ) → c < g.lanes → low_byte g word c ≡ v) → odd_lane g word ≡ None
none_odd g word v some each =
    find_none (λ c. not (low_byte g word 0 == low_byte g word c)) 0 g.lanes
    (λ c above below. same_fails (low_byte g word 0) (low_byte g word c) (each 0 some ∙ sym (each c (omega (arith, below)))))

pub none_differs : (g : Geometry) (n : ℕ) (word : List ℕ) → odd_lane g word ≡ None → None ≡ difference_in g n word
none_differs g n word none = sym (ap (option_map (λ c. LaneDiffers c n (low_byte g word 0) (low_byte g word c))) none)

-- there is a lane 0
pub first_lane : (width lanes d : ℕ) → ((lanes == 1 || lanes == 2 || lanes == 4) && (width == lanes * d)) ≡ true → 0 < lanes
first_lane width lanes d is = grind (arith, is)

-- ---- how many words are read

one_more : (device : Device) (n : ℕ) → reads_before device (n + 1) ≡ reads_before device n + reads_at device n
unfolding reads_before
one_more device n = let e : n + 1 ≡ suc n = omega arith in ap (reads_before device) e

more_later : (device : Device) (n k : ℕ) → reads_before device n ≤ reads_before device (n + k)
more_later device n zero = let e : n + 0 ≡ n = omega arith in let same = ap (reads_before device) e in omega (arith, same)
more_later device n (suc k) =
    let e : n + suc k ≡ n + k + 1 = omega arith in
    let same = ap (reads_before device) e in
    let step = one_more device (n + k) in
    let less = more_later device n k in
    omega (arith, same, step, less)

last_reads : (device : Device) → reads_before device 511 ≤ 500
unfolding reads_before
last_reads X8 = omega arith
last_reads X16 = omega arith
last_reads X16Byte = omega arith

-- before the last byte at most 500
pub few_before : (device : Device) (n : ℕ) → n < 512 → reads_before device n ≤ 500
few_before device n below =
    let less = more_later device n (511 - n) in
    let e : n + (511 - n) ≡ 511 = omega arith in
    let same = ap (reads_before device) e in
    let last = last_reads device in
    omega (arith, less, same, last)

reads_one : (device : Device) (n : ℕ) → reads_at device n ≤ 1
reads_one device n = one_at_most (is_some (known_byte device n))
  where
    one_at_most : (known : Bool) → (if known then 0 else 1) ≤ 1
    one_at_most true = omega arith
    one_at_most false = omega arith

pub few_reads : (device : Device) (n : ℕ) → n ≤ 512 → reads_before device n ≤ 501
few_reads device zero most = let least = more_later device 0 0 in let first = few_before device 0 (omega arith) in omega (arith, first)
few_reads device (suc n) most =
    let e : suc n ≡ n + 1 = omega arith in
    let same = ap (reads_before device) e in
    let step = one_more device n in
    let one = reads_one device n in
    let before = few_before device n (omega arith) in
    omega (arith, same, step, one, before)

-- ---- the bytes so far

-- The first n bytes were read, and no two lanes differ in them.
pub record ReadSoFar (g : Geometry) (n : ℕ) (old now : BusState) (table : List ℕ) : Type 0 where
  pub went : Went (reads_before g.device n) (reads_before g.device n) old now
  pub stays : EachLane Stays old now
  pub size : length table ≡ 512
  pub same : AllLanes ShowsQuery old → shows_qry g old.lanes ≡ true → (k : ℕ) → k < n → odd_lane g (table_word g old.lanes k) ≡ None
  pub bytes : AllLanes ShowsQuery old → shows_qry g old.lanes ≡ true → (k : ℕ) → k < n → slice_index table k ≡ low_byte g (table_word g old.lanes k) 0

pub read_none : (g : Geometry) (bus : BusState) (table : List ℕ) → length table ≡ 512 → ReadSoFar g 0 bus bus table
unfolding reads_before
read_none g bus table size = record {
  went = went_none bus;
  stays = λ c below. λ shows. refl;
  size = size;
  same = λ all shows k below. absurd (omega arith);
  bytes = λ all shows k below. absurd (omega arith);
}

-- what the next byte's word tells, of the chips as they were
pub record ReadsNext (g : Geometry) (n : ℕ) (old now : BusState) : Type 0 where
  pub lanes : now.lanes ≡ old.lanes
  pub all : AllLanes ShowsQuery now
  pub shows : shows_qry g now.lanes ≡ true

pub reads_next : (g : Geometry) (n : ℕ) (old now : BusState) (table : List ℕ) → ReadSoFar g n old now table → AllLanes ShowsQuery old → shows_qry g old.lanes ≡ true → ReadsNext g n old now
reads_next g n old now table so all shows =
    let same = same_lanes old now so.went.kept so.stays all in
    record { lanes = same; all = moved old now same all; shows = ap (shows_qry g) same ∙ shows }

no_lane : (f : ℕ → ProbeError) (o : Option ℕ) → None ≡ option_map f o → o ≡ None
no_lane f None is = refl
no_lane f (Some c) is = absurd cc

some_lane : (f : ℕ → ProbeError) (o : Option ℕ) (e : ProbeError) → Some e ≡ option_map f o → is_some o ≡ true
some_lane f None e is = absurd cc
some_lane f (Some c) e is = refl

byte_set : (table : List ℕ) (n k byte : ℕ) (read : ℕ → ℕ) → n < length table → ((j : ℕ) → j < n → slice_index table j ≡ read j) → byte ≡ read n → k < n + 1
    → (k ≡ n) ⊎ (k ≢ n) → slice_index (slice_set table n byte) k ≡ read k
byte_set table n k byte read inside before is below (inl here) = get_or-set_at table n k byte 0 here inside ∙ (is ∙ ap read (sym here))
byte_set table n k byte read inside before is below (inr other) = get_or-set_other table n k byte 0 other ∙ before k (omega arith)

up_to : (n k : ℕ) (o : ℕ → Option ℕ) → ((j : ℕ) → j < n → o j ≡ None) → o n ≡ None → k < n + 1 → (k ≡ n) ⊎ (k ≢ n) → o k ≡ None
up_to n k o before here below (inl is) = ap o is ∙ here
up_to n k o before here below (inr other) = before k (omega arith)

pub went_more : (g : Geometry) (n : ℕ) (old now new : BusState) (table : List ℕ) → ReadSoFar g n old now table → Went (reads_at g.device n) (reads_at g.device n) now new
    → Went (reads_before g.device (n + 1)) (reads_before g.device (n + 1)) old new
went_more g n old now new table so went =
    let step = one_more g.device n in
    went_then (reads_before g.device n) (reads_before g.device n) (reads_at g.device n) (reads_at g.device n) (reads_before g.device (n + 1)) (reads_before g.device (n + 1)) old now new
    (omega (arith, step)) (omega (arith, step)) so.went went

pub stays_more : (g : Geometry) (n : ℕ) (old now new : BusState) (table : List ℕ) → ReadSoFar g n old now table → EachLane Stays now new → EachLane Stays old new
stays_more g n old now new table so stays = λ c below.
    stay_then (lane old c) (lane now c) (lane new c) (so.stays c below) (stays c (subst (λ (m : ℕ). c < m) (sym so.went.kept.count) below))

-- One more byte was read, and all lanes have it.
pub read_more : (g : Geometry) (n : ℕ) (old now new : BusState) (table : List ℕ) (byte : ℕ) → ReadSoFar g n old now table → n < 512
    → Went (reads_at g.device n) (reads_at g.device n) now new → EachLane Stays now new
    → (AllLanes ShowsQuery now → shows_qry g now.lanes ≡ true → None ≡ difference_in g n (table_word g now.lanes n))
    → (AllLanes ShowsQuery now → shows_qry g now.lanes ≡ true → byte ≡ low_byte g (table_word g now.lanes n) 0)
    → ReadSoFar g (n + 1) old new (slice_set table n byte)
read_more g n old now new table byte so inside went stays differs is = record {
  went = went_more g n old now new table so went;
  stays = stays_more g n old now new table so stays;
  size = length-set table n byte ∙ so.size;
  same = λ all shows k below.
      let next = reads_next g n old now table so all shows in
      let none : odd_lane g (table_word g now.lanes n) ≡ None =
      no_lane (λ c. LaneDiffers c n (low_byte g (table_word g now.lanes n) 0) (low_byte g (table_word g now.lanes n) c)) (odd_lane g (table_word g now.lanes n)) (differs next.all next.shows) in
      up_to n k (λ j. odd_lane g (table_word g old.lanes j)) (so.same all shows) (ap (λ (ls : List ChipState). odd_lane g (table_word g ls n)) (sym next.lanes) ∙ none) below (cases_eq k n);
  bytes = λ all shows k below.
      let next = reads_next g n old now table so all shows in
      let read : byte ≡ low_byte g (table_word g old.lanes n) 0 = is next.all next.shows ∙ ap (λ (ls : List ChipState). low_byte g (table_word g ls n) 0) next.lanes in
      byte_set table n k byte (λ j. low_byte g (table_word g old.lanes j) 0) (omega (arith, inside, so.size)) (so.bytes all shows) read below (cases_eq k n);
}

-- ---- the whole table

pub read_whole : (g : Geometry) (old now : BusState) (table : List ℕ) → ReadSoFar g 512 old now table → AllLanes ShowsQuery old → shows_qry g old.lanes ≡ true
    → table ≡ table_read g old.lanes 0
unfolding table_read
read_whole g old now table so all shows = fill_by_all (λ n. low_byte g (table_word g old.lanes n) 0) table 512 0 so.size (so.bytes all shows)

pub none_first : (g : Geometry) (old now : BusState) (table : List ℕ) → ReadSoFar g 512 old now table → AllLanes ShowsQuery old → shows_qry g old.lanes ≡ true
    → None ≡ first_difference g old.lanes
unfolding first_difference
none_first g old now table so all shows =
    sym (ap (option_and_then (λ n. difference_in g n (table_word g old.lanes n)))
    (find_none (λ n. is_some (odd_lane g (table_word g old.lanes n))) 0 512 (λ k above below. ap is_some (so.same all shows k (omega (arith, below))))))

-- The next word is the first whose lanes differ.
pub this_first : (g : Geometry) (n : ℕ) (old now : BusState) (table : List ℕ) (e : ProbeError) → ReadSoFar g n old now table → n < 512
    → (AllLanes ShowsQuery now → shows_qry g now.lanes ≡ true → Some e ≡ difference_in g n (table_word g now.lanes n))
    → AllLanes ShowsQuery old → shows_qry g old.lanes ≡ true → Some e ≡ first_difference g old.lanes
unfolding first_difference
this_first g n old now table e so inside differs all shows =
    let next = reads_next g n old now table so all shows in
    let here : Some e ≡ difference_in g n (table_word g old.lanes n) = differs next.all next.shows ∙ ap (λ (ls : List ChipState). difference_in g n (table_word g ls n)) next.lanes in
    let odd = some_lane (λ c. LaneDiffers c n (low_byte g (table_word g old.lanes n) 0) (low_byte g (table_word g old.lanes n) c)) (odd_lane g (table_word g old.lanes n)) e here in
    here ∙ sym (ap (option_and_then (λ n. difference_in g n (table_word g old.lanes n)))
    (find_first (λ n. is_some (odd_lane g (table_word g old.lanes n))) 0 512 n (omega arith) (omega arith) (λ k above below. ap is_some (so.same all shows k below)) odd))

-- ---- the cycles of it

pub read_counted : (g : Geometry) (n : ℕ) (old now : BusState) (table : List ℕ) → ReadSoFar g n old now table → n ≤ 512 → Counted 0 501 old now
read_counted g n old now table so most = record { cycles = reads_before g.device n; enough = omega arith; few = few_reads g.device n most; went = so.went }

pub next_counted : (g : Geometry) (n : ℕ) (old now new : BusState) (table : List ℕ) → ReadSoFar g n old now table → n < 512
    → Went (reads_at g.device n) (reads_at g.device n) now new → Counted 0 501 old new
next_counted g n old now new table so below went =
    record { cycles = reads_before g.device (n + 1); enough = omega arith; few = few_reads g.device (n + 1) (omega arith); went = went_more g n old now new table so went }

pub read_lost : (g : Geometry) (n : ℕ) (old now new : BusState) (table : List ℕ) → ReadSoFar g n old now table → n < 512 → Lost 1 now new → Lost 501 old new
read_lost g n old now new table so below lost =
    let few = few_before g.device n below in
    lost_then (reads_before g.device n) 1 501 old now new (omega (arith, few)) so.went lost
