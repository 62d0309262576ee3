-- What a wiring reads of chips that begin with `QRY`, where it is theirs: the table that each shows, and one table where no lane differs.
use Rattle.std.proofs.Common.{◌≡◌, ◌≢◌, ◌<◌, ◌≤◌, ◌+◌, ◌-◌, ◌%◌, ◌==◌, ◌⊎◌, inl, inr, not, ◌∙◌, ℕ, List, length, slice_index, replicate, drop, Bool, true, false, Option, Some, None, refl, sym, ap, arith}
use Rattle.std.specs.List.{find, range_with_len}
use Rattle.std.specs.Option.{option_and_then, option_map, is_some}
use Rattle.std.proofs.Math.Nat.{mod-eq_of_lt}
use Rattle.std.proofs.lemmas.Bool.{cases_lt}
use Rattle.std.proofs.lemmas.List.{get_or_append_left, get_or-append_right, get_or-replicate, get_or-drop, length-replicate, length-append, length-drop, ext_get_or}
use Rattle.std.proofs.lemmas.List.FromFn.{fill_by_all}
use Rattle.nor_cell.proofs.Logic.{is_none, find_passes}
use Rattle.nor_cell.specs.Bits.{unit_len}
use Rattle.nor_cell.specs.Chip.{ChipState}
use Rattle.nor_cell.specs.Shown.{query_at}
use Rattle.nor_cell.specs.declared.device.Device.{Device}
use Rattle.nor_cell.specs.declared.geometry.Geometry.{Geometry}
use Rattle.nor_word.specs.Word.{lane_of}
use Rattle.nor_bus.specs.Bus.{chip_at}
use Rattle.nor_lane.specs.Candidates.{wiring}
use Rattle.nor_probe.specs.Found.{query_address}
use Rattle.nor_probe.specs.Tables.{table_word, low_byte, odd_lane, difference_in, table_read, first_difference}
use Rattle.nor_probe.specs.WellWired.{shown_table}
use Rattle.nor_probe.specs.declared.error.ProbeError.{ProbeError}
use Rattle.nor_probe.specs.declared.error.ProbeError.TheVariants.{LaneDiffers}
use Rattle.nor_probe.proofs.OwnWiring.{ShowQry, lane_says, table_at, nothing_at}
use Rattle.nor_probe.proofs.Searching.{none_found}

-- ---- the table that a chip shows

shown_size : (s : ChipState) → length s.part.table ≡ 512 → length (shown_table s) ≡ 512
unfolding shown_table
shown_size s size =
    let front = length-replicate {A = ℕ} 16 0 in
    let back = length-drop 16 s.part.table in
    let all = length-append (replicate 16 0) (drop 16 s.part.table) in
    omega (arith, front, back, all, size)

shown_first : (s : ChipState) (n : ℕ) → n < 16 → slice_index (shown_table s) n ≡ 0
unfolding shown_table
shown_first s n below = get_or_append_left (replicate 16 0) (drop 16 s.part.table) 0 n (omega (arith, below)) ∙ get_or-replicate 16 n 0 0 below

-- from 0x10 on
pub shown_later : (s : ChipState) (n : ℕ) → 16 ≤ n → slice_index (shown_table s) n ≡ slice_index s.part.table n
unfolding shown_table
shown_later s n above =
    let place : 16 + (n - 16) ≡ n = omega arith in
    get_or-append_right (replicate 16 0) (drop 16 s.part.table) 16 n 0 (length-replicate {A = ℕ} 16 0) above
    ∙ (get_or-drop 16 s.part.table (n - 16) 0 ∙ ap (slice_index s.part.table) place)

-- ---- what their wiring reads

low_of : (v n : ℕ) → v ≡ n → n < 256 → v % 256 ≡ n
low_of v n is small = ap (λ (x : ℕ). x % 256) is ∙ mod-eq_of_lt small

pub byte_shown : (d : Device) (chips : List ChipState) (c n : ℕ) → ShowQry d chips → c < length chips → n < 512
    → low_byte (wiring (length chips) d) (table_word (wiring (length chips) d) chips n) c ≡ slice_index (shown_table (chip_at chips c)) n
byte_shown d chips c n show below inside = first_or_later (cases_lt n 16)
  where
    says : lane_of (unit_len d) (table_word (wiring (length chips) d) chips n) c ≡ query_at (chip_at chips c).part (query_address d n)
    says = lane_says d chips (query_address d n) c show below

    first_or_later : (n < 16) ⊎ (16 ≤ n) → low_byte (wiring (length chips) d) (table_word (wiring (length chips) d) chips n) c ≡ slice_index (shown_table (chip_at chips c)) n
    first_or_later (inl first) =
        low_of (lane_of (unit_len d) (table_word (wiring (length chips) d) chips n) c) 0 (says ∙ nothing_at d (chip_at chips c).part n (show.devices c below) first) (omega arith)
        ∙ sym (shown_first (chip_at chips c) n first)
    first_or_later (inr later) =
        low_of (lane_of (unit_len d) (table_word (wiring (length chips) d) chips n) c) (slice_index (chip_at chips c).part.table n)
        (says ∙ table_at d (chip_at chips c).part n (show.devices c below) later inside) (show.bytes c below n)
        ∙ sym (shown_later (chip_at chips c) n later)

-- the own wiring reads the tables that the chips show
pub table_shown : (d : Device) (chips : List ChipState) (c : ℕ) → ShowQry d chips → c < length chips → length (chip_at chips c).part.table ≡ 512
    → table_read (wiring (length chips) d) chips c ≡ shown_table (chip_at chips c)
unfolding table_read
table_shown d chips c show below size =
    sym (fill_by_all (λ n. low_byte (wiring (length chips) d) (table_word (wiring (length chips) d) chips n) c) (shown_table (chip_at chips c)) 512 0 (shown_size (chip_at chips c) size)
    (λ n inside. sym (byte_shown d chips c n show below inside)))

-- ---- one table, where no two lanes differ

never_none : (g : Geometry) (n : ℕ) (word : List ℕ) → is_some (odd_lane g word) ≡ true → difference_in g n word ≢ None
never_none g n word odd = by_lane (λ c. LaneDiffers c n (low_byte g word 0) (low_byte g word c)) (odd_lane g word) odd
  where
    by_lane : (f : ℕ → ProbeError) (o : Option ℕ) → is_some o ≡ true → option_map f o ≢ None
    by_lane f None odd = λ is. cc
    by_lane f (Some c) odd = λ is. cc

no_first : (p : ℕ → Bool) (f : ℕ → Option ProbeError) (xs : List ℕ) → ((n : ℕ) → p n ≡ true → f n ≢ None) → option_and_then f (find p xs) ≡ None → find p xs ≡ None
no_first p f xs never is = by_found (find p xs) refl is
  where
    by_found : (o : Option ℕ) → find p xs ≡ o → option_and_then f o ≡ None → o ≡ None
    by_found None found none = refl
    by_found (Some n) found none = absurd (never n (find_passes p xs n found) none)

alike : (a b : ℕ) → not (a == b) ≡ false → a ≡ b
alike a b is = grind (arith, is)

-- where no two lanes differ, each has lane 0's byte
all_alike : (g : Geometry) (chips : List ChipState) (c n : ℕ) → first_difference g chips ≡ None → c < g.lanes → n < 512
    → low_byte g (table_word g chips n) 0 ≡ low_byte g (table_word g chips n) c
unfolding first_difference
all_alike g chips c n none below inside =
    let at = λ (k : ℕ). table_word g chips k in
    let nowhere = no_first (λ k. is_some (odd_lane g (at k))) (λ k. difference_in g k (at k)) (range_with_len 0 512) (λ k odd. never_none g k (at k) odd) none in
    let here = is_none (odd_lane g (at n)) (none_found (λ k. is_some (odd_lane g (at k))) 0 512 nowhere n (omega arith) (omega arith)) in
    alike (low_byte g (at n) 0) (low_byte g (at n) c) (none_found (λ k. not (low_byte g (at n) 0 == low_byte g (at n) k)) 0 g.lanes here c (omega arith) (omega arith))

-- each chip shows the table of lane 0's
pub one_table : (d : Device) (chips : List ChipState) (c : ℕ) → ShowQry d chips → 0 < length chips → c < length chips
    → ((k : ℕ) → k < length chips → length (chip_at chips k).part.table ≡ 512) → first_difference (wiring (length chips) d) chips ≡ None
    → shown_table (chip_at chips c) ≡ shown_table (chip_at chips 0)
one_table d chips c show some below sizes none =
    let here = shown_size (chip_at chips c) (sizes c below) in
    let first = shown_size (chip_at chips 0) (sizes 0 some) in
    ext_get_or 0 (shown_table (chip_at chips c)) (shown_table (chip_at chips 0)) (here ∙ sym first)
    (λ n inside.
    let within : n < 512 = omega (arith, inside, here) in
    sym (byte_shown d chips c n show below within)
    ∙ (sym (all_alike (wiring (length chips) d) chips c n none below within) ∙ byte_shown d chips 0 n show some within))
