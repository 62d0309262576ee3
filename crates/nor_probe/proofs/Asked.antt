-- One chip that is asked, and the word of several.
use Rattle.std.proofs.Common.{◌≡◌, ◌<◌, ◌%◌, ℕ, List, length, sym, ap, subst, ◌∙◌, arith}
use Rattle.nor_cell.specs.Bits.{unit_len, AreBytes}
use Rattle.nor_cell.specs.Chip.{ChipState}
use Rattle.nor_cell.specs.Shown.{query_at}
use Rattle.nor_cell.specs.Steps.{Reads, written}
use Rattle.nor_cell.proofs.Between.{resets, enters_query, reads_query}
use Rattle.nor_word.specs.Word.{lane_of}
use Rattle.nor_bus.specs.Bus.{BusState, IsWired, lane, lanes_of, wide}
use Rattle.nor_bus.specs.Driven.{TakesCode, AllLanes, spread}
use Rattle.nor_bus.specs.Words.{query_word}
use Rattle.nor_bus.proofs.Driving.{fills_word, spread_low}
use Rattle.nor_bus.proofs.Words.{word_is}
use Rattle.nor_probe.specs.Asking.{Resets, Enters, ShowsQuery, Stays}

-- the low byte of what a lane takes is the code
low_code : (s : ChipState) (code : ℕ) → code < 256 → spread (wide s) code % 256 ≡ code
low_code s code small = spread_low s.part.device code small

-- two reset codes
pub both_resets : (s m t : ChipState) → TakesCode 0 0xF0 s m → TakesCode 0 0xFF m t → Resets s t
both_resets s m t first second = λ is.
    second ∙ (ap (λ (x : ChipState). written x 0 (spread (wide m) 0xFF)) first
    ∙ resets s.part.set s 0 (spread (wide s) 0xF0) (spread (wide m) 0xFF) is.rest (low_code s 0xF0 (omega arith)) (low_code m 0xFF (omega arith)))

-- the query code at both addresses
pub both_enter : (s m t : ChipState) → TakesCode 0x55 0x98 s m → TakesCode 0xAA 0x98 m t → Enters s t
both_enter s m t first second = λ is.
    second ∙ (ap (λ (x : ChipState). written x 0xAA (spread (wide m) 0x98)) first
    ∙ enters_query s (spread (wide s) 0x98) (spread (wide m) 0x98) is (low_code s 0x98 (omega arith)) (low_code m 0x98 (omega arith)))

-- a read of a chip that shows its query table
pub stays : (s t : ChipState) (u answer : ℕ) → Reads s u answer t → Stays s t
stays s t u answer reads = λ is. (reads_query s t u answer is.mode is.job is.fault reads).0

-- The word of chips that show their query tables.
pub query_is : (width : ℕ) (bus : BusState) (new : BusState) (u : ℕ) (word : List ℕ) → IsWired width bus → AllLanes ShowsQuery bus
    → length word ≡ width → AreBytes word
    → ((c : ℕ) → c < lanes_of bus → Reads (lane bus c) u (lane_of (wide (lane bus c)) word c) (lane new c)) → word ≡ query_word bus.lanes u
query_is width bus new u word wired shows size small reads =
    let device = wired.device in
    let bank = wired.bank in
    word_is device (λ s. query_at s.part u) bus.lanes word (λ c below. bank.devices c below) (size ∙ sym (fills_word width device bus.lanes bank)) small
    (λ c below.
    let is = shows c below in
    let answer : lane_of (wide (lane bus c)) word c ≡ query_at (lane bus c).part u = (reads_query (lane bus c) (lane new c) u _ is.mode is.job is.fault (reads c below)).1 in
    subst (λ (d : ℕ). lane_of d word c ≡ query_at (lane bus c).part u) (ap unit_len (bank.devices c below)) answer)
