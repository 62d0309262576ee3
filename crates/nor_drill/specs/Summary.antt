-- What is told of a drill: how often each answer came, and the sum of the bank's bytes.
use Rattle.std.specs.Prelude.{◌≡◌, ◌<◌, ℕ, ◌+◌, ◌-◌, ◌^◌, ◌==◌, min, List, [], ◌∷◌, ◌++◌, length, filter, map, slice_index, replicate, codes, decimal, true, false, Result, Ok}
use Rattle.std.specs.List.{range_with_len, sum, sum_by, slice_set}
use Rattle.std.specs.declared.convert.Infallible.{Infallible}
use Rattle.nor_array.specs.declared.entry.Entry.{Entry}
use Rattle.nor_array.specs.declared.entry.Halted.TheVariants.{Off, Stuck}
use Rattle.nor_array.specs.declared.entry.Op.{Op}
use Rattle.nor_array.specs.declared.entry.Op.TheVariants.{Read}
use Rattle.nor_array.specs.declared.entry.Reply.{Reply}
use Rattle.nor_array.specs.declared.entry.Reply.TheVariants.{Done, Opened, Erased, Bit, OutOfRange, TooLong, Busy, Occupied, Locked, NoLocks, NoChipErase, Nothing, NotYet, Failed, Halted}
use Rattle.nor_cell.specs.Chip.{ChipState}
use Rattle.nor_run.specs.Taking.{TakesAll}

-- the words of a summary, in its order
abbrev pub words : List (List ℕ)
words = codes "done" ∷ codes "read" ∷ codes "opened" ∷ codes "erased" ∷ codes "yes" ∷ codes "no"
    ∷ codes "out-of-range" ∷ codes "too-long" ∷ codes "busy" ∷ codes "occupied" ∷ codes "locked" ∷ codes "no-locks"
    ∷ codes "nothing" ∷ codes "not-yet" ∷ codes "failed" ∷ codes "off" ∷ codes "stuck" ∷ []

-- The place of the word under which an entry counts. A read that is done counts as read. No word stands for a bank that
-- offers no erase of all blocks at once: a drill asks for none.
abbrev pub place_of : Op → Reply → ℕ
place_of (Read at len) Done = 1
place_of _ Done = 0
place_of _ Opened = 2
place_of _ Erased = 3
place_of _ (Bit true) = 4
place_of _ (Bit false) = 5
place_of _ OutOfRange = 6
place_of _ TooLong = 7
place_of _ (Busy b) = 8
place_of _ (Occupied b) = 9
place_of _ (Locked b) = 10
place_of _ NoLocks = 11
place_of _ Nothing = 12
place_of _ NotYet = 13
place_of _ (Failed from to lanes) = 14
place_of _ (Halted (Off cycles)) = 15
place_of _ (Halted (Stuck lane)) = 16
place_of _ NoChipErase = 17

abbrev pub place_of_entry : Entry → ℕ
place_of_entry e = place_of e.op e.reply

-- how many entries count under a word
abbrev pub count_of : List Entry → ℕ → ℕ
count_of entries place = length (filter (λ e. place_of_entry e == place) entries)

abbrev pub counts_of : List Entry → List ℕ
counts_of entries = map (count_of entries) (range_with_len 0 17)

-- ---- the tally

-- nothing is counted yet
abbrev pub no_counts : List ℕ
no_counts = replicate 17 0

-- an entry is counted under its word, in counters of 64 bits that stay at their last value
abbrev pub counted : Entry → List ℕ → List ℕ
counted e counts = slice_set counts (place_of_entry e) (min (slice_index counts (place_of_entry e) + 1) (2 ^ 64 - 1))

-- the tally takes every entry
abbrev pub Counts : {E : Type 0} → ℕ → Entry → (before after : List ℕ) → Result (Unit {0}) E → Type 0
Counts position e before after result = (result ≡ Ok tt) × (after ≡ counted e before)

-- what has taken all entries has their counts
abbrev pub TalliesCount : Type 0
TalliesCount = (entries : List Entry) (counts : List ℕ) → TakesAll (Counts {E = Infallible}) 0 entries no_counts counts
    → length entries < 2 ^ 64 → counts ≡ counts_of entries

-- ---- the text

abbrev pub count_lines : List (List ℕ) → List ℕ → List ℕ
count_lines [] counts = []
count_lines (word ∷ more) [] = []
count_lines (word ∷ more) (count ∷ counts) =
    (word ++ codes " " ++ decimal count ++ codes "\n") ++ count_lines more counts

abbrev pub summary_text : (n : ℕ) → (counts : List ℕ) → (sum : ℕ) → List ℕ
summary_text n counts sum = codes "drill " ++ decimal n ++ codes "\nlines 4104\n"
    ++ count_lines words counts ++ codes "sum " ++ decimal sum ++ codes "\n"

-- the sum of the bytes of all chips
abbrev pub sum_of : List ChipState → ℕ
sum_of chips = sum_by (λ s. sum s.cells) chips
