-- The bank and the script that a number makes.
use Rattle.std.specs.Prelude.{ℕ, zero, suc, ◌+◌, ◌*◌, ◌/◌, ◌%◌, ◌^◌, ◌==◌, nat_le, List, [], ◌∷◌, ◌++◌, map, replicate, false, if◌then◌else◌}
use Rattle.std.specs.List.{range_with_len}
use Rattle.nor_cell.specs.Chip.{ChipState}
use Rattle.nor_cell.specs.Power.{powered}
use Rattle.nor_cell.specs.declared.device.Device.TheVariants.{X16}
use Rattle.nor_cell.specs.declared.device.Set.{Set}
use Rattle.nor_cell.specs.declared.device.Set.TheVariants.{Intel, Amd}
use Rattle.nor_cell.specs.declared.device.Span.{Span}
use Rattle.nor_bus.specs.Bus.{no_chip}
use Rattle.nor_array.specs.declared.entry.Op.{Op}
use Rattle.nor_array.specs.declared.entry.Op.TheVariants.{Read, Program, EraseOpen, Poll, Lock, Unlock, IsLocked}
use Rattle.nor_script.specs.declared.line.Line.{Line}
use Rattle.nor_script.specs.declared.line.Word.TheVariants.{Call}

-- ---- the draws

-- what is drawn from: 64 bits, the number itself at first
abbrev pub next : ℕ → ℕ
next x = (x * 6364136223846793005 + 1442695040888963407) % 2 ^ 64

-- the number that is drawn, of 31 bits
abbrev pub drawn : ℕ → ℕ
drawn x = next x / 2 ^ 33

-- so many draws later
abbrev pub later : ℕ → ℕ → ℕ
later x zero = x
later x (suc k) = next (later x k)

-- ---- the script

-- the bytes to program that a number gives
abbrev pub data_of : ℕ → List ℕ
data_of b = map (λ j. (b + 37 * j) % 256) (range_with_len 0 (b % 33))

-- the call that three draws give: its kind, and two numbers
abbrev pub call_of : (k a b : ℕ) → Op
call_of k a b =
    if nat_le k 5 then Read (a % 16384) (b % 65)
    else if nat_le k 9 then Program (a % 16384) (data_of b)
    else if k == 10 then EraseOpen (a % 8)
    else if nat_le k 12 then Poll
    else if k == 13 then Unlock (a % 8)
    else if k == 14 then Lock (a % 8)
    else IsLocked (a % 8)

-- the line of four draws: caller, kind, and two numbers
abbrev pub line_of : (number x : ℕ) → Line
line_of number x = record {
  caller = drawn x % 4 + 1;
  number = number;
  word = Call (call_of (drawn (later x 1) % 16) (drawn (later x 2)) (drawn (later x 3)));
}

-- so many drawn lines, behind eight others
unfoldable pub drawn_lines : (x count : ℕ) → List Line
drawn_lines x count = map (λ k. line_of (k + 9) (later x (4 * k))) (range_with_len 0 count)

-- caller 1 unlocks a block
abbrev pub unlock_line : ℕ → Line
unlock_line b = record { caller = 1; number = b + 1; word = Call (Unlock b) }

-- the first blocks
unfoldable pub unlock_lines : ℕ → List Line
unlock_lines blocks = map unlock_line (range_with_len 0 blocks)

-- caller 1 unlocks all eight blocks, and 4,096 lines are drawn
abbrev pub drill_lines : ℕ → List Line
drill_lines n = unlock_lines 8 ++ drawn_lines n 4096

-- ---- the bank

-- even numbers drill set 0001, odd ones set 0002
abbrev pub drill_set : ℕ → Set
drill_set n = if n % 2 == 0 then Intel else Amd

-- The query table of a chip of 8 KiB in eight blocks, with locks, a buffer of 32 bytes, and programs beside a suspended
-- erase: from 0x10 on, and the extended table from 0x31 on.
abbrev pub head_of : Set → List ℕ
head_of Intel =
    0x51 ∷ 0x52 ∷ 0x59 ∷ 0x01 ∷ 0x00 ∷ 0x31 ∷ 0x00 ∷ 0x00 ∷ 0x00 ∷ 0x00 ∷ 0x00 ∷ 0x27 ∷ 0x36 ∷ 0x00 ∷ 0x00 ∷ 0x04
    ∷ 0x06 ∷ 0x0a ∷ 0x00 ∷ 0x02 ∷ 0x02 ∷ 0x02 ∷ 0x00 ∷ 0x0d ∷ 0x01 ∷ 0x00 ∷ 0x05 ∷ 0x00 ∷ 0x01
    ∷ 0x07 ∷ 0x00 ∷ 0x04 ∷ 0x00 ∷ []
head_of Amd =
    0x51 ∷ 0x52 ∷ 0x59 ∷ 0x02 ∷ 0x00 ∷ 0x31 ∷ 0x00 ∷ 0x00 ∷ 0x00 ∷ 0x00 ∷ 0x00 ∷ 0x27 ∷ 0x36 ∷ 0x00 ∷ 0x00 ∷ 0x04
    ∷ 0x06 ∷ 0x0a ∷ 0x00 ∷ 0x02 ∷ 0x02 ∷ 0x02 ∷ 0x00 ∷ 0x0d ∷ 0x01 ∷ 0x00 ∷ 0x05 ∷ 0x00 ∷ 0x01
    ∷ 0x07 ∷ 0x00 ∷ 0x04 ∷ 0x00 ∷ []

abbrev pub extended_of : Set → List ℕ
extended_of Intel =
    0x50 ∷ 0x52 ∷ 0x49 ∷ 0x31 ∷ 0x31 ∷ 0x22 ∷ 0x00 ∷ 0x00 ∷ 0x00 ∷ 0x01 ∷ 0x00 ∷ 0x00 ∷ 0x00 ∷ 0x00 ∷ 0x00 ∷ 0x00 ∷ []
extended_of Amd =
    0x50 ∷ 0x52 ∷ 0x49 ∷ 0x31 ∷ 0x33 ∷ 0x00 ∷ 0x02 ∷ 0x01 ∷ 0x00 ∷ 0x08 ∷ 0x00 ∷ 0x00 ∷ 0x00 ∷ 0x00 ∷ 0x00 ∷ 0x02 ∷ []

abbrev pub table_of : Set → List ℕ
table_of set = replicate 0x10 0 ++ head_of set ++ extended_of set ++ replicate 447 0

abbrev pub kilobyte : ℕ → Span
kilobyte b = record { from = 1024 * b; len = 1024 }

abbrev pub eight_blocks : List Span
eight_blocks = kilobyte 0 ∷ kilobyte 1 ∷ kilobyte 2 ∷ kilobyte 3 ∷ kilobyte 4 ∷ kilobyte 5 ∷ kilobyte 6 ∷ kilobyte 7 ∷ []

-- 8 KiB of ones
unfoldable pub all_ones : List ℕ
all_ones = replicate 8192 0xFF

-- a chip of the set whose cells are ones, with such paces, just powered on
unfoldable pub drill_chip : Set → (program erase suspend : ℕ) → ChipState
drill_chip set program erase suspend = powered (record no_chip {
  part = record {
    set = set;
    device = X16;
    table = table_of set;
    blocks = eight_blocks;
    weak = [];
    stuck = false;
    pace_program = program;
    pace_erase = erase;
    pace_suspend = suspend;
  };
  cells = all_ones;
  locks = replicate 8 false;
})

-- two of them side by side
abbrev pub chips_of_set : Set → List ChipState
chips_of_set set = drill_chip set 3 40 2 ∷ drill_chip set 5 90 4 ∷ []

abbrev pub drill_chips : ℕ → List ChipState
drill_chips n = chips_of_set (drill_set n)
