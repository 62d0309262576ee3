-- The command cycles of both sets: which codes they write, where, and what they make of a chip.
use Rattle.std.specs.Prelude.{◌⊎◌, ℕ, List, [], ◌∷◌, length}
use Rattle.nor_cell.specs.Chip.{ChipState}
use Rattle.nor_cell.specs.Amd.{first_address, second_address}
use Rattle.nor_cell.specs.Steps.{written}
use Rattle.nor_cell.specs.declared.device.Device.{Device}
use Rattle.nor_cell.specs.declared.device.Set.{Set}
use Rattle.nor_cell.specs.declared.device.Set.TheVariants.{Intel, Amd}
use Rattle.nor_bus.specs.Bus.{wide}
use Rattle.nor_bus.specs.Driven.{spread, Darkens}
use Rattle.nor_poll.specs.declared.codes.To.{To}
use Rattle.nor_poll.specs.declared.codes.To.TheVariants.{Here, First, Second}
use Rattle.nor_poll.specs.declared.codes.Cycle.{Cycle}
use Rattle.nor_poll.specs.declared.codes.Command.{Command}
use Rattle.nor_poll.specs.declared.codes.Command.TheVariants.{ProgramWord, EraseBlock, EraseAll, SuspendErase, ShowStatus, ClearErrors, ShowArray, Reset, LockBlock, UnlockBlock, ShowLocks, LeaveLocks, LoadBuffer, ConfirmLoad}

-- the call's own address, or a command address of the device
abbrev pub address : Device → ℕ → To → ℕ
address device u Here = u
address device u First = first_address device
address device u Second = second_address device

abbrev pub code : ℕ → To → Cycle
code n to = record { to = to; code = n }

-- what opens each command of set 0002
abbrev pub unlocked : List Cycle → List Cycle
unlocked cycles = code 0xAA First ∷ code 0x55 Second ∷ cycles

-- The cycles of a command, up to the words that it programs.
abbrev pub cycles_of : Set → Command → List Cycle
cycles_of Intel ProgramWord = code 0x50 Here ∷ code 0x40 Here ∷ []
cycles_of Intel EraseBlock = code 0x50 Here ∷ code 0x20 Here ∷ code 0xD0 Here ∷ []
cycles_of Intel EraseAll = []
cycles_of Intel SuspendErase = code 0xB0 Here ∷ code 0x70 Here ∷ []
cycles_of Intel ShowStatus = code 0x70 Here ∷ []
cycles_of Intel ClearErrors = code 0x50 Here ∷ code 0xFF Here ∷ []
cycles_of Intel ShowArray = code 0xFF Here ∷ []
cycles_of Intel Reset = code 0xFF Here ∷ []
cycles_of Intel LockBlock = code 0x60 Here ∷ code 0x01 Here ∷ []
cycles_of Intel UnlockBlock = code 0x60 Here ∷ code 0xD0 Here ∷ []
cycles_of Intel ShowLocks = code 0x90 Here ∷ []
cycles_of Intel LeaveLocks = code 0xFF Here ∷ []
cycles_of Intel LoadBuffer = code 0x50 Here ∷ code 0xE8 Here ∷ []
cycles_of Intel ConfirmLoad = code 0xD0 Here ∷ []
cycles_of Amd ProgramWord = unlocked (code 0xA0 First ∷ [])
cycles_of Amd EraseBlock = unlocked (code 0x80 First ∷ unlocked (code 0x30 Here ∷ []))
cycles_of Amd EraseAll = unlocked (code 0x80 First ∷ unlocked (code 0x10 First ∷ []))
cycles_of Amd SuspendErase = code 0xB0 Here ∷ []
cycles_of Amd ShowStatus = []
cycles_of Amd ClearErrors = code 0xF0 Here ∷ []
cycles_of Amd ShowArray = []
cycles_of Amd Reset = code 0xF0 Here ∷ []
cycles_of Amd LockBlock = unlocked (code 0xE0 First ∷ code 0xA0 Here ∷ code 0x00 Here ∷ [])
cycles_of Amd UnlockBlock = unlocked (code 0xE0 First ∷ code 0xA0 Here ∷ code 0x01 Here ∷ [])
cycles_of Amd ShowLocks = unlocked (code 0xE0 First ∷ [])
cycles_of Amd LeaveLocks = code 0x90 Here ∷ code 0x00 Here ∷ []
cycles_of Amd LoadBuffer = unlocked (code 0x25 Here ∷ [])
cycles_of Amd ConfirmLoad = code 0x29 Here ∷ []

-- how many they are
abbrev pub cycle_count : Set → Command → ℕ
cycle_count set command = length (cycles_of set command)

-- the chip after one of them, and after all
abbrev pub after_cycle : ℕ → Cycle → ChipState → ChipState
after_cycle u c s = written s (address s.part.device u c.to) (spread (wide s) c.code)

abbrev pub after_cycles : ℕ → List Cycle → ChipState → ChipState
after_cycles u [] s = s
after_cycles u (c ∷ cycles) s = after_cycles u cycles (after_cycle u c s)

-- one of them failed: the chip was cut after those before it, or had no power
abbrev pub DarkensIn : ℕ → List Cycle → ChipState → ChipState → Type 0
DarkensIn u [] s t = ⊥
DarkensIn u (c ∷ cycles) s t = Darkens s t ⊎ DarkensIn u cycles (after_cycle u c s) t
