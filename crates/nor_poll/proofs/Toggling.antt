-- What two reads of a chip of set 0002 tell.
use Rattle.std.proofs.Common.{◌≡◌, ◌≢◌, ◌+◌, ◌==◌, ◌||◌, ◌⊎◌, inl, inr, ℕ, refl, sym, ap, subst, ◌∙◌, not, bit_and, bit_xor, Bool, true, false, if◌then◌else◌}
use Rattle.nor_cell.specs.Chip.{ChipState, Mode, Array, Job, Idle, Program, Erase, Pausing, Fault, NoFault, TimeFault, AbortFault, place, holds_at}
use Rattle.nor_cell.specs.Shown.{bit_if}
use Rattle.nor_cell.specs.Amd.{is_fault, shown, toggled}
use Rattle.nor_cell.specs.Bits.{unit_at}
use Rattle.nor_cell.proofs.Logic.{same_self, same_number}
use Rattle.nor_poll.specs.Told.{seen_fault}
use Rattle.nor_poll.specs.Toggles.{pair_says, over_says, works_on, names_job}
use Rattle.nor_poll.specs.declared.watch.Seen.{Seen}
use Rattle.nor_poll.specs.declared.watch.Seen.TheVariants.{Working, Ready, Suspended, Broken}
use Rattle.nor_poll.specs.declared.watch.Broke.TheVariants.{Time, Abort}

-- ---- what a chip shows, as numbers

abbrev pub program_status : Bool → Bool → ℕ
program_status x toggle_6 = bit_if 0x80 x + bit_if 0x40 toggle_6

abbrev pub erase_status : Bool → Bool → ℕ
erase_status toggle_6 toggle_2 = 0x08 + bit_if 0x40 toggle_6 + bit_if 0x04 toggle_2

abbrev pub held_status : Bool → Bool → ℕ
held_status toggle_6 toggle_2 = 0x80 + bit_if 0x40 toggle_6 + bit_if 0x04 toggle_2

-- ---- a chip that runs no job at both reads

same_first : (c : Bool) (x y : Seen) → c ≡ true → (if c then x else y) ≡ x
same_first true x y e = refl
same_first false x y e = cc

abbrev Agree : ℕ → ℕ → Seen → Type 0
Agree a b it = (pair_says a b ≡ it) × (over_says a b ≡ it)

same_data : (d : ℕ) → Agree d d Ready
same_data d = (
  same_first (d == d) Ready _ (same_self d),
  same_first (d == d) Ready _ (same_self d),
)

array_pair : (here toggle_6 toggle_2 : Bool) (d : ℕ) → Agree (if here then held_status toggle_6 toggle_2 else d) (if here then held_status toggle_6 (if here then not toggle_2 else toggle_2) else d) (if here then Suspended else Ready)
array_pair true true true d = (refl, refl)
array_pair true true false d = (refl, refl)
array_pair true false true d = (refl, refl)
array_pair true false false d = (refl, refl)
array_pair false toggle_6 toggle_2 d = same_data d

program_fault_pair : (x toggle_6 : Bool) → Agree (program_status x toggle_6 + 0x20) (program_status x (not toggle_6) + 0x20) (Broken Time)
program_fault_pair true true = (refl, refl)
program_fault_pair true false = (refl, refl)
program_fault_pair false true = (refl, refl)
program_fault_pair false false = (refl, refl)

erase_fault_pair : (toggle_6 toggle_2 : Bool) → Agree (erase_status toggle_6 toggle_2 + 0x20) (erase_status (not toggle_6) (not toggle_2) + 0x20) (Broken Time)
erase_fault_pair true true = (refl, refl)
erase_fault_pair true false = (refl, refl)
erase_fault_pair false true = (refl, refl)
erase_fault_pair false false = (refl, refl)

abort_pair : (toggle_6 : Bool) → Agree (0x02 + bit_if 0x40 toggle_6) (0x02 + bit_if 0x40 (not toggle_6)) (Broken Abort)
abort_pair true = (refl, refl)
abort_pair false = (refl, refl)

-- the chip with another job, fault, mode and toggle bits
abbrev as_it : Job → Fault → Mode → Bool → Bool → ChipState → ChipState
as_it job fault mode toggle_6 toggle_2 m = record m { job = job; fault = fault; mode = mode; toggle_6 = toggle_6; toggle_2 = toggle_2 }

abbrev here_in : ℕ → ChipState → Bool
here_in u m = holds_at m.held m.part.blocks (place m.part u)

idle_by : (u : ℕ) (m : ChipState) (fault : Fault) (mode : Mode) (toggle_6 toggle_2 : Bool) → names_job fault ≡ true → (is_fault fault ≡ false → mode ≡ Array)
    → Agree (shown (as_it Idle fault mode toggle_6 toggle_2 m) u) (shown (toggled u (as_it Idle fault mode toggle_6 toggle_2 m)) u) (seen_fault fault (here_in u m))
idle_by u m NoFault mode toggle_6 toggle_2 names shows =
    subst (λ (k : Mode). Agree (shown (as_it Idle NoFault k toggle_6 toggle_2 m) u) (shown (toggled u (as_it Idle NoFault k toggle_6 toggle_2 m)) u) (seen_fault NoFault (here_in u m))) (sym (shows refl))
    (array_pair (here_in u m) toggle_6 toggle_2 _)
idle_by u m (TimeFault Idle) mode toggle_6 toggle_2 names shows = cc
idle_by u m (TimeFault (Program p bytes left)) mode toggle_6 toggle_2 names shows = program_fault_pair _ toggle_6
idle_by u m (TimeFault (Erase target left)) mode toggle_6 toggle_2 names shows = erase_fault_pair toggle_6 toggle_2
idle_by u m (TimeFault (Pausing b wait left)) mode toggle_6 toggle_2 names shows = erase_fault_pair toggle_6 toggle_2
idle_by u m AbortFault mode toggle_6 toggle_2 names shows = abort_pair toggle_6

-- two answers of a chip that runs no job
pub idle_pair : (u : ℕ) (m : ChipState) → m.job ≡ Idle → names_job m.fault ≡ true → (is_fault m.fault ≡ false → m.mode ≡ Array)
    → (pair_says (shown m u) (shown (toggled u m) u) ≡ seen_fault m.fault (holds_at m.held m.part.blocks (place m.part u)))
    × (over_says (shown m u) (shown (toggled u m) u) ≡ seen_fault m.fault (holds_at m.held m.part.blocks (place m.part u)))
idle_pair u m idle names shows =
    subst (λ (j : Job). Agree (shown (record m { job = j }) u) (shown (toggled u (record m { job = j })) u) (seen_fault m.fault (here_in u m))) (sym idle)
    (idle_by u m m.fault m.mode m.toggle_6 m.toggle_2 names shows)

-- ---- a chip that works at both

abbrev pub Work : ℕ → ℕ → Type 0
Work a b = (pair_says a b ≡ Working) × (works_on a b ≡ true)

pub program_work : (x toggle_6 : Bool) → Work (program_status x toggle_6) (program_status x (not toggle_6))
program_work true true = (refl, refl)
program_work true false = (refl, refl)
program_work false true = (refl, refl)
program_work false false = (refl, refl)

pub erase_work : (toggle_6 toggle_2 : Bool) → Work (erase_status toggle_6 toggle_2) (erase_status (not toggle_6) (not toggle_2))
erase_work true true = (refl, refl)
erase_work true false = (refl, refl)
erase_work false true = (refl, refl)
erase_work false false = (refl, refl)

-- ---- a chip that works at the first alone

if_same : (c : Bool) (it : Seen) → (if c then it else it) ≡ it
if_same true it = refl
if_same false it = refl

-- the second answer is the same, or the chip is told to work
abbrev pub EqualOr : ℕ → ℕ → Seen → Type 0
EqualOr a b other = pair_says a b ≡ (if a == b then Ready else other)

pub erase_then : (toggle_6 toggle_2 : Bool) (b : ℕ) → EqualOr (erase_status toggle_6 toggle_2) b Working
erase_then true true b = ap (λ (k : Seen). if 0x4C == b then Ready else k) (if_same _ Working)
erase_then true false b = ap (λ (k : Seen). if 0x48 == b then Ready else k) (if_same _ Working)
erase_then false true b = ap (λ (k : Seen). if 0x0C == b then Ready else k) (if_same _ Working)
erase_then false false b = ap (λ (k : Seen). if 0x08 == b then Ready else k) (if_same _ Working)

-- or, where the complement of the datum has bit 7, it may be told to hold an erase
abbrev pub HeldOr : ℕ → ℕ → Type 0
HeldOr a b = pair_says a b ≡ (if a == b then Ready else if (b == bit_xor a 0x40) || (b == bit_xor a 0x44) then Working else if b == bit_xor a 0x04 then Suspended else Working)

pub program_then : (toggle_6 : Bool) (b : ℕ) → EqualOr (program_status false toggle_6) b Working
program_then true b = ap (λ (k : Seen). if 0x40 == b then Ready else k) (if_same _ Working)
program_then false b = ap (λ (k : Seen). if 0x00 == b then Ready else k) (if_same _ Working)

pub program_held_then : (toggle_6 : Bool) (b : ℕ) → HeldOr (program_status true toggle_6) b
program_held_then true b = refl
program_held_then false b = refl

-- ---- which bits tell a chip's state

program_bits : (x toggle_6 : Bool) → (bit_and (program_status x toggle_6) 0x20 ≡ 0) × (bit_and (program_status x toggle_6) 0x22 ≡ 0)
program_bits true true = (refl, refl)
program_bits true false = (refl, refl)
program_bits false true = (refl, refl)
program_bits false false = (refl, refl)

erase_bits : (toggle_6 toggle_2 : Bool) → (bit_and (erase_status toggle_6 toggle_2) 0x20 ≡ 0) × (bit_and (erase_status toggle_6 toggle_2) 0x22 ≡ 0) × (bit_and (erase_status toggle_6 toggle_2) 0x88 ≡ 0x08)
erase_bits true true = (refl, refl, refl)
erase_bits true false = (refl, refl, refl)
erase_bits false true = (refl, refl, refl)
erase_bits false false = (refl, refl, refl)

held_bits : (toggle_6 toggle_2 : Bool) → bit_and (held_status toggle_6 toggle_2) 0x88 ≡ 0x80
held_bits true true = refl
held_bits true false = refl
held_bits false true = refl
held_bits false false = refl

time_bit : (x toggle_6 : Bool) → bit_and (program_status x toggle_6 + 0x20) 0x20 ≡ 0x20
time_bit true true = refl
time_bit true false = refl
time_bit false true = refl
time_bit false false = refl

erase_time_bit : (toggle_6 toggle_2 : Bool) → bit_and (erase_status toggle_6 toggle_2 + 0x20) 0x20 ≡ 0x20
erase_time_bit true true = refl
erase_time_bit true false = refl
erase_time_bit false true = refl
erase_time_bit false false = refl

abort_bits : (toggle_6 : Bool) → bit_and (0x02 + bit_if 0x40 toggle_6) 0x22 ≡ 0x02
abort_bits true = refl
abort_bits false = refl

-- what a chip that runs no job shows, by its fault and by whether the unit lies in its held block
abbrev pub IdleBits : Fault → Bool → ℕ → ℕ → Type 0
IdleBits NoFault true datum b = bit_and b 0x88 ≡ 0x80
IdleBits NoFault false datum b = b ≡ datum
IdleBits (TimeFault job) here datum b = bit_and b 0x20 ≡ 0x20
IdleBits AbortFault here datum b = bit_and b 0x22 ≡ 0x02

array_bits : (here toggle_6 toggle_2 : Bool) (datum : ℕ) → IdleBits NoFault here datum (if here then held_status toggle_6 toggle_2 else datum)
array_bits true toggle_6 toggle_2 datum = held_bits toggle_6 toggle_2
array_bits false toggle_6 toggle_2 datum = refl

idle_bits_by : (u : ℕ) (m : ChipState) (fault : Fault) (mode : Mode) → names_job fault ≡ true → (is_fault fault ≡ false → mode ≡ Array)
    → IdleBits fault (holds_at m.held m.part.blocks (place m.part u)) (unit_at m.part.device m.cells u) (shown (as_it Idle fault mode m.toggle_6 m.toggle_2 m) u)
idle_bits_by u m NoFault mode names shows =
    subst (λ (k : Mode). IdleBits NoFault (here_in u m) (unit_at m.part.device m.cells u) (shown (as_it Idle NoFault k m.toggle_6 m.toggle_2 m) u)) (sym (shows refl))
    (array_bits (here_in u m) m.toggle_6 m.toggle_2 (unit_at m.part.device m.cells u))
idle_bits_by u m (TimeFault Idle) mode names shows = cc
idle_bits_by u m (TimeFault (Program p bytes left)) mode names shows = time_bit _ m.toggle_6
idle_bits_by u m (TimeFault (Erase target left)) mode names shows = erase_time_bit m.toggle_6 m.toggle_2
idle_bits_by u m (TimeFault (Pausing b wait left)) mode names shows = erase_time_bit m.toggle_6 m.toggle_2
idle_bits_by u m AbortFault mode names shows = abort_bits m.toggle_6

pub idle_bits : (u : ℕ) (m : ChipState) → m.job ≡ Idle → names_job m.fault ≡ true → (is_fault m.fault ≡ false → m.mode ≡ Array)
    → IdleBits m.fault (holds_at m.held m.part.blocks (place m.part u)) (unit_at m.part.device m.cells u) (shown m u)
idle_bits u m idle names shows =
    subst (λ (j : Job). IdleBits m.fault (here_in u m) (unit_at m.part.device m.cells u) (shown (record m { job = j }) u)) (sym idle)
    (idle_bits_by u m m.fault m.mode names shows)

-- ---- what is told where a chip worked at the first read alone

-- the chip is told to work, or what it is at
abbrev pub WorksOr : ℕ → ℕ → Seen → Type 0
WorksOr a b it = (pair_says a b ≡ Working) ⊎ (pair_says a b ≡ it)

same_or : (a b : ℕ) (c : Bool) (it : Seen) → pair_says a b ≡ (if c then Ready else Working) → (c ≡ true → it ≡ Ready) → WorksOr a b it
same_or a b true it says is = inr (says ∙ sym (is refl))
same_or a b false it says is = inl says

-- an erase and what it leaves aren't alike, but for the array
erase_alike : (toggle_6 toggle_2 : Bool) (fault : Fault) (here : Bool) (datum b : ℕ) → IdleBits fault here datum b → erase_status toggle_6 toggle_2 ≡ b → seen_fault fault here ≡ Ready
erase_alike toggle_6 toggle_2 NoFault true datum b bits e =
    let one = (erase_bits toggle_6 toggle_2).2 in let no : 0x08 ≡ 0x80 = sym one ∙ (ap (λ k. bit_and k 0x88) e ∙ bits) in absurd cc
erase_alike toggle_6 toggle_2 NoFault false datum b bits e = refl
erase_alike toggle_6 toggle_2 (TimeFault job) here datum b bits e =
    let one = (erase_bits toggle_6 toggle_2).0 in let no : 0 ≡ 0x20 = sym one ∙ (ap (λ k. bit_and k 0x20) e ∙ bits) in absurd cc
erase_alike toggle_6 toggle_2 AbortFault here datum b bits e =
    let one = (erase_bits toggle_6 toggle_2).1 in let no : 0 ≡ 0x02 = sym one ∙ (ap (λ k. bit_and k 0x22) e ∙ bits) in absurd cc

pub erase_over : (toggle_6 toggle_2 : Bool) (fault : Fault) (here : Bool) (datum b : ℕ) → IdleBits fault here datum b → WorksOr (erase_status toggle_6 toggle_2) b (seen_fault fault here)
erase_over toggle_6 toggle_2 fault here datum b bits =
    same_or (erase_status toggle_6 toggle_2) b (erase_status toggle_6 toggle_2 == b) (seen_fault fault here) (erase_then toggle_6 toggle_2 b) (λ e. erase_alike toggle_6 toggle_2 fault here datum b bits (same_number (erase_status toggle_6 toggle_2) b e))

-- so it is with a program
program_alike : (x toggle_6 : Bool) (fault : Fault) (datum b : ℕ) → IdleBits fault false datum b → program_status x toggle_6 ≡ b → seen_fault fault false ≡ Ready
program_alike x toggle_6 NoFault datum b bits e = refl
program_alike x toggle_6 (TimeFault job) datum b bits e =
    let one = (program_bits x toggle_6).0 in let no : 0 ≡ 0x20 = sym one ∙ (ap (λ k. bit_and k 0x20) e ∙ bits) in absurd cc
program_alike x toggle_6 AbortFault datum b bits e =
    let one = (program_bits x toggle_6).1 in let no : 0 ≡ 0x02 = sym one ∙ (ap (λ k. bit_and k 0x22) e ∙ bits) in absurd cc

-- bit 2 alone differs from a program's status: the array has it so nowhere where the datum's bit 7 is clear, and no fault does
held_alike : (toggle_6 : Bool) (fault : Fault) (datum b : ℕ) → IdleBits fault false datum b → (fault ≡ NoFault → (datum ≢ 0x84) × (datum ≢ 0xC4)) → b ≡ bit_xor (program_status true toggle_6) 0x04 → ⊥
held_alike true NoFault datum b bits far e = (far refl).1 (sym bits ∙ e)
held_alike false NoFault datum b bits far e = (far refl).0 (sym bits ∙ e)
held_alike true (TimeFault job) datum b bits far e = let no : 0 ≡ 0x20 = sym (ap (λ k. bit_and k 0x20) e) ∙ bits in cc
held_alike false (TimeFault job) datum b bits far e = let no : 0 ≡ 0x20 = sym (ap (λ k. bit_and k 0x20) e) ∙ bits in cc
held_alike true AbortFault datum b bits far e = let no : 0 ≡ 0x02 = sym (ap (λ k. bit_and k 0x22) e) ∙ bits in cc
held_alike false AbortFault datum b bits far e = let no : 0 ≡ 0x02 = sym (ap (λ k. bit_and k 0x22) e) ∙ bits in cc

held_or : (a b : ℕ) (c t h : Bool) (it : Seen) → pair_says a b ≡ (if c then Ready else if t then Working else if h then Suspended else Working) → (c ≡ true → it ≡ Ready) → (h ≡ true → ⊥) → WorksOr a b it
held_or a b true t h it says is far = inr (says ∙ sym (is refl))
held_or a b false true h it says is far = inl says
held_or a b false false true it says is far = absurd (far refl)
held_or a b false false false it says is far = inl says

pub program_over : (x toggle_6 : Bool) (fault : Fault) (datum b : ℕ) → IdleBits fault false datum b → (x ≡ true → fault ≡ NoFault → (datum ≢ 0x84) × (datum ≢ 0xC4))
    → WorksOr (program_status x toggle_6) b (seen_fault fault false)
program_over false toggle_6 fault datum b bits far =
    same_or (program_status false toggle_6) b (program_status false toggle_6 == b) (seen_fault fault false) (program_then toggle_6 b)
    (λ e. program_alike false toggle_6 fault datum b bits (same_number (program_status false toggle_6) b e))
program_over true toggle_6 fault datum b bits far =
    let a = program_status true toggle_6 in
    held_or a b (a == b) ((b == bit_xor a 0x40) || (b == bit_xor a 0x44)) (b == bit_xor a 0x04) (seen_fault fault false) (program_held_then toggle_6 b)
    (λ e. program_alike true toggle_6 fault datum b bits (same_number a b e)) (λ e. held_alike toggle_6 fault datum b bits (far refl) (same_number b (bit_xor a 0x04) e))
