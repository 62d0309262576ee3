-- Cycles of a chip between two commands, of either set.
use Rattle.std.proofs.Common.{◌≡◌, ◌%◌, ◌+◌, ℕ, List, refl, sym, ◌∙◌, ap, subst, true, false, Bool, not, ◌==◌, ◌||◌, ◌&&◌, if◌then◌else◌}
use Rattle.std.specs.Prelude.{MatchBool}
use Rattle.nor_cell.specs.Chip.{ChipState, Job, Idle, Program, Erase, Pausing, NotHeld, Mode, Array, Query, Ident, Status, Locks, Step, Rest, runs, is_held, is_locked, block_of, Flags, Fault, NoFault, TimeFault, AbortFault, place, holds_at}
use Rattle.nor_cell.specs.Look.{Look, Rests, look, look_at, looked, LooksTo, flags_with, fault_with, suspended}
use Rattle.nor_cell.specs.Bits.{unit_at}
use Rattle.nor_cell.specs.Steps.{Reads, reads_of, writes_of, written}
use Rattle.nor_cell.specs.Intel.{Shows, ShowsMode, ident_at, commanded, steps}
use Rattle.nor_cell.specs.Shown.{bit_if, query_at}
use Rattle.nor_cell.specs.Amd.{toggled, toggles_6, toggles_2, flipped, shown, shows_held, is_fault, is_time, is_erasing, fault_at, mode_at, working, fault_steps, mode_steps, array_steps, query_steps, query_address}
use Rattle.nor_cell.specs.Between.{Waits, AtRest, TakesCommands, IsIdle, IsShown, reset, can_reset}
use Rattle.nor_cell.specs.declared.device.Device.{Device}
use Rattle.nor_cell.specs.declared.device.Device.TheVariants.{X8, X16, X16Byte}
use Rattle.nor_cell.specs.declared.device.Set.{Set}
use Rattle.nor_cell.specs.declared.device.Set.TheVariants.{Intel, Amd}

-- ---- reads

rests : (s : ChipState) → s.job ≡ Idle → look s ≡ Rests
rests s idle = ap (look_at s.part.stuck) idle

pub same_flags : (set : Set) (flags : Flags) → flags_with set Idle flags ≡ flags
same_flags Intel flags = refl
same_flags Amd flags = refl

pub same_fault : (set : Set) (fault : Fault) → fault_with set Idle fault ≡ fault
same_fault Intel fault = refl
same_fault Amd fault = refl

-- a chip with some of its parts anew
made : ChipState → List ℕ → Job → Flags → Fault → ChipState
made s cells job flags fault = record s { cells = cells; job = job; flags = flags; fault = fault }

made_same : (s : ChipState) → made s s.cells s.job s.flags s.fault ≡ s
unfolding made
made_same s = refl

made_looked : (s : ChipState) (cells : List ℕ) → record (looked Rests s) { cells = cells } ≡ made s cells Idle (flags_with s.part.set Idle s.flags) (fault_with s.part.set Idle s.fault)
unfolding made
made_looked s cells = refl

-- a look at a chip without a job leaves it as it is
pub unlooked : (s : ChipState) (cells : List ℕ) → s.job ≡ Idle → LooksTo s (look s) cells → record (looked (look s) s) { cells = cells } ≡ s
unlooked s cells idle looks =
    let none = rests s idle in
    let same : cells ≡ s.cells = subst (λ (l : Look). LooksTo s l cells) none looks in
    let now : record (looked (look s) s) { cells = cells } ≡ record (looked Rests s) { cells = cells } = ap (λ (l : Look). record (looked l s) { cells = cells }) none in
    let flags = same_flags s.part.set s.flags in
    let fault = same_fault s.part.set s.fault in
    let parts : made s cells Idle (flags_with s.part.set Idle s.flags) (fault_with s.part.set Idle s.fault) ≡ made s s.cells s.job s.flags s.fault = cc in
    now ∙ (made_looked s cells ∙ (parts ∙ made_same s))

turned : ChipState → Bool → Bool → ChipState
turned s toggle_6 toggle_2 = record s { toggle_6 = toggle_6; toggle_2 = toggle_2 }

turned_same : (s : ChipState) → turned s s.toggle_6 s.toggle_2 ≡ s
unfolding turned
turned_same s = refl

toggled_is : (u : ℕ) (s : ChipState) → toggled u s ≡ turned s (flipped (toggles_6 s) s.toggle_6) (flipped (toggles_2 s u) s.toggle_2)
unfolding turned
toggled_is u s = refl

still_6 : (job : Job) (fault : Fault) (bit : Bool) → job ≡ Idle → fault ≡ NoFault → flipped (runs job || is_fault fault) bit ≡ bit
still_6 job fault bit e f = ap (λ (j : Job). flipped (runs j || is_fault fault) bit) e ∙ ap (λ (g : Fault). flipped (is_fault g) bit) f

still_2 : (job : Job) (fault : Fault) (held : Bool) (bit : Bool) → job ≡ Idle → fault ≡ NoFault → held ≡ false
    → flipped (is_erasing job || not (runs job) && (is_time fault || not (is_fault fault) && held)) bit ≡ bit
still_2 job fault held bit e f g = ap (λ (j : Job). flipped (is_erasing j || not (runs j) && (is_time fault || not (is_fault fault) && held)) bit) e
    ∙ (ap (λ (h : Fault). flipped (is_time h || not (is_fault h) && held) bit) f ∙ ap (λ (h : Bool). flipped h bit) g)

-- what a chip without a job or fault answers, by its set and mode
pub Answers : Set → ChipState → ℕ → ℕ → Type 0
Answers Intel s u answer = ShowsMode s.mode s u answer
Answers Amd s u answer = answer ≡ mode_at s.mode s u

by_set : (set : Set) (s t : ChipState) (u answer : ℕ) → s.job ≡ Idle → s.fault ≡ NoFault → shows_held s.mode s u ≡ false → reads_of set s u answer t
    → (t ≡ s) × Answers set s u answer
unfolding Answers
by_set Intel s t u answer idle fault out reads =
    let same : t ≡ s = reads.rest ∙ unlooked s t.cells idle reads.cells in
    let shows : Shows s u answer = subst (λ (v : ChipState). Shows v u answer) same reads.answers in
    (same, subst (λ (j : Job). MatchBool (runs j) (answer ≡ bit_if 0x40 (is_held s.held)) (ShowsMode s.mode s u answer)) idle shows)
by_set Amd s t u answer idle fault out reads =
    let first : t ≡ toggled u s = reads.rest ∙ ap (toggled u) (unlooked s t.cells idle reads.cells) in
    let six = still_6 s.job s.fault s.toggle_6 idle fault in
    let two = still_2 s.job s.fault (shows_held s.mode s u) s.toggle_2 idle fault out in
    let flips : turned s (flipped (toggles_6 s) s.toggle_6) (flipped (toggles_2 s u) s.toggle_2) ≡ turned s s.toggle_6 s.toggle_2 = cc in
    let same : t ≡ s = first ∙ (toggled_is u s ∙ (flips ∙ turned_same s)) in
    let shows : shown s u ≡ mode_at s.mode s u = ap (λ (j : Job). if runs j then working j s else fault_at s.fault s u) idle ∙ ap (λ (f : Fault). fault_at f s u) fault in
    (same, reads.answers ∙ (ap (λ (v : ChipState). shown v u) same ∙ shows))

array_of : (set : Set) (s : ChipState) (u answer : ℕ) → s.mode ≡ Array → holds_at s.held s.part.blocks (place s.part u) ≡ false → Answers set s u answer
    → answer ≡ unit_at s.part.device s.cells u
unfolding Answers
array_of Intel s u answer mode out shows =
    let by_array : ShowsMode Array s u answer = subst (λ (m : Mode). ShowsMode m s u answer) mode shows in by_array.same out
array_of Amd s u answer mode out shows =
    shows ∙ (ap (λ (m : Mode). mode_at m s u) mode
    ∙ ap (λ (b : Bool). if b then 0x80 + bit_if 0x40 s.toggle_6 + bit_if 0x04 s.toggle_2 else unit_at s.part.device s.cells u) out)

query_of : (set : Set) (s : ChipState) (u answer : ℕ) → s.mode ≡ Query → Answers set s u answer → answer ≡ query_at s.part u
unfolding Answers
query_of Intel s u answer mode shows = let by_query : ShowsMode Query s u answer = subst (λ (m : Mode). ShowsMode m s u answer) mode shows in by_query
query_of Amd s u answer mode shows = shows ∙ ap (λ (m : Mode). mode_at m s u) mode

ident_of : (s : ChipState) (u answer : ℕ) → s.mode ≡ Ident → Answers Intel s u answer → answer ≡ ident_at s u
unfolding Answers
ident_of s u answer mode shows = let by_ident : ShowsMode Ident s u answer = subst (λ (m : Mode). ShowsMode m s u answer) mode shows in by_ident

locks_of : (s : ChipState) (u answer : ℕ) → s.mode ≡ Locks → Answers Amd s u answer → answer ≡ (if is_locked s (block_of s u) then 0 else 1)
unfolding Answers
locks_of s u answer mode shows = shows ∙ ap (λ (m : Mode). mode_at m s u) mode

-- A read of a chip that shows its array changes nothing and answers the unit, outside a held block.
pub reads_array : (s t : ChipState) (u answer : ℕ) → IsShown s → holds_at s.held s.part.blocks (place s.part u) ≡ false → Reads s u answer t
    → (t ≡ s) × (answer ≡ unit_at s.part.device s.cells u)
reads_array s t u answer is out reads =
    let hidden : shows_held s.mode s u ≡ false = ap (λ (m : Mode). shows_held m s u) is.mode ∙ out in
    let both = by_set s.part.set s t u answer is.job is.fault hidden reads in
    (both.0, array_of s.part.set s u answer is.mode out both.1)

-- A read of a chip that shows its query table changes nothing and answers the table's byte.
pub reads_query : (s t : ChipState) (u answer : ℕ) → s.mode ≡ Query → s.job ≡ Idle → s.fault ≡ NoFault → Reads s u answer t
    → (t ≡ s) × (answer ≡ query_at s.part u)
reads_query s t u answer mode idle fault reads =
    let hidden : shows_held s.mode s u ≡ false = ap (λ (m : Mode). shows_held m s u) mode in
    let both = by_set s.part.set s t u answer idle fault hidden reads in
    (both.0, query_of s.part.set s u answer mode both.1)

-- A read of a chip that shows its locks changes nothing: one of set 0001 answers a register of a block,
pub reads_ident : (s t : ChipState) (u answer : ℕ) → s.part.set ≡ Intel → s.mode ≡ Ident → s.job ≡ Idle → s.fault ≡ NoFault → Reads s u answer t
    → (t ≡ s) × (answer ≡ ident_at s u)
reads_ident s t u answer set mode idle fault reads =
    let hidden : shows_held s.mode s u ≡ false = ap (λ (m : Mode). shows_held m s u) mode in
    let both = by_set s.part.set s t u answer idle fault hidden reads in
    (both.0, ident_of s u answer mode (subst (λ (k : Set). Answers k s u answer) set both.1))

-- and one of set 0002 the lock of the block.
pub reads_locks : (s t : ChipState) (u answer : ℕ) → s.part.set ≡ Amd → s.mode ≡ Locks → s.job ≡ Idle → s.fault ≡ NoFault → Reads s u answer t
    → (t ≡ s) × (answer ≡ (if is_locked s (block_of s u) then 0 else 1))
reads_locks s t u answer set mode idle fault reads =
    let hidden : shows_held s.mode s u ≡ false = ap (λ (m : Mode). shows_held m s u) mode in
    let both = by_set s.part.set s t u answer idle fault hidden reads in
    (both.0, locks_of s u answer mode (subst (λ (k : Set). Answers k s u answer) set both.1))

-- ---- writes

-- a code at rest, without a job
pub written_intel : (s : ChipState) (u v code : ℕ) → s.part.set ≡ Intel → s.job ≡ Idle → s.step ≡ Rest → v % 256 ≡ code → written s u v ≡ commanded s u code
written_intel s u v code set idle rest is =
    ap (λ (x : Set). writes_of x s u v) set
    ∙ (ap (λ (j : Job). if runs j then (if v % 256 == 0xB0 then suspended s else s) else steps s.step s u v) idle
    ∙ (ap (λ (x : Step). steps x s u v) rest ∙ ap (λ (n : ℕ). commanded s u n) is))

pub written_amd : (s : ChipState) (u v : ℕ) → s.part.set ≡ Amd → s.job ≡ Idle → written s u v ≡ fault_steps s.fault s u v
written_amd s u v set idle =
    ap (λ (x : Set). writes_of x s u v) set
    ∙ ap (λ (j : Job). if runs j then (if v % 256 == 0xB0 then suspended s else s) else fault_steps s.fault s u v) idle

with_mode : ChipState → Mode → Fault → ChipState
with_mode s mode fault = record s { mode = mode; fault = fault }

with_same : (s : ChipState) → with_mode s s.mode s.fault ≡ s
unfolding with_mode
with_same s = refl

with_reset : (s : ChipState) → with_mode s Array NoFault ≡ reset s
unfolding with_mode
with_reset s = refl

-- a chip in mode Array without a fault is reset already
pub is_reset : (s : ChipState) → s.mode ≡ Array → s.fault ≡ NoFault → s ≡ reset s
is_reset s mode fault = let both : with_mode s s.mode s.fault ≡ with_mode s Array NoFault = cc in sym (with_same s) ∙ (both ∙ with_reset s)

-- in mode Array
array_code : (s : ChipState) (u v code : ℕ) → s.part.set ≡ Amd → s.job ≡ Idle → s.fault ≡ NoFault → s.mode ≡ Array → s.step ≡ Rest → v % 256 ≡ code
    → written s u v ≡ array_steps Rest s u v code
array_code s u v code set idle fault mode rest is =
    written_amd s u v set idle
    ∙ (ap (λ (f : Fault). fault_steps f s u v) fault
    ∙ (ap (λ (m : Mode). mode_steps m s u v) mode
    ∙ (ap (λ (x : Step). array_steps x s u v (v % 256)) rest ∙ ap (λ (n : ℕ). array_steps Rest s u v n) is)))

-- in mode Query
query_code : (s : ChipState) (u v code : ℕ) → s.part.set ≡ Amd → s.job ≡ Idle → s.fault ≡ NoFault → s.mode ≡ Query → s.step ≡ Rest → v % 256 ≡ code
    → written s u v ≡ query_steps Rest s code
query_code s u v code set idle fault mode rest is =
    written_amd s u v set idle
    ∙ (ap (λ (f : Fault). fault_steps f s u v) fault
    ∙ (ap (λ (m : Mode). mode_steps m s u v) mode
    ∙ (ap (λ (x : Step). query_steps x s (v % 256)) rest ∙ ap (λ (n : ℕ). query_steps Rest s n) is)))

-- 0xF0 leads a chip of set 0002 to its array
reset_amd : (mode : Mode) (fault : Fault) (s : ChipState) (u v : ℕ) → s.mode ≡ mode → s.fault ≡ fault → s.part.set ≡ Amd → s.step ≡ Rest → s.job ≡ Idle
    → can_reset Amd mode fault ≡ true → v % 256 ≡ 0xF0 → written s u v ≡ reset s
reset_amd Array NoFault s u v m f set rest idle can is = array_code s u v 0xF0 set idle f m rest is ∙ is_reset s m f
reset_amd Query NoFault s u v m f set rest idle can is =
    query_code s u v 0xF0 set idle f m rest is ∙ is_reset (record s { mode = Array }) refl f
reset_amd Ident NoFault s u v m f set rest idle can is = cc
reset_amd Status NoFault s u v m f set rest idle can is = cc
reset_amd Locks NoFault s u v m f set rest idle can is = cc
reset_amd mode (TimeFault job) s u v m f set rest idle can is =
    written_amd s u v set idle
    ∙ (ap (λ (g : Fault). fault_steps g s u v) f
    ∙ (ap (λ (n : ℕ). if n == 0xF0 then record s { step = Rest; mode = Array; fault = NoFault } else s) is
    ∙ ap (λ (x : Step). record s { step = x; mode = Array; fault = NoFault }) (sym rest)))
reset_amd mode AbortFault s u v m f set rest idle can is = cc

pub resets_amd : (s : ChipState) (u v : ℕ) → AtRest Amd s → v % 256 ≡ 0xF0 → written s u v ≡ reset s
resets_amd s u v is low = reset_amd s.mode s.fault s u v refl refl is.set is.step is.job is.resets low

-- a chip of set 0001 that the reset codes lead to its array has no fault
pub no_intel_fault : (mode : Mode) (fault : Fault) → can_reset Intel mode fault ≡ true → fault ≡ NoFault
no_intel_fault mode NoFault can = refl
no_intel_fault mode (TimeFault job) can = cc
no_intel_fault mode AbortFault can = cc

-- The two reset codes, wherever they are written, lead a chip at rest to its array.
pub resets : (kind : Set) (s : ChipState) (u v w : ℕ) → AtRest kind s → v % 256 ≡ 0xF0 → w % 256 ≡ 0xFF → written (written s u v) u w ≡ reset s
resets Intel s u v w is low high =
    let fault = no_intel_fault s.mode s.fault is.resets in
    ap (λ (t : ChipState). written t u w) (written_intel s u v 0xF0 is.set is.job is.step low)
    ∙ (written_intel (record s { mode = Array }) u w 0xFF is.set is.job is.step high ∙ is_reset (record s { mode = Array }) refl fault)
resets Amd s u v w is low high =
    ap (λ (t : ChipState). written t u w) (resets_amd s u v is low)
    ∙ array_code (reset s) u w 0xFF is.set is.job refl refl is.step high

enter_amd : (device : Device) (s : ChipState) (v w : ℕ) → s.part.device ≡ device → s.part.set ≡ Amd → s.job ≡ Idle → s.step ≡ Rest → s.mode ≡ Array → s.fault ≡ NoFault
    → v % 256 ≡ 0x98 → w % 256 ≡ 0x98 → written (written s 0x55 v) 0xAA w ≡ record s { mode = Query }
enter_amd X8 s v w d set idle rest mode fault low high =
    ap (λ (t : ChipState). written t 0xAA w) (array_code s 0x55 v 0x98 set idle fault mode rest low ∙ ap (λ (x : Device). if 0x55 == query_address x then record s { mode = Query } else s) d)
    ∙ query_code (record s { mode = Query }) 0xAA w 0x98 set idle fault refl rest high
enter_amd X16 s v w d set idle rest mode fault low high =
    ap (λ (t : ChipState). written t 0xAA w) (array_code s 0x55 v 0x98 set idle fault mode rest low ∙ ap (λ (x : Device). if 0x55 == query_address x then record s { mode = Query } else s) d)
    ∙ query_code (record s { mode = Query }) 0xAA w 0x98 set idle fault refl rest high
enter_amd X16Byte s v w d set idle rest mode fault low high =
    ap (λ (t : ChipState). written t 0xAA w) (array_code s 0x55 v 0x98 set idle fault mode rest low ∙ ap (λ (x : Device). if 0x55 == query_address x then record s { mode = Query } else s) d)
    ∙ (array_code s 0xAA w 0x98 set idle fault mode rest high ∙ ap (λ (x : Device). if 0xAA == query_address x then record s { mode = Query } else s) d)

enter_by : (set : Set) (s : ChipState) (v w : ℕ) → s.part.set ≡ set → IsShown s → v % 256 ≡ 0x98 → w % 256 ≡ 0x98 → written (written s 0x55 v) 0xAA w ≡ record s { mode = Query }
enter_by Intel s v w set is low high =
    ap (λ (t : ChipState). written t 0xAA w) (written_intel s 0x55 v 0x98 set is.job is.step low)
    ∙ written_intel (record s { mode = Query }) 0xAA w 0x98 set is.job is.step high
enter_by Amd s v w set is low high = enter_amd s.part.device s v w refl set is.job is.step is.mode is.fault low high

-- The query code at both addresses leads a chip that shows its array to its query table.
pub enters_query : (s : ChipState) (v w : ℕ) → IsShown s → v % 256 ≡ 0x98 → w % 256 ≡ 0x98 → written (written s 0x55 v) 0xAA w ≡ record s { mode = Query }
enters_query s v w is low high = enter_by s.part.set s v w refl is low high

-- ---- a chip at rest

pub array_resets : (set : Set) → can_reset set Array NoFault ≡ true
array_resets Intel = refl
array_resets Amd = refl

query_resets : (set : Set) → can_reset set Query NoFault ≡ true
query_resets Intel = refl
query_resets Amd = refl

-- in its array, without a fault
pub resets_in : (set : Set) (mode : Mode) (fault : Fault) → mode ≡ Array → fault ≡ NoFault → can_reset set mode fault ≡ true
resets_in set mode fault m f = ap (λ (x : Mode). can_reset set x fault) m ∙ (ap (can_reset set Array) f ∙ array_resets set)

-- in another mode, of set 0002 in the same
pub resets_still : (set : Set) (mode now : Mode) (fault : Fault) → can_reset set mode fault ≡ true → (set ≡ Amd → now ≡ mode) → can_reset set now fault ≡ true
resets_still Intel mode now fault can same = ap (can_reset Intel now) (no_intel_fault mode fault can)
resets_still Amd mode now fault can same = ap (λ (m : Mode). can_reset Amd m fault) (same refl) ∙ can

time_resets : (mode : Mode) (job : Job) → can_reset Amd mode (TimeFault job) ≡ true
time_resets Array job = refl
time_resets Query job = refl
time_resets Ident job = refl
time_resets Status job = refl
time_resets Locks job = refl

-- after a job broke off
pub resets_broken : (set : Set) (mode : Mode) (broken : Job) (fault : Fault) → can_reset set mode fault ≡ true → can_reset set mode (fault_with set broken fault) ≡ true
resets_broken Intel mode broken fault can = can
resets_broken Amd mode Idle fault can = can
resets_broken Amd mode (Program at bytes left) fault can = time_resets mode (Program at bytes left)
resets_broken Amd mode (Erase target left) fault can = time_resets mode (Erase target left)
resets_broken Amd mode (Pausing b wait left) fault can = can

pub resets_shown : (set : Set) (s : ChipState) → IsShown s → can_reset set s.mode s.fault ≡ true
resets_shown set s is = resets_in set s.mode s.fault is.mode is.fault

-- a chip that shows its array takes every command
pub shown_takes : (kind : Set) (s : ChipState) → s.part.set ≡ kind → IsShown s → TakesCommands kind s
shown_takes kind s set is = record {
  rest = record { set = set; step = is.step; job = is.job; resets = resets_shown kind s is };
  mode = λ amd. is.mode;
  fault = is.fault;
}

-- a chip that waits, and runs no job, is at rest
pub waits_rests : (kind : Set) (s : ChipState) → Waits kind s → s.job ≡ Idle → AtRest kind s
waits_rests kind s is idle = record { set = is.set; step = is.step; job = idle; resets = is.resets }

pub takes_waits : (kind : Set) (s : ChipState) → TakesCommands kind s → Waits kind s
takes_waits kind s is = record { set = is.rest.set; step = is.rest.step; mode = is.mode; resets = is.rest.resets }

pub rests_idle : (s : ChipState) → IsShown s → s.held ≡ NotHeld → IsIdle s
rests_idle s is free = record { rest = (shown_takes s.part.set s refl is).rest; held = free }

-- a chip after the reset codes shows its array, and is at rest
pub reset_shows : (kind : Set) (s : ChipState) → AtRest kind s → IsShown (reset s)
reset_shows kind s is = record { mode = refl; step = is.step; job = is.job; fault = refl }

-- and so is one that shows its query table
pub query_idle : (s : ChipState) → IsIdle s → IsIdle (record (reset s) { mode = Query })
query_idle s is = record {
  rest = record { set = refl; step = is.rest.step; job = is.rest.job; resets = query_resets s.part.set };
  held = is.held;
}
