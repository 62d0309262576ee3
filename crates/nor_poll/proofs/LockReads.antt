-- Reads of a bank whose chips show their locks.
use Rattle.std.proofs.Common.{◌≡◌, ◌<◌, ◌≤◌, ◌+◌, ◌-◌, ◌*◌, ◌/◌, ◌%◌, ◌^◌, ◌==◌, ◌&&◌, ℕ, refl, sym, ap, subst, ◌∙◌, arith, Bool, true, false, List, length, if◌then◌else◌}
use Rattle.nor_cell.specs.Bits.{unit_len}
use Rattle.nor_cell.specs.Chip.{ChipState, Ident, Locks, block, block_of, has_blocks, is_locked, units}
use Rattle.nor_cell.specs.Intel.{ident_at}
use Rattle.nor_cell.specs.Shown.{register}
use Rattle.nor_cell.specs.Between.{TakesCommands, reset}
use Rattle.nor_cell.specs.Steps.{Reads}
use Rattle.nor_cell.specs.declared.device.Device.{Device}
use Rattle.nor_cell.specs.declared.device.Device.TheVariants.{X8, X16, X16Byte}
use Rattle.nor_cell.specs.declared.device.Set.{Set}
use Rattle.nor_cell.specs.declared.device.Set.TheVariants.{Intel, Amd}
use Rattle.nor_cell.specs.declared.geometry.Geometry.{Geometry}
use Rattle.nor_cell.proofs.Logic.{some_bytes}
use Rattle.nor_cell.proofs.Between.{reads_ident, reads_locks}
use Rattle.nor_cell.proofs.Spans.{same_block}
use Rattle.nor_word.specs.Word.{lane_of}
use Rattle.nor_bus.specs.Bus.{BusState, IsBank, IsWired, lane, lanes_of, units_of, wide}
use Rattle.nor_bus.specs.Cycles.{KeepsLanes}
use Rattle.nor_bus.specs.Driven.{Reaches, EachLane, EachPart, AnswersPart, reached}
use Rattle.nor_bus.proofs.Driving.{device_of, some_lane, lane_kept, reaches_kept, units_kept, keeps_then}
use Rattle.nor_bus.proofs.Sizes.{bus_units}
use Rattle.nor_poll.specs.Codes.{after_cycles, cycles_of}
use Rattle.nor_poll.specs.Lock.{OffersLocks, ShowsLock, TellsLock, SomeLane, lock_mode, lock_unit, lock_of, shows_locked}
use Rattle.nor_poll.specs.declared.codes.Command.TheVariants.{ShowLocks, LeaveLocks}
use Rattle.nor_poll.proofs.Leading.{leads_to}
use Rattle.nor_poll.proofs.Sending.{unwrapped}
use Rattle.nor_poll.proofs.Locking.{in_mode, shows, leaves}

-- ---- one chip

-- a read leaves it as it is
pub still_shows : (set : Set) (s t : ChipState) (a answer : ℕ) → TakesCommands set s → Reads (in_mode (lock_mode set) s) a answer t → t ≡ in_mode (lock_mode set) s
still_shows Intel s t a answer takes reads = (reads_ident (in_mode Ident s) t a answer takes.rest.set refl takes.rest.job takes.fault reads).0
still_shows Amd s t a answer takes reads = (reads_locks (in_mode Locks s) t a answer takes.rest.set refl takes.rest.job takes.fault reads).0

-- the unit with the lock is among the first 128 bytes of the block
near : (set : Set) (device : Device) (u : ℕ) → (unit_len device * u ≤ unit_len device * (u + lock_unit set device)) × (unit_len device * (u + lock_unit set device) + unit_len device ≤ unit_len device * u + 128)
near Intel X8 u = (omega arith, omega arith)
near Intel X16 u = (omega arith, omega arith)
near Intel X16Byte u = (omega arith, omega arith)
near Amd X8 u = (omega arith, omega arith)
near Amd X16 u = (omega arith, omega arith)
near Amd X16Byte u = (omega arith, omega arith)

here : (set : Set) (u : ℕ) (s : ChipState) → ShowsLock set u s → block_of s (u + lock_unit set s.part.device) ≡ block_of s u
here set u s shown =
    let d = s.part.device in
    let n = near set d u in
    let low : unit_len d * u ≤ unit_len d * (u + lock_unit set d) = n.0 in
    let high : unit_len d * (u + lock_unit set d) + unit_len d ≤ unit_len d * u + 128 = n.1 in
    let first = shown.first in
    let least = shown.least in
    let some = some_bytes d in
    same_block s.part.blocks (unit_len d * u) (unit_len d * (u + lock_unit set d)) low (omega (arith, low, high, first, least, some))

fits : (device : Device) (v size : ℕ) → unit_len device * v + unit_len device ≤ size → v < size / unit_len device
fits X8 v size h = omega arith
fits X16 v size h = omega arith
fits X16Byte v size h = omega arith

-- and so in the chip
inside : (set : Set) (u : ℕ) (s : ChipState) → ShowsLock set u s → u + lock_unit set s.part.device < units s
inside set u s shown =
    let d = s.part.device in
    let n = near set d u in
    let high : unit_len d * (u + lock_unit set d) + unit_len d ≤ unit_len d * u + 128 = n.1 in
    let first = shown.first in
    let least = shown.least in
    let end = shown.inside in
    fits d (u + lock_unit set d) (length s.cells) (omega (arith, high, first, least, end))

-- it is register 2 there
is_register : (device : Device) (u : ℕ) → (register device (u + lock_unit Intel device - unit_len device * u / unit_len device) == 2) ≡ true
is_register X8 u = let e : u + 2 - 1 * u / 1 ≡ 2 = omega arith in ap (λ (n : ℕ). n == 2) e
is_register X16 u = let e : u + 2 - 2 * u / 2 ≡ 2 = omega arith in ap (λ (n : ℕ). n == 2) e
is_register X16Byte u = let e : (u + 4 - 1 * u / 1) / 2 ≡ 2 = omega arith in ap (λ (n : ℕ). n == 2) e

ident_is : (u : ℕ) (s : ChipState) → ShowsLock Intel u s → ident_at (in_mode Ident s) (u + lock_unit Intel s.part.device) ≡ (if lock_of u s then 1 else 0)
ident_is u s shown =
    let d = s.part.device in
    let a = u + lock_unit Intel d in
    let l = lock_of u s in
    ap (λ (b : ℕ). if has_blocks s.part.blocks && register d (a - (block s.part.blocks b).from / unit_len d) == 2 && is_locked s b then 1 else 0) (here Intel u s shown)
    ∙ (ap (λ (p : ℕ). if has_blocks s.part.blocks && register d (a - p / unit_len d) == 2 && l then 1 else 0) shown.first
    ∙ (ap (λ (k : Bool). if k && register d (a - unit_len d * u / unit_len d) == 2 && l then 1 else 0) shown.locks.blocks
    ∙ ap (λ (k : Bool). if k && l then 1 else 0) (is_register d u)))

says_1 : (l : Bool) → shows_locked Intel (if l then 1 else 0) ≡ l
says_1 true = refl
says_1 false = refl

says_2 : (l : Bool) → shows_locked Amd (if l then 0 else 1) ≡ l
says_2 true = refl
says_2 false = refl

-- it answers whether the block is locked
answers : (set : Set) (u : ℕ) (s t : ChipState) (answer : ℕ) → ShowsLock set u s → Reads (in_mode (lock_mode set) s) (u + lock_unit set s.part.device) answer t → shows_locked set answer ≡ lock_of u s
answers Intel u s t answer shown reads =
    let takes = shown.locks.takes in
    let is = (reads_ident (in_mode Ident s) t (u + lock_unit Intel s.part.device) answer takes.rest.set refl takes.rest.job takes.fault reads).1 in
    ap (shows_locked Intel) (is ∙ ident_is u s shown) ∙ says_1 (lock_of u s)
answers Amd u s t answer shown reads =
    let takes = shown.locks.takes in
    let is = (reads_locks (in_mode Locks s) t (u + lock_unit Amd s.part.device) answer takes.rest.set refl takes.rest.job takes.fault reads).1 in
    ap (shows_locked Amd) (is ∙ ap (λ (b : ℕ). if is_locked s b then 0 else 1) (here Amd u s shown)) ∙ says_2 (lock_of u s)

-- ---- all lanes

-- chips of a bank have as many units
lane_units : (width : ℕ) (device : Device) (bus : BusState) (c : ℕ) → IsBank width device bus.lanes → c < lanes_of bus → units (lane bus c) ≡ units_of bus
lane_units width device bus c bank below =
    ap (λ (n : ℕ). n / unit_len (lane bus c).part.device) (bank.sizes c below)
    ∙ ap (λ (d : Device). length (lane bus 0).cells / unit_len d) (bank.devices c below ∙ sym (bank.devices 0 (some_lane width device bus.lanes bank)))

-- the lanes' chips show their locks, and are read
pub record IsRead (set : Set) (width : ℕ) (g : Geometry) (u a : ℕ) (word : List ℕ) (old mid last : BusState) : Type 0 where
  pub wired : IsWired width mid
  pub at : a ≡ (u + lock_unit set g.device) % 2 ^ 32
  pub first : KeepsLanes old mid
  pub second : KeepsLanes mid last
  pub shown : Reaches width g u old → EachLane (λ s t. t ≡ after_cycles u (cycles_of set ShowLocks) s) old mid
  pub answered : EachPart word (AnswersPart (reached a mid)) mid last

pub mid_shows : (set : Set) (u : ℕ) (s m : ChipState) → m ≡ after_cycles u (cycles_of set ShowLocks) s → OffersLocks set s → m ≡ in_mode (lock_mode set) s
mid_shows set u s m is offers = is ∙ leads_to u s (cycles_of set ShowLocks) s (in_mode (lock_mode set) s) (shows set u s offers)

-- each still shows them after it
pub last_shows : (set : Set) (width : ℕ) (g : Geometry) (u a : ℕ) (word : List ℕ) (old mid last : BusState) → IsRead set width g u a word old mid last → Reaches width g u old
    → (c : ℕ) → c < lanes_of old → OffersLocks set (lane old c) → lane last c ≡ in_mode (lock_mode set) (lane old c)
last_shows set width g u a word old mid last is reaches c below offers =
    let s = lane old c in
    let shown = mid_shows set u s (lane mid c) (is.shown reaches c below) offers in
    still_shows set s (lane last c) (reached a mid) (lane_of (wide (lane mid c)) word c) offers.takes
    (subst (λ (x : ChipState). Reads x (reached a mid) (lane_of (wide (lane mid c)) word c) (lane last c)) shown (is.answered c (lane_kept old mid c is.first below)))

-- and answers whether its block is locked
lane_answers : (set : Set) (width : ℕ) (g : Geometry) (u a : ℕ) (word : List ℕ) (old mid last : BusState) → IsRead set width g u a word old mid last → Reaches width g u old
    → (c : ℕ) → c < lanes_of old → ShowsLock set u (lane old c) → shows_locked set (lane_of (unit_len g.device) word c) ≡ lock_of u (lane old c)
lane_answers set width g u a word old mid last is reaches c below shown =
    let s = lane old c in
    let m = lane mid c in
    let t = lane last c in
    let now = reaches_kept width g u old mid is.first reaches in
    let there = lane_kept old mid c is.first below in
    let device : s.part.device ≡ g.device = reaches.own.bank.devices c below in
    let v = u + lock_unit set g.device in
    let own : u + lock_unit set s.part.device ≡ v = ap (λ (d : Device). u + lock_unit set d) device in
    let low : v < units_of mid = subst (λ (n : ℕ). v < n) (lane_units width g.device old c reaches.own.bank below ∙ sym (units_kept old mid is.first)) (subst (λ (n : ℕ). n < units s) own (inside set u s shown)) in
    let at : reached a mid ≡ u + lock_unit set s.part.device = ap (λ (n : ℕ). reached n mid) is.at ∙ (unwrapped v mid low (bus_units width mid is.wired).1 ∙ sym own) in
    let part : lane_of (wide m) word c ≡ lane_of (unit_len g.device) word c = ap (λ (d : ℕ). lane_of d word c) (device_of width g.device mid c now.own.bank there) in
    let shows_it = mid_shows set u s m (is.shown reaches c below) shown.locks in
    let first : Reads (in_mode (lock_mode set) s) (reached a mid) (lane_of (wide m) word c) t = subst (λ (x : ChipState). Reads x (reached a mid) (lane_of (wide m) word c) t) shows_it (is.answered c there) in
    let second : Reads (in_mode (lock_mode set) s) (u + lock_unit set s.part.device) (lane_of (wide m) word c) t = subst (λ (n : ℕ). Reads (in_mode (lock_mode set) s) n (lane_of (wide m) word c) t) at first in
    answers set u s t (lane_of (unit_len g.device) word c) shown (subst (λ (n : ℕ). Reads (in_mode (lock_mode set) s) (u + lock_unit set s.part.device) n t) part second)

abbrev TellsAny : Set → Geometry → List ℕ → Bool → Type 0
TellsAny set g word locked =
    (locked ≡ false → (c : ℕ) → c < g.lanes → shows_locked set (lane_of (unit_len g.device) word c) ≡ false)
    × (locked ≡ true → SomeLane g.lanes (λ c. shows_locked set (lane_of (unit_len g.device) word c)))

-- where lanes agree, a bit tells of all
agree : (set : Set) (width : ℕ) (g : Geometry) (u : ℕ) (word : List ℕ) (old : BusState) (locked bit : Bool) → TellsAny set g word locked → Reaches width g u old
    → ((c : ℕ) → c < lanes_of old → shows_locked set (lane_of (unit_len g.device) word c) ≡ bit) → locked ≡ bit
agree set width g u word old false bit any reaches same =
    let some = some_lane width g.device old.lanes reaches.own.bank in
    sym (any.0 refl 0 (subst (λ (n : ℕ). 0 < n) reaches.own.count some)) ∙ same 0 some
agree set width g u word old true bit any reaches same =
    let lane_is = any.1 refl in
    sym lane_is.is ∙ same lane_is.number (subst (λ (n : ℕ). lane_is.number < n) (sym reaches.own.count) lane_is.there)

pub tells : (set : Set) (width : ℕ) (g : Geometry) (u a : ℕ) (word : List ℕ) (old mid last new : BusState) (locked : Bool) → IsRead set width g u a word old mid last
    → (Reaches width g u last → EachLane (λ s t. t ≡ after_cycles u (cycles_of set LeaveLocks) s) last new) → TellsAny set g word locked
    → TellsLock set width g u old new locked
tells set width g u a word old mid last new locked is left any =
    let kept = keeps_then old mid last is.first is.second in
    record {
      shows = λ reaches c below offers.
          left (reaches_kept width g u old last kept reaches) c (lane_kept old last c kept below)
          ∙ (ap (after_cycles u (cycles_of set LeaveLocks)) (last_shows set width g u a word old mid last is reaches c below offers)
          ∙ leads_to u (lane old c) (cycles_of set LeaveLocks) (in_mode (lock_mode set) (lane old c)) (reset (lane old c)) (leaves set u (lane old c) offers.takes));
      none = λ reaches open_all c below shown.
          sym (lane_answers set width g u a word old mid last is reaches c below shown) ∙ any.0 open_all c (subst (λ (n : ℕ). c < n) reaches.own.count below);
      some = λ reaches shut all.
          let one = any.1 shut in
          let below = subst (λ (n : ℕ). one.number < n) (sym reaches.own.count) one.there in
          record { number = one.number; there = below; is = sym (lane_answers set width g u a word old mid last is reaches one.number below (all one.number below)) ∙ one.is };
      agreed = λ reaches all bit same.
          agree set width g u word old locked bit any reaches (λ c below. lane_answers set width g u a word old mid last is reaches c below (all c below) ∙ same c below);
    }
