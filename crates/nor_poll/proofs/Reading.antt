-- Any number of status reads.
use Rattle.std.proofs.Common.{◌≡◌, ◌≢◌, ◌+◌, ◌≤◌, inl, inr, ℕ, suc, refl, sym, ap, subst, ◌∙◌, arith, Bool, true, false, add-one, Result, Ok, Err, IsErr, OnErr, List, length}
use Rattle.nor_cell.specs.Chip.{ChipState, Idle, is_held}
use Rattle.nor_bus.specs.Bus.{BusState, chip_at, lane}
use Rattle.nor_bus.specs.Cycles.{BusFails, KeepsLanes}
use Rattle.nor_bus.specs.Driven.{Went, Lost, EachLane, Darkens, Asks}
use Rattle.nor_bus.proofs.Driving.{went_none, went_then, lost_then, lost_cycles, lane_kept}
use Rattle.nor_poll.specs.Told.{IsLooked, ShowsStatus, Told}
use Rattle.nor_poll.specs.Reads.{AfterReads, NoReads, OneMore, ReadBy, EachSent, EachRead, DarkAfter, DarkensAfter, DarkensReading}
use Rattle.nor_poll.specs.Losing.{DarkensCodes, DarkensEnding, DarkensResting, DarkensPolling}
use Rattle.nor_cell.specs.declared.device.Set.{Set}
use Rattle.nor_poll.specs.Codes.{DarkensIn, cycles_of}
use Rattle.nor_poll.specs.declared.codes.Command.TheVariants.{ShowArray, ClearErrors}
use Rattle.nor_poll.specs.declared.codes.Cycle.{Cycle}
use Rattle.nor_poll.specs.declared.watch.Seen.{Seen}
use Rattle.nor_poll.specs.declared.watch.Seen.TheVariants.{Working}
use Rattle.nor_poll.proofs.Telling.{idle_if}

-- one read more
pub read_more : (n : ℕ) (s m t : ChipState) → AfterReads s n m → IsLooked m t → AfterReads s (n + 1) t
read_more n s m t h k = subst (λ (j : ℕ). AfterReads s j t) (sym (add-one n)) (OneMore h k)

shows_then : (m t : ChipState) → ShowsStatus m → IsLooked m t → ShowsStatus t
shows_then m t h k = record { set = ap (λ (x : ChipState). x.part.set) k.rest ∙ h.set; mode = ap (λ (x : ChipState). x.mode) k.rest ∙ h.mode }

-- reads go on showing the status
pub shows_after : (s : ChipState) (n : ℕ) (t : ChipState) → AfterReads s n t → ShowsStatus s → ShowsStatus t
shows_after s n t NoReads h = h
shows_after s n t (OneMore {m = m} before look) h = shows_then m t (shows_after s _ m before h) look

-- a chip that isn't told to work runs no job, and one that is told so does
pub told_idle : (s t : ChipState) (it : Seen) → Told s it t → it ≢ Working → t.job ≡ Idle
told_idle s t it h not_working = idle_if t.job (is_held t.held) t.flags (λ e. not_working (h.told ∙ e))

dark_by : (power : Bool) (old new : BusState) → old.power ≡ power → BusFails old new → EachLane Darkens old new
dark_by true old new on h = λ c below. inr (h.cut_now on c below)
dark_by false old new off h = λ c below. inl (ap (λ x. chip_at x c) (h.off_before off))

-- A cycle failed: each chip was cut, or had no power.
pub darkens : (old new : BusState) → BusFails old new → EachLane Darkens old new
darkens old new h = dark_by old.power old new refl h

-- ---- reads of all lanes, one after another

-- a call gave an error as a cycle failed
pub asks_lost : {T E : Type 0} (n : ℕ) (r : Result T E) (old new : BusState) → IsErr r → Lost n old new → Asks n r old new
asks_lost n (Ok x) old new is lost = cc
asks_lost n (Err e) old new is lost = lost

-- and as these codes were written
pub asks_dark : {T E : Type 0} (r : Result T E) (u : ℕ) (codes : List Cycle) (old new : BusState) (Reached Dark : Type 0) → Asks (length codes) r old new
    → OnErr r (Reached → EachLane (DarkensIn u codes) old new) → (DarkensCodes u codes old new → Dark) → OnErr r (Reached → Dark)
asks_dark (Ok x) u codes old new Reached Dark asks dark then = tt
asks_dark (Err e) u codes old new Reached Dark asks dark then = λ reached. then (record { lost = asks; each = dark reached })

pub after_then : (s : ChipState) (n : ℕ) (m : ChipState) (k : ℕ) (t : ChipState) → AfterReads s n m → AfterReads m k t → AfterReads s (n + k) t
after_then s n m k t h NoReads = let e : n ≡ n + 0 = omega arith in subst (λ (i : ℕ). AfterReads s i m) e h
after_then s n m k t h (OneMore {n = j} {m = x} before look) =
    let e : suc (n + j) ≡ n + suc j = omega arith in subst (λ (i : ℕ). AfterReads s i t) e (OneMore (after_then s n m j x h before) look)

pub read_one : (a b : BusState) → Went 1 1 a b → EachLane IsLooked a b → ReadBy 1 1 a b
read_one a b went looked = record { reads = 1; enough = omega arith; few = omega arith; went = went; each = λ c below. OneMore NoReads (looked c below) }

pub read_then : (l m n o k q : ℕ) (a b c : BusState) → k ≤ l + n → m + o ≤ q → ReadBy l m a b → ReadBy n o b c → ReadBy k q a c
read_then l m n o k q a b c ge le x y =
    let p = x.enough in
    let r = y.enough in
    let s = x.few in
    let t = y.few in
    record {
      reads = x.reads + y.reads;
      enough = omega (arith, ge, p, r);
      few = omega (arith, le, s, t);
      went = went_then x.reads x.reads y.reads y.reads (x.reads + y.reads) (x.reads + y.reads) a b c (omega arith) (omega arith) x.went y.went;
      each = λ i below. after_then (lane a i) x.reads (lane b i) y.reads (lane c i) (x.each i below) (y.each i (lane_kept a b i x.went.kept below));
    }

-- Power went after some reads.
pub lost_reading : (l m o q : ℕ) (a b c : BusState) → m + o ≤ q → ReadBy l m a b → Lost o b c → Lost q a c
lost_reading l m o q a b c le x lost = let s = x.few in lost_then x.reads o q a b c (omega (arith, le, s)) x.went lost

pub dark_now : (a b : BusState) → Lost 1 a b → EachLane Darkens a b → DarkensReading 1 a b
dark_now a b lost dark =
    let one = lost.before in
    let none : 0 ≡ lost.cycles = omega (arith, one) in
    record {
      lost = lost;
      each = λ c below. subst (λ (n : ℕ). DarkAfter n (lane a c) (lane b c)) none (record { mid = lane a c; reads = NoReads; dark = dark c below });
    }

pub dark_then : (l m o q : ℕ) (a b c : BusState) → m + o ≤ q → ReadBy l m a b → DarkensReading o b c → DarkensReading q a c
dark_then l m o q a b c le x dark =
    let s = x.few in
    let fits : x.reads + o ≤ q = omega (arith, le, s) in
    let count = lost_cycles x.reads o q a b c fits x.went dark.lost in
    record {
      lost = lost_then x.reads o q a b c fits x.went dark.lost;
      each = λ i below.
          let d = dark.each i (lane_kept a b i x.went.kept below) in
          subst (λ (n : ℕ). DarkAfter n (lane a i) (lane c i)) (sym count)
          (record { mid = d.mid; reads = after_then (lane a i) x.reads (lane b i) dark.lost.cycles d.mid (x.each i below) d.reads; dark = d.dark });
    }

-- power went within fewer reads
pub dark_within : (o q : ℕ) (a b : BusState) → o ≤ q → DarkensReading o a b → DarkensReading q a b
dark_within o q a b le dark =
    let none : ReadBy 0 0 a a = record { reads = 0; enough = omega arith; few = omega arith; went = went_none a; each = λ c below. NoReads } in
    dark_then 0 0 o q a a b (omega (arith, le)) none dark

-- as many reads as may be, after what was sent
pub dark_sent : (sent : ℕ → ChipState → ChipState) (before n most : ℕ) (a b c : BusState) → n ≤ most → Went before before a b → EachSent sent a b → DarkensReading n b c
    → DarkensAfter sent before most a c
dark_sent sent before n most a b c le went was dark =
    let fits : before + n ≤ before + most = omega (arith, le) in
    record {
      lost = lost_then before n (before + most) a b c fits went dark.lost;
      reads = dark.lost.cycles;
      counted = lost_cycles before n (before + most) a b c fits went dark.lost;
      each = λ i below. subst (λ (x : ChipState). DarkAfter dark.lost.cycles x (lane c i)) (was i below) (dark.each i (lane_kept a b i went.kept below));
    }

-- and the last codes after them
pub dark_at_end : (sent : ℕ → ChipState → ChipState) (before n most u : ℕ) (last : List Cycle) (a b c d : BusState) → n ≤ most → Went before before a b → EachSent sent a b
    → ReadBy 1 n b c → DarkensCodes u last c d → DarkensEnding sent before most u last a d
dark_at_end sent before n most u last a b c d le went was read dark =
    let some = read.few in
    let end = length last in
    let fits : read.reads + end ≤ most + end = omega (arith, le, some) in
    let all : before + (most + end) ≤ before + most + end = omega arith in
    let later = lost_then read.reads end (most + end) b c d fits read.went dark.lost in
    let inner = lost_cycles read.reads end (most + end) b c d fits read.went dark.lost in
    let outer = lost_cycles before (most + end) (before + most + end) a b d all went later in
    record {
      lost = lost_then before (most + end) (before + most + end) a b d all went later;
      reads = read.reads;
      few = omega (arith, le, some);
      counted = omega (arith, inner, outer);
      each = λ i below.
          let there = lane_kept a b i went.kept below in
          record {
            mid = lane c i;
            read = subst (λ (x : ChipState). AfterReads x read.reads (lane c i)) (was i below) (read.each i there);
            dark = dark.each i (lane_kept b c i read.went.kept there);
          };
    }

-- and the end of a program
pub dark_resting : (sent : ℕ → ChipState → ChipState) (before n most : ℕ) (set : Set) (u : ℕ) (a b c d : BusState) → n ≤ most → Went before before a b → EachSent sent a b → ReadBy 1 n b c → DarkensResting set u c d
    → DarkensPolling sent before most set u a d
dark_resting sent before n most set u a b c d le went was read (inl dark) = inr (inl (dark_at_end sent before n most u (cycles_of set ShowArray) a b c d le went was read dark))
dark_resting sent before n most set u a b c d le went was read (inr dark) = inr (inr (dark_at_end sent before n most u (cycles_of set ClearErrors) a b c d le went was read dark))

-- just so many reads of what was sent
pub read_sent : (sent : ℕ → ChipState → ChipState) (n k : ℕ) (a b c : BusState) → n ≡ k → KeepsLanes a b → EachSent sent a b → ReadBy n n b c → EachRead sent k a c
read_sent sent n k a b c same kept was read = λ i below.
    let p = read.enough in
    let q = read.few in
    let count : read.reads ≡ k = omega (arith, p, q, same) in
    subst (λ (m : ℕ). AfterReads (sent i (lane a i)) m (lane c i)) count
    (subst (λ (x : ChipState). AfterReads x read.reads (lane c i)) (was i below) (read.each i (lane_kept a b i kept below)))
