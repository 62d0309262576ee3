-- What reads of a chip tell that programs a datum at the unit that is read.
use Rattle.std.proofs.Common.{◌≡◌, ◌+◌, ◌-◌, ◌==◌, ◌%◌, ◌⊎◌, inl, inr, ℕ, zero, suc, refl, sym, ap, subst, ◌∙◌, arith, nat_lt, bit_and, Bool, true, false, List, length, slice_index, if◌then◌else◌}
use Rattle.std.proofs.lemmas.Bool.{cases_Bool}
use Rattle.nor_cell.specs.Bits.{unit_len, unit_bytes}
use Rattle.nor_cell.specs.Chip.{ChipState, Part, Job, Idle, Program, Erase, Pausing, Held, Fault, NoFault, TimeFault, AbortFault, place, holds_at}
use Rattle.nor_cell.specs.Shown.{bit_if}
use Rattle.nor_cell.specs.Amd.{shown, last_low}
use Rattle.nor_cell.specs.Look.{look, look_at, job_after, held_after, broken_of, fault_with}
use Rattle.nor_cell.specs.Steps.{Reads}
use Rattle.nor_cell.specs.declared.device.Device.{Device}
use Rattle.nor_cell.specs.declared.device.Device.TheVariants.{X8, X16, X16Byte}
use Rattle.nor_cell.specs.declared.device.Set.{Set}
use Rattle.nor_cell.specs.declared.device.Set.TheVariants.{Amd}
use Rattle.nor_word.specs.Word.{lane_of}
use Rattle.nor_poll.specs.Told.{IsLooked, ToldAt, seen_fault}
use Rattle.nor_poll.specs.Toggles.{is_complement, data_says, pair_says, names_job, EndsAt, EndsWith, ShowsToggle, IsProgram, IsProgramFault, ShowsDatum, TellsDatum}
use Rattle.nor_poll.specs.declared.watch.Seen.{Seen}
use Rattle.nor_poll.specs.declared.watch.Seen.TheVariants.{Ready}
use Rattle.nor_poll.proofs.Looking.{looked_by}
use Rattle.nor_cell.proofs.Loading.{length-unit_bytes}
use Rattle.nor_cell.proofs.Logic.{some_bytes}
use Rattle.nor_poll.proofs.Toggling.{program_status}
use Rattle.nor_poll.proofs.Answering.{amd_reads, told_now, told_pair}

-- ---- such a chip is one that a toggle poll tells of

ends_by : (job : Job) (held : Held) (part : Part) (u v : ℕ) → IsProgram (place part u) (unit_bytes part.device v) job → holds_at held part.blocks (place part u) ≡ false → EndsAt job held part u
ends_by Idle held part u v h free = tt
ends_by (Program p bytes left) held part u v h free =
    let size = length-unit_bytes part.device v in
    let end = h.end in (h.from, omega (arith, end, size), free)
ends_by (Erase target left) held part u v h free = absurd h
ends_by (Pausing b wait left) held part u v h free = absurd h

names_by : (p : ℕ) (bytes : List ℕ) (fault : Fault) → IsProgramFault p bytes fault → names_job fault ≡ true
names_by p bytes NoFault h = refl
names_by p bytes (TimeFault job) h = h.0
names_by p bytes AbortFault h = absurd h

pub datum_toggles : (u v : ℕ) (s : ChipState) → ShowsDatum u v s → ShowsToggle u s
datum_toggles u v s h = record {
  set = h.set;
  fault = names_by (place s.part u) (unit_bytes s.part.device v) s.fault h.fault;
  mode = λ none. h.mode;
  ends = ends_by s.job s.held s.part u v h.job h.free;
}

-- ---- it stays one

next_job : (stuck : Bool) (job : Job) (p : ℕ) (bytes : List ℕ) → IsProgram p bytes job → IsProgram p bytes (job_after (look_at stuck job))
next_job stuck Idle p bytes h = tt
next_job true (Program q more left) p bytes h = h
next_job false (Program q more zero) p bytes h = tt
next_job false (Program q more (suc left)) p bytes h = h
next_job stuck (Erase target left) p bytes h = absurd h
next_job stuck (Pausing b wait left) p bytes h = absurd h

next_held : (stuck : Bool) (job : Job) (held : Held) (p : ℕ) (bytes : List ℕ) → IsProgram p bytes job → held_after (look_at stuck job) held ≡ held
next_held stuck Idle held p bytes h = refl
next_held true (Program q more left) held p bytes h = refl
next_held false (Program q more zero) held p bytes h = refl
next_held false (Program q more (suc left)) held p bytes h = refl
next_held stuck (Erase target left) held p bytes h = absurd h
next_held stuck (Pausing b wait left) held p bytes h = absurd h

broken_if : (b : Bool) (q : ℕ) (more : List ℕ) (p : ℕ) (bytes : List ℕ) → IsProgram p bytes (Program q more 0) → IsProgram p bytes (if b then Program q more 0 else Idle)
broken_if true q more p bytes h = h
broken_if false q more p bytes h = tt

next_broken : (s : ChipState) (stuck : Bool) (job : Job) (p : ℕ) (bytes : List ℕ) → IsProgram p bytes job → IsProgram p bytes (broken_of s (look_at stuck job))
next_broken s stuck Idle p bytes h = tt
next_broken s true (Program q more left) p bytes h = tt
next_broken s false (Program q more zero) p bytes h = broken_if _ q more p bytes h
next_broken s false (Program q more (suc left)) p bytes h = tt
next_broken s stuck (Erase target left) p bytes h = absurd h
next_broken s stuck (Pausing b wait left) p bytes h = absurd h

next_fault : (broken : Job) (fault : Fault) (p : ℕ) (bytes : List ℕ) → IsProgram p bytes broken → IsProgramFault p bytes fault → IsProgramFault p bytes (fault_with Amd broken fault)
next_fault Idle fault p bytes h k = k
next_fault (Program q more left) fault p bytes h k = (refl, h)
next_fault (Erase target left) fault p bytes h k = absurd h
next_fault (Pausing b wait left) fault p bytes h k = absurd h

pub datum_next : (u v : ℕ) (s m : ChipState) → ShowsDatum u v s → IsLooked s m → ShowsDatum u v m
datum_next u v s m h k =
    let p = place s.part u in
    let bytes = unit_bytes s.part.device v in
    let broken = broken_of s (look s) in
    let part : m.part ≡ s.part = ap (λ (x : ChipState). x.part) k.rest in
    let held : m.held ≡ s.held = ap (λ (x : ChipState). x.held) k.rest ∙ next_held s.part.stuck s.job s.held p bytes h.job in
    let job : m.job ≡ job_after (look s) = ap (λ (x : ChipState). x.job) k.rest in
    let fault : m.fault ≡ fault_with Amd broken s.fault = ap (λ (x : ChipState). x.fault) k.rest ∙ ap (λ (x : Set). fault_with x broken s.fault) h.set in
    record {
      set = ap (λ (x : Part). x.set) part ∙ h.set;
      mode = ap (λ (x : ChipState). x.mode) k.rest ∙ h.mode;
      free = ap (λ (x : Part). holds_at m.held x.blocks (place x u)) part ∙ (ap (λ (x : Held). holds_at x s.part.blocks (place s.part u)) held ∙ h.free);
      job = subst (λ (x : Part). IsProgram (place x u) (unit_bytes x.device v) m.job) (sym part)
          (subst (IsProgram p bytes) (sym job) (next_job s.part.stuck s.job p bytes h.job));
      fault = subst (λ (x : Part). IsProgramFault (place x u) (unit_bytes x.device v) m.fault) (sym part)
          (subst (IsProgramFault p bytes) (sym fault) (next_fault broken s.fault p bytes (next_broken s s.part.stuck s.job p bytes h.job) h.fault));
    }

-- ---- while it programs, and where it broke off, it shows the complement

complement : (x toggle_6 : Bool) → (bit_and (program_status x toggle_6) 0x80 == bit_if 0x80 x) ≡ true
complement true true = refl
complement true false = refl
complement false true = refl
complement false false = refl

broken_complement : (x toggle_6 : Bool) → (bit_and (program_status x toggle_6 + 0x20) 0x80 == bit_if 0x80 x) ≡ true
broken_complement true true = refl
broken_complement true false = refl
broken_complement false true = refl
broken_complement false false = refl

first_low : (d : Device) (v : ℕ) → slice_index (unit_bytes d v) 0 ≡ v % 256
first_low X8 v = refl
first_low X16 v = refl
first_low X16Byte v = refl

-- its last unit is v
low_bit : (part : Part) (u v q : ℕ) (more : List ℕ) → EndsWith (place part u) (unit_bytes part.device v) q more → nat_lt (last_low part more) 0x80 ≡ nat_lt (v % 256) 0x80
low_bit part u v q more h =
    let size = length-unit_bytes part.device v in
    let from = h.from in
    let end = h.end in
    let at : length more - unit_len part.device ≡ place part u - q + 0 = omega (arith, size, from, end) in
    let is : last_low part more ≡ v % 256 = ap (slice_index more) at ∙ (h.same 0 (omega (arith, size, some_bytes part.device)) ∙ first_low part.device v) in
    ap (λ (n : ℕ). nat_lt n 0x80) is

rests_by : (u v : ℕ) (t : ChipState) (job : Job) → IsProgram (place t.part u) (unit_bytes t.part.device v) job → is_complement v (shown (record t { job = job }) u) ≡ false → job ≡ Idle
rests_by u v t Idle h far = refl
rests_by u v t (Program q more left) h far =
    let x = nat_lt (v % 256) 0x80 in
    let same : is_complement v (program_status (nat_lt (last_low t.part more) 0x80) t.toggle_6) ≡ true =
    ap (λ (b : Bool). bit_and (program_status b t.toggle_6) 0x80 == bit_if 0x80 x) (low_bit t.part u v q more h) ∙ complement x t.toggle_6 in
    let no : false ≡ true = sym far ∙ same in absurd cc
rests_by u v t (Erase target left) h far = absurd h
rests_by u v t (Pausing b wait left) h far = absurd h

whole_by : (u v : ℕ) (t : ChipState) (fault : Fault) → IsProgramFault (place t.part u) (unit_bytes t.part.device v) fault → is_complement v (shown (record t { job = Idle; fault = fault }) u) ≡ false
    → fault ≡ NoFault
whole_by u v t NoFault h far = refl
whole_by u v t (TimeFault Idle) h far = let no : false ≡ true = h.0 in absurd cc
whole_by u v t (TimeFault (Program q more left)) h far =
    let x = nat_lt (v % 256) 0x80 in
    let same : is_complement v (program_status (nat_lt (last_low t.part more) 0x80) t.toggle_6 + 0x20) ≡ true =
    ap (λ (b : Bool). bit_and (program_status b t.toggle_6 + 0x20) 0x80 == bit_if 0x80 x) (low_bit t.part u v q more h.1) ∙ broken_complement x t.toggle_6 in
    let no : false ≡ true = sym far ∙ same in absurd cc
whole_by u v t (TimeFault (Erase target left)) h far = absurd h.1
whole_by u v t (TimeFault (Pausing b wait left)) h far = absurd h.1
whole_by u v t AbortFault h far = absurd h

-- a chip that doesn't is ready
ready_now : (u v : ℕ) (s t : ChipState) (a : ℕ) (it : Seen) → ShowsDatum u v t → a ≡ shown t u → is_complement v a ≡ false → it ≡ Ready → ToldAt u s it t
ready_now u v s t a it h shows far is =
    let off : is_complement v (shown t u) ≡ false = ap (is_complement v) (sym shows) ∙ far in
    let idle = rests_by u v t t.job h.job off in
    let none = whole_by u v t t.fault h.fault (ap (λ (j : Job). is_complement v (shown (record t { job = j }) u)) (sym idle) ∙ off) in
    let ready : seen_fault t.fault (holds_at t.held t.part.blocks (place t.part u)) ≡ Ready =
    ap (λ (f : Fault). seen_fault f (holds_at t.held t.part.blocks (place t.part u))) none ∙ ap (seen_fault NoFault) h.free in
    told_now u s t it h.set idle (is ∙ sym ready)

-- ---- what polls tell

-- one read
pub told_first : (u v : ℕ) (s : ChipState) (a : ℕ) (t : ChipState) (it : Seen) → Reads s u a t → is_complement v a ≡ false → it ≡ Ready → TellsDatum u v s it t
told_first u v s a t it one far is shows = ready_now u v s t a it (datum_next u v s t shows (looked_by s u a t one)) (amd_reads s u a t shows.set one).answers far is

data_by : (u v : ℕ) (s : ChipState) (a : ℕ) (m : ChipState) (b : ℕ) (t : ChipState) (it : Seen) → Reads s u a m → Reads m u b t → it ≡ data_says v a b → ShowsDatum u v s
    → (is_complement v b ≡ true) ⊎ (is_complement v b ≡ false) → ToldAt u s it t
data_by u v s a m b t it one two is shows (inl near) =
    told_pair u s a m b t it one two (is ∙ ap (λ (k : Bool). if k then pair_says a b else Ready) near) (datum_toggles u v s shows)
data_by u v s a m b t it one two is shows (inr far) =
    let sm = datum_next u v s m shows (looked_by s u a m one) in
    ready_now u v s t b it (datum_next u v m t sm (looked_by m u b t two)) (amd_reads m u b t sm.set two).answers far (is ∙ ap (λ (k : Bool). if k then pair_says a b else Ready) far)

-- two reads
pub told_data : (u v : ℕ) (s : ChipState) (a : ℕ) (m : ChipState) (b : ℕ) (t : ChipState) (it : Seen) → Reads s u a m → Reads m u b t → it ≡ data_says v a b → TellsDatum u v s it t
told_data u v s a m b t it one two is shows = data_by u v s a m b t it one two is shows (cases_Bool (is_complement v b))

-- so it is told of a lane whose part of the datum has as many bytes as the geometry says
pub told_wide : (d e u k : ℕ) (word : List ℕ) (s : ChipState) (it : Seen) (t : ChipState) → e ≡ d → TellsDatum u (lane_of d word k) s it t → TellsDatum u (lane_of e word k) s it t
told_wide d e u k word s it t same h = subst (λ (n : ℕ). TellsDatum u (lane_of n word k) s it t) (sym same) h
