-- What a buffer load makes of a chip.
use Rattle.std.proofs.Common.{◌≡◌, ◌<◌, ◌≤◌, ◌+◌, ◌-◌, ◌*◌, ◌/◌, ◌%◌, ◌==◌, ◌&&◌, inl, inr, ℕ, zero, suc, refl, sym, ap, subst, ◌∙◌, arith, Bool, true, false, not, nat_lt, List, [], ◌∷◌, ◌++◌, length, length-append, append-nil, append_assoc, if◌then◌else◌}
use Rattle.std.proofs.lemmas.Bool.Decides.{nat_tests}
use Rattle.nor_cell.specs.Bits.{unit_len, unit_bytes}
use Rattle.nor_cell.specs.Chip.{ChipState, Mode, Array, Status, Idle, Step, BufferCount, BufferData, BufferConfirm, Unlock1, Unlock2, Flags, block_of, is_locked, place}
use Rattle.nor_cell.specs.Intel.{misled, flagged, begin_program}
use Rattle.nor_cell.specs.Amd.{goes_to, at_rest, aborted, array_steps}
use Rattle.nor_cell.specs.Between.{TakesCommands}
use Rattle.nor_cell.specs.Loads.{room, is_next, first_of, taken}
use Rattle.nor_cell.specs.Look.{held_off}
use Rattle.nor_cell.specs.Steps.{written}
use Rattle.nor_cell.specs.declared.device.Device.{Device}
use Rattle.nor_cell.specs.declared.device.Device.TheVariants.{X8, X16, X16Byte}
use Rattle.nor_cell.specs.declared.device.Set.{Set}
use Rattle.nor_cell.specs.declared.device.Set.TheVariants.{Intel, Amd}
use Rattle.nor_cell.specs.declared.device.Work.TheVariants.{Buffer}
use Rattle.nor_cell.proofs.Logic.{same_self, passes_below, some_bytes, not_none, quotient_rises}
use Rattle.nor_cell.proofs.Loading.{takes_later, first_stays, length-unit_bytes}
use Rattle.nor_cell.proofs.Spans.{block_rises}
use Rattle.nor_word.specs.Word.{lane_of}
use Rattle.nor_bus.specs.Bus.{BusState, lane, wide}
use Rattle.nor_bus.specs.Driven.{spread, Darkens}
use Rattle.nor_bus.proofs.Driving.{spread_low}
use Rattle.nor_poll.specs.Codes.{after_cycles, cycles_of, DarkensIn}
use Rattle.nor_poll.specs.Losing.{Loses}
use Rattle.nor_poll.specs.Reads.{EachSent}
use Rattle.nor_poll.specs.Rest.{cleared_flags}
use Rattle.nor_poll.specs.Word.{programming, work_mode}
use Rattle.nor_poll.specs.Buffer.{EachLoad, TakesLoad, BeginsLoad, LosesLoad, DarkensLoading, load_of, load_reads, last_of, after_words, load_opened, load_filled, load_sent, DarkensInWords}
use Rattle.nor_poll.specs.declared.codes.To.TheVariants.{Here}
use Rattle.nor_poll.specs.declared.codes.Command.TheVariants.{LoadBuffer, ConfirmLoad}
use Rattle.nor_poll.proofs.Between.{neither}
use Rattle.nor_poll.proofs.Losing.{dark_idle}
use Rattle.nor_poll.proofs.Leading.{IsTurned, unturned, at_step, Leads, Arrives, Then, leads_to, leads_dark}
use Rattle.nor_poll.proofs.Codes1.{by_step as by_step_1, by_code as by_code_1, cleared, rests_cleared, turned_cleared}
use Rattle.nor_poll.proofs.Codes2.{TakesUnlock, by_step as by_step_2, by_code as by_code_2, first, second}

-- ---- words, one after another

-- The words lead a chip that was s once from m to t; before each of them it is s but for mode, step and flags.
pub data Fills (c : ℕ) (s : ChipState) : ℕ → List (List ℕ) → ChipState → ChipState → Type 0 where
  Filled : {u : ℕ} {t : ChipState} → Fills c s u [] t t
  Fill : {u : ℕ} {word : List ℕ} {words : List (List ℕ)} {m n t : ChipState} → IsTurned s m → written m u (lane_of (wide m) word c) ≡ n → Fills c s (u + 1) words n t → Fills c s u (word ∷ words) m t

fills_to : (c : ℕ) (s : ChipState) (u : ℕ) (words : List (List ℕ)) (m t : ChipState) → Fills c s u words m t → after_words c u words m ≡ t
fills_to c s u [] m t Filled = refl
fills_to c s u (word ∷ words) m t (Fill {n = n} turned e rest) = ap (after_words c (u + 1) words) e ∙ fills_to c s (u + 1) words n t rest

fills_dark : (p : ℕ) (bytes : List ℕ) (c : ℕ) (s : ChipState) (u : ℕ) (words : List (List ℕ)) (m t x : ChipState) → s.job ≡ Idle → Fills c s u words m t → DarkensInWords c u words m x → Loses p bytes s x
fills_dark p bytes c s u [] m t x idle Filled dark = absurd dark
fills_dark p bytes c s u (word ∷ words) m t x idle (Fill turned e rest) (inl dark) = dark_idle p bytes s m x turned.mode turned.step turned.flags idle turned.no_error turned.is dark
fills_dark p bytes c s u (word ∷ words) m t x idle (Fill {n = n} turned e rest) (inr later) =
    fills_dark p bytes c s (u + 1) words n t x idle rest (subst (λ (y : ChipState). DarkensInWords c (u + 1) words y x) e later)

-- ---- one write of a load

-- the chip at a step of a load
abbrev loading : Set → Step → ChipState → ChipState
loading kind step s = record s { mode = work_mode kind; step = step; flags = cleared_flags kind s.flags }

-- clearing sets no flag
pub clears_errors : (kind : Set) (flags : Flags) → (cleared_flags kind flags).erase ≡ true → flags.erase ≡ true
clears_errors Intel flags h = cc
clears_errors Amd flags h = h

turned_loading : (kind : Set) (step : Step) (s : ChipState) → IsTurned s (loading kind step s)
turned_loading kind step s = record { mode = work_mode kind; step = step; flags = cleared_flags kind s.flags; is = refl; no_error = clears_errors kind s.flags }

-- the step behind a unit, where so many are missing
abbrev next_step : ℕ → ℕ → ℕ → List ℕ → Step
next_step b zero first bytes = BufferConfirm first bytes
next_step b (suc missing) first bytes = BufferData b (suc missing) first bytes

taken_is : (b missing first : ℕ) (bytes : List ℕ) (s : ChipState) → taken b missing first bytes s ≡ record s { step = next_step b missing first bytes }
taken_is b zero first bytes s = refl
taken_is b (suc missing) first bytes s = refl

-- a unit that is next is taken
takes_unit : (kind : Set) (s : ChipState) (b missing first : ℕ) (bytes : List ℕ) (u v : ℕ) → TakesCommands kind s → is_next s b first bytes u ≡ true
    → written (loading kind (BufferData b missing first bytes) s) u v ≡ loading kind (next_step b (missing - 1) (first_of first bytes u) (bytes ++ unit_bytes s.part.device v)) s
takes_unit Intel s b missing first bytes u v takes next =
    let x = loading Intel (BufferData b missing first bytes) s in
    let more = bytes ++ unit_bytes s.part.device v in
    by_step_1 x u v (BufferData b missing first bytes) takes.rest.set takes.rest.job refl
    ∙ (ap (λ (k : Bool). if k then taken b (missing - 1) (first_of first bytes u) more x else misled x) next ∙ taken_is b (missing - 1) (first_of first bytes u) more x)
takes_unit Amd s b missing first bytes u v takes next =
    let x = loading Amd (BufferData b missing first bytes) s in
    let more = bytes ++ unit_bytes s.part.device v in
    by_step_2 x u v (BufferData b missing first bytes) takes.rest.set takes.rest.job takes.fault refl refl
    ∙ (ap (λ (k : Bool). if k then taken b (missing - 1) (first_of first bytes u) more x else aborted x) next ∙ taken_is b (missing - 1) (first_of first bytes u) more x)

-- the count: n units will come
counts : (kind : Set) (s : ChipState) (b n u v : ℕ) → TakesCommands kind s → n < room s → v % 256 ≡ n → written (loading kind (BufferCount b) s) u v ≡ loading kind (BufferData b (n + 1) 0 []) s
counts Intel s b n u v takes few is =
    let x = loading Intel (BufferCount b) s in
    by_step_1 x u v (BufferCount b) takes.rest.set takes.rest.job refl
    ∙ (ap (λ (m : ℕ). if nat_lt m (room s) then record x { step = BufferData b (m + 1) 0 [] } else misled x) is
    ∙ ap (λ (k : Bool). if k then record x { step = BufferData b (n + 1) 0 [] } else misled x) (passes_below n (room s) few))
counts Amd s b n u v takes few is =
    let x = loading Amd (BufferCount b) s in
    by_step_2 x u v (BufferCount b) takes.rest.set takes.rest.job takes.fault refl refl
    ∙ (ap (λ (m : ℕ). if nat_lt m (room s) then goes_to (BufferData b (m + 1) 0 []) x else aborted x) is
    ∙ ap (λ (k : Bool). if k then goes_to (BufferData b (n + 1) 0 []) x else aborted x) (passes_below n (room s) few))

-- ---- all units of a load

equal_passes : (a b : ℕ) → a ≡ b → (a == b) ≡ true
equal_passes a b h = grind (arith, nat_tests)

next_place : (device : Device) (v : ℕ) → unit_len device * (v + 1) ≡ unit_len device * v + unit_len device
next_place X8 v = omega arith
next_place X16 v = omega arith
next_place X16Byte v = omega arith

-- these units lie in the block and the page of unit u
pub record Together (s : ChipState) (u from n : ℕ) : Type 0 where
  pub block : (w : ℕ) → from ≤ w → w < from + n → block_of s w ≡ block_of s u
  pub page : (w : ℕ) → from ≤ w → w < from + n → w / room s ≡ u / room s

-- those behind the first
fills_rest : (kind : Set) (c u v : ℕ) (bytes : List ℕ) (s : ChipState) (words : List (List ℕ)) → TakesCommands kind s → 0 < length bytes → place s.part v ≡ place s.part u + length bytes
    → Together s u v (length words)
    → Fills c s v words (loading kind (next_step (block_of s u) (length words) u bytes) s) (loading kind (BufferConfirm u (bytes ++ load_of s.part.device c words)) s)
fills_rest kind c u v bytes s [] takes some at all =
    subst (λ (l : List ℕ). Fills c s v [] (loading kind (BufferConfirm u bytes) s) (loading kind (BufferConfirm u l) s)) (sym (append-nil bytes)) Filled
fills_rest kind c u v bytes s (word ∷ words) takes some at all =
    let b = block_of s u in
    let d = s.part.device in
    let part = lane_of (wide s) word c in
    let unit = unit_bytes d part in
    let first = first_stays u v bytes (not_none (length bytes) some) in
    let back : suc (length words) - 1 ≡ length words = omega arith in
    let next : is_next s b u bytes v ≡ true = takes_later s b (suc (length words)) u bytes v (not_none (length bytes) some) (all.block v (omega arith) (omega arith)) at
    ∙ equal_passes (v / room s) (u / room s) (all.page v (omega arith) (omega arith)) in
    let one : written (loading kind (BufferData b (suc (length words)) u bytes) s) v part ≡ loading kind (next_step b (length words) u (bytes ++ unit)) s =
    takes_unit kind s b (suc (length words)) u bytes v part takes next
    ∙ (ap (λ (m : ℕ). loading kind (next_step b m (first_of u bytes v) (bytes ++ unit)) s) back ∙ ap (λ (f : ℕ). loading kind (next_step b (length words) f (bytes ++ unit)) s) first) in
    let longer : length (bytes ++ unit) ≡ length bytes + unit_len d = length-append bytes unit ∙ ap (λ (n : ℕ). length bytes + n) (length-unit_bytes d part) in
    let further = next_place d v in
    let rest = fills_rest kind c u (v + 1) (bytes ++ unit) s words takes (omega (arith, longer, some)) (omega (arith, longer, further, at))
    (record { block = λ w low high. all.block w (omega (arith, low)) (omega (arith, high)); page = λ w low high. all.page w (omega (arith, low)) (omega (arith, high)) }) in
    Fill (turned_loading kind (BufferData b (suc (length words)) u bytes) s) one
    (subst (λ (l : List ℕ). Fills c s (v + 1) words (loading kind (next_step b (length words) u (bytes ++ unit)) s) (loading kind (BufferConfirm u l) s)) (append_assoc bytes unit (load_of d c words)) rest)

place_rises : (device : Device) (a b : ℕ) → a ≤ b → unit_len device * a ≤ unit_len device * b
place_rises X8 a b le = omega arith
place_rises X16 a b le = omega arith
place_rises X16Byte a b le = omega arith

-- all units lie in the block and the page of the first
together : (kind : Set) (u n : ℕ) (s : ChipState) → TakesLoad kind u n s → Together s u u n
together kind u n s takes =
    let d = s.part.device in
    let some = takes.some in
    let few = takes.few in
    record {
      block = λ w low high.
          let from = block_rises s.part.blocks (unit_len d * u) (unit_len d * w) (place_rises d u w low) in
          let to = block_rises s.part.blocks (unit_len d * w) (unit_len d * last_of u n) (place_rises d w (last_of u n) (omega (arith, high, some))) in
          let same = takes.block in omega (arith, from, to, same);
      page = λ w low high.
          let from = quotient_rises u w (room s) (omega (arith, some, few)) low in
          let to = quotient_rises w (last_of u n) (room s) (omega (arith, some, few)) (omega (arith, high, some)) in
          let same = takes.page in omega (arith, from, to, same);
    }

fills : (kind : Set) (c u n : ℕ) (s : ChipState) (words : List (List ℕ)) → n ≡ length words → TakesLoad kind u n s
    → Fills c s u words (loading kind (BufferData (block_of s u) n 0 []) s) (loading kind (BufferConfirm u (load_of s.part.device c words)) s)
fills kind c u n s [] is takes = let some = takes.some in absurd (omega (arith, is, some))
fills kind c u n s (word ∷ words) is takes =
    let b = block_of s u in
    let d = s.part.device in
    let part = lane_of (wide s) word c in
    let unit = unit_bytes d part in
    let all = together kind u n s takes in
    let back : n - 1 ≡ length words = omega (arith, is) in
    let long = length-unit_bytes d part in
    let further = next_place d u in
    let one : written (loading kind (BufferData b n 0 []) s) u part ≡ loading kind (next_step b (length words) u unit) s =
    takes_unit kind s b n 0 [] u part takes.takes (same_self b) ∙ ap (λ (m : ℕ). loading kind (next_step b m u unit) s) back in
    Fill (turned_loading kind (BufferData b n 0 []) s) one
    (fills_rest kind c u (u + 1) unit s words takes.takes (omega (arith, long, some_bytes d)) (omega (arith, long, further))
    (record { block = λ w low high. all.block w (omega (arith, low)) (omega (arith, high, is)); page = λ w low high. all.page w (omega (arith, low)) (omega (arith, high, is)) }))

-- ---- the commands around it

has_room : (n r : ℕ) → 0 < n → n ≤ r → not (r == 0) ≡ true
has_room n r some few = ap not (not_none r (omega (arith, some, few)))

announces_1 : (u n : ℕ) (s : ChipState) → TakesLoad Intel u n s → Leads u s (cycles_of Intel LoadBuffer) s (loading Intel (BufferCount (block_of s u)) s)
announces_1 u n s takes =
    let end = loading Intel (BufferCount (block_of s u)) s in
    Then (unturned s) (by_code_1 s u 0x50 (omega arith) takes.takes.rest)
    (Then (turned_cleared s)
    (by_code_1 (cleared s) u 0xE8 (omega arith) (rests_cleared s takes.takes.rest)
    ∙ (ap (λ (k : Bool). if k && not (room s == 0) then end else record (cleared s) { mode = Array }) takes.blocks
    ∙ ap (λ (k : Bool). if k then end else record (cleared s) { mode = Array }) (has_room n (room s) takes.some takes.few))) Arrives)

announces_2 : (u n : ℕ) (s : ChipState) → TakesLoad Amd u n s → Leads u s (cycles_of Amd LoadBuffer) s (loading Amd (BufferCount (block_of s u)) s)
announces_2 u n s takes =
    let opens : TakesUnlock s = record { takes = takes.takes; blocks = takes.blocks } in
    Then (unturned s) (first s u opens)
    (Then (at_step s Unlock1) (second s u opens)
    (Then (at_step s Unlock2)
    (by_code_2 s u 0x25 Here Unlock2 (omega arith) opens
    ∙ (ap (λ (k : Bool). if k then goes_to (BufferCount (block_of s u)) s else at_rest (goes_to Unlock2 s)) (has_room n (room s) takes.some takes.few)
    ∙ ap (λ (m : Mode). record s { mode = m; step = BufferCount (block_of s u) }) (takes.takes.mode refl))) Arrives))

announces : (kind : Set) (u n : ℕ) (s : ChipState) → TakesLoad kind u n s → Leads u s (cycles_of kind LoadBuffer) s (loading kind (BufferCount (block_of s u)) s)
announces Intel u n s takes = announces_1 u n s takes
announces Amd u n s takes = announces_2 u n s takes

confirms : (kind : Set) (u n : ℕ) (bytes : List ℕ) (s : ChipState) → TakesLoad kind u n s
    → Leads u s (cycles_of kind ConfirmLoad) (loading kind (BufferConfirm u bytes) s) (programming kind (place s.part u) bytes (load_reads s) s)
confirms Intel u n bytes s takes =
    let x = loading Intel (BufferConfirm u bytes) s in
    let v = spread (wide s) 0xD0 in
    let end = programming Intel (place s.part u) bytes (load_reads s) s in
    Then (turned_loading Intel (BufferConfirm u bytes) s)
    (by_step_1 x u v (BufferConfirm u bytes) takes.takes.rest.set takes.takes.rest.job refl
    ∙ (ap (λ (m : ℕ). if m == 0xD0 then begin_program Buffer u bytes x else misled x) (spread_low s.part.device 0xD0 (omega arith))
    ∙ (ap (λ (k : Bool). if k then record (flagged false true true x) { mode = Status } else if held_off x (block_of x u) then record (misled x) { mode = Status } else end) takes.unlocked
    ∙ ap (λ (k : Bool). if k then record (misled x) { mode = Status } else end) takes.free))) Arrives
confirms Amd u n bytes s takes =
    let x = loading Amd (BufferConfirm u bytes) s in
    let v = spread (wide s) 0x29 in
    let end = programming Amd (place s.part u) bytes (load_reads s) s in
    Then (turned_loading Amd (BufferConfirm u bytes) s)
    (by_step_2 x u v (BufferConfirm u bytes) takes.takes.rest.set takes.takes.rest.job takes.takes.fault refl refl
    ∙ (ap (array_steps (BufferConfirm u bytes) x u v) (spread_low s.part.device 0x29 (omega arith))
    ∙ ap (λ (k : Bool). if k then at_rest x else end) (neither (is_locked s (block_of s u)) (held_off s (block_of s u)) takes.unlocked takes.free))) Arrives

-- ---- the whole load

opened_is : (kind : Set) (u n : ℕ) (s : ChipState) → TakesLoad kind u n s → after_cycles u (cycles_of kind LoadBuffer) s ≡ loading kind (BufferCount (block_of s u)) s
opened_is kind u n s takes = leads_to u s (cycles_of kind LoadBuffer) s (loading kind (BufferCount (block_of s u)) s) (announces kind u n s takes)

counted_is : (kind : Set) (u n : ℕ) (s : ChipState) → n ≤ 256 → TakesLoad kind u n s → load_opened kind u n s ≡ loading kind (BufferData (block_of s u) n 0 []) s
counted_is kind u n s most takes =
    let b = block_of s u in
    let some = takes.some in
    let few = takes.few in
    let all : n - 1 + 1 ≡ n = omega (arith, some) in
    ap (λ (x : ChipState). written x u (spread (wide x) (n - 1))) (opened_is kind u n s takes)
    ∙ (counts kind s b (n - 1) u (spread (wide s) (n - 1)) takes.takes (omega (arith, some, few)) (spread_low s.part.device (n - 1) (omega (arith, some, most)))
    ∙ ap (λ (k : ℕ). loading kind (BufferData b k 0 []) s) all)

filled_is : (kind : Set) (c u n : ℕ) (words : List (List ℕ)) (s : ChipState) → n ≡ length words → n ≤ 256 → TakesLoad kind u n s
    → load_filled kind u n words c s ≡ loading kind (BufferConfirm u (load_of s.part.device c words)) s
filled_is kind c u n words s count most takes =
    ap (after_words c u words) (counted_is kind u n s most takes)
    ∙ fills_to c s u words (loading kind (BufferData (block_of s u) n 0 []) s) (loading kind (BufferConfirm u (load_of s.part.device c words)) s) (fills kind c u n s words count takes)

begins : (kind : Set) (c u n : ℕ) (words : List (List ℕ)) (s e : ChipState) → n ≡ length words → n ≤ 256 → e ≡ load_sent kind u n words c s → BeginsLoad kind u n (load_of s.part.device c words) s e
begins kind c u n words s e count most is takes =
    let bytes = load_of s.part.device c words in
    is ∙ (ap (after_cycles u (cycles_of kind ConfirmLoad)) (filled_is kind c u n words s count most takes)
    ∙ leads_to u s (cycles_of kind ConfirmLoad) (loading kind (BufferConfirm u bytes) s) (programming kind (place s.part u) bytes (load_reads s) s) (confirms kind u n bytes s takes))

-- so it is in every lane
pub begins_load : (kind : Set) (u n : ℕ) (words : List (List ℕ)) (old new : BusState) → n ≡ length words → n ≤ 256 → EachSent (load_sent kind u n words) old new → EachLoad words (BeginsLoad kind u n) old new
begins_load kind u n words old new count most sent = λ c below. begins kind c u n words (lane old c) (lane new c) count most (sent c below)

-- ---- power went in one of its parts

loses_first : (kind : Set) (u n : ℕ) (bytes : List ℕ) (s e : ChipState) → DarkensIn u (cycles_of kind LoadBuffer) s e → LosesLoad kind u n bytes s e
loses_first kind u n bytes s e dark takes =
    leads_dark (place s.part u) bytes u s (cycles_of kind LoadBuffer) s (loading kind (BufferCount (block_of s u)) s) e takes.takes.rest.job (announces kind u n s takes) dark

loses_second : (kind : Set) (u n : ℕ) (bytes : List ℕ) (s e : ChipState) → Darkens (after_cycles u (cycles_of kind LoadBuffer) s) e → LosesLoad kind u n bytes s e
loses_second kind u n bytes s e dark takes =
    let turned = turned_loading kind (BufferCount (block_of s u)) s in
    dark_idle (place s.part u) bytes s (after_cycles u (cycles_of kind LoadBuffer) s) e turned.mode turned.step turned.flags takes.takes.rest.job turned.no_error (opened_is kind u n s takes ∙ turned.is) dark

loses_third : (kind : Set) (c u n : ℕ) (words : List (List ℕ)) (s e : ChipState) → n ≡ length words → n ≤ 256 → DarkensInWords c u words (load_opened kind u n s) e
    → LosesLoad kind u n (load_of s.part.device c words) s e
loses_third kind c u n words s e count most dark takes =
    let bytes = load_of s.part.device c words in
    fills_dark (place s.part u) bytes c s u words (loading kind (BufferData (block_of s u) n 0 []) s) (loading kind (BufferConfirm u bytes) s) e takes.takes.rest.job (fills kind c u n s words count takes)
    (subst (λ (y : ChipState). DarkensInWords c u words y e) (counted_is kind u n s most takes) dark)

loses_fourth : (kind : Set) (c u n : ℕ) (words : List (List ℕ)) (s e : ChipState) → n ≡ length words → n ≤ 256 → DarkensIn u (cycles_of kind ConfirmLoad) (load_filled kind u n words c s) e
    → LosesLoad kind u n (load_of s.part.device c words) s e
loses_fourth kind c u n words s e count most dark takes =
    let bytes = load_of s.part.device c words in
    leads_dark (place s.part u) bytes u s (cycles_of kind ConfirmLoad) (loading kind (BufferConfirm u bytes) s) (programming kind (place s.part u) bytes (load_reads s) s) e takes.takes.rest.job
    (confirms kind u n bytes s takes) (subst (λ (y : ChipState). DarkensIn u (cycles_of kind ConfirmLoad) y e) (filled_is kind c u n words s count most takes) dark)

pub loses_loading : (kind : Set) (u n : ℕ) (words : List (List ℕ)) (old new : BusState) → n ≡ length words → n ≤ 256 → DarkensLoading kind u n words old new → EachLoad words (LosesLoad kind u n) old new
loses_loading kind u n words old new count most (inl dark) = λ c below. loses_first kind u n (load_of (lane old c).part.device c words) (lane old c) (lane new c) (dark c below)
loses_loading kind u n words old new count most (inr (inl dark)) = λ c below. loses_second kind u n (load_of (lane old c).part.device c words) (lane old c) (lane new c) (dark c below)
loses_loading kind u n words old new count most (inr (inr (inl dark))) = λ c below. loses_third kind c u n words (lane old c) (lane new c) count most (dark c below)
loses_loading kind u n words old new count most (inr (inr (inr dark))) = λ c below. loses_fourth kind c u n words (lane old c) (lane new c) count most (dark c below)
