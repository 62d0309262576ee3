-- A read of a bank whose chips are ready, beside what is under erase.
use Rattle.std.proofs.Common.{◌≡◌, ◌≢◌, ◌<◌, ◌≤◌, ◌+◌, ◌-◌, ◌*◌, inl, inr, ℕ, List, [], length, refl, sym, ◌∙◌, ap, subst, arith, true, false, Option, Some, None}
use Rattle.std.proofs.lemmas.List.{ext_get_or}
use Rattle.nor_cell.specs.Bits.{unit_len}
use Rattle.nor_cell.specs.Chip.{ChipState, Job, Idle, Held, covered, is_within, holds_at, place}
use Rattle.nor_cell.specs.Power.{erases_at, programs_at}
use Rattle.nor_cell.specs.Steps.{Remains}
use Rattle.nor_cell.specs.declared.device.Device.{Device}
use Rattle.nor_cell.specs.declared.device.Span.{Span}
use Rattle.nor_cell.proofs.Logic.{some_bytes, none_pass, no_items, same_number}
use Rattle.nor_region.specs.Map.{scaled_span}
use Rattle.nor_bus.specs.Bus.{BusState, lane, lanes_of, chip_at}
use Rattle.nor_bus.specs.Driven.{EachLane, Went, Lost, Darkens}
use Rattle.nor_bus.proofs.Driving.{went_none, went_then}
use Rattle.nor_poll.specs.UnderErase.{KeepsOutside, part_of, state_at}
use Rattle.nor_probe.specs.declared.probing.Found.{Found}
use Rattle.nor_array.specs.Array.{ArrayState, chip_target, range}
use Rattle.nor_array.specs.Needs.{needs_of}
use Rattle.nor_array.proofs.Puts.{length-range, slice_index-range}
use Rattle.nor_array.specs.declared.needs.CallNeeds.{CallNeeds}
use Rattle.nor_array.specs.declared.entry.Halted.{Halted as HaltCause}
use Rattle.nor_array.specs.declared.entry.Halted.TheVariants.{Off}
use Rattle.nor_array.specs.declared.entry.Op.{Op}
use Rattle.nor_array.specs.declared.entry.Op.TheVariants.{Read}
use Rattle.nor_array.specs.declared.entry.Reply.{Reply}
use Rattle.nor_array.specs.declared.entry.Reply.TheVariants.{Done, Halted}
use Rattle.nor_bank.specs.Ranges.{IsBeside, CanRead, ReadsRange, words_met}
use Rattle.nor_bank.specs.Reads.{ReadsReady, LosesRead, ReadsBank}
use Rattle.nor_bank.specs.Refused.{Works}
use Rattle.nor_bank.specs.Stands.{Stands, EraseIs, is_under}
use Rattle.nor_bank.specs.State.{BankState, word_bytes, size_of, blocks_of}
use Rattle.nor_bank.specs.Way.{HasNeeds, IsReady, BeginsWork, halting, way_most}
use Rattle.nor_bank.specs.Whole.{IsCallOf}
use Rattle.nor_bank.specs.Work.{with_bus, words_in}
use Rattle.nor_bank.specs.declared.kept.Erasing.{Erasing}
use Rattle.nor_bank.proofs.Beginning.{LiesIn, lies_in, may_work, range_beside, some_range}
use Rattle.nor_bank.proofs.Blocks.{in_both}
use Rattle.nor_bank.proofs.ClosingSpans.{open_scaled, covered_whole}
use Rattle.nor_bank.proofs.Ending.{EndsWork, HaltsWork, ended_call, lost_call}
use Rattle.nor_bank.proofs.Halting.{holds_undone, leaves_undone}
use Rattle.nor_bank.proofs.Holding.{under_kept, holds_outside, stands_same}
use Rattle.nor_bank.proofs.HoldingLanes.{Serves, erasing_within}
use Rattle.nor_bank.proofs.Known.{known_own, known_parts, known_size, known_word}
use Rattle.nor_bank.proofs.PiecesFree.{inside_word}
use Rattle.nor_bank.proofs.Standing.{is_on_now, bytes_known}

-- ---- a call of a read

pub read_has : (at len : ℕ) (needs : CallNeeds) → needs ≡ needs_of (Read at len) → HasNeeds needs (Read at len)
read_has at len needs is = record { are = sym is; unpolled = λ same. cc; arms = λ cut mask same. cc; powers = λ same. cc }

-- ---- a chip that shows its array, as power goes

-- it keeps all but what is under a held erase
pub dark_shown : (s t : ChipState) → s.job ≡ Idle → Darkens s t → Remains s t × KeepsOutside s t × (t.suspends ≡ s.suspends)
dark_shown s t idle (inl same) =
    subst (λ (x : ChipState). Remains s x × KeepsOutside s x × (x.suspends ≡ s.suspends)) (sym same)
    (record { part = refl; size = refl; locks = refl; erases = refl }, λ p calm. refl, refl)
dark_shown s t idle (inr cuts) = (
  record {
    part = ap (λ (x : ChipState). x.part) cuts.rest;
    size = cuts.size;
    locks = ap (λ (x : ChipState). x.locks) cuts.rest;
    erases = ap (λ (x : ChipState). x.erases) cuts.rest;
  },
  λ p calm. cuts.kept p calm (ap (λ (j : Job). programs_at j p) idle),
  ap (λ (x : ChipState). x.suspends) cuts.rest,
)

-- ---- it can be read beside what is under erase

module _ (width caller at len : ℕ) (old mid : BankState) (a : ArrayState) (works : Works caller (Read at len) old) (stands : Stands old a) (now : Stands mid a)
    (running : mid.halted ≡ None) (found : mid.found ≡ old.found) (ready : IsReady false mid) (wide : word_bytes mid.found ≡ width) where
  inside : LiesIn (size_of old.found) at len
  inside = lies_in (size_of old.found) at len (may_work caller (Read at len) old works).there

  free_byte : (p : ℕ) → at ≤ p → p < at + len → is_under a.under a.consts p ≡ false
  free_byte p low high = range_beside caller (Read at len) old a at len p works stands refl refl low high

  -- the unit of a lane in a word of the range is not in a held block
  beside_by : (erase : Option Erasing) → mid.erase ≡ erase → EraseIs erase mid.found mid.bus → (u p c : ℕ) → c < lanes_of mid.bus
      → u * word_bytes mid.found ≤ p → p < u * word_bytes mid.found + word_bytes mid.found → at ≤ p → p < at + len → IsBeside u (lane mid.bus c)
  beside_by None is quiet u p c below low high begins ends =
      ap (λ (h : Held). holds_at h (lane mid.bus c).part.blocks (place (lane mid.bus c).part u)) (quiet c below).held
  beside_by (Some e) is under u p c below low high begins ends =
      let f = mid.found in
      let n = f.geometry.lanes in
      let d = unit_len f.geometry.device in
      let s = lane mid.bus c in
      let part = known_parts f mid.bus now.known c below in
      let span = part_of (chip_target e.target) s in
      let j = p - u * (n * d) in
      let here : u * (n * d) + j ≡ p = omega (arith, low) in
      let less : j < n * d = omega (arith, low, high) in
      let whole = covered_whole d (chip_target e.target) s.part.blocks part.whole in
      let free : is_within (covered (chip_target e.target) (blocks_of f)) p ≡ false = sym (under_kept mid a now e is p) ∙ free_byte p begins ends in
      let out : is_within span (place s.part u) ≡ false =
      ap (λ (x : Device). is_within span (unit_len x * u)) part.device
      ∙ (sym (inside_word n d u j span (some_bytes f.geometry.device) less whole)
      ∙ (ap (λ (q : ℕ). is_within (scaled_span n span) q) here
      ∙ (ap (λ (x : Span). is_within x p) (sym (open_scaled f s e.target part)) ∙ free))) in
      (none_pass (erases_at s.job s.part.blocks (place s.part u)) (holds_at s.held s.part.blocks (place s.part u))
      (erasing_within (state_at e.lanes c) (chip_target e.target) s (place s.part u) (under.each c below) out)).1

  pub can_read_ready : 0 < len → CanRead width mid.found.geometry.device mid.bus at len
  can_read_ready some =
      let f = mid.found in
      let all = known_size f mid.bus now.known in
      let fits = inside.within in
      let size : size_of mid.found ≡ size_of old.found = ap size_of found in
      let word = known_word f mid.bus now.known in
      subst (λ (w : ℕ). CanRead w f.geometry.device mid.bus at len) wide (record {
        bank = (known_own f mid.bus now.known).bank;
        chips = λ c below. record { shown = ready.shown c below; bytes = bytes_known f mid.bus now.known c below };
        beside = λ u meets c below.
            let w = word_bytes f in
            let first = meets.before_end in
            let last = meets.behind_start in
            let byte = in_both at len (u * w) (u * w + w) some (omega (arith, word)) first last in
            beside_by mid.erase refl (is_on_now mid a now running).erase u byte.place c below byte.behind byte.before byte.begins byte.ends;
        within = omega (arith, all, fits, size);
      })

  -- ---- what it makes of the bank

  pub read_ends : (new : BankState) (into : List ℕ) → 0 < len → length into ≡ len → ReadsReady width at mid new into → EndsWork caller (Read at len) old mid new Done into a
  read_ends new into some long reads =
      let f = mid.found in
      let words = words_met at (length into) width in
      let can = subst (λ (n : ℕ). CanRead width f.geometry.device mid.bus at n) (sym long) (can_read_ready some) in
      let read = reads.reads f.geometry.device can in
      let fits = inside.within in
      let size = stands.size in
      let same_size : size_of mid.found ≡ size_of old.found = ap size_of found in
      let room : at + len ≤ length a.bytes = omega (arith, fits, size) in
      let bytes : into ≡ range a.bytes at len = ext_get_or 0 into (range a.bytes at len) (long ∙ sym (length-range a.bytes at len room))
      (λ i less.
      let near : i < len = omega (arith, less, long) in
      read.bytes_are i less
      ∙ (sym (now.bytes (at + i) (omega (arith, near, fits, same_size)) (free_byte (at + i) (omega arith) (omega (arith, near))))
      ∙ sym (slice_index-range a.bytes at len i near))) in
      let same = λ (c : ℕ). (let e : lane new.bus c ≡ lane mid.bus c = ap (λ (ls : List ChipState). chip_at ls c) read.same in e) in
      let serves : EachLane Serves mid.bus new.bus = λ c below.
      subst (λ (t : ChipState). Serves (lane mid.bus c) t) (sym (same c)) (record { held = refl; suspends = refl; erases = refl; no_error = λ is. is; shown = ready.shown c below }) in
      record {
        ends = (refl, bytes);
        agrees = tt;
        serves = serves;
        stands = subst (λ (b : BankState). Stands b a) (sym reads.kept)
            (stands_same mid new.bus a words words now running ready.shown reads.went serves
            (λ c below. (ap (λ (t : ChipState). t.cells) (same c), ap (λ (t : ChipState). t.locks) (same c))));
      }

  -- power went
  pub read_halts : (new : BankState) → 0 < len → LosesRead width at len mid new → HaltsWork (Read at len) (Off mid.after) mid new a
  read_halts new some loses =
      let dark = loses.dark mid.found.geometry.device (can_read_ready some) in
      let found_new : new.found ≡ mid.found = ap (λ (b : BankState). b.found) loses.kept in
      let each = λ (c : ℕ) (below : c < lanes_of mid.bus). dark_shown (lane mid.bus c) (lane new.bus c) (ready.shown c below).job (dark c below) in
      let holds = holds_outside mid new a now running found_new loses.lost.kept (λ c below. (each c below).0) (λ c below. (each c below).1) in
      record {
        holds = holds_undone caller (Read at len) old new a works stands (found_new ∙ found) holds;
        leaves = leaves_undone caller (Read at len) old new a works stands (found_new ∙ found) holds (Off mid.after);
        erases = λ c below. (each c below).0.erases;
        suspends = λ c below. (each c below).2;
      }

-- ---- the call

read_fits : (b : BankState) (at len width : ℕ) (f : Found) → f ≡ b.found → word_bytes f ≡ width → 43 + words_met at len width ≤ 60 + words_in b at len
read_fits b at len width f same wide =
    let words : words_in b at len ≡ words_met at len width = ap (λ (x : Found). words_met at len (word_bytes x)) (sym same) ∙ ap (λ (w : ℕ). words_met at len w) wide in
    omega (arith, words)

some_bytes_of : (caller at len : ℕ) (b : BankState) → Works caller (Read at len) b → 0 < len
some_bytes_of caller at len b works = some_range len works.busy

module _ (width caller at len : ℕ) (old mid new : BankState) (into : List ℕ) (begins : BeginsWork false way_most caller (Read at len) old mid) (wide : word_bytes mid.found ≡ width)
    (long : length into ≡ len) where
  same_found : mid.found ≡ old.found
  same_found = ap (λ (b : BankState). b.found) begins.kept

  still_running : mid.halted ≡ None
  still_running = ap (λ (b : BankState). b.halted) begins.kept ∙ begins.running

  done_call : ReadsReady width at mid new into → IsCallOf caller (Read at len) old new Done into
  done_call reads =
      ended_call false way_most (words_met at (length into) width) caller (Read at len) old mid new Done into begins refl refl refl tt reads.kept reads.went
      (subst (λ (n : ℕ). 43 + words_met at n width ≤ 60 + words_in old at len) (sym long) (read_fits old at len width mid.found same_found wide))
      (λ a stands now ready.
      read_ends width caller at len old mid a begins.works stands now still_running same_found ready wide new into (some_bytes_of caller at len old begins.works) long reads)

  off_call : LosesRead width at (length into) mid new → IsCallOf caller (Read at len) old new (Halted (Off mid.after)) into
  off_call loses_at =
      let loses = subst (λ (n : ℕ). LosesRead width at n mid new) long loses_at in
      lost_call false way_most (words_met at len width) caller (Read at len) old mid (with_bus mid new.bus) new into begins refl refl refl loses.kept loses.lost
      (read_fits old at len width mid.found same_found wide)
      (λ a stands now ready.
      read_halts width caller at len old mid a begins.works stands now still_running same_found ready wide new (some_bytes_of caller at len old begins.works) loses)

  pub read_answer : (reply : Reply) → ReadsBank width at mid new into reply → IsCallOf caller (Read at len) old new reply into
  read_answer Done reads = done_call reads
  read_answer (Halted (Off n)) reads = subst (λ (m : ℕ). IsCallOf caller (Read at len) old new (Halted (Off m)) into) (sym reads.0) (off_call reads.1)
  read_answer reply reads = absurd reads

-- its range lies in the bank, and has bytes
pub read_some : (caller at len : ℕ) (old mid : BankState) → BeginsWork false way_most caller (Read at len) old mid → 0 < len
read_some caller at len old mid begins = some_bytes_of caller at len old begins.works

pub read_within : (caller at len : ℕ) (old mid : BankState) → BeginsWork false way_most caller (Read at len) old mid → at + len ≤ size_of mid.found
read_within caller at len old mid begins =
    subst (λ (f : Found). at + len ≤ size_of f) (sym (ap (λ (b : BankState). b.found) begins.kept))
    (lies_in (size_of old.found) at len (may_work caller (Read at len) old begins.works).there).within

pub read_running : (caller at len : ℕ) (old mid : BankState) → BeginsWork false way_most caller (Read at len) old mid → mid.halted ≡ None
read_running caller at len old mid begins = ap (λ (b : BankState). b.halted) begins.kept ∙ begins.running

-- ---- its cycles

-- such a reply isn't another
pub read_replies : (width at : ℕ) (mid new : BankState) (into : List ℕ) (reply : Reply) → ReadsBank width at mid new into reply
    → reply ≢ Done → ((cause : HaltCause) → reply ≢ Halted cause) → ⊥
read_replies width at mid new into Done reads undone unhalted = undone refl
read_replies width at mid new into (Halted (Off n)) reads undone unhalted = unhalted (Off n) refl
read_replies width at mid new into reply reads undone unhalted = reads

went_by : (width at : ℕ) (mid new : BankState) (into : List ℕ) (reply : Reply) → ReadsBank width at mid new into reply → reply ≡ Done
    → Went (words_met at (length into) width) (words_met at (length into) width) mid.bus new.bus
went_by width at mid new into Done reads done = reads.went
went_by width at mid new into (Halted cause) reads done = absurd (let both : Halted cause ≡ Done = done in cc)
went_by width at mid new into reply reads done = absurd reads

-- those of the words alone, where the way made none
pub read_exact : (width caller at len : ℕ) (old mid new : BankState) (into : List ℕ) (reply : Reply) → mid ≡ old → word_bytes mid.found ≡ width → length into ≡ len
    → ReadsBank width at mid new into reply → reply ≡ Done → Went (words_in old at len) (words_in old at len) old.bus new.bus
read_exact width caller at len old mid new into reply same wide long reads done =
    let went = went_by width at mid new into reply reads done in
    let words : words_met at (length into) width ≡ words_in old at len =
    ap (λ (n : ℕ). words_met at n width) long
    ∙ (ap (λ (w : ℕ). words_met at len w) (sym wide) ∙ ap (λ (b : BankState). words_met at len (word_bytes b.found)) same) in
    subst (λ (b : BankState). Went (words_in old at len) (words_in old at len) b.bus new.bus) same (subst (λ (n : ℕ). Went n n mid.bus new.bus) words went)

-- and those of the way, where it had to be cleared
pub read_done : (width caller at len : ℕ) (old mid new : BankState) (into : List ℕ) (reply : Reply) → BeginsWork false way_most caller (Read at len) old mid
    → word_bytes mid.found ≡ width → length into ≡ len → ReadsBank width at mid new into reply → reply ≡ Done
    → Went (words_in old at len) (60 + words_in old at len) old.bus new.bus
read_done width caller at len old mid new into reply begins wide long reads done =
    let went = went_by width at mid new into reply reads done in
    let m = begins.cycles in
    let few = begins.few in
    let n = words_in old at len in
    let words : words_met at (length into) width ≡ n =
    ap (λ (k : ℕ). words_met at k width) long
    ∙ (ap (λ (w : ℕ). words_met at len w) (sym wide) ∙ ap (λ (b : BankState). words_met at len (word_bytes b.found)) begins.kept) in
    went_then m m n n n (60 + n) old.bus mid.bus new.bus (omega arith) (omega (arith, few)) begins.went (subst (λ (k : ℕ). Went k k mid.bus new.bus) words went)

-- a read of no bytes makes none
pub read_nothing : (at len : ℕ) (old new : BankState) (most : ℕ) → len ≡ 0 → new ≡ old → words_in old at len ≤ most → Went (words_in old at len) most old.bus new.bus
read_nothing at len old new most none same le =
    subst (λ (b : BankState). Went (words_in old at len) most old.bus b.bus) (sym same)
    (went_then 0 0 0 0 (words_in old at len) most old.bus old.bus old.bus
    (let nothing : words_in old at len ≡ 0 = ap (λ (n : ℕ). words_in old at n) none in omega (arith, nothing)) (omega (arith, le)) (went_none old.bus) (went_none old.bus))

idle_len : (at len : ℕ) (needs : CallNeeds) → needs ≡ needs_of (Read at len) → needs.idle ≡ true → len ≡ 0
idle_len at len needs is idle = same_number len 0 (sym (ap (λ (n : CallNeeds). n.idle) is) ∙ idle)

-- as it comes to know it
pub read_idle : (at : ℕ) (into : List ℕ) (needs : CallNeeds) → needs ≡ needs_of (Read at (length into)) → needs.idle ≡ true → into ≡ []
read_idle at into needs is idle = no_items into (sym (ap (λ (n : CallNeeds). n.idle) is) ∙ idle)

pub idle_went : (at len : ℕ) (needs : CallNeeds) (old new : BankState) (result : Option Reply) (most : ℕ) → needs ≡ needs_of (Read at len)
    → (result ≡ Some Done → (op : Op) → HasNeeds needs op → (needs.idle ≡ true) × (new ≡ old)) → words_in old at len ≤ most
    → (reply : Reply) → result ≡ Some reply → reply ≡ Done → Went (words_in old at len) most old.bus new.bus
idle_went at len needs old new result most is told le reply some done =
    let both = told (some ∙ ap (λ (r : Reply). Some r) done) (Read at len) (read_has at len needs is) in
    read_nothing at len old new most (idle_len at len needs is both.0) both.1 le

-- ---- over the bus alone

pub reads_by : (width at : ℕ) (b : BankState) (bus : BusState) (before into : List ℕ) → length into ≡ length before
    → ((device : Device) → CanRead width device b.bus at (length before) → ReadsRange device b.bus bus at into)
    → Went (words_met at (length before) width) (words_met at (length before) width) b.bus bus → ReadsReady width at b (with_bus b bus) into
reads_by width at b bus before into long reads went = record {
  kept = refl;
  went = subst (λ (n : ℕ). Went (words_met at n width) (words_met at n width) b.bus bus) (sym long) went;
  reads = λ device can. reads device (subst (λ (n : ℕ). CanRead width device b.bus at n) long can);
}

pub loses_by : (width at : ℕ) (b : BankState) (bus : BusState) (before into : List ℕ) → length into ≡ length before
    → ((device : Device) → CanRead width device b.bus at (length before) → EachLane Darkens b.bus bus)
    → Lost (words_met at (length before) width) b.bus bus → ReadsBank width at b (halting (with_bus b bus) (Off b.after)) into (Halted (Off b.after))
loses_by width at b bus before into long dark lost = (
  refl,
  record {
    kept = refl;
    lost = subst (λ (n : ℕ). Lost (words_met at n width) b.bus bus) (sym long) lost;
    dark = λ device can. dark device (subst (λ (n : ℕ). CanRead width device b.bus at n) long can);
  },
)
