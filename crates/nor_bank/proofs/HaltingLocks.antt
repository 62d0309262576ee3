-- A call whose blocks must be unlocked, up to its work: the locks of its blocks are read.
use Rattle.std.proofs.Common.{◌≡◌, ◌<◌, ◌≤◌, ◌+◌, ◌-◌, ◌*◌, ◌/◌, ◌%◌, inl, inr, ℕ, zero, suc, List, [], ◌∷◌, length, refl, sym, ◌∙◌, ap, subst, arith, Bool, true, false, Option, Some, None}
use Rattle.std.specs.Prelude.{nat_lt, nat_le, if◌then◌else◌}
use Rattle.std.proofs.lemmas.Bool.{cases_lt}
use Rattle.std.proofs.lemmas.Nat.{div-add-mod'}
use Rattle.std.proofs.Math.Nat.{mod-lt, mul-pos, lt_of_mul-lt-mul_right}
use Rattle.nor_cell.specs.Bits.{unit_len}
use Rattle.nor_cell.specs.Between.{IsShown}
use Rattle.nor_cell.specs.Chip.{ChipState, block, block_at, is_within, span_end}
use Rattle.nor_cell.specs.Ranges.{follow_to}
use Rattle.nor_cell.specs.Wiring.{is_wiring}
use Rattle.nor_cell.specs.declared.device.Device.{Device}
use Rattle.nor_cell.specs.declared.device.Span.{Span}
use Rattle.nor_cell.proofs.Logic.{both_pass, is_below, is_at_most, some_bytes}
use Rattle.nor_region.proofs.Following.{found as block_there, within as block_holds}
use Rattle.nor_query.specs.Derived.{locks_of, suspend_of}
use Rattle.nor_bus.specs.Bus.{lane, chip_at}
use Rattle.nor_bus.specs.Driven.{EachLane, Went}
use Rattle.nor_bus.proofs.Driving.{went_none, went_then}
use Rattle.nor_poll.specs.UnderErase.{erase_left}
use Rattle.nor_probe.specs.declared.probing.Found.{Found}
use Rattle.nor_probe.proofs.TablesRead.{first_lane}
use Rattle.nor_array.specs.Array.{ArrayState}
use Rattle.nor_array.specs.Admits.{lowest_locked, first_locked, EndsUnlocked}
use Rattle.nor_array.specs.Needs.{needs_of}
use Rattle.nor_array.specs.declared.needs.CallNeeds.{CallNeeds}
use Rattle.nor_array.specs.declared.needs.Reach.{Reach}
use Rattle.nor_array.specs.declared.entry.Halted.TheVariants.{Off}
use Rattle.nor_array.specs.declared.entry.Op.{Op}
use Rattle.nor_array.specs.declared.entry.Op.TheVariants.{Read, Program, EraseOpen, EraseAll, Poll, Lock, Unlock, IsLocked, Arm, PowerOn}
use Rattle.nor_array.specs.declared.entry.Reply.{Reply}
use Rattle.nor_array.specs.declared.entry.Reply.TheVariants.{Locked}
use Rattle.nor_bank.specs.Counts.{is_open, GoesOn, LeftFalls, can_beside, call_most, program_limit}
use Rattle.nor_bank.specs.Locks.{HasReadLock, ShowsArray, ReadsLocks, LosesLocks, blocks_met, locks_most}
use Rattle.nor_bank.specs.Ranges.{words_met}
use Rattle.nor_bank.specs.Refused.{outline}
use Rattle.nor_bank.specs.Stands.{Stands}
use Rattle.nor_bank.specs.State.{BankState, HasLongBlocks, word_bytes, size_of, blocks_of}
use Rattle.nor_bank.specs.Way.{HasNeeds, IsReady, LetsProgram, PassesBy, BeginsWork, BeginsChange, way_most, blocks_touched, lock_most, change_most}
use Rattle.nor_bank.specs.Whole.{IsCallOf}
use Rattle.nor_bank.specs.Work.{with_bus, words_in, reach_refusal}
use Rattle.nor_bank.specs.declared.kept.Erasing.{Erasing}
use Rattle.nor_bank.proofs.Beginning.{lies_in, may_work}
use Rattle.nor_bank.proofs.Ending.{ended_call, lost_call, answers_locked}
use Rattle.nor_bank.proofs.Halting.{holds_undone, leaves_undone, needs_unpolled}
use Rattle.nor_bank.proofs.HoldingLanes.{Serves}
use Rattle.nor_bank.proofs.Known.{blocks_follow}
use Rattle.nor_bank.proofs.LocksSearching.{touches_by_blocks}
use Rattle.nor_bank.proofs.Meeting.{ends_before}

-- ---- how many blocks a range meets

-- so many long blocks lie between two that aren't neighbours
blocks_apart : (blocks : List Span) (end long i gap : ℕ) → follow_to end 0 blocks ≡ true → ((k : ℕ) → k < length blocks → long ≤ (block blocks k).len)
    → i + 1 + gap < length blocks → span_end (block blocks i) + gap * long ≤ (block blocks (i + 1 + gap)).from
blocks_apart blocks end long i zero follow each there =
    let next = ends_before blocks end 0 i (i + 1 + 0) follow (omega arith) there in
    omega (arith, next)
blocks_apart blocks end long i (suc gap) follow each there =
    let k : ℕ = i + 1 + gap in
    let before = blocks_apart blocks end long i gap follow each (omega (arith, there)) in
    let next = ends_before blocks end 0 k (i + 1 + suc gap) follow (omega arith) there in
    let least = each k (omega (arith, there)) in
    let more : suc gap * long ≡ gap * long + long = omega arith in
    omega (arith, before, next, least, more)

-- a range of as many words meets so many more
words_apart : (at n w gap : ℕ) → 0 < w → gap * (16 * w) ≤ n → 16 * gap ≤ (at + n) / w - at / w
words_apart at n w gap some wide =
    let first = div-add-mod' at w in
    let last = div-add-mod' (at + n) w in
    let rest : (at + n) % w < w = mod-lt (at + n) some in
    let less : (at / w + 16 * gap) * w < ((at + n) / w + 1) * w = omega (arith, first, last, rest, wide) in
    let words : at / w + 16 * gap < (at + n) / w + 1 = lt_of_mul-lt-mul_right w less in
    omega (arith, words)

quotient : (x k : ℕ) → 16 * k ≤ x → k ≤ x / 16
quotient x k le = omega (arith, le)

few_apart : (blocks : List Span) (end w at n : ℕ) → follow_to end 0 blocks ≡ true → 0 < w → ((k : ℕ) → k < length blocks → 16 * w ≤ (block blocks k).len)
    → at + n < end → (i j : ℕ) → i < length blocks → j < length blocks → is_within (block blocks i) at ≡ true → is_within (block blocks j) (at + n) ≡ true
    → j + 1 - i ≤ ((at + n) / w + 1 - at / w) / 16 + 2
few_apart blocks end w at n follow some each fits i j there_i there_j in_i in_j = elim (cases_lt (i + 1) j) [
  | inl far ↦
      let gap : ℕ = j - i - 1 in
      let whole : i + 1 + gap ≡ j = omega (arith, far) in
      let room : i + 1 + gap < length blocks = omega (arith, whole, there_j) in
      let apart = blocks_apart blocks end (16 * w) i gap follow each room in
      let low = is_below at (span_end (block blocks i)) (both_pass _ (nat_lt at (span_end (block blocks i))) in_i).1 in
      let high : (block blocks j).from ≤ at + n = is_at_most (block blocks j).from (at + n) (both_pass (nat_le (block blocks j).from (at + n)) _ in_j).0 in
      let from : (block blocks (i + 1 + gap)).from ≤ at + n = subst (λ (k : ℕ). (block blocks k).from ≤ at + n) (sym whole) high in
      let wide : gap * (16 * w) ≤ n = omega (arith, apart, low, from) in
      let words = words_apart at n w gap some wide in
      let parts : gap ≤ ((at + n) / w + 1 - at / w) / 16 = quotient ((at + n) / w + 1 - at / w) gap (omega (arith, words)) in
      omega (arith, parts, whole)
  | inr near ↦ omega (arith, near)
]

few_blocks : (f : Found) → HasLongBlocks f → 0 < word_bytes f → (at n : ℕ) → at + n < size_of f
    → block_at (blocks_of f) (at + n) + 1 - block_at (blocks_of f) at ≤ words_met at (suc n) (word_bytes f) / 16 + 2
few_blocks f long some at n fits =
    let follow = blocks_follow f in
    let first : at < size_of f = omega (arith, fits) in
    few_apart (blocks_of f) (size_of f) (word_bytes f) at n follow some long fits (block_at (blocks_of f) at) (block_at (blocks_of f) (at + n))
    (block_there (blocks_of f) (size_of f) 0 at follow first (omega arith)) (block_there (blocks_of f) (size_of f) 0 (at + n) follow fits (omega arith))
    (block_holds (blocks_of f) (size_of f) 0 at follow first (omega arith)) (block_holds (blocks_of f) (size_of f) 0 (at + n) follow fits (omega arith))

-- a bus word has a byte
pub some_width : (width lanes : ℕ) (device : Device) → is_wiring width lanes device ≡ true → 0 < lanes * unit_len device
some_width width lanes device wiring = mul-pos (first_lane width lanes (unit_len device) wiring) (some_bytes device)

met_few : (b : BankState) → HasLongBlocks b.found → 0 < word_bytes b.found → (op : Op) → (needs_of op).unlocked ≡ true → reach_refusal b.found (needs_of op).reach ≡ None
    → blocks_met b.found (needs_of op).reach ≤ blocks_touched b op
met_few b long some (Program at []) unlocked there = omega arith
met_few b long some (Program at (x ∷ new)) unlocked there =
    let inside = lies_in (size_of b.found) at (suc (length new)) there in
    let fits = inside.within in
    few_blocks b.found long some at (length new) (omega (arith, fits))
met_few b long some (EraseOpen k) unlocked there = omega arith
met_few b long some EraseAll unlocked there = omega arith
met_few b long some (Read at len) unlocked there = absurd (cc)
met_few b long some Poll unlocked there = absurd (cc)
met_few b long some (Lock k) unlocked there = absurd (cc)
met_few b long some (Unlock k) unlocked there = absurd (cc)
met_few b long some (IsLocked k) unlocked there = absurd (cc)
met_few b long some (Arm cut mask) unlocked there = absurd (cc)
met_few b long some PowerOn unlocked there = absurd (cc)

if_within : (p : Bool) (x y : ℕ) → x ≤ y → (if p then 6 * x else 0) ≤ (if p then 6 * y else 0)
if_within true x y le = omega (arith, le)
if_within false x y le = omega arith

-- The locks of its blocks are few.
pub locks_within : (b : BankState) → HasLongBlocks b.found → 0 < word_bytes b.found → (op : Op) → (needs_of op).unlocked ≡ true
    → reach_refusal b.found (needs_of op).reach ≡ None → locks_most b.found (needs_of op).reach ≤ lock_most b op
locks_within b long some op unlocked there =
    if_within (locks_of b.found.query.extended) (blocks_met b.found (needs_of op).reach) (blocks_touched b op) (met_few b long some op unlocked there)

-- with the way they fit into the call
pub if_most : (p : Bool) (x : ℕ) → (if p then x else 0) ≤ x
if_most true x = omega arith
if_most false x = omega arith

program_fits : (words limit : ℕ) → 43 + 6 * (words / 16 + 2) ≤ 80 + words * (10 + 2 * limit)
program_fits words limit =
    let all : words * (10 + 2 * limit) ≡ 10 * words + words * (2 * limit) = omega arith in
    omega (arith, all)

pub lock_fits : (b : BankState) (op : Op) → (needs_of op).unlocked ≡ true → 43 + lock_most b op ≤ call_most op b
lock_fits b (Program at new) unlocked =
    let most = if_most (locks_of b.found.query.extended) (6 * (words_in b at (length new) / 16 + 2)) in
    let fits = program_fits (words_in b at (length new)) (program_limit b) in
    omega (arith, most, fits)
lock_fits b (EraseOpen k) unlocked = let most = if_most (locks_of b.found.query.extended) (6 * 1) in omega (arith, most)
lock_fits b EraseAll unlocked = let most = if_most (locks_of b.found.query.extended) (6 * length (blocks_of b.found)) in omega (arith, most)
lock_fits b (Read at len) unlocked = absurd (cc)
lock_fits b Poll unlocked = absurd (cc)
lock_fits b (Lock k) unlocked = absurd (cc)
lock_fits b (Unlock k) unlocked = absurd (cc)
lock_fits b (IsLocked k) unlocked = absurd (cc)
lock_fits b (Arm cut mask) unlocked = absurd (cc)
lock_fits b PowerOn unlocked = absurd (cc)

-- ---- reads of locks behind the way

shows_mid : (mid : BankState) (a : ArrayState) (programs : Bool) → mid.halted ≡ None → Stands mid a → IsReady programs mid → ShowsArray mid a
shows_mid mid a programs running stands ready = record { running = running; stands = stands; shown = ready.shown }

module _ (caller : ℕ) (op : Op) (old mid new : BankState) (begins : BeginsWork true way_most caller op old mid) (most : ℕ) (reads : ReadsLocks most mid new) where
  running_mid : mid.halted ≡ None
  running_mid = ap (λ (b : BankState). b.halted) begins.kept ∙ begins.running

  same_lane : (a : ArrayState) → ShowsArray mid a → (c : ℕ) → lane new.bus c ≡ lane mid.bus c
  same_lane a shows c = ap (λ (ls : List ChipState). chip_at ls c) (reads.same a shows)

  ready_new : (a : ArrayState) → ShowsArray mid a → IsReady true mid → IsReady true new
  ready_new a shows ready = record {
    shown = subst (λ (ls : List ChipState). (c : ℕ) → c < length ls → IsShown (chip_at ls c)) (sym (reads.same a shows)) ready.shown;
    lets = subst (λ (ls : List ChipState). (c : ℕ) → c < length ls → LetsProgram true (chip_at ls c)) (sym (reads.same a shows)) ready.lets;
  }

  -- with so many cycles on the way
  begins_on : (first n : ℕ) → Went first first old.bus mid.bus
      → ((a : ArrayState) → Stands old a → EachLane (LeftFalls first) old.bus mid.bus)
      → first + reads.cycles ≤ n → BeginsWork true n caller op old new
  begins_on first n way left few = record {
    works = begins.works;
    running = begins.running;
    kept = reads.kept ∙ ap (λ (b : BankState). with_bus b new.bus) begins.kept ∙ ap (λ (e : Option Erasing). record old { bus = new.bus; erase = e }) (sym (ap (λ (b : BankState). b.erase) reads.kept));
    goes_on = subst (λ (e : Option Erasing). GoesOn 0 old.erase e) (sym (ap (λ (b : BankState). b.erase) reads.kept)) begins.goes_on;
    cycles = first + reads.cycles;
    few = few;
    went = went_then first first reads.cycles reads.cycles (first + reads.cycles) (first + reads.cycles) old.bus mid.bus new.bus (omega arith) (omega arith) way reads.went;
    stands = λ a stands.
        let on = begins.stands a stands in
        let shows = shows_mid mid a true running_mid on.stands (on.ready refl) in
        record {
          stands = (reads.shows a shows).stands;
          ready = λ clear. ready_new a shows (on.ready refl);
          waits = λ clear. absurd (let both : true ≡ false = clear in cc);
          each = λ c below.
              let now = sym (same_lane a shows c) in
              subst (λ (t : ChipState). PassesBy (can_beside (suspend_of old.found.query.extended) true) (first + reads.cycles) (lane old.bus c) t) now
              (record {
                remains = (on.each c below).remains;
                suspends = (on.each c below).suspends;
                left = let falls = left a stands c below in let few = falls.1 in (falls.0, omega (arith, few));
              });
        };
  }

  began : (erase : Option Erasing) → old.erase ≡ erase → (old.erase ≡ None → mid ≡ old) → most ≤ lock_most old op → BeginsWork true (change_most old op) caller op old new
  began None is closed within =
      let same = closed is in
      let less = reads.few in
      let none : (if is_open old.erase then way_most else 0) ≡ 0 = ap (λ (e : Option Erasing). if is_open e then way_most else 0) is in
      begins_on 0 (change_most old op) (subst (λ (b : BankState). Went 0 0 old.bus b.bus) (sym same) (went_none old.bus))
      (λ a stands c below. let e : erase_left (lane mid.bus c) ≡ erase_left (lane old.bus c) = ap (λ (b : BankState). erase_left (lane b.bus c)) same in (omega (arith, e), omega (arith, e)))
      (omega (arith, less, within, none))
  began (Some e) is closed within =
      let less = reads.few in
      let way = begins.few in
      let whole : (if is_open old.erase then way_most else 0) ≡ way_most = ap (λ (x : Option Erasing). if is_open x then way_most else 0) is in
      begins_on begins.cycles (change_most old op) begins.went (λ a stands c below. ((begins.stands a stands).each c below).left)
      (omega (arith, less, within, way, whole))

-- what is touched is there still
pub still_there : (mid new : BankState) (reach : Reach) → reach_refusal mid.found reach ≡ None → new ≡ with_bus mid new.bus → reach_refusal new.found reach ≡ None
still_there mid new reach there kept = ap (λ (b : BankState). reach_refusal b.found reach) kept ∙ there

-- ---- as the call comes to know it

reach_of : (op : Op) (needs : CallNeeds) → HasNeeds needs op → (needs_of op).reach ≡ needs.reach
reach_of op needs has = ap (λ (n : CallNeeds). n.reach) has.are

first_of : (op : Op) (needs : CallNeeds) (a : ArrayState) (lowest : Option ℕ) → HasNeeds needs op → needs.unlocked ≡ true → lowest ≡ lowest_locked a needs.reach → first_locked a op ≡ lowest
first_of op needs a lowest has unlocked is =
    ap (λ (n : CallNeeds). if n.unlocked then lowest_locked a n.reach else None) has.are
    ∙ (ap (λ (u : Bool). if u then lowest_locked a needs.reach else None) unlocked ∙ sym is)

module _ (needs : CallNeeds) (caller : ℕ) (op : Op) (old mid new : BankState) (has : HasNeeds needs op) (unlocked : needs.unlocked ≡ true) (long : HasLongBlocks old.found)
    (some : 0 < word_bytes old.found) (begins : BeginsWork true way_most caller op old mid) where
  its_unlocked : (needs_of op).unlocked ≡ true
  its_unlocked = ap (λ (n : CallNeeds). n.unlocked) has.are ∙ unlocked

  found_mid : mid.found ≡ old.found
  found_mid = ap (λ (b : BankState). b.found) begins.kept

  mid_running : mid.halted ≡ None
  mid_running = ap (λ (b : BankState). b.halted) begins.kept ∙ begins.running

  within : locks_most mid.found needs.reach ≤ lock_most old op
  within =
      subst (λ (f : Found). locks_most f needs.reach ≤ lock_most old op) (sym found_mid)
      (subst (λ (r : Reach). locks_most old.found r ≤ lock_most old op) (reach_of op needs has)
      (locks_within old long some op its_unlocked (may_work caller op old begins.works).there))

  its_lock : (k : ℕ) → HasReadLock mid needs.reach k → HasReadLock old (needs_of op).reach k
  its_lock k found =
      subst (λ (r : Reach). HasReadLock old r k) (sym (reach_of op needs has))
      (record {
        offers = ap (λ (f : Found). locks_of f.query.extended) (sym found_mid) ∙ found.offers;
        there = subst (λ (f : Found). k < length (blocks_of f)) found_mid found.there;
        touched = touches_by_blocks (outline old) (outline mid) needs.reach k (ap blocks_of (sym found_mid)) ∙ found.touched;
      })

  -- no block is locked
  pub begins_change : (old.erase ≡ None → mid ≡ old) → ReadsLocks (locks_most mid.found needs.reach) mid new
      → ((a : ArrayState) → ShowsArray mid a → None ≡ lowest_locked a needs.reach) → BeginsChange (change_most old op) caller op old new
  begins_change closed reads lowest = record {
    begins = began caller op old mid new begins (locks_most mid.found needs.reach) reads old.erase refl closed within;
    unlocked = λ a stands.
        let on = begins.stands a stands in
        first_of op needs a None has unlocked (lowest a (shows_mid mid a true mid_running on.stands (on.ready refl)));
  }

  -- one is
  pub locked_answer : (k : ℕ) (given : List ℕ) → ReadsLocks (locks_most mid.found needs.reach) mid new
      → ((a : ArrayState) → ShowsArray mid a → Some k ≡ lowest_locked a needs.reach) → HasReadLock mid needs.reach k → IsCallOf caller op old new (Locked k) given
  locked_answer k given reads lowest found =
      let less = reads.few in
      let fits = lock_fits old op its_unlocked in
      let most = within in
      ended_call true way_most reads.cycles caller op old mid new (Locked k) given begins its_unlocked (needs_unpolled op needs has) refl (answers_locked op old k its_unlocked (its_lock k found)) reads.kept reads.went
      (omega (arith, less, most, fits))
      (λ a stands now ready.
      let shows = shows_mid mid a true mid_running now ready in
      record {
        ends = subst (λ (first : Option ℕ). EndsUnlocked first op a (Locked k) []) (sym (first_of op needs a (Some k) has unlocked (lowest a shows))) (refl, refl);
        agrees = tt;
        serves = λ c below.
            subst (λ (t : ChipState). Serves (lane mid.bus c) t) (sym (ap (λ (ls : List ChipState). chip_at ls c) (reads.same a shows)))
            (record { held = refl; suspends = refl; erases = refl; no_error = λ is. is; shown = ready.shown c below });
        stands = (reads.shows a shows).stands;
      })

  -- power went
  pub locks_lost_answer : (reply : Reply) (given : List ℕ) → LosesLocks (locks_most mid.found needs.reach) mid new reply → IsCallOf caller op old new reply given
  locks_lost_answer reply given loses =
      let fits = lock_fits old op its_unlocked in
      let most = within in
      subst (λ (r : Reply). IsCallOf caller op old new r given) (sym loses.answer)
      (lost_call true way_most (locks_most mid.found needs.reach) caller op old mid (with_bus mid new.bus) new given begins its_unlocked (needs_unpolled op needs has) refl
      loses.kept loses.lost (omega (arith, most, fits))
      (λ a stands now ready.
      let shows = shows_mid mid a true mid_running now ready in
      let holds = loses.holds a shows in
      let found_new : new.found ≡ old.found = ap (λ (b : BankState). b.found) loses.kept ∙ found_mid in
      record {
        holds = holds_undone caller op old new a begins.works stands found_new holds;
        leaves = leaves_undone caller op old new a begins.works stands found_new holds (Off mid.after);
        erases = λ c below. (loses.unmoved a shows c below).remains.erases;
        suspends = λ c below. (loses.unmoved a shows c below).suspends;
      }))
