-- A program of a bank, from what became of its range to the record of the call.
use Rattle.std.proofs.Common.{◌≡◌, ◌<◌, ◌≤◌, ◌+◌, ◌*◌, ◌/◌, ◌⊎◌, inl, inr, ℕ, zero, suc, List, [], length, map, max, min, refl, sym, ap, subst, ◌∙◌, arith, Bool, true, false, Option, Some, None, if◌then◌else◌}
use Rattle.nor_cell.specs.Chip.{ChipState}
use Rattle.nor_cell.specs.declared.device.Set.{Set}
use Rattle.nor_cell.specs.declared.device.Set.TheVariants.{Intel, Amd}
use Rattle.nor_cell.proofs.Logic.{same_number}
use Rattle.nor_probe.specs.declared.probing.Found.{Found}
use Rattle.nor_query.specs.Derived.{locks_of}
use Rattle.nor_bus.specs.Bus.{BusState}
use Rattle.nor_bus.specs.Driven.{Counted}
use Rattle.nor_bus.proofs.Counting.{counted_then}
use Rattle.nor_bus.proofs.Driving.{went_none, went_then}
use Rattle.nor_poll.specs.Word.{word_most}
use Rattle.nor_poll.specs.declared.lanes.LaneSet.{LaneSet}
use Rattle.nor_poll.specs.declared.lanes.Halt.{Halt}
use Rattle.nor_poll.specs.declared.lanes.Halt.TheVariants.{Off, Stuck}
use Rattle.nor_array.specs.Array.{ArrayState}
use Rattle.nor_array.specs.Admits.{would_change}
use Rattle.nor_array.specs.Needs.{needs_of}
use Rattle.nor_array.specs.declared.needs.CallNeeds.{CallNeeds}
use Rattle.nor_array.specs.declared.entry.Halted.{Halted as HaltCause}
use Rattle.nor_array.specs.declared.entry.Halted.TheVariants.{Off as LostPower, Stuck as StuckLane}
use Rattle.nor_array.specs.declared.entry.Op.{Op}
use Rattle.nor_array.specs.declared.entry.Op.TheVariants.{Program}
use Rattle.nor_array.specs.declared.entry.Reply.{Reply}
use Rattle.nor_array.specs.declared.entry.Reply.TheVariants.{Done, Failed, Halted}
use Rattle.nor_bank.specs.Counts.{ReadsStuck, call_most, is_open, program_limit}
use Rattle.nor_bank.specs.Pieces.{AnswersRange, ProgramsBank, ProgramsRange, word_cost_in}
use Rattle.nor_bank.specs.Programs.{AreSome, GivesUp, MeetsPiece, ProgramsTo, RangeBecomes, begin_of, changes_of, end_of, goes_on}
use Rattle.nor_bank.specs.Ranges.{words_met}
use Rattle.nor_bank.specs.Runs.{FailsInRun, IsRun, WordChanges, least_limit, most_limit}
use Rattle.nor_bank.specs.Stands.{Stands}
use Rattle.nor_bank.specs.State.{BankState, IsBankOf, IsDark, size_of, word_bytes}
use Rattle.nor_bank.specs.Way.{BeginsChange, HasNeeds, IsReady, cause_of, change_most, halting}
use Rattle.nor_bank.specs.Whole.{IsCallOf}
use Rattle.nor_bank.specs.Work.{with_bus, words_changed, words_in}
use Rattle.nor_bank.specs.declared.kept.Erasing.{Erasing}
use Rattle.nor_bank.specs.declared.programming.Piece.{Piece}
use Rattle.nor_bank.specs.declared.programming.Outcome.{Outcome}
use Rattle.nor_bank.specs.declared.programming.Outcome.TheVariants.{Skipped, Stored, BrokeOff, GivenUp}
use Rattle.nor_bank.proofs.Beginning.{lies_in, may_work, range_beside, some_range}
use Rattle.nor_bank.proofs.Changing.{passes_same, passing_same}
use Rattle.nor_bank.proofs.Ending.{ended_call, lost_call, stuck_call}
use Rattle.nor_bank.proofs.Failing.{program_failed}
use Rattle.nor_bank.proofs.Halting.{more_least}
use Rattle.nor_bank.proofs.PiecesFree.{Ready, can_program_all, ready_byte}
use Rattle.nor_bank.proofs.Programmed.{program_done, program_halted, program_sticks}
use Rattle.nor_bank.proofs.WeakSpans.{changes_alike}
use Rattle.nor_bank.proofs.WordByWord.{counted_so}

-- ---- the bank between its calls

-- a bank whose bus was given up keeps the halt
pub halted_bank : (w : ℕ) (f : Found) (was halted : Option HaltCause) (kept erase : Option Erasing) (after lanes least most : ℕ) (halt : Halt) (old now : BusState) → IsBankOf w old f was kept
    → GivesUp lanes least most halt old now → halted ≡ Some (cause_of after halt) → erase ≡ None → IsBankOf w now f halted erase
halted_bank w f was halted kept erase after lanes least most halt old now bank gives is none = record {
  wiring = bank.wiring;
  dark = subst (λ (h : Option HaltCause). IsDark h now) (sym is) (dark_by halt gives);
  kept = λ e same. absurd (let both : None ≡ Some e = sym none ∙ same in cc);
  given_up = λ cause same. none;
  long = bank.long;
}
  where
    dark_by : (halt : Halt) → GivesUp lanes least most halt old now → IsDark (Some (cause_of after halt)) now
    dark_by Off lost = lost.power
    dark_by (Stuck k) stuck = tt

-- one whose work went on has power
pub running_bank : (w : ℕ) (f : Found) (halted : Option HaltCause) (erase : Option Erasing) (most : ℕ) (old now : BusState) → IsBankOf w old f halted erase → halted ≡ None → Counted 1 most old now
    → IsBankOf w now f halted erase
running_bank w f halted erase most old now bank none counted =
    let enough = counted.enough in
    record {
      wiring = bank.wiring;
      dark = subst (λ (h : Option HaltCause). IsDark h now) (sym none) (counted.went.on (omega (arith, enough)));
      kept = bank.kept;
      given_up = bank.given_up;
      long = bank.long;
    }

-- ---- cycles

-- up to the work
way_few : (opened offered : Bool) (words : ℕ) → (if opened then 43 else 0) + (if offered then 6 * (words / 16 + 2) else 0) ≤ 55 + 6 * (words / 16)
way_few true true words = omega arith
way_few true false words = omega arith
way_few false true words = omega arith
way_few false false words = omega arith

-- a program asks for no more than a call may
cycles_fit : (kind : Set) (way words limit n : ℕ) → way ≤ 55 + 6 * (words / 16) → n ≤ words * (word_most kind limit + 1) → way + n ≤ 80 + words * (10 + 2 * limit)
cycles_fit Intel way words limit n less few =
    let all : words * (limit + 5 + 1) ≡ words * limit + words * 6 = omega arith in
    let most : words * (10 + 2 * limit) ≡ words * 10 + (words * limit + words * limit) = omega arith in
    omega (arith, less, few, all, most)
cycles_fit Amd way words limit n less few =
    let all : words * (2 * limit + 6 + 1) ≡ words * limit + words * limit + words * 7 = omega arith in
    let most : words * (10 + 2 * limit) ≡ words * 10 + (words * limit + words * limit) = omega arith in
    omega (arith, less, few, all, most)

pub call_fits : (b : BankState) (at n : ℕ) (new : List ℕ) → n ≤ words_in b at (length new) * (word_cost_in b.found + 1) → change_most b (Program at new) + n ≤ call_most (Program at new) b
call_fits b at n new few =
    cycles_fit b.found.query.set (change_most b (Program at new)) (words_in b at (length new)) (most_limit b.found) n
    (way_few (is_open b.erase) (locks_of b.found.query.extended) (words_in b at (length new))) few

-- ---- the call's needs

pub program_needs : (at len : ℕ) (new : List ℕ) (needs : CallNeeds) → ((xs : List ℕ) → length xs ≡ len → needs ≡ needs_of (Program at xs)) → length new ≡ len → HasNeeds needs (Program at new)
program_needs at len new needs are size = record { are = sym (are new size); unpolled = λ is. cc; arms = λ cut mask is. cc; powers = λ is. cc }

-- what is known of the bank up to its work
pub record Begun (at : ℕ) (from : List ℕ) (mid : BankState) : Type 0 where
  pub running : mid.halted ≡ None
  pub some : 0 < length from
  pub within : at + length from ≤ size_of mid.found

pub begun : (most caller at : ℕ) (from : List ℕ) (old mid : BankState) → BeginsChange most caller (Program at from) old mid → Begun at from mid
begun most caller at from old mid begins =
    let work = begins.begins in
    let lies = lies_in (size_of old.found) at (length from) (may_work caller (Program at from) old work.works).there in
    record {
      running = ap (λ (b : BankState). b.halted) work.kept ∙ work.running;
      some = some_range (length from) work.works.busy;
      within = subst (λ (f : Found). at + length from ≤ size_of f) (sym (ap (λ (b : BankState). b.found) work.kept)) lies.within;
    }

-- ---- the ways out

stored_to : (w : ℕ) (f : Found) (at : ℕ) (from : List ℕ) (o : Outcome) (old now : BusState) → goes_on o ≡ true → RangeBecomes w f.geometry at from o old now
    → ProgramsTo f.geometry at from (at + length from) old now
stored_to w f at from Skipped old now goes is = is
stored_to w f at from Stored old now goes is = is
stored_to w f at from (BrokeOff piece lanes) old now goes is = absurd (cc)
stored_to w f at from (GivenUp halt) old now goes is = absurd (cc)

-- what is said of a reply and of the bank after it
as_told : {caller : ℕ} {op : Op} {old new there : BankState} {reply answer : Reply} → reply ≡ answer → new ≡ there → IsCallOf caller op old there answer [] → IsCallOf caller op old new reply []
as_told {caller} {op} {old} {new} {there} {reply} {answer} answers same call =
    subst (λ (r : Reply). IsCallOf caller op old new r []) (sym answers) (subst (λ (b : BankState). IsCallOf caller op old b answer []) (sym same) call)

on_bus : {least most : ℕ} {old : BusState} {new there : BankState} → new ≡ there → Counted least most old there.bus → Counted least most old new.bus
on_bus {least} {most} {old} {new} {there} same counted = subst (λ (b : BankState). Counted least most old b.bus) (sym same) counted

failed_parts : (from to lanes begin end broken : ℕ) → Failed from to lanes ≡ Failed begin end broken → (begin ≡ from) × (end ≡ to)
failed_parts from to lanes begin end broken is = (cc, cc)

-- The part of a range that lies in a piece which it meets; some lanes broke off there.
less_end : (at first words w : ℕ) → 0 < words → at < (first + words) * w → first * w < (first + words) * w
less_end at first words zero some behind = absurd (let none : (first + words) * 0 ≡ 0 = omega arith in omega (arith, none, behind))
less_end at first words (suc v) some behind =
    let split : (first + words) * suc v ≡ first * suc v + words * v + words = omega arith in
    omega (arith, split, some)

may_fail : (w at count lanes : ℕ) (from : List ℕ) (piece : Piece) → 0 < length from → MeetsPiece w piece at (length from) → AreSome count lanes
    → (at ≤ max at (begin_of w piece)) × (max at (begin_of w piece) < min (at + length from) (end_of w piece)) × (min (at + length from) (end_of w piece) ≤ at + length from) × AreSome count lanes
may_fail w at count lanes from piece more meets some =
    let before = meets.before_end in
    let behind = meets.behind_start in
    let wide = less_end at piece.first piece.words w meets.some behind in
    (grind arith, grind (arith, before, behind, more, wide), grind arith, some)

-- a run of what would change is one of what would change as much
run_alike : (w : ℕ) (f : Found) (test other : ℕ → Bool) (at len first words : ℕ) → ((p : ℕ) → test p ≡ other p) → IsRun w f test at len first words → IsRun w f other at len first words
run_alike w f test other at len first words same run =
    let passes = λ (u : ℕ). passes_same w test other u (λ p low high. same p) in
    let back : (u : ℕ) → WordChanges w other at len u → WordChanges w test at len u = λ u is. record { meets = is.meets; changes = passes u ∙ is.changes } in
    record {
      some = run.some;
      each = λ u low high. record { meets = (run.each u low high).meets; changes = sym (passes u) ∙ (run.each u low high).changes };
      together = run.together;
      before = λ u next is. run.before u next (back u is);
      behind = λ is. run.behind (back (first + words) is);
    }

module _ (caller at : ℕ) (from : List ℕ) (old : BankState) (x : BusState) (e : Option Erasing)
    (begins : BeginsChange (change_most old (Program at from)) caller (Program at from) old (record old { bus = x; erase = e })) where
  abbrev op : Op
  op = Program at from

  abbrev mid : BankState
  mid = record old { bus = x; erase = e }

  abbrev f : Found
  f = old.found

  abbrev w : ℕ
  w = word_bytes old.found

  abbrev most : ℕ
  most = words_met at (length from) w * (word_cost_in f + 1)

  pub ready_of : (a : ArrayState) → Stands old a → Stands mid a → IsReady true mid → Ready mid a at from
  ready_of a was stands ready =
      let is = begun (change_most old op) caller at from old mid begins in
      record {
        stands = stands;
        running = is.running;
        chips = ready;
        some = is.some;
        within = is.within;
        beside = λ p low high. range_beside caller op old a at (length from) p begins.begins.works was refl refl low high;
        unlocked = begins.unlocked a was;
      }

  -- all of it is done
  call_done : (o : Outcome) (bus : BusState) → goes_on o ≡ true → ProgramsRange w at from f o x bus → IsCallOf caller op old (with_bus mid bus) Done []
  call_done o bus goes programs =
      let counted = counted_so f.geometry.lanes (least_limit f) most o x bus goes programs.takes in
      let n = counted.cycles in
      let few = counted.few in
      ended_call true (change_most old op) n caller op old mid (with_bus mid bus) Done [] begins.begins refl refl refl tt refl counted.went (call_fits old at n from few)
      (λ a was stands ready.
      let its = ready_of a was stands ready in
      program_done mid a at from its caller n old bus counted.went (stored_to w f at from o x bus goes (programs.becomes (can_program_all mid a at from its))))

  -- lanes broke off in a piece
  call_failed : (piece : Piece) (lanes : LaneSet) (bus : BusState) → ProgramsRange w at from f (BrokeOff piece lanes) x bus
      → IsCallOf caller op old (with_bus mid bus) (Failed (max at (begin_of w piece)) (min (at + length from) (end_of w piece)) lanes.bits) []
  call_failed piece lanes bus programs =
      let counted = programs.takes in
      let n = counted.cycles in
      let few = counted.few in
      ended_call true (change_most old op) n caller op old mid (with_bus mid bus) (Failed (max at (begin_of w piece)) (min (at + length from) (end_of w piece)) lanes.bits) [] begins.begins refl refl refl
      (may_fail w at f.geometry.lanes lanes.bits from piece (begun (change_most old op) caller at from old mid begins).some programs.there programs.named) refl
      counted.went (call_fits old at n from few)
      (λ a was stands ready.
      let its = ready_of a was stands ready in
      let can = can_program_all mid a at from its in
      program_failed mid a at caller lanes.bits n from piece (map (λ (s : ChipState). s.part.stuck) old.bus.lanes) old bus its refl programs.there (programs.run can) (programs.becomes can) counted.went)

  -- a cycle failed
  call_lost : (bus : BusState) → ProgramsRange w at from f (GivenUp Off) x bus → IsCallOf caller op old (halting (with_bus mid bus) (LostPower old.after)) (Halted (LostPower old.after)) []
  call_lost bus programs =
      let lost = programs.takes in
      lost_call true (change_most old op) most caller op old mid (with_bus mid bus) (halting (with_bus mid bus) (LostPower old.after)) [] begins.begins refl refl refl refl lost
      (call_fits old at most from (omega arith))
      (λ a was stands ready.
      let its = ready_of a was stands ready in
      program_halted mid a at from its bus lost.kept (programs.becomes (can_program_all mid a at from its)) (LostPower old.after))

  -- a lane was read working too often
  read_often : (bus : BusState) → Counted (least_limit f) most x bus → ReadsStuck op old (halting (with_bus mid bus) (StuckLane 0))
  read_often bus counted =
      let went = begins.begins.went in
      let all = went_then begins.begins.cycles begins.begins.cycles counted.cycles counted.cycles (begins.begins.cycles + counted.cycles) (begins.begins.cycles + counted.cycles) old.bus x bus (omega arith) (omega arith) went counted.went in
      let enough = all.enough in
      let least_is = counted.enough in
      inr (more_least (least_limit f) (begins.begins.cycles + counted.cycles) old.bus.cycles bus.cycles (omega (arith, least_is)) enough)

  call_stuck : (k : ℕ) (bus : BusState) → ProgramsRange w at from f (GivenUp (Stuck k)) x bus → IsCallOf caller op old (halting (with_bus mid bus) (StuckLane k)) (Halted (StuckLane k)) []
  call_stuck k bus programs =
      let counted = programs.takes.1 in
      stuck_call true (change_most old op) (least_limit f) most k caller op old mid (with_bus mid bus) (halting (with_bus mid bus) (StuckLane k)) [] begins.begins refl refl refl refl counted
      (call_fits old at most from (omega arith)) programs.takes.0 (read_often bus counted) refl
      (λ a was stands ready.
      let its = ready_of a was stands ready in
      let leaves = programs.becomes (can_program_all mid a at from its) in
      (program_halted mid a at from its bus counted.went.kept leaves.0 (StuckLane k), leaves.1, program_sticks mid a at from its leaves.2))

  call_given_up : (halt : Halt) (bus : BusState) → ProgramsRange w at from f (GivenUp halt) x bus → IsCallOf caller op old (halting (with_bus mid bus) (cause_of old.after halt)) (Halted (cause_of old.after halt)) []
  call_given_up Off bus programs = call_lost bus programs
  call_given_up (Stuck k) bus programs = call_stuck k bus programs

  answered : (o : Outcome) (bus : BusState) (new : BankState) (reply : Reply) → ProgramsRange w at from f o x bus → AnswersRange w at (length from) o mid bus new reply → IsCallOf caller op old new reply []
  answered Skipped bus new reply programs is = as_told is.0 is.1 (call_done Skipped bus refl programs)
  answered Stored bus new reply programs is = as_told is.0 is.1 (call_done Stored bus refl programs)
  answered (BrokeOff piece lanes) bus new reply programs is = as_told is.0 is.1 (call_failed piece lanes bus programs)
  answered (GivenUp halt) bus new reply programs is = as_told is.0 is.1 (call_given_up halt bus programs)

  pub program_answers : (new : BankState) (reply : Reply) → ProgramsBank at from mid new reply → IsCallOf caller op old new reply []
  program_answers new reply programs = answered programs.outcome programs.bus new reply programs.programs programs.answers

  -- ---- what it costs, and where it fails

  -- what would change of the bank would change of the array
  alike : (a : ArrayState) → Stands old a → Stands mid a → IsReady true mid → (p : ℕ) → changes_of f.geometry x at from p ≡ would_change a.bytes at from p
  alike a was stands ready p = changes_alike mid a at from (λ q low high. ready_byte mid a at from q (ready_of a was stands ready) low high) p

  costs_by : (o : Outcome) (bus : BusState) → goes_on o ≡ true → ProgramsRange w at from f o x bus → (a : ArrayState) → Stands old a
      → Counted (words_in old at (length from)) (change_most old op + words_in old at (length from) + words_changed old a at from * word_most f.query.set (program_limit old)) old.bus bus
  costs_by o bus goes programs a was =
      let way = begins.begins.stands a was in
      let its = ready_of a was way.stands (way.ready refl) in
      let words = words_in old at (length from) in
      let costs = programs.costs goes (can_program_all mid a at from its) in
      let same = passing_same w (changes_of f.geometry x at from) (would_change a.bytes at from) (at / w) words (λ p. alike a was way.stands (way.ready refl) p) in
      let here = subst (λ (n : ℕ). Counted words (words + n * word_cost_in f) x bus) same costs in
      let few = begins.begins.few in
      counted_then 0 (change_most old op) words (words + words_changed old a at from * word_cost_in f) words (change_most old op + words + words_changed old a at from * word_cost_in f) old.bus x bus
      (omega arith) (omega arith) (record { cycles = begins.begins.cycles; enough = omega arith; few = few; went = begins.begins.went }) here

  costs_answered : (o : Outcome) (bus : BusState) (new : BankState) (reply : Reply) → ProgramsRange w at from f o x bus → AnswersRange w at (length from) o mid bus new reply → reply ≡ Done → (a : ArrayState) → Stands old a
      → Counted (words_in old at (length from)) (change_most old op + words_in old at (length from) + words_changed old a at from * word_most f.query.set (program_limit old)) old.bus new.bus
  costs_answered Skipped bus new reply programs is done a was = on_bus is.1 (costs_by Skipped bus refl programs a was)
  costs_answered Stored bus new reply programs is done a was = on_bus is.1 (costs_by Stored bus refl programs a was)
  costs_answered (BrokeOff piece lanes) bus new reply programs is done a was = absurd (let both : Failed (max at (begin_of w piece)) (min (at + length from) (end_of w piece)) lanes.bits ≡ Done = sym is.0 ∙ done in cc)
  costs_answered (GivenUp halt) bus new reply programs is done a was = absurd (let both : Halted (cause_of old.after halt) ≡ Done = sym is.0 ∙ done in cc)

  pub program_costs : (new : BankState) (reply : Reply) → ProgramsBank at from mid new reply → reply ≡ Done → (a : ArrayState) → Stands old a
      → Counted (words_in old at (length from)) (change_most old op + words_in old at (length from) + words_changed old a at from * word_most f.query.set (program_limit old)) old.bus new.bus
  program_costs new reply programs done a was = costs_answered programs.outcome programs.bus new reply programs.programs programs.answers done a was

  run_by : (piece : Piece) (lanes : LaneSet) (bus : BusState) (from_place to : ℕ) → ProgramsRange w at from f (BrokeOff piece lanes) x bus
      → from_place ≡ max at (begin_of w piece) → to ≡ min (at + length from) (end_of w piece) → (a : ArrayState) → Stands old a → FailsInRun old a at from from_place to
  run_by piece lanes bus from_place to programs begin end a was =
      let way = begins.begins.stands a was in
      let its = ready_of a was way.stands (way.ready refl) in
      record {
        first = piece.first;
        words = piece.words;
        run = run_alike w f (changes_of f.geometry x at from) (would_change a.bytes at from) at (length from) piece.first piece.words (λ p. alike a was way.stands (way.ready refl) p)
            (programs.run (can_program_all mid a at from its));
        begins = begin;
        ends = end;
      }

  run_answered : (o : Outcome) (bus : BusState) (new : BankState) (reply : Reply) (from_place to lanes : ℕ) → ProgramsRange w at from f o x bus → AnswersRange w at (length from) o mid bus new reply
      → reply ≡ Failed from_place to lanes → (a : ArrayState) → Stands old a → FailsInRun old a at from from_place to
  run_answered Skipped bus new reply from_place to lanes programs is failed a was = absurd (let both : Done ≡ Failed from_place to lanes = sym is.0 ∙ failed in cc)
  run_answered Stored bus new reply from_place to lanes programs is failed a was = absurd (let both : Done ≡ Failed from_place to lanes = sym is.0 ∙ failed in cc)
  run_answered (GivenUp halt) bus new reply from_place to lanes programs is failed a was = absurd (let both : Halted (cause_of old.after halt) ≡ Failed from_place to lanes = sym is.0 ∙ failed in cc)
  run_answered (BrokeOff piece broken) bus new reply from_place to lanes programs is failed a was =
      let same = failed_parts (max at (begin_of w piece)) (min (at + length from) (end_of w piece)) broken.bits from_place to lanes (sym is.0 ∙ failed) in
      run_by piece broken bus from_place to programs same.0 same.1 a was

  pub program_fails : (new : BankState) (reply : Reply) (from_place to lanes : ℕ) → ProgramsBank at from mid new reply → reply ≡ Failed from_place to lanes → (a : ArrayState) → Stands old a
      → FailsInRun old a at from from_place to
  program_fails new reply from_place to lanes programs failed a was = run_answered programs.outcome programs.bus new reply from_place to lanes programs.programs programs.answers failed a was

-- ---- what a program of a range makes of the bank

-- by the fields of the bank, on a bus of so many bytes
pub programs_bank : (width at : ℕ) (from : List ℕ) (shape now new : BankState) (o : Outcome) (bus : BusState) (reply : Reply) → word_bytes shape.found ≡ width → shape ≡ now
    → ProgramsRange width at from shape.found o shape.bus bus → AnswersRange width at (length from) o shape bus new reply → ProgramsBank at from now new reply
programs_bank width at from shape now new o bus reply wide is programs answers =
    subst (λ (b : BankState). ProgramsBank at from b new reply) is (record {
      outcome = o;
      bus = bus;
      programs = subst (λ (v : ℕ). ProgramsRange v at from shape.found o shape.bus bus) (sym wide) programs;
      answers = subst (λ (v : ℕ). AnswersRange v at (length from) o shape bus new reply) (sym wide) answers;
    })

-- a range that is stored
pub stored_answers : (width at len : ℕ) (o : Outcome) (shape : BankState) (bus : BusState) → (o ≡ Skipped) ⊎ (o ≡ Stored) → AnswersRange width at len o shape bus (with_bus shape bus) Done
stored_answers width at len o shape bus (inl is) = subst (λ (p : Outcome). AnswersRange width at len p shape bus (with_bus shape bus) Done) (sym is) (refl, refl)
stored_answers width at len o shape bus (inr is) = subst (λ (p : Outcome). AnswersRange width at len p shape bus (with_bus shape bus) Done) (sym is) (refl, refl)

-- ---- the call

-- A call that asks nothing of the chips costs nothing.
pub idle_costs : (old new : BankState) (at most : ℕ) (from : List ℕ) (needs : CallNeeds) → HasNeeds needs (Program at from) → needs.idle ≡ true → new ≡ old
    → Counted (words_in old at (length from)) most old.bus new.bus
idle_costs old new at most from needs has idle same =
    let none : length from ≡ 0 = same_number (length from) 0 (ap (λ (n : CallNeeds). n.idle) has.are ∙ idle) in
    let words : words_in old at (length from) ≡ 0 = ap (λ (n : ℕ). words_met at n (word_bytes old.found)) none in
    subst (λ (b : BankState). Counted (words_in old at (length from)) most old.bus b.bus) (sym same)
    (record { cycles = 0; enough = omega (arith, words); few = omega arith; went = went_none old.bus })

module _ (caller at : ℕ) (from : List ℕ) (old mid new : BankState) (reply : Reply) (begins : BeginsChange (change_most old (Program at from)) caller (Program at from) old mid)
    (programs : ProgramsBank at from mid new reply) where
  -- the bank before the work, by its bus and the erase that it keeps
  by_fields : (P : BankState → Type 0) → P (record old { bus = mid.bus; erase = mid.erase }) → P mid
  by_fields P holds = subst P (sym begins.begins.kept) holds

  abbrev Begins : BankState → Type 0
  Begins m = BeginsChange (change_most old (Program at from)) caller (Program at from) old m

  pub program_is : IsCallOf caller (Program at from) old new reply []
  program_is =
      by_fields (λ (m : BankState). Begins m → ProgramsBank at from m new reply → IsCallOf caller (Program at from) old new reply [])
      (λ begun its. program_answers caller at from old mid.bus mid.erase begun new reply its) begins programs

  pub program_costs_so : reply ≡ Done → (a : ArrayState) → Stands old a
      → Counted (words_in old at (length from))
      (change_most old (Program at from) + words_in old at (length from) + words_changed old a at from * word_most old.found.query.set (program_limit old)) old.bus new.bus
  program_costs_so done a was =
      by_fields (λ (m : BankState). Begins m → ProgramsBank at from m new reply
      → Counted (words_in old at (length from))
      (change_most old (Program at from) + words_in old at (length from) + words_changed old a at from * word_most old.found.query.set (program_limit old)) old.bus new.bus)
      (λ begun its. program_costs caller at from old mid.bus mid.erase begun new reply its done a was) begins programs

  pub program_fails_so : (from_place to lanes : ℕ) → reply ≡ Failed from_place to lanes → (a : ArrayState) → Stands old a → FailsInRun old a at from from_place to
  program_fails_so from_place to lanes failed a was =
      by_fields (λ (m : BankState). Begins m → ProgramsBank at from m new reply → FailsInRun old a at from from_place to)
      (λ begun its. program_fails caller at from old mid.bus mid.erase begun new reply from_place to lanes its failed a was) begins programs
