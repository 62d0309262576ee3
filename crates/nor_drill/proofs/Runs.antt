-- A drill that was run, and that no halt comes in it.
use Rattle.std.proofs.Common.{◌≡◌, ◌<◌, ◌≤◌, ◌+◌, ◌*◌, ◌^◌, ◌%◌, ◌∙◌, ◌++◌, ◌∷◌, [], ℕ, List, length, map, Bool, true, false, if◌then◌else◌, nat_le, ◌==◌, Result, Err, inl, inr, refl, sym, ap, subst, arith}
use Rattle.std.specs.Result.{IsErrAnd}
use Rattle.std.proofs.lemmas.Result.{err_from_is_err_and}
use Rattle.std.specs.List.{range_with_len}
use Rattle.std.specs.declared.convert.Infallible.{Infallible}
use Rattle.std.proofs.lemmas.List.{length-append}
use Rattle.nor_array.specs.declared.entry.Entry.{Entry}
use Rattle.nor_array.specs.declared.entry.Op.TheVariants.{Read, Program, EraseOpen, Poll, Lock, Unlock, IsLocked}
use Rattle.nor_array.specs.Entries.{is_arming, has_halt}
use Rattle.nor_bank.specs.State.{BankState}
use Rattle.nor_bank.specs.Work.{KeepsBank}
use Rattle.nor_bus.specs.Bus.{BusState}
use Rattle.nor_bus.specs.Driven.{AllLanes}
use Rattle.nor_cell.specs.Chip.{ChipState}
use Rattle.nor_cell.specs.declared.device.Set.{Set}
use Rattle.nor_io.specs.Files.{SinkState}
use Rattle.nor_io.specs.Puts.{PutsText}
use Rattle.nor_io.specs.declared.sink.SinkError.{SinkError}
use Rattle.nor_poll.proofs.Between.{neither}
use Rattle.nor_run.specs.Causes.{is_cut, has_cut, has_stuck, MayHalt}
use Rattle.nor_run.specs.Running.{RunsWhole}
use Rattle.nor_run.specs.Scripts.{IsRunOf, HasLetters}
use Rattle.nor_run.specs.Started.{Starts}
use Rattle.nor_run.specs.Taking.{TakesAll}
use Rattle.nor_run.specs.declared.lines.Ran.{Ran}
use Rattle.nor_run.proofs.Causing.{any_none, legally_caused}
use Rattle.nor_run.proofs.Growing.{few_entries}
use Rattle.nor_run.proofs.Reporting.{is_run}
use Rattle.nor_script.specs.Answering.{AnswersLines}
use Rattle.nor_script.specs.Script.{IsScript}
use Rattle.nor_script.specs.declared.line.Line.{Line}
use Rattle.nor_cell.proofs.Logic.{not_passed}
use Rattle.nor_drill.proofs.Banks.{not_both}
use Rattle.nor_drill.specs.Drill.{drawn, later, data_of, line_of, drawn_lines, unlock_line, unlock_lines, drill_lines, drill_chip, chips_of_set, drill_chips, drill_set}
use Rattle.nor_drill.specs.Drilled.{IsDrilled, DrillRun, Summarizes, Drills}
use Rattle.nor_drill.specs.Summary.{Counts, no_counts, sum_of, summary_text}
use Rattle.nor_drill.specs.declared.drilled.DrillError.{DrillError}
use Rattle.nor_drill.specs.declared.drilled.DrillError.TheVariants.{Put}
use Rattle.nor_drill.specs.declared.drilled.Drilled.{Drilled}
use Rattle.nor_drill.proofs.Tallies.{tallies}

-- ---- what was run on a bank that was started

-- a line has at most two entries
few_of_lines : (lines : List Line) (es : List Entry) → AnswersLines lines es → length es ≤ 2 * length lines
few_of_lines [] es answers = let none : length es ≡ 0 = ap (λ (l : List Entry). length l) answers in omega (arith, none)
few_of_lines (line ∷ lines) es answers =
    let both : length es ≡ length (answers.0 ++ answers.1) = ap (λ (l : List Entry). length l) answers.2 in
    let parts = length-append answers.0 answers.1 in
    let first = few_entries line.word line.caller answers.0 answers.3 in
    let rest = few_of_lines lines answers.1 answers.4 in
    omega (arith, both, parts, first, rest)

pub is_drilled : (width : ℕ) (lines : List Line) (bus : BusState) (b new : BankState) (start tally : List ℕ) (ran : Ran) (drilled : Drilled)
    → IsScript lines → Starts width bus b → KeepsBank b new → start ≡ no_counts
    → RunsWhole (Counts {E = Infallible}) false lines b new start tally ran
    → drilled.tally ≡ tally → drilled.sum ≡ sum_of new.bus.lanes → IsDrilled width lines bus drilled
is_drilled width lines bus b new start tally ran drilled script starts keeps none runs counted summed =
    let few_lines = script.few in
    let few_made = few_of_lines lines runs.history runs.is.answers in
    let few : length runs.history < 2 ^ 64 = omega (arith, few_lines, few_made) in
    record {
      new = new.bus;
      history = runs.history;
      runs = is_run false width bus lines b new runs.history starts keeps runs.is;
      counts = counted
          ∙ tallies runs.history tally (subst (λ (counts : List ℕ). TakesAll (Counts {E = Infallible}) 0 runs.history counts tally) none runs.took) few;
      sum = summed;
    }

-- ---- the script arms no cut

no_cuts : (f : ℕ → Line) → ((k : ℕ) → is_cut (f k).word ≡ false) → (ks : List ℕ) → has_cut (map f ks) ≡ false
no_cuts f each [] = refl
no_cuts f each (k ∷ ks) = neither (is_cut (f k).word) (has_cut (map f ks)) (each k) (no_cuts f each ks)

no_arming : (a b : ℕ) (read program opens poll unlock lock : Bool)
    → is_arming
    (if read then Read (a % 16384) (b % 65)
    else if program then Program (a % 16384) (data_of b)
    else if opens then EraseOpen (a % 8)
    else if poll then Poll
    else if unlock then Unlock (a % 8)
    else if lock then Lock (a % 8)
    else IsLocked (a % 8)) ≡ false
no_arming a b true program opens poll unlock lock = refl
no_arming a b false true opens poll unlock lock = refl
no_arming a b false false true poll unlock lock = refl
no_arming a b false false false true unlock lock = refl
no_arming a b false false false false true lock = refl
no_arming a b false false false false false true = refl
no_arming a b false false false false false false = refl

drawn_uncut : (number x : ℕ) → is_cut (line_of number x).word ≡ false
drawn_uncut number x =
    let k = drawn (later x 1) % 16 in
    no_arming (drawn (later x 2)) (drawn (later x 3)) (nat_le k 5) (nat_le k 9) (k == 10) (nat_le k 12) (k == 13) (k == 14)

drawn_lines_uncut : (x count : ℕ) → has_cut (drawn_lines x count) ≡ false
unfolding drawn_lines
drawn_lines_uncut x count =
    no_cuts (λ (k : ℕ). line_of (k + 9) (later x (4 * k))) (λ k. drawn_uncut (k + 9) (later x (4 * k))) (range_with_len 0 count)

unlock_lines_uncut : (blocks : ℕ) → has_cut (unlock_lines blocks) ≡ false
unfolding unlock_lines
unlock_lines_uncut blocks = no_cuts unlock_line (λ b. refl) (range_with_len 0 blocks)

both_uncut : (x blocks count : ℕ) → has_cut (unlock_lines blocks ++ drawn_lines x count) ≡ false
both_uncut x blocks count =
    any_none (λ (line : Line). is_cut line.word) (unlock_lines blocks) (drawn_lines x count) (unlock_lines_uncut blocks) (drawn_lines_uncut x count)

uncut : (n : ℕ) → has_cut (drill_lines n) ≡ false
uncut n = both_uncut n 8 4096

-- ---- no chip is stuck, so nothing halts the bank

unstuck : (set : Set) → has_stuck (chips_of_set set) ≡ false
unfolding drill_chip
unstuck set = refl

never : (n : ℕ) (chips : List ChipState) → chips ≡ drill_chips n → MayHalt (drill_lines n) chips → ⊥
never n chips is (inl cut) = not_both (has_cut (drill_lines n)) cut (uncut n)
never n chips is (inr stuck) =
    not_both (has_stuck chips) stuck (ap (λ (l : List ChipState). has_stuck l) is ∙ unstuck (drill_set n))

-- the drill of a number
pub is_run_of : (n : ℕ) (old new : BusState) (history : List Entry) → old.lanes ≡ drill_chips n → AllLanes HasLetters old
    → IsRunOf false 4 (drill_lines n) old new history → DrillRun n history new
is_run_of n old new history bank letters runs = record {
  old = old;
  bank = bank;
  letters = letters;
  runs = runs;
  goes_on = not_passed (has_halt history) (λ halts.
      never n old.lanes bank (legally_caused false (drill_lines n) old new runs.found history (runs.legal letters) runs.answers halts));
}

pub drill_run : (n width : ℕ) (lines : List Line) (old : BusState) (drilled : Drilled) → width ≡ 4 → lines ≡ drill_lines n
    → old.lanes ≡ drill_chips n → AllLanes HasLetters old → (is : IsDrilled width lines old drilled) → DrillRun n is.history is.new
drill_run n width lines old drilled wide says bank letters is =
    is_run_of n old is.new is.history bank letters
    (subst (λ (ls : List Line). IsRunOf false 4 ls old is.new is.history) says
    (subst (λ (w : ℕ). IsRunOf false w lines old is.new is.history) wide is.runs))

-- ---- and its summary put

pub summarizes : (n width : ℕ) (lines : List Line) (old : BusState) (drilled : Drilled) (before after : SinkState) (put : Result (Unit {0}) SinkError)
    → width ≡ 4 → lines ≡ drill_lines n → old.lanes ≡ drill_chips n → AllLanes HasLetters old → IsDrilled width lines old drilled
    → PutsText (summary_text n drilled.tally drilled.sum) before after put → Summarizes n before after put
summarizes n width lines old drilled before after put wide says bank letters is puts = record {
  text = summary_text n drilled.tally drilled.sum;
  summary = record {
    history = is.history;
    new = is.new;
    run = drill_run n width lines old drilled wide says bank letters is;
    is = λ i. summary_text n (is.counts i) (is.sum i);
  };
  puts = puts;
}

pub drills_part : (n : ℕ) (before after : SinkState) (result : Result (Unit {0}) DrillError) (error : SinkError) → IsErrAnd result (λ e. e ≡ Put error)
    → Summarizes n before after (Err error) → Drills n before after result
drills_part n before after result error gave put =
    let given = err_from_is_err_and result gave in
    subst (λ (r : Result (Unit {0}) DrillError). Drills n before after r) (sym (given.1 ∙ ap (λ (e : DrillError). Err e) given.2)) put
