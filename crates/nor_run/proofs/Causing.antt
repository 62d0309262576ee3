-- A halt has a cause.
use Rattle.std.proofs.Common.{◌≡◌, ◌<◌, ◌∙◌, ◌||◌, ◌==◌, ◌++◌, ◌∷◌, inl, inr, ℕ, zero, suc, List, [], map, cond, slice_index_or, Bool, true, false, Result, Ok, refl, sym, ap, subst, arith}
use Rattle.std.specs.Prelude.{All}
use Rattle.std.specs.List.{list_any}
use Rattle.std.proofs.lemmas.List.Elements.{All-head, All-tail}
use Rattle.nor_cell.specs.Chip.{ChipState}
use Rattle.nor_bus.specs.Bus.{BusState}
use Rattle.nor_bus.specs.Driven.{AllLanes}
use Rattle.nor_array.specs.Entries.{is_arming, has_arming, has_halt}
use Rattle.nor_array.specs.declared.entry.Entry.{Entry}
use Rattle.nor_array.specs.declared.entry.Op.{Op}
use Rattle.nor_array.proofs.Halting.{halts_have_a_cause}
use Rattle.nor_bank.specs.Calls.{facts_of}
use Rattle.nor_io.specs.Files.{SinkState}
use Rattle.nor_poll.proofs.Between.{neither}
use Rattle.nor_probe.specs.declared.probing.Found.{Found}
use Rattle.nor_script.specs.Answering.{Answers, AnswersWord, AnswersLines, lines_by, entries_by}
use Rattle.nor_script.specs.declared.line.Line.{Line}
use Rattle.nor_script.specs.declared.line.Word.{Word}
use Rattle.nor_script.specs.declared.line.Word.TheVariants.{Call, Erase, EraseAll}
use Rattle.nor_run.specs.Causes.{is_cut, has_cut, has_stuck, MayHalt}
use Rattle.nor_run.specs.Scripts.{HasLetters, started, opening_of, RunsLegally, Reports}
use Rattle.nor_run.specs.declared.error.RunError.{RunError}
use Rattle.nor_run.specs.declared.lines.Ran.{Ran}
use Rattle.nor_cell.proofs.Logic.{none_pass}

-- ---- lines without a cut are answered by entries that arm none

pub any_none : {A : Type 0} (test : A → Bool) (xs ys : List A) → list_any test xs ≡ false → list_any test ys ≡ false → list_any test (xs ++ ys) ≡ false
any_none test [] ys front back = back
any_none test (x ∷ xs) ys front back =
    let split = none_pass (test x) (list_any test xs) front in
    neither (test x) (list_any test (xs ++ ys)) split.0 (any_none test xs ys split.1 back)

-- an entry of a call that arms none
arms_none : (op : Op) (e : Entry) → e.op ≡ op → is_arming op ≡ false → is_arming e.op ≡ false
arms_none op e same none = ap is_arming same ∙ none

word_arms_none : (word : Word) (caller : ℕ) (es : List Entry) → AnswersWord word caller es → is_cut word ≡ false → has_arming es ≡ false
word_arms_none word caller [] answers uncut = refl
word_arms_none (Call op) caller (e ∷ []) answers uncut = neither (is_arming e.op) false (arms_none op e answers.calls uncut) refl
word_arms_none (Erase b) caller (e ∷ []) answers uncut = neither (is_arming e.op) false (arms_none _ e answers.opening.calls refl) refl
word_arms_none EraseAll caller (e ∷ []) answers uncut = neither (is_arming e.op) false (arms_none _ e answers.opening.calls refl) refl
word_arms_none (Call op) caller (e ∷ close ∷ []) answers uncut = absurd answers
word_arms_none (Erase b) caller (e ∷ close ∷ []) answers uncut =
    neither (is_arming e.op) (is_arming close.op || false) (arms_none _ e answers.opening.calls refl)
    (neither (is_arming close.op) false (arms_none _ close answers.polling.calls refl) refl)
word_arms_none EraseAll caller (e ∷ close ∷ []) answers uncut =
    neither (is_arming e.op) (is_arming close.op || false) (arms_none _ e answers.opening.calls refl)
    (neither (is_arming close.op) false (arms_none _ close answers.polling.calls refl) refl)
word_arms_none (Call op) caller (e ∷ close ∷ more ∷ es) answers uncut = absurd answers
word_arms_none (Erase b) caller (e ∷ close ∷ more ∷ es) answers uncut = absurd answers
word_arms_none EraseAll caller (e ∷ close ∷ more ∷ es) answers uncut = absurd answers

lines_arm_none : (lines : List Line) (es : List Entry) → AnswersLines lines es → has_cut lines ≡ false → has_arming es ≡ false
lines_arm_none [] es answers uncut = ap has_arming answers
lines_arm_none (line ∷ lines) es answers uncut =
    let split = none_pass (is_cut line.word) (has_cut lines) uncut in
    ap has_arming answers.2
    ∙ any_none (λ (e : Entry). is_arming e.op) answers.0 answers.1
    (word_arms_none line.word line.caller answers.0 answers.3 split.0) (lines_arm_none lines answers.1 answers.4 split.1)

-- those of one caller
kept_uncut : (line : Line) (lines : List Line) (b : Bool) → is_cut line.word ≡ false → has_cut lines ≡ false → has_cut (cond b (line ∷ lines) lines) ≡ false
kept_uncut line lines true first rest = neither (is_cut line.word) (has_cut lines) first rest
kept_uncut line lines false first rest = rest

by_uncut : (caller : ℕ) (lines : List Line) → has_cut lines ≡ false → has_cut (lines_by caller lines) ≡ false
by_uncut caller [] uncut = refl
by_uncut caller (line ∷ lines) uncut =
    let split = none_pass (is_cut line.word) (has_cut lines) uncut in
    kept_uncut line (lines_by caller lines) (line.caller == caller) split.0 (by_uncut caller lines split.1)

-- each entry is of some caller
callers_arm_none : (es : List Entry) → All (λ e. 0 < e.caller) es
    → ((caller : ℕ) → 0 < caller → has_arming (entries_by caller es) ≡ false) → has_arming es ≡ false
callers_arm_none [] some each = refl
callers_arm_none (e ∷ es) some each =
    neither (is_arming e.op) (has_arming es)
    (none_pass (is_arming e.op) (has_arming (entries_by e.caller es)) (of_own (e.caller == e.caller) (same_number e.caller) (each e.caller (All-head (λ (x : Entry). 0 < x.caller) e es some)))).0
    (callers_arm_none es (All-tail (λ (x : Entry). 0 < x.caller) e es some) (λ caller positive. of_others caller (e.caller == caller) (each caller positive)))
  where
    same_number : (n : ℕ) → (n == n) ≡ true
    same_number n = grind arith

    of_own : (b : Bool) → b ≡ true → has_arming (cond b (e ∷ entries_by e.caller es) (entries_by e.caller es)) ≡ false → has_arming (e ∷ entries_by e.caller es) ≡ false
    of_own true is none = none
    of_own false is none = absurd (let x = is in cc)

    of_others : (caller : ℕ) (b : Bool) → has_arming (cond b (e ∷ entries_by caller es) (entries_by caller es)) ≡ false → has_arming (entries_by caller es) ≡ false
    of_others caller true none = (none_pass (is_arming e.op) (has_arming (entries_by caller es)) none).1
    of_others caller false none = none

answers_arm_none : (race : Bool) (lines : List Line) (es : List Entry) → Answers race lines es → has_cut lines ≡ false → has_arming es ≡ false
answers_arm_none false lines es answers uncut = lines_arm_none lines es answers uncut
answers_arm_none true lines es answers uncut =
    ap has_arming answers.parts
    ∙ any_none (λ (e : Entry). is_arming e.op) answers.cuts answers.raced
    (lines_arm_none (lines_by 0 lines) answers.cuts answers.armed (by_uncut 0 lines uncut))
    (callers_arm_none answers.raced answers.callers
    (λ caller positive. lines_arm_none (lines_by caller lines) (entries_by caller answers.raced) (answers.each caller positive) (by_uncut caller lines uncut)))

-- ---- no halt without a cause

none_stuck : (chips : List ChipState) → has_stuck chips ≡ false → (k : ℕ) → slice_index_or (map (λ (s : ChipState). s.part.stuck) chips) k false ≡ false
none_stuck [] none k = refl
none_stuck (s ∷ chips) none zero = (none_pass s.part.stuck (has_stuck chips) none).0
none_stuck (s ∷ chips) none (suc k) = none_stuck chips (none_pass s.part.stuck (has_stuck chips) none).1 k

pub legally_caused : (race : Bool) (lines : List Line) (old new : BusState) (found : Found) (es : List Entry) → RunsLegally race old new found es
    → Answers race lines es → has_halt es ≡ true → MayHalt lines old.lanes
legally_caused race lines old new found es runs answers halts = by_tests (has_cut lines) (has_stuck old.lanes) refl refl
  where
    by_tests : (cut stuck : Bool) → has_cut lines ≡ cut → has_stuck old.lanes ≡ stuck → MayHalt lines old.lanes
    by_tests true stuck cut_is stuck_is = inl cut_is
    by_tests false true cut_is stuck_is = inr stuck_is
    by_tests false false cut_is stuck_is =
        let none : has_halt es ≡ false =
        halts_have_a_cause (facts_of (started found old)) (opening_of found old) es runs.legal refl refl
        (answers_arm_none race lines es answers cut_is) (λ k. none_stuck old.lanes stuck_is k) in
        absurd (let both : true ≡ false = sym halts ∙ none in cc)

pub halts_caused : (race : Bool) (width : ℕ) (lines : List Line) (old new : BusState) (before after : SinkState) (ran : Ran) (result : Result Ran RunError) → result ≡ Ok ran
    → Reports race width lines old new before after result → AllLanes HasLetters old → ran.halted ≡ true → MayHalt lines old.lanes
halts_caused race width lines old new before after ran result ok reports qry halted =
    let runs = subst (λ (r : Result Ran RunError). Reports race width lines old new before after r) ok reports in
    legally_caused race lines old new runs.runs.found runs.history (runs.runs.legal qry) runs.runs.answers (sym runs.halted ∙ halted)
