-- When a history answers a script.
use Rattle.std.specs.Prelude.{◌≡◌, ◌≢◌, ◌<◌, ℕ, ◌==◌, Bool, true, false, List, [], ◌∷◌, ◌++◌, filter, All}
use Rattle.nor_array.specs.declared.entry.Entry.{Entry}
use Rattle.nor_array.specs.declared.entry.Op.{Op}
use Rattle.nor_array.specs.declared.entry.Op.TheVariants.{EraseOpen, EraseAll as EraseAllOp, Poll}
use Rattle.nor_array.specs.declared.entry.Reply.TheVariants.{Opened, NotYet}
use Rattle.nor_array.specs.Entries.{IsOf, IsAwaited}
use Rattle.nor_script.specs.declared.line.Line.{Line}
use Rattle.nor_script.specs.declared.line.Word.{Word}
use Rattle.nor_script.specs.declared.line.Word.TheVariants.{Call, Erase, EraseAll}

-- an erase that wasn't opened by this call
pub record NotOpened (caller : ℕ) (op : Op) (e : Entry) : Type 0 where
  pub opening : IsOf caller op e
  pub reply : e.reply ≢ Opened

-- an erase that was opened by this call, and its end
pub record OpenedAndClosed (caller : ℕ) (op : Op) (e close : Entry) : Type 0 where
  pub opening : IsOf caller op e
  pub opened : e.reply ≡ Opened
  pub polling : IsOf caller Poll close
  pub closed : close.reply ≢ NotYet

-- The entries are those of one line: one of its call, or of its erase one or two.
abbrev pub AnswersWord : Word → ℕ → List Entry → Type 0
AnswersWord word caller [] = ⊥
AnswersWord (Call op) caller (e ∷ []) = IsOf caller op e
AnswersWord (Erase block) caller (e ∷ []) = NotOpened caller (EraseOpen block) e
AnswersWord EraseAll caller (e ∷ []) = NotOpened caller EraseAllOp e
AnswersWord (Call op) caller (e ∷ close ∷ []) = ⊥
AnswersWord (Erase block) caller (e ∷ close ∷ []) = OpenedAndClosed caller (EraseOpen block) e close
AnswersWord EraseAll caller (e ∷ close ∷ []) = OpenedAndClosed caller EraseAllOp e close
AnswersWord word caller (e ∷ close ∷ more ∷ entries) = ⊥

-- The entries are those of the lines, in their order.
abbrev pub AnswersLines : List Line → List Entry → Type 0
AnswersLines [] entries = entries ≡ []
AnswersLines (line ∷ lines) entries =
    (first : List Entry) × (rest : List Entry) × (entries ≡ first ++ rest)
    × AnswersWord line.word line.caller first × AnswersLines lines rest

-- A history answers a script that one thread runs.
abbrev pub AnswersRun : List Line → List Entry → Type 0
AnswersRun lines entries = AnswersLines lines entries

abbrev pub lines_by : ℕ → List Line → List Line
lines_by caller lines = filter (λ line. line.caller == caller) lines

abbrev pub entries_by : ℕ → List Entry → List Entry
entries_by caller entries = filter (λ e. e.caller == caller) entries

-- A history answers a script whose callers race: the cuts come first, and then each caller's entries, taken alone, are
-- those of its lines.
pub record AnswersRace (lines : List Line) (entries : List Entry) : Type 0 where
  pub cuts : List Entry
  pub raced : List Entry
  pub parts : entries ≡ cuts ++ raced
  pub armed : AnswersLines (lines_by 0 lines) cuts
  pub callers : All (λ e. 0 < e.caller) raced
  pub each : (caller : ℕ) → 0 < caller → AnswersLines (lines_by caller lines) (entries_by caller raced)
  pub awaited : All (λ e. IsAwaited e.reply) raced

-- A history answers a script that one thread runs, or one whose callers race.
abbrev pub Answers : (race : Bool) → List Line → List Entry → Type 0
Answers false lines entries = AnswersRun lines entries
Answers true lines entries = AnswersRace lines entries
