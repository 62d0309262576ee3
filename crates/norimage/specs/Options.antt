-- The options of `make`: each a word, and behind it its numbers.
use Rattle.std.specs.Prelude.{ℕ, List, [], ◌∷◌, ◌++◌, string_bytes, String, Vec, Option, Some, None, codes, if◌then◌else◌}
use Rattle.std.specs.Str.{bytes_eq}
use Rattle.std.specs.declared.alloc.Global.{Global}
use Rattle.nor_script.specs.Numbers.{number_of}
use Rattle.nor_dump.specs.declared.changes.Change.{Change}
use Rattle.nor_dump.specs.declared.changes.Change.TheVariants.{Pace, Weak, Stuck}
use Rattle.norimage.specs.Words.{byte_of}
use Rattle.norimage.specs.declared.options.Due.{Due}
use Rattle.norimage.specs.declared.options.Due.TheVariants.{Option as AnOption, Program, Erase, Suspend, Lane, Place, StuckLane}
use Rattle.norimage.specs.declared.options.Step.{Step}
use Rattle.norimage.specs.declared.options.Step.TheVariants.{Bad, Next, Whole}

-- `--paces` and three numbers, `--weak` and two, `--stuck` and one
abbrev pub ready_step : List ℕ → Step
ready_step word =
    if bytes_eq word (codes "--paces") then Next Program
    else if bytes_eq word (codes "--weak") then Next Lane
    else if bytes_eq word (codes "--stuck") then Next StuckLane
    else Bad

-- a number of 32 bits: a pace, or a place
abbrev pub number_step : Due → Option ℕ → Step
number_step due None = Bad
number_step AnOption (Some n) = Bad
number_step Program (Some n) = Next (Erase n)
number_step (Erase program) (Some n) = Next (Suspend program n)
number_step (Suspend program erase) (Some n) = Bad
number_step Lane (Some n) = Bad
number_step (Place lane) (Some n) = Whole (Weak lane n)
number_step StuckLane (Some n) = Bad

-- a number of one byte: the suspend pace, or a lane
abbrev pub byte_step : Due → Option ℕ → Step
byte_step due None = Bad
byte_step AnOption (Some n) = Bad
byte_step Program (Some n) = Bad
byte_step (Erase program) (Some n) = Bad
byte_step (Suspend program erase) (Some n) = Whole (Pace (record { program = program; erase = erase; suspend = n }))
byte_step Lane (Some n) = Next (Place n)
byte_step (Place lane) (Some n) = Bad
byte_step StuckLane (Some n) = Whole (Stuck n)

abbrev pub step_of : Due → List ℕ → Step
step_of AnOption word = ready_step word
step_of Program word = number_step Program (number_of word)
step_of (Erase program) word = number_step (Erase program) (number_of word)
step_of (Suspend program erase) word = byte_step (Suspend program erase) (byte_of word)
step_of Lane word = byte_step Lane (byte_of word)
step_of (Place lane) word = number_step (Place lane) (number_of word)
step_of StuckLane word = byte_step StuckLane (byte_of word)

-- the changes that were read, where nothing more is due
abbrev pub at_end : Due → List Change → Option (List Change)
at_end AnOption done = Some done
at_end Program done = None
at_end (Erase program) done = None
at_end (Suspend program erase) done = None
at_end Lane done = None
at_end (Place lane) done = None
at_end StuckLane done = None

-- behind these changes, those of the words to come
abbrev pub changes_from : Due → List Change → List (String Global) → Option (List Change)
changes_from due done [] = at_end due done
changes_from due done (word ∷ words) = elim (step_of due (string_bytes word)) [
  | Bad ↦ None
  | Next next ↦ changes_from next done words
  | Whole change ↦ changes_from AnOption (done ++ change ∷ []) words
]

-- the changes that options ask for, if these words are options
unfoldable pub changes_of : List (String Global) → Option (List Change)
changes_of words = changes_from AnOption [] words

abbrev pub items_of : Option (Vec Change Global) → Option (List Change)
items_of None = None
items_of (Some changes) = Some changes.items
