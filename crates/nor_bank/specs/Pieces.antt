-- Programming a range of a bank's bytes piece by piece: the words that wait to be programmed at once.
use Rattle.std.specs.Prelude.{◌≡◌, ◌<◌, ◌+◌, ◌-◌, ◌*◌, ◌/◌, ◌&&◌, max, min, nat_lt, ℕ, List, [], length, get_or, slice_index, bit_and, Bool, true, false, if◌then◌else◌, Option, Some, None}
use Rattle.nor_cell.specs.Chip.{ChipState, block_at, block_of}
use Rattle.nor_cell.specs.Loads.{room}
use Rattle.nor_cell.specs.declared.device.Device.{Device}
use Rattle.nor_cell.specs.declared.geometry.Geometry.{Geometry}
use Rattle.nor_probe.specs.declared.probing.Found.{Found}
use Rattle.nor_bus.specs.Bus.{BusState, bank_byte}
use Rattle.nor_bus.specs.Driven.{AllLanes, Counted}
use Rattle.nor_poll.specs.Buffer.{load_reads}
use Rattle.nor_poll.specs.Word.{word_most}
use Rattle.nor_poll.specs.declared.lanes.Halt.{Halt}
use Rattle.nor_bank.specs.Programs.{CanProgram, ForBroken, GivesUp, LeavesBy, MeetsPiece, NamesLanes, ProgramsPiece, RangeBecomes, Takes, begin_of, end_of, goes_on, changes_of, datum_at, word_passes, words_passing}
use Rattle.nor_bank.specs.Ranges.{MeetsWord, words_met}
use Rattle.nor_bank.specs.Runs.{IsRun, joins_in, least_limit, limit_in, load_limit_in, most_limit, units_in}
use Rattle.nor_bank.specs.State.{BankState, blocks_of, word_bytes}
use Rattle.nor_bank.specs.Way.{cause_of, halting}
use Rattle.nor_bank.specs.Work.{with_bus}
use Rattle.nor_array.specs.declared.entry.Reply.{Reply}
use Rattle.nor_array.specs.declared.entry.Reply.TheVariants.{Done, Failed, Halted}
use Rattle.nor_bank.specs.declared.programming.Piece.{Piece}
use Rattle.nor_bank.specs.declared.programming.Outcome.{Outcome}
use Rattle.nor_bank.specs.declared.programming.Outcome.TheVariants.{Skipped, Stored, BrokeOff, GivenUp}

-- how many cycles a bus word costs at most
abbrev pub word_cost_in : Found → ℕ
word_cost_in f = word_most f.query.set (most_limit f)

-- ---- chips that can be programmed

-- The chip's buffer and blocks are those that were found, and a load shows working fewer times than its limit.
pub record TakesLoads (w : ℕ) (f : Found) (at len : ℕ) (s : ChipState) : Type 0 where
  pub room : room s ≡ units_in f
  pub reads : load_reads s < load_limit_in f
  pub blocks : (u v : ℕ) → MeetsWord w u at len → MeetsWord w v at len
      → block_at (blocks_of f) (v * w) ≡ block_at (blocks_of f) (u * w) → block_of s v ≡ block_of s u

-- Each word of the range may be programmed, alone or with others that go with it.
pub record CanProgramAll (w : ℕ) (f : Found) (at len : ℕ) (bus : BusState) : Type 0 where
  pub words : CanProgram w f.query.set f.geometry (limit_in f) at len bus
  pub loads : AllLanes (TakesLoads w f at len) bus

-- ---- words that wait

-- bus word u as it is to become: old AND what is programmed there
abbrev pub IsAnded : (w : ℕ) → Device → (at : ℕ) (new : List ℕ) (u : ℕ) → BusState → List ℕ → Type 0
IsAnded w device at new u bus word =
    (j : ℕ) → j < w
    → slice_index word j ≡ bit_and (bank_byte device bus.lanes (u * w + j)) (datum_at at new (u * w + j))

-- bus word u would lose a bit
abbrev pub changes_word : (w : ℕ) → Geometry → (at : ℕ) (new : List ℕ) (u : ℕ) → BusState → Bool
changes_word w g at new u bus = word_passes w (changes_of g bus at new) u

-- what a bus word is to become, where that changes it
abbrev pub TellsWord : (w : ℕ) → Geometry → (at : ℕ) (new : List ℕ) (u : ℕ) → BusState → Option (List ℕ) → Type 0
TellsWord w g at new u bus None = changes_word w g at new u bus ≡ false
TellsWord w g at new u bus (Some word) = IsAnded w g.device at new u bus word × (changes_word w g at new u bus ≡ true)

-- The word was read: no chip has changed, and this is what it is to become.
pub record ReadsWord (w : ℕ) (g : Geometry) (at : ℕ) (new : List ℕ) (u : ℕ) (word : Option (List ℕ))
    (old now : BusState) : Type 0 where
  pub same : now.lanes ≡ old.lanes
  pub tells : TellsWord w g at new u old word

-- So many words from `first` on wait: they are words of the range that change, they go together, and each of these is
-- what one is to become.
pub record Wait (w : ℕ) (f : Found) (at : ℕ) (new : List ℕ) (first n : ℕ) (words : List (List ℕ)) (bus : BusState)
    : Type 0 where
  pub meets : (k : ℕ) → k < n → MeetsWord w (first + k) at (length new)
  pub together : (k : ℕ) → 0 < k → k < n → joins_in w f first (first + k) ≡ true
  pub each : (k : ℕ) → k < n → IsAnded w f.geometry.device at new (first + k) bus (get_or words k [])
  pub changes : (k : ℕ) → k < n → changes_word w f.geometry at new (first + k) bus ≡ true

-- how many of the n words that wait before word u can't wait for it
abbrev pub due_in : (w : ℕ) → Found → (n u : ℕ) (changes : Bool) → ℕ
due_in w f n u changes = if changes && nat_lt 0 n && joins_in w f (u - n) u then 0 else n

-- the n words before word u
abbrev pub piece_before : (n u : ℕ) → Piece
piece_before n u = record { first = u - n; words = n }

-- ---- a piece that is programmed

-- So many words from `first` on were programmed at once, and these lanes broke off: where they were words that waited.
abbrev pub EndsPiece : (w : ℕ) → Found → (first n : ℕ) (words : List (List ℕ)) (broken : ℕ) (old now : BusState)
    → Type 0
EndsPiece w f first n words broken old now =
    (at : ℕ) (new : List ℕ) → CanProgramAll w f at (length new) old → Wait w f at new first n words old
    → ProgramsPiece f.geometry broken at new (first * w) ((first + n) * w) old now

-- They were given up.
pub record HaltsPiece (w : ℕ) (f : Found) (first n : ℕ) (words : List (List ℕ)) (halt : Halt) (old now : BusState)
    : Type 0 where
  pub cycles : GivesUp f.geometry.lanes (least_limit f) (n * word_cost_in f) halt old now
  pub leaves : (at : ℕ) (new : List ℕ) → CanProgramAll w f at (length new) old → Wait w f at new first n words old
      → LeavesBy f.geometry.device at new (first * w) halt old now

-- The cycles of the n words that waited: no word makes none.
abbrev pub TakesPiece : Found → (n : ℕ) → Outcome → (old now : BusState) → Type 0
TakesPiece f n Skipped old now = now ≡ old
TakesPiece f n Stored old now = Counted n (n * word_cost_in f) old now
TakesPiece f n (BrokeOff piece lanes) old now = Counted n (n * word_cost_in f) old now
TakesPiece f n (GivenUp halt) old now = GivesUp f.geometry.lanes (least_limit f) (n * word_cost_in f) halt old now

-- ---- the range

-- Each bus word was read, and those that would change were programmed.
abbrev pub CostsWords : (w : ℕ) → Found → (at : ℕ) (new : List ℕ) (old now : BusState) → Type 0
CostsWords w f at new old now =
    let words = words_met at (length new) w in
    Counted words (words + words_passing w (changes_of f.geometry old at new) (at / w) words * word_cost_in f) old now

-- ---- a program of a bank

-- what the bank answers of it, and becomes
abbrev pub AnswersRange : (w at len : ℕ) → Outcome → BankState → BusState → BankState → Reply → Type 0
AnswersRange w at len Skipped old bus new reply = (reply ≡ Done) × (new ≡ with_bus old bus)
AnswersRange w at len Stored old bus new reply = (reply ≡ Done) × (new ≡ with_bus old bus)
AnswersRange w at len (BrokeOff piece lanes) old bus new reply =
    (reply ≡ Failed (max at (begin_of w piece)) (min (at + len) (end_of w piece)) lanes.bits) × (new ≡ with_bus old bus)
AnswersRange w at len (GivenUp halt) old bus new reply =
    (reply ≡ Halted (cause_of old.after halt)) × (new ≡ halting (with_bus old bus) (cause_of old.after halt))

-- A range was programmed on a bus: what became of it, in how many cycles, and where it ends the piece that it names.
pub record ProgramsRange (w at : ℕ) (new : List ℕ) (f : Found) (outcome : Outcome) (old now : BusState) : Type 0 where
  pub becomes : CanProgramAll w f at (length new) old → RangeBecomes w f.geometry at new outcome old now
  pub takes : Takes f.geometry.lanes (least_limit f) (words_met at (length new) w * (word_cost_in f + 1)) outcome
      old now
  pub costs : goes_on outcome ≡ true → CanProgramAll w f at (length new) old → CostsWords w f at new old now
  pub there : ForBroken outcome (λ piece. MeetsPiece w piece at (length new))
  pub named : NamesLanes f.geometry.lanes outcome
  pub run : CanProgramAll w f at (length new) old
      → ForBroken outcome (λ piece.
      IsRun w f (changes_of f.geometry old at new) at (length new) piece.first piece.words)

pub record ProgramsBank (at : ℕ) (from : List ℕ) (old new : BankState) (reply : Reply) : Type 0 where
  pub outcome : Outcome
  pub bus : BusState
  pub programs : ProgramsRange (word_bytes old.found) at from old.found outcome old.bus bus
  pub answers : AnswersRange (word_bytes old.found) at (length from) outcome old bus new reply
