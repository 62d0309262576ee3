-- What running a script on a bank that was just loaded makes.
use Rattle.std.specs.Prelude.{◌≡◌, ◌≢◌, ◌<◌, ◌≤◌, ℕ, List, length, map, take, Result, Ok, Err, slice_index, Bool, true, false, Some, None}
use Rattle.nor_cell.specs.Between.{IsQuiet}
use Rattle.nor_cell.specs.Chip.{ChipState}
use Rattle.nor_cell.specs.Power.{powered, locks_after}
use Rattle.nor_cell.specs.declared.device.Device.{Device}
use Rattle.nor_bus.specs.Bus.{BusState, IsBank, lane, bank_byte, bank_bytes, bank_size}
use Rattle.nor_bus.specs.Cycles.{KeepsLanes}
use Rattle.nor_bus.specs.Driven.{AllLanes, EachLane}
use Rattle.nor_probe.specs.Probed.{refusal, IsFoundOn}
use Rattle.nor_probe.specs.declared.error.ProbeError.{ProbeError}
use Rattle.nor_probe.specs.declared.error.ProbeError.TheVariants.{Off as LostPower}
use Rattle.nor_probe.specs.WellWired.{HasQry}
use Rattle.nor_probe.specs.declared.probing.Found.{Found}
use Rattle.nor_array.specs.Array.{ArrayState, opening}
use Rattle.nor_array.specs.After.{after_all}
use Rattle.nor_array.specs.Legal.{Legal}
use Rattle.nor_array.specs.declared.entry.Entry.{Entry}
use Rattle.nor_array.specs.declared.state.ArmedCut.{ArmedCut}
use Rattle.nor_array.specs.Entries.{has_halt}
use Rattle.nor_script.specs.Answering.{Answers}
use Rattle.nor_script.specs.Report.{report_text}
use Rattle.nor_script.specs.declared.line.Line.{Line}
use Rattle.nor_io.specs.Files.{SinkState, Rose, Appends, AppendsPart}
use Rattle.nor_io.specs.declared.sink.SinkError.TheVariants.{Fault, NoMemory}
use Rattle.nor_bank.specs.Calls.{facts_of}
use Rattle.nor_history.specs.Histories.{opened, risen, words_read}
use Rattle.nor_bank.specs.Stands.{Stands, constants_of, is_under}
use Rattle.nor_bank.specs.State.{BankState, word_bytes}
use Rattle.nor_image.specs.Image.{IsImageOf, device_of}
use Rattle.nor_image.specs.Loaded.{bus_of, loaded_width, IsFreshBus}
use Rattle.nor_image.specs.Written.{file_of, AreStorable, AgreeOnLocks}
use Rattle.nor_image.specs.declared.loaded.Loaded.{Loaded}
use Rattle.nor_run.specs.declared.error.RunError.{RunError}
use Rattle.nor_run.specs.declared.error.RunError.TheVariants.{Probe, NoMemory as Memory, Put}
use Rattle.nor_run.specs.Steps.{StaysWithin}
use Rattle.nor_run.specs.Running.{counters_of, IsCount, IsDue, Untouched}
use Rattle.nor_run.specs.declared.lines.Ran.{Ran}

-- a bank of which this was found, before its first call
abbrev pub started : Found → BusState → BankState
started found bus = record { bus = bus; found = found; halted = None; erase = None; after = 0 }

abbrev pub HasLetters : ChipState → Type 0
HasLetters s = HasQry s.part.table

-- the array that it opens with: the cells' bytes and the chips' locks
abbrev pub opening_of : Found → BusState → ArrayState
opening_of found bus =
    opening (constants_of found bus.lanes (lane bus 0).locks)
    (bank_bytes found.geometry.device bus.lanes 0 (bank_size bus.lanes))

-- The cells are the bytes of the array outside what is under erase, and each chip's locks are the array's.
pub record HoldsArray (found : Found) (bus : BusState) (a : ArrayState) : Type 0 where
  pub size : length a.bytes ≡ bank_size bus.lanes
  pub bytes : (p : ℕ) → p < length a.bytes → is_under a.under a.consts p ≡ false
      → slice_index a.bytes p ≡ bank_byte found.geometry.device bus.lanes p
  pub locks : AllLanes (λ s. s.locks ≡ a.locks) bus

-- A bank on this bus, of which this was found, stands for the array.
pub record StandsOn (found : Found) (bus : BusState) (a : ArrayState) : Type 0 where
  pub bank : BankState
  pub on : bank.bus ≡ bus
  pub is : bank.found ≡ found
  pub stands : Stands bank a

-- ---- what was run

-- The entries are a legal history from the opening array, and led the bus from old to new, which stands for the array
-- after them: it holds the bytes and the locks of that array. Each lane counts the erases that were opened. A race leaves
-- nothing under erase, and while a cut is armed it reads no more bus words than the cut was armed with: the cuts of a
-- race come first.
pub record RunsLegally (race : Bool) (old new : BusState) (found : Found) (es : List Entry) : Type 0 where
  pub legal : Legal (facts_of (started found old)) (opening_of found old) es
  pub stands : StandsOn found new (after_all (opening_of found old) es)
  pub holds : HoldsArray found new (after_all (opening_of found old) es)
  pub erases : EachLane (λ s t. t.erases ≡ risen s.erases (opened es)) old new
  pub closed : race ≡ true → (after_all (opening_of found old) es).under ≡ None
  pub reads : race ≡ true → (cut : ArmedCut) → (after_all (opening_of found old) es).armed ≡ Some cut
      → words_read (word_bytes found) es ≤ cut.after

-- The entries answer the lines, and each chip stays what it is. Where the chips' tables begin with `QRY`, the entries
-- are a legal history, and those that one thread made keep the bounds on work, waiting, and a cut.
pub record IsRunOf (race : Bool) (width : ℕ) (lines : List Line) (old new : BusState) (es : List Entry) : Type 0 where
  pub found : Found
  pub is_found : IsFoundOn width old.lanes found
  pub answers : Answers race lines es
  pub kept : KeepsLanes old new
  pub legal : AllLanes HasLetters old → RunsLegally race old new found es
  pub bounds : race ≡ false → AllLanes HasLetters old
      → StaysWithin lines es (started found old) (opening_of found old)

-- All lines were run so, and the report of the entries was put.
pub record RunsScript (race : Bool) (width : ℕ) (lines : List Line) (old new : BusState)
    (before after : SinkState) (ran : Ran) : Type 0 where
  pub history : List Entry
  pub runs : IsRunOf race width lines old new history
  pub text : Appends before.taken (report_text history (counters_of new.lanes)) after.taken
  pub entries : ran.entries ≡ length history
  pub halted : ran.halted ≡ has_halt history

-- The first lines of the script were run, or in a race all, and of what there is then to put a first part was put: of
-- the lines of their entries, or, where all were run, of the whole report.
pub record RunsPartly (race : Bool) (width : ℕ) (lines : List Line) (old new : BusState)
    (before after : SinkState) : Type 0 where
  pub history : List Entry
  pub count : ℕ
  pub all : IsCount race lines count
  pub runs : IsRunOf race width (take count lines) old new history
  pub whole : List ℕ
  pub due : IsDue lines count history (counters_of new.lanes) whole
  pub text : AppendsPart before.taken whole after.taken

-- ---- how it ends

-- probing accepts the chips
pub record IsRunnable (width : ℕ) (chips : List ChipState) : Type 0 where
  pub found : Found
  pub is_found : IsFoundOn width chips found

-- probing refuses the chips
pub record IsUnfound (width : ℕ) (chips : List ChipState) (error : ProbeError) : Type 0 where
  pub refused : refusal width chips ≡ Some error
  pub powered : error ≢ LostPower

-- Why a bank of these chips is run, or not: probing refuses it, or a race wants memory.
abbrev pub EndsRun : (race : Bool) → ℕ → List ChipState → (before after : SinkState) → Result Ran RunError → Type 0
EndsRun race width chips before after (Ok ran) = IsRunnable width chips
EndsRun race width chips before after (Err (Probe error)) = IsUnfound width chips error × Untouched before after
EndsRun race width chips before after (Err Memory) =
    IsRunnable width chips × (race ≡ true) × Untouched before after
EndsRun race width chips before after (Err (Put Fault)) =
    IsRunnable width chips × Rose before.faults after.faults
EndsRun race width chips before after (Err (Put NoMemory)) = IsRunnable width chips

-- What was put of a run, whole or in part.
abbrev pub Reports : (race : Bool) → ℕ → List Line → (old new : BusState) → (before after : SinkState)
    → Result Ran RunError → Type 0
Reports race width lines old new before after (Ok ran) = RunsScript race width lines old new before after ran
Reports race width lines old new before after (Err (Probe error)) = Unit {0}
Reports race width lines old new before after (Err Memory) = Unit {0}
Reports race width lines old new before after (Err (Put error)) = RunsPartly race width lines old new before after

-- ---- a bank that was just loaded

-- Nothing is under way, and the locks are as power-on leaves them.
pub record IsJustPowered (s : ChipState) : Type 0 where
  pub quiet : IsQuiet s
  pub locks : s.locks ≡ locks_after s.part.set s.part.table s.locks

pub record IsJustLoaded (width : ℕ) (bus : BusState) : Type 0 where
  pub device : Device
  pub bank : IsBank width device bus.lanes
  pub fresh : IsFreshBus bus
  pub storable : AreStorable bus.lanes
  pub agree : AgreeOnLocks bus.lanes
  pub chips : AllLanes IsJustPowered bus

-- The bank was just loaded from a file.
pub record IsLoaded (loaded : Loaded) : Type 0 where
  pub file : List ℕ
  pub image : IsImageOf file (loaded_width loaded) (bus_of loaded).lanes
  pub fresh : IsFreshBus (bus_of loaded)
  pub bank : IsBank (loaded_width loaded) (device_of file) (bus_of loaded).lanes
  pub storable : AreStorable (bus_of loaded).lanes
  pub agree : AgreeOnLocks (bus_of loaded).lanes

-- so many bytes as the file has that is to be saved
abbrev pub HasRoom : List ℕ → Loaded → Type 0
HasRoom bytes loaded = length bytes ≡ length (file_of (loaded_width loaded) (bus_of loaded).lanes)

-- A script was run on the bank of a file, and these are now the bytes of the file to save: that of version 2 of the
-- bank as it then is, for which the file stands where the lanes agree on their locks. They do where the tables begin
-- with `QRY`.
pub record RunsImage (race : Bool) (width : ℕ) (lines : List Line) (old : BusState)
    (before after : SinkState) (ran : Ran) (file : List ℕ) : Type 0 where
  pub new : BusState
  pub runs : RunsScript race width lines old new before after ran
  pub spelled : file ≡ file_of width new.lanes
  pub image : AgreeOnLocks new.lanes → IsImageOf file width (map powered new.lanes)
  pub agree : AllLanes HasLetters old → AgreeOnLocks new.lanes

-- the same, or a part of it
abbrev pub ReportsImage : (race : Bool) → ℕ → List Line → BusState → (before after : SinkState) → List ℕ
    → Result Ran RunError → Type 0
ReportsImage race width lines old before after file (Ok ran) = RunsImage race width lines old before after ran file
ReportsImage race width lines old before after file (Err (Probe error)) = Unit {0}
ReportsImage race width lines old before after file (Err Memory) = Unit {0}
ReportsImage race width lines old before after file (Err (Put error)) =
    (new : BusState) × RunsPartly race width lines old new before after
