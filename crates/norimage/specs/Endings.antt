-- The status of what stops a command, and its last text.
use Rattle.std.specs.Prelude.{◌≡◌, ◌⊎◌, ℕ, List, Result, Ok, Err}
use Rattle.nor_dump.specs.declared.table.TableError.TheVariants.{Length, HighByte, Query}
use Rattle.nor_image.specs.declared.error.ImageError.{ImageError}
use Rattle.nor_image.specs.declared.error.ImageError.TheVariants.{BadMagic, BadHeader, Truncated, Trailing, SizeDiffers, NoMemory as NoImageMemory}
use Rattle.nor_io.specs.Files.{SinkState, Rose, Appends, AppendsPart}
use Rattle.nor_io.specs.declared.shelf.LoadError.{LoadError}
use Rattle.nor_io.specs.declared.shelf.LoadError.TheVariants.{Absent as NoFile, ReadFault as LoadFault, TooLarge as LargeFile, NoMemory as NoLoadMemory}
use Rattle.nor_io.specs.declared.shelf.SaveError.{SaveError}
use Rattle.nor_io.specs.declared.shelf.SaveError.TheVariants.{WriteFault as SaveFault, NoMemory as NoSaveMemory}
use Rattle.nor_io.specs.declared.sink.SinkError.{SinkError}
use Rattle.nor_io.specs.declared.sink.SinkError.TheVariants.{Fault, NoMemory as NoSinkMemory}
use Rattle.norimage.specs.Text.{no_memory, text_of}
use Rattle.norimage.specs.Words.{Asked}
use Rattle.norimage.specs.declared.stop.File.{File}
use Rattle.norimage.specs.declared.stop.File.TheVariants.{Image, Table, Raw}
use Rattle.norimage.specs.declared.stop.Stop.{Stop}
use Rattle.norimage.specs.declared.stop.Stop.TheVariants.{Usage, BadWiring, BadImage, BadTable, BadChange, RawLength, NoLane, Absent, TooLarge, ReadFault, WriteFault, NoMemory}

-- the table of statuses; 0 is for what was done
abbrev pub status_of : Stop → ℕ
status_of Usage = 2
status_of (BadImage error) = 3
status_of (TooLarge Image) = 3
status_of (TooLarge Table) = 4
status_of (TooLarge Raw) = 4
status_of (BadTable (Length len)) = 4
status_of (BadTable HighByte) = 4
status_of (BadTable (Query error)) = 5
status_of (ReadFault file) = 7
status_of WriteFault = 7
status_of (Absent file) = 8
status_of NoMemory = 9
status_of BadWiring = 10
status_of (BadChange error) = 10
status_of (RawLength raw bank) = 10
status_of NoLane = 10

abbrev pub fault_told : ℕ
fault_told = status_of WriteFault

abbrev pub lacks_memory : ℕ
lacks_memory = status_of NoMemory

-- ---- what stops a command where a call fails

abbrev pub file_failure : File → LoadError → Stop
file_failure file NoFile = Absent file
file_failure file LoadFault = ReadFault file
file_failure file LargeFile = TooLarge file
file_failure file NoLoadMemory = NoMemory

abbrev pub save_failure : SaveError → Stop
save_failure SaveFault = WriteFault
save_failure NoSaveMemory = NoMemory

abbrev pub image_failure : ImageError → Stop
image_failure NoImageMemory = NoMemory
image_failure BadMagic = BadImage BadMagic
image_failure (BadHeader at) = BadImage (BadHeader at)
image_failure (Truncated at) = BadImage (Truncated at)
image_failure (Trailing at) = BadImage (Trailing at)
image_failure (SizeDiffers lane) = BadImage (SizeDiffers lane)

-- ---- the last text

abbrev pub AfterPut : ℕ → Result (Unit {0}) SinkError → ℕ → Type 0
AfterPut code (Ok done) status = status ≡ code
AfterPut code (Err Fault) status = status ≡ fault_told
AfterPut code (Err NoSinkMemory) status = status ≡ lacks_memory

-- A text was put with a status; or the output failed, which its count tells, or lacked memory, and then a first part was.
abbrev pub Says : ℕ → List ℕ → (before after : SinkState) → ℕ → Type 0
Says code text before after status =
    ((status ≡ code) × Appends before.taken text after.taken)
    ⊎ (((status ≡ fault_told) × Rose before.faults after.faults
    × AppendsPart before.taken text after.taken)
    ⊎ ((status ≡ lacks_memory) × AppendsPart before.taken text after.taken))

-- What stopped the command was told, or want of memory in its place.
abbrev pub Tells : Asked → Stop → (before after : SinkState) → ℕ → Type 0
Tells command stop before after status =
    Says (status_of stop) (text_of command stop) before after status
    ⊎ Says lacks_memory no_memory before after status
