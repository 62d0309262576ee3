-- How a command ends.
use Rattle.std.specs.Prelude.{◌≡◌, ◌≤◌, ◌⊎◌, ◌*◌, ◌^◌, [], length, ℕ, List, Option, Some, None, IfSome}
use Rattle.nor_cell.specs.declared.geometry.Geometry.{Geometry}
use Rattle.nor_dump.specs.Dump.{IsDumpOf, IsTableOf}
use Rattle.nor_dump.specs.Made.{chip_size, IsMade}
use Rattle.nor_dump.specs.Survey.{IsSurveyOf}
use Rattle.nor_dump.specs.Table.{table_of}
use Rattle.nor_dump.specs.declared.changes.Change.{Change}
use Rattle.nor_dump.specs.declared.survey.Survey.{Survey}
use Rattle.nor_io.specs.Files.{ShelfState, SinkState, FileMap, Rose, HasFile, IsAbsent, IsTooLarge, Saves}
use Rattle.norimage.specs.Drawn.{IsDrawingOf}
use Rattle.norimage.specs.Endings.{Tells}
use Rattle.norimage.specs.Options.{changes_of}
use Rattle.norimage.specs.Stops.{stop_of, bytes_in, changes_in, dump_in, first_some, image_stops, table_stops, raw_stops, bank_stops}
use Rattle.norimage.specs.Words.{Asked, Make, Raw, Table, Draw, Unknown, name_of, out_of}
use Rattle.norimage.specs.declared.stop.File.{File}
use Rattle.norimage.specs.declared.stop.File.TheVariants.{Raw as RawFile}
use Rattle.norimage.specs.declared.stop.Stop.{Stop}
use Rattle.norimage.specs.declared.stop.Stop.TheVariants.{Absent, TooLarge, ReadFault, WriteFault, NoMemory}

-- a file wasn't loaded: the shelf hasn't got it so, or couldn't read it, or memory ran out
abbrev pub FailsLoad : File → List ℕ → (was now : ShelfState) → Stop → Type 0
FailsLoad which name was now stop =
    ((stop ≡ Absent which) × IsAbsent was.files name)
    ⊎ (((stop ≡ TooLarge which) × IsTooLarge was.files name)
    ⊎ (((stop ≡ ReadFault which) × Rose was.faults now.faults) ⊎ (stop ≡ NoMemory)))

-- the file is under the name, where the files are told, and isn't too large
pub record IsLoaded (was : ShelfState) (name file : List ℕ) : Type 0 where
  pub has : HasFile was.files name file
  pub few : length file ≤ 2 ^ 30

-- ---- the bytes that a command saves

-- those of its files that a command reads first and second
abbrev pub first_of : Asked → FileMap → Option (List ℕ)
first_of (Make out width device lanes table raw options) files = files table
first_of (Raw image out) files = files image
first_of (Table image lane out) files = files image
first_of (Draw image out) files = files image
first_of Unknown files = None

abbrev pub second_of : Asked → FileMap → Option (List ℕ)
second_of command files = files (name_of command RawFile)

-- The bytes answer the command: the image of the bank that is made, all bytes of a bank, the table of a lane, a drawing.
abbrev pub Answers : Asked → (first second bytes : List ℕ) → Type 0
Answers (Make out width device lanes table_name raw_name options) table raw bytes =
    let g : Geometry = record { lanes = lanes; device = device } in
    let dumped = dump_in raw_name raw (lanes * chip_size (table_of table)) in
    IsMade width g (table_of table) (changes_in (changes_of options)) dumped bytes
Answers (Raw name out) image second bytes = IsDumpOf image bytes
Answers (Table name lane out) image second bytes = IsTableOf image lane (Some bytes)
Answers (Draw name out) image second bytes = IsDrawingOf image bytes
Answers Unknown first second bytes = ⊥

-- Where the files are told: nothing is wrong with them, and the bytes answer the command.
pub record GivesIn (command : Asked) (bytes : List ℕ) (files : FileMap) : Type 0 where
  pub free : stop_of command (first_of command files) (second_of command files) ≡ None
  pub answers : Answers command (bytes_in (first_of command files)) (bytes_in (second_of command files)) bytes

abbrev pub Gives : Asked → List ℕ → ShelfState → Type 0
Gives command bytes was = IfSome was.files (GivesIn command bytes)

-- ---- what stops it

-- a fault of the shelf, which its count tells, or want of memory
abbrev pub IsMishap : (was now : ShelfState) → Stop → Type 0
IsMishap was now stop =
    ((((file : File) × (stop ≡ ReadFault file)) ⊎ (stop ≡ WriteFault)) × Rose was.faults now.faults)
    ⊎ (stop ≡ NoMemory)

-- what is wrong with the files, where they are told; or a mishap
abbrev pub StopsBy : (FileMap → Option Stop) → (was now : ShelfState) → Stop → Type 0
StopsBy wrong was now stop = IfSome was.files (λ files. wrong files ≡ Some stop) ⊎ IsMishap was now stop

-- the first thing that is wrong, in the order of work
abbrev pub Stops : Asked → (was now : ShelfState) → Stop → Type 0
Stops command was now stop = StopsBy (λ files. stop_of command (first_of command files) (second_of command files)) was now stop

-- ---- what is told of files

-- Nothing is wrong with the image, and this is told of its bank.
pub record IsToldIn (name : List ℕ) (survey : Survey) (files : FileMap) : Type 0 where
  pub free : first_some (image_stops (files name) []) ≡ None
  pub is : IsSurveyOf (bytes_in (files name)) survey

-- ---- what `make` makes of files

-- Nothing is wrong with the file of the name, and this is the query table in it.
pub record IsTableIn (name table : List ℕ) (files : FileMap) : Type 0 where
  pub free : first_some (table_stops (files name)) ≡ None
  pub is : table ≡ table_of (bytes_in (files name))

-- The name stands for a dump of a bank of so many bytes, and these are its bytes.
pub record IsRawIn (name : List ℕ) (bank : ℕ) (raw : List ℕ) (files : FileMap) : Type 0 where
  pub free : first_some (raw_stops name (files name) bank) ≡ None
  pub is : raw ≡ dump_in name (bytes_in (files name)) bank

-- Nothing is wrong with both files and the changes, and the image is that of the bank of them.
pub record IsMadeIn (width : ℕ) (g : Geometry) (changes : List Change) (table raw bytes : List ℕ) (files : FileMap) : Type 0 where
  pub free : first_some (bank_stops g changes raw (files table) (files raw)) ≡ None
  pub made : IsMade width g (table_of (bytes_in (files table))) changes
      (dump_in raw (bytes_in (files raw)) (g.lanes * chip_size (table_of (bytes_in (files table))))) bytes

-- ---- how it ends

-- What answers the command was saved under its name, and no other file has changed.
pub record Saved (command : Asked) (was now : ShelfState) : Type 0 where
  pub bytes : List ℕ
  pub gives : Gives command bytes was
  pub saves : Saves was.files (out_of command) bytes now.files

-- With status 0 that was done, and nothing was put.
pub record EndsDone (command : Asked) (was now : ShelfState) (before after : SinkState) (status : ℕ) : Type 0 where
  pub is : status ≡ 0
  pub saved : Saved command was now
  pub silent : after ≡ before

-- Else no file has changed, and the text says what stopped it.
pub record EndsStopped (command : Asked) (was now : ShelfState) (before after : SinkState) (status : ℕ) : Type 0 where
  pub stop : Stop
  pub stops : Stops command was now stop
  pub tells : Tells command stop before after status
  pub kept : now.files ≡ was.files

abbrev pub Ends : Asked → (was now : ShelfState) → (before after : SinkState) → ℕ → Type 0
Ends command was now before after status =
    EndsDone command was now before after status ⊎ EndsStopped command was now before after status
