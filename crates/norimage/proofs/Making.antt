-- The files that `make` reads, and what is made of them.
use Rattle.std.proofs.Common.{◌≡◌, ◌≤◌, ◌*◌, ◌^◌, ◌∙◌, ◌⊎◌, inl, inr, ℕ, List, [], ◌∷◌, length, Bool, true, not, Option, Some, None, refl, sym, ap, subst}
use Rattle.std.specs.Option.{IfSome, option_map, is_none}
use Rattle.std.proofs.lemmas.Option.{IfSome_then}
use Rattle.nor_cell.proofs.Logic.{fails_behind}
use Rattle.nor_cell.specs.Wiring.{is_wiring}
use Rattle.nor_cell.specs.declared.device.Device.{Device}
use Rattle.nor_cell.specs.declared.geometry.Geometry.{Geometry}
use Rattle.nor_dump.specs.Changes.{change_error}
use Rattle.nor_dump.specs.Made.{chip_size, IsMade}
use Rattle.nor_dump.specs.Table.{table_of, table_error}
use Rattle.nor_dump.specs.declared.changes.Change.{Change}
use Rattle.nor_dump.specs.declared.changes.ChangeError.{ChangeError}
use Rattle.nor_dump.specs.declared.table.TableError.{TableError}
use Rattle.nor_io.specs.Files.{FileMap, ShelfState, HasFile}
use Rattle.std.specs.Prelude.{String}
use Rattle.std.specs.declared.alloc.Global.{Global}
use Rattle.norimage.specs.Ends.{StopsBy, IsTableIn, IsRawIn, IsMadeIn, GivesIn, Stops}
use Rattle.norimage.specs.Options.{changes_of}
use Rattle.norimage.specs.Stops.{when, first_some, file_stop, bytes_in, changes_in, dump_in, table_stops, raw_stops, bank_stops}
use Rattle.norimage.specs.Words.{Make}
use Rattle.norimage.specs.declared.stop.File.TheVariants.{Table as TableFile}
use Rattle.norimage.specs.declared.stop.Stop.{Stop}
use Rattle.norimage.specs.declared.stop.Stop.TheVariants.{BadTable, BadChange, BadWiring, Usage, TooLarge, NoMemory}
use Rattle.norimage.proofs.Shelves.{free_then, stop_then, after_none, at_some, both_then, wrong_so, stops_later}

-- ---- the table

-- a file that isn't too large stops nothing
table_first : (file : List ℕ) → length file ≤ 2 ^ 30 → first_some (table_stops (Some file)) ≡ option_map BadTable (table_error file)
table_first file few =
    after_none (file_stop TableFile (Some file)) (option_map BadTable (table_error file) ∷ []) (ap (λ (b : Bool). when b (TooLarge TableFile)) (fails_behind (2 ^ 30) (length file) few))
    ∙ alone (option_map BadTable (table_error file))
  where
    alone : (x : Option Stop) → first_some (x ∷ []) ≡ x
    alone None = refl
    alone (Some s) = refl

pub table_found : (told : Option FileMap) (name file table : List ℕ) → HasFile told name file → length file ≤ 2 ^ 30 → None ≡ table_error file → table ≡ table_of file
    → IfSome told (IsTableIn name table)
table_found told name file table has few fine is =
    IfSome_then told has (λ files there. record {
      free = ap (λ (f : Option (List ℕ)). first_some (table_stops f)) there ∙ (table_first file few ∙ ap (λ (e : Option TableError). option_map BadTable e) (sym fine));
      is = is ∙ ap (λ (f : Option (List ℕ)). table_of (bytes_in f)) (sym there);
    })

pub table_wrong : (was now : ShelfState) (name file : List ℕ) (error : TableError) → HasFile was.files name file → length file ≤ 2 ^ 30 → Some error ≡ table_error file
    → StopsBy (λ files. first_some (table_stops (files name))) was now (BadTable error)
table_wrong was now name file error has few is =
    inl (IfSome_then was.files has (λ files there.
    ap (λ (f : Option (List ℕ)). first_some (table_stops f)) there ∙ (table_first file few ∙ ap (λ (e : Option TableError). option_map BadTable e) (sym is))))

-- ---- the bank

module _ (g : Geometry) (changes : List Change) (table_name raw_name : List ℕ) where
  -- what is wrong with the files
  wrong : FileMap → Option Stop
  wrong files = first_some (bank_stops g changes raw_name (files table_name) (files raw_name))

  behind : FileMap → ℕ → List (Option Stop)
  behind files size = option_map BadChange (change_error g size changes) ∷ raw_stops raw_name (files raw_name) (g.lanes * size)

  past_table : (files : FileMap) (table : List ℕ) → IsTableIn table_name table files
      → first_some (bank_stops g changes raw_name (files table_name) (files raw_name))
      ≡ first_some (option_map BadChange (change_error g (chip_size table) changes) ∷ raw_stops raw_name (files raw_name) (g.lanes * chip_size table))
  past_table files table found =
      free_then (table_stops (files table_name))
      (option_map BadChange (change_error g (chip_size (table_of (bytes_in (files table_name)))) changes) ∷ raw_stops raw_name (files raw_name) (g.lanes * chip_size (table_of (bytes_in (files table_name)))))
      found.free
      ∙ ap (λ (t : List ℕ). first_some (option_map BadChange (change_error g (chip_size t) changes) ∷ raw_stops raw_name (files raw_name) (g.lanes * chip_size t))) (sym found.is)

  past_changes : (files : FileMap) (table : List ℕ) → IsTableIn table_name table files → change_error g (chip_size table) changes ≡ None
      → first_some (bank_stops g changes raw_name (files table_name) (files raw_name)) ≡ first_some (raw_stops raw_name (files raw_name) (g.lanes * chip_size table))
  past_changes files table found fit =
      past_table files table found
      ∙ after_none (option_map BadChange (change_error g (chip_size table) changes)) (raw_stops raw_name (files raw_name) (g.lanes * chip_size table))
      (ap (λ (e : Option ChangeError). option_map BadChange e) fit)

  pub stopped_by_table : (was now : ShelfState) (stop : Stop) → StopsBy (λ files. first_some (table_stops (files table_name))) was now stop
      → StopsBy (λ files. first_some (bank_stops g changes raw_name (files table_name) (files raw_name))) was now stop
  stopped_by_table was now stop (inl some) =
      inl (IfSome_then was.files some (λ files is.
      stop_then (table_stops (files table_name))
      (option_map BadChange (change_error g (chip_size (table_of (bytes_in (files table_name)))) changes) ∷ raw_stops raw_name (files raw_name) (g.lanes * chip_size (table_of (bytes_in (files table_name)))))
      stop is))
  stopped_by_table was now stop (inr mishap) = inr mishap

  pub stopped_by_changes : (was now : ShelfState) (table : List ℕ) (size : ℕ) (stop : Stop) → IfSome was.files (IsTableIn table_name table) → size ≡ chip_size table
      → (option_map BadChange (change_error g size changes) ≡ Some stop) ⊎ (stop ≡ NoMemory)
      → StopsBy (λ files. first_some (bank_stops g changes raw_name (files table_name) (files raw_name))) was now stop
  stopped_by_changes was now table size stop found sized (inl some) =
      inl (IfSome_then was.files found (λ files is.
      past_table files table is
      ∙ at_some (option_map BadChange (change_error g (chip_size table) changes)) (raw_stops raw_name (files raw_name) (g.lanes * chip_size table)) stop
      (ap (λ (n : ℕ). option_map BadChange (change_error g n changes)) (sym sized) ∙ some)))
  stopped_by_changes was now table size stop found sized (inr lacks) = inr (inr lacks)

  pub stopped_by_raw : (was then now : ShelfState) (table : List ℕ) (size : ℕ) (stop : Stop) → IfSome was.files (IsTableIn table_name table) → size ≡ chip_size table
      → change_error g size changes ≡ None → then.files ≡ was.files → was.faults ≤ then.faults
      → StopsBy (λ files. first_some (raw_stops raw_name (files raw_name) (g.lanes * size))) then now stop
      → StopsBy (λ files. first_some (bank_stops g changes raw_name (files table_name) (files raw_name))) was now stop
  stopped_by_raw was then now table size stop found sized fit same later stops =
      let fits : change_error g (chip_size table) changes ≡ None = ap (λ (n : ℕ). change_error g n changes) (sym sized) ∙ fit in
      wrong_so (λ files. first_some (raw_stops raw_name (files raw_name) (g.lanes * size))) (λ files. first_some (bank_stops g changes raw_name (files table_name) (files raw_name))) was now stop
      (IfSome_then was.files found (λ files is wrong.
      past_changes files table is fits ∙ (ap (λ (n : ℕ). first_some (raw_stops raw_name (files raw_name) (g.lanes * n))) (sym sized) ∙ wrong)))
      (stops_later (λ files. first_some (raw_stops raw_name (files raw_name) (g.lanes * size))) was then now stop same later stops)

  pub made_in : (width : ℕ) (told : Option FileMap) (table : List ℕ) (size : ℕ) (raw bytes : List ℕ) → IfSome told (IsTableIn table_name table) → size ≡ chip_size table
      → change_error g size changes ≡ None → IfSome told (IsRawIn raw_name (g.lanes * size) raw) → IsMade width g table changes raw bytes
      → IfSome told (IsMadeIn width g changes table_name raw_name bytes)
  made_in width told table size raw bytes found sized fit dump made =
      both_then told (IsTableIn table_name table) (IsRawIn raw_name (g.lanes * size) raw) (IsMadeIn width g changes table_name raw_name bytes) found dump
      (λ files t r.
      let fits : change_error g (chip_size table) changes ≡ None = ap (λ (n : ℕ). change_error g n changes) (sym sized) ∙ fit in
      let free : first_some (raw_stops raw_name (files raw_name) (g.lanes * chip_size table)) ≡ None =
      ap (λ (n : ℕ). first_some (raw_stops raw_name (files raw_name) (g.lanes * n))) (sym sized) ∙ r.free in
      let dumped : raw ≡ dump_in raw_name (bytes_in (files raw_name)) (g.lanes * chip_size table) = r.is ∙ ap (λ (n : ℕ). dump_in raw_name (bytes_in (files raw_name)) (g.lanes * n)) sized in
      record {
        free = past_changes files table t fits ∙ free;
        made = subst (λ (tb : List ℕ). IsMade width g tb changes (dump_in raw_name (bytes_in (files raw_name)) (g.lanes * chip_size tb)) bytes) t.is
            (subst (λ (rs : List ℕ). IsMade width g table changes rs bytes) dumped made);
      })

-- ---- the whole command

module _ (out : List ℕ) (width : ℕ) (device : Device) (lanes : ℕ) (table raw : List ℕ) (options : List (String Global)) (changes : List Change) (asked : changes_of options ≡ Some changes) where
  some_changes : changes ≡ changes_in (changes_of options)
  some_changes = ap changes_in (sym asked)

  -- past the options and the wiring
  past_words : (files : FileMap) → is_wiring width lanes device ≡ true
      → first_some (when (is_none (changes_of options)) Usage ∷ when (not (is_wiring width lanes device)) BadWiring
      ∷ bank_stops (record { lanes = lanes; device = device }) (changes_in (changes_of options)) raw (files table) (files raw))
      ≡ first_some (bank_stops (record { lanes = lanes; device = device }) changes raw (files table) (files raw))
  past_words files wired =
      ap (λ (o : Option (List Change)). first_some (when (is_none o) Usage ∷ when (not (is_wiring width lanes device)) BadWiring
      ∷ bank_stops (record { lanes = lanes; device = device }) (changes_in o) raw (files table) (files raw))) asked
      ∙ ap (λ (b : Bool). first_some (when (not b) BadWiring ∷ bank_stops (record { lanes = lanes; device = device }) changes raw (files table) (files raw))) wired

  pub made_asked : (told : Option FileMap) (bytes : List ℕ) → is_wiring width lanes device ≡ true → IfSome told (IsMadeIn width (record { lanes = lanes; device = device }) changes table raw bytes)
      → IfSome told (GivesIn (Make out width device lanes table raw options) bytes)
  made_asked told bytes wired made =
      IfSome_then told made (λ files is. record {
        free = past_words files wired ∙ is.free;
        answers = subst (λ (cs : List Change). IsMade width (record { lanes = lanes; device = device }) (table_of (bytes_in (files table))) cs
            (dump_in raw (bytes_in (files raw)) (lanes * chip_size (table_of (bytes_in (files table))))) bytes) some_changes is.made;
      })

  pub stopped_asked : (was now : ShelfState) (stop : Stop) → is_wiring width lanes device ≡ true
      → StopsBy (λ files. first_some (bank_stops (record { lanes = lanes; device = device }) changes raw (files table) (files raw))) was now stop
      → Stops (Make out width device lanes table raw options) was now stop
  stopped_asked was now stop wired (inl some) = inl (IfSome_then was.files some (λ files is. past_words files wired ∙ is))
  stopped_asked was now stop wired (inr mishap) = inr mishap
