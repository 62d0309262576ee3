-- The pieces of a program: runs of bus words that change, each in one buffer page and one block.
use Rattle.std.specs.Prelude.{◌≡◌, ◌<◌, ◌≤◌, ◌+◌, ◌*◌, ◌/◌, ◌==◌, ◌&&◌, min, max, nat_lt, ℕ, List, length, Bool, true, false, if◌then◌else◌}
use Rattle.nor_cell.specs.Chip.{block_at}
use Rattle.nor_cell.specs.Table.{buffer_units_of}
use Rattle.nor_cell.specs.declared.device.Work.TheVariants.{Word, Buffer}
use Rattle.nor_query.specs.Derived.{limit_of}
use Rattle.nor_probe.specs.declared.probing.Found.{Found}
use Rattle.nor_array.specs.Array.{ArrayState}
use Rattle.nor_array.specs.Admits.{would_change}
use Rattle.nor_bank.specs.Programs.{word_passes}
use Rattle.nor_bank.specs.Ranges.{MeetsWord}
use Rattle.nor_bank.specs.State.{BankState, word_bytes, blocks_of}

abbrev pub units_in : Found → ℕ
units_in f = buffer_units_of f.geometry.device f.query.buffer_log

-- ---- how often a lane may be read working

abbrev pub limit_in : Found → ℕ
limit_in f = limit_of f.query.times Word

abbrev pub load_limit_in : Found → ℕ
load_limit_in f = limit_of f.query.times Buffer

-- in a program, at least: the limit of a word; where the bank has a buffer, the lesser one
abbrev pub least_limit : Found → ℕ
least_limit f = if nat_lt 0 (units_in f) then min (limit_in f) (load_limit_in f) else limit_in f

-- and at most
abbrev pub most_limit : Found → ℕ
most_limit f = max (limit_in f) (load_limit_in f)

-- ---- runs

-- with a buffer, words u and v lie in one page of it and in one block
abbrev pub joins_in : (width : ℕ) → Found → (u v : ℕ) → Bool
joins_in width f u v =
    nat_lt 0 (units_in f) && (v / units_in f == u / units_in f)
    && (block_at (blocks_of f) (v * width) == block_at (blocks_of f) (u * width))

-- bus word u is one of the range, and would change
pub record WordChanges (width : ℕ) (test : ℕ → Bool) (at len u : ℕ) : Type 0 where
  pub meets : MeetsWord width u at len
  pub changes : word_passes width test u ≡ true

-- Words from `first` on that change and go together, and no more of them do: the run is maximal.
pub record IsRun (width : ℕ) (f : Found) (test : ℕ → Bool) (at len first words : ℕ) : Type 0 where
  pub some : 0 < words
  pub each : (u : ℕ) → first ≤ u → u < first + words → WordChanges width test at len u
  pub together : (u : ℕ) → first < u → u < first + words → joins_in width f first u ≡ true
  pub before : (u : ℕ) → u + 1 ≡ first → WordChanges width test at len u → joins_in width f u first ≡ false
  pub behind : WordChanges width test at len (first + words) → joins_in width f first (first + words) ≡ false

-- A failed program names its part of one run.
pub record FailsInRun (b : BankState) (a : ArrayState) (at : ℕ) (new : List ℕ) (from to : ℕ) : Type 0 where
  pub first : ℕ
  pub words : ℕ
  pub run : IsRun (word_bytes b.found) b.found (would_change a.bytes at new) at (length new) first words
  pub begins : from ≡ max at (first * word_bytes b.found)
  pub ends : to ≡ min (at + length new) ((first + words) * word_bytes b.found)
