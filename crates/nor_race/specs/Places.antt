-- Notes at the places that are their positions.
use Rattle.std.specs.Prelude.{◌≡◌, ◌⊎◌, ℕ, List, [], ◌∷◌, ◌++◌, length, slice_get, Some}
use Rattle.nor_race.specs.Noted.{NoteView, Noted}
use Rattle.nor_race.specs.Ran.{Team}

-- the notes of all workers
abbrev pub all_of : List Team → List Noted
all_of [] = []
all_of (team ∷ teams) = team.notes ++ all_of teams

-- it is one of them
abbrev pub IsOneOf : List Noted → Noted → Type 0
IsOneOf notes x = (j : ℕ) × (slice_get notes j ≡ Some x)

-- one of the notes has this position, and says this
pub record IsAt (notes : List Noted) (place : ℕ) (note : NoteView) : Type 0 where
  pub noted : Noted
  pub one : IsOneOf notes noted
  pub position : noted.position ≡ place
  pub is : noted.note ≡ note

-- Each note was put at its position, where one with this position stands now. What stands elsewhere is as it was.
pub record Placed (notes : List Noted) (old new : List NoteView) : Type 0 where
  pub size : length new ≡ length old
  pub put : (x : Noted) → IsOneOf notes x
      → (there : NoteView) × (slice_get new x.position ≡ Some there) × IsAt notes x.position there
  pub each : (place : ℕ) (there : NoteView) → slice_get new place ≡ Some there
      → (slice_get old place ≡ Some there) ⊎ IsAt notes place there
