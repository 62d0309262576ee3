-- What a shelf and a sink tell of themselves, and how a call changes it.
use Rattle.std.specs.Prelude.{◌≡◌, ◌≢◌, ◌≤◌, ◌<◌, ◌+◌, ◌-◌, ◌^◌, ℕ, min, List, ◌++◌, length, Option, Some, None, IfSome, IsSomeAnd}

-- files by their names: the bytes of each name that has a file. Names are bytes too
abbrev pub FileMap : Type 0
FileMap = List ℕ → Option (List ℕ)

-- its files, where the shelf tells them, and how often it has failed
pub record ShelfState : Type 0 where
  pub files : Option FileMap
  pub faults : ℕ

-- the bytes that a sink has taken, where it tells them, and how often it has failed
pub record SinkState : Type 0 where
  pub taken : Option (List ℕ)
  pub faults : ℕ

-- a count has risen, or stands at its last value
abbrev pub Rose : ℕ → ℕ → Type 0
Rose before now = min (before + 1) (2 ^ 64 - 1) ≤ now

-- where the files are told, the name has these bytes
abbrev pub HasFile : Option FileMap → List ℕ → List ℕ → Type 0
HasFile told name bytes = IfSome told (λ files. files name ≡ Some bytes)

-- where the files are told, none has the name
abbrev pub IsAbsent : Option FileMap → List ℕ → Type 0
IsAbsent told name = IfSome told (λ files. files name ≡ None)

-- where the files are told, the one of the name has more than 2 ^ 30 bytes
abbrev pub IsTooLarge : Option FileMap → List ℕ → Type 0
IsTooLarge told name = IfSome told (λ files. IsSomeAnd (files name) (λ bytes. 2 ^ 30 < length bytes))

-- the name now has these bytes, and every other name has what it had
pub record Puts (old : FileMap) (name bytes : List ℕ) (new : FileMap) : Type 0 where
  pub named : new name ≡ Some bytes
  pub others : (other : List ℕ) → other ≢ name → new other ≡ old other

-- the bytes are put under the name, where the files are told; a shelf that tells none still tells none
abbrev pub Saves : Option FileMap → List ℕ → List ℕ → Option FileMap → Type 0
Saves None name bytes new = new ≡ None
Saves (Some old) name bytes new = IsSomeAnd new (Puts old name bytes)

-- a list is the first part of another
abbrev pub IsPrefix : {X : Type 0} → List X → List X → Type 0
IsPrefix {X} part whole = (rest : List X) × (part ++ rest ≡ whole)

-- the bytes stand behind those taken before, where these are told; a sink that tells none still tells none
abbrev pub Appends : Option (List ℕ) → List ℕ → Option (List ℕ) → Type 0
Appends None bytes new = new ≡ None
Appends (Some before) bytes new = new ≡ Some (before ++ bytes)

-- a first part of the bytes stands there
abbrev pub AppendsPart : Option (List ℕ) → List ℕ → Option (List ℕ) → Type 0
AppendsPart old bytes new = (part : List ℕ) × IsPrefix part bytes × Appends old part new
