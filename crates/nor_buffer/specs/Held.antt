-- Bytes that a sink has taken and not passed on.
use Rattle.std.specs.Prelude.{◌≡◌, ℕ, List, [], ◌∷◌, ◌++◌, length, take, Option, Some, None, refl}
use Rattle.std.specs.Option.{option_map}
use Rattle.nor_io.specs.Files.{SinkState}
use mathlib.Core.Path.{ap}

-- what was passed on, and behind it what is held, where it is told
abbrev pub with_held : Option (List ℕ) → List ℕ → Option (List ℕ)
with_held told held = option_map (λ taken. taken ++ held) told

abbrev pub count_of : Option (List ℕ) → ℕ
count_of None = 0
count_of (Some bytes) = length bytes

-- What has come out is a first part of what was taken; or neither is told.
abbrev pub IsFirst : (out taken : Option (List ℕ)) → Type 0
IsFirst out taken = option_map (take (count_of out)) taken ≡ out

pub take-all : (bytes : List ℕ) → take (length bytes) bytes ≡ bytes
take-all [] = refl
take-all (byte ∷ bytes) = ap (λ (rest : List ℕ). byte ∷ rest) (take-all bytes)

pub IsFirst-same : (told : Option (List ℕ)) → IsFirst told told
IsFirst-same None = refl
IsFirst-same (Some bytes) = ap (λ (all : List ℕ). Some all) (take-all bytes)

-- What a buffer has taken: what the inner sink had when it was last emptied, and what is held. It counts its faults.
abbrev pub holding : SinkState → List ℕ → ℕ → SinkState
holding was held faults = record { taken = with_held was.taken held; faults = faults }
