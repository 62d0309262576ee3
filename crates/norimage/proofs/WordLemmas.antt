-- Words in their places.
use Rattle.std.proofs.Common.{◌≡◌, ◌<◌, ℕ, zero, suc, List, [], ◌∷◌, length, drop, slice_index_or, ap, arith, Option, Some, None}
use Rattle.std.specs.Prelude.{String, string_bytes}
use Rattle.std.specs.declared.alloc.Global.{Global}
use Rattle.nor_cell.specs.declared.device.Device.{Device}
use Rattle.norimage.specs.Words.{word_at, made_of, Make}

pub word_there : (words : List (String Global)) (k : ℕ) (w : String Global) → k < length words → w ≡ slice_index_or words k w → string_bytes w ≡ word_at words k
word_there [] k w below is = absurd (omega arith)
word_there (x ∷ xs) zero w below is = ap string_bytes is
word_there (x ∷ xs) (suc k) w below is = word_there xs k w (omega arith) is

-- what `make` asks for, by its parts
pub made : (words : List (String Global)) (a : Option ℕ) (b : Option Device) (c : Option ℕ) (out : List ℕ) (width : ℕ) (device : Device) (lanes : ℕ) (table raw : List ℕ)
    → a ≡ Some width → b ≡ Some device → c ≡ Some lanes → out ≡ word_at words 1 → table ≡ word_at words 5 → raw ≡ word_at words 6
    → (options : List (String Global)) → options ≡ drop 7 words → Make out width device lanes table raw options ≡ made_of words a b c
made words None b c out width device lanes table raw ea eb ec eo et er options ep = absurd (cc)
made words (Some w) None c out width device lanes table raw ea eb ec eo et er options ep = absurd (cc)
made words (Some w) (Some d) None out width device lanes table raw ea eb ec eo et er options ep = absurd (cc)
made words (Some w) (Some d) (Some l) out width device lanes table raw ea eb ec eo et er options ep = cc
