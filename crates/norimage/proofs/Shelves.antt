-- What stops a command, by the files of a shelf.
use Rattle.std.proofs.Common.{◌≡◌, ◌≤◌, inl, inr, List, [], ◌∷◌, ◌++◌, Option, Some, None, refl, ap, subst, arith}
use Rattle.std.specs.Option.{IfSome}
use Rattle.nor_io.specs.Files.{FileMap, ShelfState}
use Rattle.norimage.specs.Ends.{IsMishap, StopsBy}
use Rattle.norimage.specs.Stops.{first_some}
use Rattle.norimage.specs.declared.stop.Stop.{Stop}

-- ---- lists of stops

pub free_then : (l more : List (Option Stop)) → first_some l ≡ None → first_some (l ++ more) ≡ first_some more
free_then [] more free = refl
free_then (None ∷ l) more free = free_then l more free
free_then (Some s ∷ l) more free = absurd (let x = free in cc)

pub stop_then : (l more : List (Option Stop)) (stop : Stop) → first_some l ≡ Some stop → first_some (l ++ more) ≡ Some stop
stop_then [] more stop is = absurd (let x = is in cc)
stop_then (None ∷ l) more stop is = stop_then l more stop is
stop_then (Some s ∷ l) more stop is = is

pub after_none : (x : Option Stop) (later : List (Option Stop)) → x ≡ None → first_some (x ∷ later) ≡ first_some later
after_none x later none = ap (λ (o : Option Stop). first_some (o ∷ later)) none

pub at_some : (x : Option Stop) (later : List (Option Stop)) (stop : Stop) → x ≡ Some stop → first_some (x ∷ later) ≡ Some stop
at_some x later stop some = ap (λ (o : Option Stop). first_some (o ∷ later)) some

-- ---- facts of the files, where they are told

pub both_then : (told : Option FileMap) (P Q R : FileMap → Type 0) → IfSome told P → IfSome told Q → ((files : FileMap) → P files → Q files → R files) → IfSome told R
both_then None P Q R p q follows = tt
both_then (Some files) P Q R p q follows = follows files p q

-- ---- what stops it

-- what is wrong with some files is wrong with more
pub wrong_so : (wrong more : FileMap → Option Stop) (was now : ShelfState) (stop : Stop) → IfSome was.files (λ files. wrong files ≡ Some stop → more files ≡ Some stop)
    → StopsBy wrong was now stop → StopsBy more was now stop
wrong_so wrong more was now stop so (inl some) =
    inl (both_then was.files (λ files. wrong files ≡ Some stop → more files ≡ Some stop) (λ files. wrong files ≡ Some stop) (λ files. more files ≡ Some stop) so some (λ files follows is. follows is))
wrong_so wrong more was now stop so (inr mishap) = inr mishap

-- a mishap after the shelf has failed more often
mishap_later : (was then now : ShelfState) (stop : Stop) → was.faults ≤ then.faults → IsMishap then now stop → IsMishap was now stop
mishap_later was then now stop later (inl fault) = inl (fault.0, omega (arith, fault.1))
mishap_later was then now stop later (inr lacks) = inr lacks

-- what stops it at a shelf that has the same files
pub stops_later : (wrong : FileMap → Option Stop) (was then now : ShelfState) (stop : Stop) → then.files ≡ was.files → was.faults ≤ then.faults
    → StopsBy wrong then now stop → StopsBy wrong was now stop
stops_later wrong was then now stop same later (inl some) = inl (subst (λ (told : Option FileMap). IfSome told (λ files. wrong files ≡ Some stop)) same some)
stops_later wrong was then now stop same later (inr mishap) = inr (mishap_later was then now stop later mishap)
