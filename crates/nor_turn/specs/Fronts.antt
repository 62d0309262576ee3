-- The history of a lock: who made which entry, in order.
use Rattle.std.specs.Prelude.{ℕ, List, length, cond, leb}

-- the name of a pass: the first pass has the empty list, and the pass that is split off as number k, from 0, has its parent's name with k at the end
abbrev pub Name : Type 0
Name = List ℕ

-- a beginning of the history, beside the value that the lock was made with: the entries in order, each with the name of the pass that made it
abbrev pub Front : Type 0 → Type 0
Front E = List (Name × E)

-- the longer of two lists, and the first where they are as long
abbrev pub longer : {A : Type 0} → List A → List A → List A
longer xs ys = cond (leb (length ys) (length xs)) xs ys
