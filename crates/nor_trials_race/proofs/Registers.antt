-- The number written last.
use Rattle.std.proofs.Common.{◌≡◌, ℕ, List, [], ◌∷◌, ◌++◌, refl}
use Rattle.nor_trials_race.specs.Register.{last_of}

-- an entry more is the number written last
pub last_of_more : (d : ℕ) (ps : List (List ℕ × ℕ)) (p : List ℕ × ℕ) → last_of d (ps ++ p ∷ []) ≡ p.1
last_of_more d [] p = refl
last_of_more d (q ∷ qs) p = last_of_more q.1 qs p
