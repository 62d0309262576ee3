-- Histories grow at their end.
use Rattle.std.proofs.Common.{◌≡◌, List, [], ◌∷◌, ◌++◌, refl}
use Rattle.nor_array.specs.Array.{ArrayState}
use Rattle.nor_array.specs.After.{after, after_all}
use Rattle.nor_array.specs.Admits.{Admits}
use Rattle.nor_array.specs.Legal.{Facts, Agrees, Legal}
use Rattle.nor_array.specs.declared.entry.Entry.{Entry}

-- the array after one entry more
pub after_last : (a : ArrayState) (es : List Entry) (e : Entry) → after_all a (es ++ e ∷ []) ≡ after (after_all a es) e
after_last a [] e = refl
after_last a (x ∷ es) e = after_last (after a x) es e

-- what is legal has a legal front, and a last entry that fits it
pub legal_parts : (facts : Facts) (a : ArrayState) (es : List Entry) (e : Entry) → Legal facts a (es ++ e ∷ [])
    → Legal facts a es × Admits (after_all a es) e × Agrees facts (after_all a es) e
legal_parts facts a [] e legal = (tt, legal.0, legal.1)
legal_parts facts a (x ∷ es) e legal =
    let rest = legal_parts facts (after a x) es e legal.2 in ((legal.0, legal.1, rest.0), rest.1, rest.2)

-- and the other way round
pub legal_more : (facts : Facts) (a : ArrayState) (es : List Entry) (e : Entry) → Legal facts a es → Admits (after_all a es) e → Agrees facts (after_all a es) e
    → Legal facts a (es ++ e ∷ [])
legal_more facts a [] e legal admits agrees = (admits, agrees, tt)
legal_more facts a (x ∷ es) e legal admits agrees = (legal.0, legal.1, legal_more facts (after a x) es e legal.2 admits agrees)
