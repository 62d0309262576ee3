-- Pieces that a sink takes one after the other.
use Rattle.std.proofs.Common.{List, ℕ, [], ◌++◌, Option, Some, None, refl, ap, sym, ◌∙◌, append_assoc, append-nil, subst}
use Rattle.nor_io.specs.Files.{Appends, AppendsPart}

-- two pieces taken one after the other are taken as one
pub Appends-append : (a b c : Option (List ℕ)) (x y : List ℕ) → Appends a x b → Appends b y c → Appends a (x ++ y) c
Appends-append None b c x y first next = let next' = subst (λ v. Appends v y c) first next in next'
Appends-append (Some before) b c x y first next =
    let next' = subst (λ v. Appends v y c) first next in
    next' ∙ ap (λ v. Some v) (append_assoc before x y)

-- after a piece, a part of the next is a part of both together
pub AppendsPart-append : (a b c : Option (List ℕ)) (x y : List ℕ) → Appends a x b → AppendsPart b y c → AppendsPart a (x ++ y) c
AppendsPart-append a b c x y first next =
    (x ++ next.0, (next.1.0, append_assoc x next.0 next.1.0 ∙ ap (λ v. x ++ v) next.1.1), Appends-append a b c x next.0 first next.2)

-- a part of a piece is a part of all that begins with it
pub AppendsPart-more : (a b : Option (List ℕ)) (x y : List ℕ) → AppendsPart a x b → AppendsPart a (x ++ y) b
AppendsPart-more a b x y part =
    (part.0, (part.1.0 ++ y, sym (append_assoc part.0 part.1.0 y) ∙ ap (λ v. v ++ y) part.1.1), part.2)

-- a whole piece is a part of itself
pub AppendsPart-whole : (a b : Option (List ℕ)) (x : List ℕ) → Appends a x b → AppendsPart a x b
AppendsPart-whole a b x whole = (x, ([], append-nil x), whole)

-- where nothing was taken, a part of any bytes was
pub AppendsPart-none : (a : Option (List ℕ)) (x : List ℕ) → AppendsPart a x a
AppendsPart-none None x = ([], (x, refl), refl)
AppendsPart-none (Some before) x = ([], (x, refl), ap (λ v. Some v) (sym (append-nil before)))
