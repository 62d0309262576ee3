-- What is held behind what was passed on.
use Rattle.std.proofs.Common.{◌≡◌, ◌≤◌, ◌∙◌, ℕ, List, [], ◌++◌, length, take, Option, Some, None, Ok, Err, refl, sym, ap, subst, arith, append_assoc, append-nil}
use Rattle.std.proofs.lemmas.List.{take-append-le, length-take}
use Rattle.std.proofs.Math.Seq.{take-append_seam}
use Rattle.nor_io.specs.Files.{SinkState, Rose, Appends, AppendsPart}
use Rattle.nor_io.specs.Puts.{PutsText}
use Rattle.nor_io.specs.declared.sink.SinkError.{SinkError}
use Rattle.nor_io.specs.declared.sink.SinkError.TheVariants.{Fault, NoMemory}
use Rattle.nor_io.proofs.Pieces.{AppendsPart-none}
use Rattle.nor_io.proofs.Putting.{nothing_put}
use Rattle.nor_buffer.specs.Held.{with_held, IsFirst, IsFirst-same}

-- nothing is held
pub held_none : (told : Option (List ℕ)) → with_held told [] ≡ told
held_none None = refl
held_none (Some taken) = ap (λ (r : List ℕ). Some r) (append-nil taken)

pub first_held : (told : Option (List ℕ)) → IsFirst told (with_held told [])
first_held told = subst (λ (w : Option (List ℕ)). IsFirst told w) (sym (held_none told)) (IsFirst-same told)

-- more is held
pub held_more : (told : Option (List ℕ)) (held bytes : List ℕ) → Appends (with_held told held) bytes (with_held told (held ++ bytes))
held_more None held bytes = refl
held_more (Some taken) held bytes = ap (λ (r : List ℕ). Some r) (sym (append_assoc taken held bytes))

no_some : {X : Type 0} (x : X) → None ≡ Some x → ⊥
no_some x is = cc

some_is : (x y : List ℕ) → Some x ≡ Some y → x ≡ y
some_is x y is = cc

take_more : (n : ℕ) (whole more : List ℕ) → length (take n whole) ≡ n → take n (whole ++ more) ≡ take n whole
take_more n whole more is =
    let short : n ≤ length whole = let l = length-take n whole in omega arith in
    take-append-le n whole more short

first_longer : (out : Option (List ℕ)) (whole more : List ℕ) → IsFirst out (Some whole) → IsFirst out (Some (whole ++ more))
first_longer None whole more is = absurd (no_some (take 0 whole) (sym is))
first_longer (Some bytes) whole more is =
    let same : take (length bytes) whole ≡ bytes = some_is (take (length bytes) whole) bytes is in
    ap (λ (r : List ℕ). Some r) (take_more (length bytes) whole more (ap (λ (r : List ℕ). length r) same) ∙ same)

pub first_more : (out told : Option (List ℕ)) (held bytes : List ℕ) → IsFirst out (with_held told held) → IsFirst out (with_held told (held ++ bytes))
first_more out None held bytes is = is
first_more out (Some taken) held bytes is =
    subst (λ (w : List ℕ). IsFirst out (Some w)) (append_assoc taken held bytes) (first_longer out (taken ++ held) bytes is)

-- what is held was put in part
pub first_part : (out told : Option (List ℕ)) (held : List ℕ) → AppendsPart told held out → IsFirst out (with_held told held)
first_part out None held (part, rest, is) = subst (λ (o : Option (List ℕ)). IsFirst o None) (sym is) refl
first_part out (Some taken) held (part, rest, is) =
    subst (λ (o : Option (List ℕ)). IsFirst o (Some (taken ++ held))) (sym is)
    (subst (λ (w : List ℕ). IsFirst (Some (taken ++ part)) (Some (taken ++ w))) rest.1
    (subst (λ (w : List ℕ). IsFirst (Some (taken ++ part)) (Some w)) (append_assoc taken part rest.0)
    (ap (λ (r : List ℕ). Some r) (take-append_seam (taken ++ part) rest.0))))

-- what is held was put whole
pub held_put : (told out : Option (List ℕ)) (held : List ℕ) → Appends told held out → with_held out [] ≡ with_held told held
held_put None out held is = ap (λ (o : Option (List ℕ)). with_held o []) is
held_put (Some taken) out held is = ap (λ (o : Option (List ℕ)). with_held o []) is ∙ ap (λ (r : List ℕ). Some r) (append-nil (taken ++ held))

-- nothing more was taken
pub puts_none : (text : List ℕ) (a b : SinkState) (e : SinkError) → b.taken ≡ a.taken → (e ≡ Fault → Rose a.faults b.faults) → PutsText text a b (Err e)
puts_none text a b Fault same rose =
    (rose refl, subst (λ (t : Option (List ℕ)). AppendsPart a.taken text t) (sym same) (AppendsPart-none a.taken text))
puts_none text a b NoMemory same rose = subst (λ (t : Option (List ℕ)). AppendsPart a.taken text t) (sym same) (AppendsPart-none a.taken text)

pub puts_no_text : (a b : SinkState) → b.taken ≡ a.taken → PutsText [] a b (Ok tt)
puts_no_text a b same = subst (λ (t : Option (List ℕ)). Appends a.taken [] t) (sym same) (nothing_put a.taken)
