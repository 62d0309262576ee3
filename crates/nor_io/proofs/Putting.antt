-- Texts that are put one after the other.
use Rattle.std.proofs.Common.{◌≡◌, ◌≤◌, ◌∙◌, ◌/◌, ◌%◌, ℕ, suc, List, [], ◌∷◌, ◌++◌, length, Option, Some, None, Result, Ok, Err, refl, sym, ap, subst, arith, append_assoc, append-nil, get_or, Bool, true, false, ◌==◌}
use Rattle.hex.specs.Hex.{encode_with, encode_lower, lower_digits}
use Rattle.nor_io.specs.declared.sink.SinkError.{SinkError}
use Rattle.nor_io.specs.declared.sink.SinkError.TheVariants.{Fault, NoMemory}
use Rattle.nor_io.specs.Files.{SinkState, Rose, Appends, AppendsPart}
use Rattle.nor_io.specs.Puts.{PutsText}
use Rattle.nor_io.proofs.Pieces.{Appends-append, AppendsPart-append, AppendsPart-more, AppendsPart-none}

pub rose_later : (f g h : ℕ) → f ≤ g → Rose g h → Rose f h
rose_later f g h le rose = omega arith

-- the second is put after the first
pub puts_then : (x y : List ℕ) (a b c : SinkState) (r : Result (Unit {0}) SinkError) → Appends a.taken x b.taken → a.faults ≤ b.faults
    → PutsText y b c r → PutsText (x ++ y) a c r
puts_then x y a b c (Ok done) first le next = Appends-append a.taken b.taken c.taken x y first next
puts_then x y a b c (Err Fault) first le next =
    (rose_later a.faults b.faults c.faults le next.0, AppendsPart-append a.taken b.taken c.taken x y first next.1)
puts_then x y a b c (Err NoMemory) first le next = AppendsPart-append a.taken b.taken c.taken x y first next

-- the first isn't put whole
pub puts_stop : (x y : List ℕ) (a b : SinkState) (e : SinkError) → PutsText x a b (Err e) → PutsText (x ++ y) a b (Err e)
puts_stop x y a b Fault puts = (puts.0, AppendsPart-more a.taken b.taken x y puts.1)
puts_stop x y a b NoMemory puts = AppendsPart-more a.taken b.taken x y puts

-- the same of a result that `?` made
pub puts_stop_as : (x y : List ℕ) (a b : SinkState) (e : SinkError) (r : Result (Unit {0}) SinkError) → PutsText x a b (Err e) → r ≡ Err e → PutsText (x ++ y) a b r
puts_stop_as x y a b e r puts is = subst (λ (s : Result (Unit {0}) SinkError). PutsText (x ++ y) a b s) (sym is) (puts_stop x y a b e puts)

-- nothing was taken for want of memory
pub puts_nothing : (text : List ℕ) (a b : SinkState) (r : Result (Unit {0}) SinkError) → b.taken ≡ a.taken → r ≡ Err NoMemory → PutsText text a b r
puts_nothing text a b r same is =
    subst (λ (s : Result (Unit {0}) SinkError). PutsText text a b s) (sym is)
    (subst (λ (t : Option (List ℕ)). AppendsPart a.taken text t) (sym same) (AppendsPart-none a.taken text))

-- a first part of a text has been put, and this is the rest
pub record PutSoFar (all rest : List ℕ) (before after : SinkState) : Type 0 where
  pub done : List ℕ
  pub whole : done ++ rest ≡ all
  pub text : Appends before.taken done after.taken
  pub later : before.faults ≤ after.faults

pub nothing_put : (before : Option (List ℕ)) → Appends before [] before
nothing_put None = refl
nothing_put (Some before) = ap (λ (r : List ℕ). Some r) (sym (append-nil before))

pub more_put : (all rest piece left : List ℕ) (a b c : SinkState) → PutSoFar all rest a b → rest ≡ piece ++ left
    → Appends b.taken piece c.taken → b.faults ≤ c.faults → PutSoFar all left a c
more_put all rest piece left a b c so is next le = record {
  done = so.done ++ piece;
  whole = append_assoc so.done piece left ∙ ap (λ (r : List ℕ). so.done ++ r) (sym is) ∙ so.whole;
  text = Appends-append a.taken b.taken c.taken so.done piece so.text next;
  later = let before = so.later in omega arith;
}

pub stop_put : (all rest piece left : List ℕ) (a b c : SinkState) (e : SinkError) (r : Result (Unit {0}) SinkError)
    → PutSoFar all rest a b → rest ≡ piece ++ left → PutsText piece b c (Err e) → r ≡ Err e → PutsText all a c r
stop_put all rest piece left a b c e r so is puts failed =
    let whole : (so.done ++ piece) ++ left ≡ all = append_assoc so.done piece left ∙ ap (λ (r : List ℕ). so.done ++ r) (sym is) ∙ so.whole in
    subst (λ (t : List ℕ). PutsText t a c r) whole
    (puts_stop_as (so.done ++ piece) left a c e r (puts_then so.done piece a b c (Err e) so.text so.later puts) failed)

pub all_put : (all rest : List ℕ) (a b : SinkState) → PutSoFar all rest a b → rest ≡ [] → Appends a.taken all b.taken
all_put all rest a b so is =
    subst (λ (t : List ℕ). Appends a.taken t b.taken) (sym (append-nil so.done) ∙ ap (λ (r : List ℕ). so.done ++ r) (sym is) ∙ so.whole) so.text

-- ---- hex text

pub encode-append : (t xs ys : List ℕ) → encode_with t (xs ++ ys) ≡ encode_with t xs ++ encode_with t ys
unfolding encode_with
encode-append t [] ys = refl
encode-append t (x ∷ xs) ys = ap (λ (r : List ℕ). get_or t (x / 16) 0 ∷ get_or t (x % 16) 0 ∷ r) (encode-append t xs ys)

pub encode-nil : encode_lower [] ≡ []
unfolding encode_with
encode-nil = refl

pub pieces_of : (rest front back : List ℕ) → front ++ back ≡ rest → encode_lower rest ≡ encode_lower front ++ encode_lower back
pieces_of rest front back is = ap encode_lower (sym is) ∙ encode-append lower_digits front back

true_false : true ≡ false → ⊥
true_false is = cc

not_zero : (n : ℕ) → (suc n == 0) ≡ false
not_zero n = grind arith

pub none_left : (xs : List ℕ) (b : Bool) → b ≡ (length xs == 0) → b ≡ true → xs ≡ []
none_left [] b is none = refl
none_left (x ∷ xs) b is none = absurd (true_false (sym none ∙ is ∙ not_zero (length xs)))
