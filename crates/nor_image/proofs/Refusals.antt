-- The first refusal among fields.
use Rattle.std.proofs.Common.{◌≡◌, ◌≢◌, ◌<◌, ◌≤◌, ◌⊎◌, inl, inr, ◌+◌, ℕ, zero, suc, List, [], ◌∷◌, ◌++◌, length, get_or, Bool, true, false, nat_lt, refl, sym, ap, subst, ◌∙◌, arith, if◌then◌else◌, Option, Some, None}
use Rattle.std.proofs.lemmas.Bool.{cases_eq}
use Rattle.std.proofs.lemmas.Bool.Decides.{nat_tests}
use Rattle.std.specs.Option.{option_or}
use Rattle.nor_image.specs.Image.{Field, any_field, tested_field, first_refusal, refusal_of, trailing}
use Rattle.nor_image.specs.declared.error.ImageError.{ImageError}
use Rattle.nor_image.specs.declared.error.ImageError.TheVariants.{BadHeader, Truncated, Trailing}

-- nothing is refused first, so what follows decides
pub or_none : (p q : Option ImageError) → p ≡ None → option_or p q ≡ q
or_none p q none = subst (λ (o : Option ImageError). option_or o q ≡ q) (sym none) refl

-- what is refused first decides
pub or_some : (p q : Option ImageError) (e : ImageError) → p ≡ Some e → option_or p q ≡ Some e
or_some p q e some = subst (λ (o : Option ImageError). option_or o q ≡ Some e) (sym some) refl

-- the first of three
or_assoc : (p q r : Option ImageError) → option_or p (option_or q r) ≡ option_or (option_or p q) r
or_assoc None q r = refl
or_assoc (Some e) q r = refl

pub first_refusal-append : (file : List ℕ) (xs ys : List Field) → first_refusal file (xs ++ ys) ≡ option_or (first_refusal file xs) (first_refusal file ys)
first_refusal-append file [] ys = refl
first_refusal-append file (x ∷ xs) ys =
    ap (option_or (refusal_of file x)) (first_refusal-append file xs ys)
    ∙ or_assoc (refusal_of file x) (first_refusal file xs) (first_refusal file ys)

-- the first fields are right, so the later ones decide
pub goes_on : (file : List ℕ) (xs ys : List Field) → first_refusal file xs ≡ None → first_refusal file (xs ++ ys) ≡ first_refusal file ys
goes_on file xs ys none = first_refusal-append file xs ys ∙ or_none (first_refusal file xs) (first_refusal file ys) none

-- a refusal among the first fields stands
pub stops : (file : List ℕ) (xs ys : List Field) (e : ImageError) → first_refusal file xs ≡ Some e → first_refusal file (xs ++ ys) ≡ Some e
stops file xs ys e some = first_refusal-append file xs ys ∙ or_some (first_refusal file xs) (first_refusal file ys) e some

-- one step of `stays`: step n is the one that is refused, or an earlier one was
stays_at : (file : List ℕ) (F G : ℕ → List Field) (e : ImageError) (k n : ℕ) → F (suc n) ≡ F n ++ G n → first_refusal file (F k) ≡ None → first_refusal file (G k) ≡ Some e
    → (k ≢ n → first_refusal file (F n) ≡ Some e) → (k ≡ n) ⊎ (k ≢ n) → first_refusal file (F (suc n)) ≡ Some e
stays_at file F G e k n step none some before (inl is) =
    ap (first_refusal file) step
    ∙ (goes_on file (F n) (G n) (subst (λ (m : ℕ). first_refusal file (F m) ≡ None) is none)
    ∙ subst (λ (m : ℕ). first_refusal file (G m) ≡ Some e) is some)
stays_at file F G e k n step none some before (inr apart) = ap (first_refusal file) step ∙ stops file (F n) (G n) e (before apart)

-- of fields that come step by step, the first refusal is that of the first step that has one
pub stays : (file : List ℕ) (F G : ℕ → List Field) → ((k : ℕ) → F (suc k) ≡ F k ++ G k) → (e : ImageError) (k n : ℕ) → k < n
    → first_refusal file (F k) ≡ None → first_refusal file (G k) ≡ Some e → first_refusal file (F n) ≡ Some e
stays file F G step e k zero below none some = absurd (omega arith)
stays file F G step e k (suc n) below none some =
    stays_at file F G e k n (step n) none some (λ apart. stays file F G step e k n (omega arith) none some) (cases_eq k n)

-- a field at the same place with the same size
pub any_at : (file : List ℕ) (a b n m : ℕ) → a ≡ b → n ≡ m → refusal_of file (any_field a n) ≡ refusal_of file (any_field b m)
any_at file a b n m p q = λ i. refusal_of file (any_field (p i) (q i))

-- the file goes on behind a place
pub goes_further : (file : List ℕ) (end : ℕ) → end < length file → trailing file end ≡ Some (Trailing end)
goes_further file end h =
    let longer : nat_lt end (length file) ≡ true = grind (arith, nat_tests) in
    rw longer refl

-- the file ends there
pub ends : (file : List ℕ) (end : ℕ) → length file ≤ end → trailing file end ≡ None
ends file end h =
    let not_longer : nat_lt end (length file) ≡ false = grind (arith, nat_tests) in
    rw not_longer refl

-- ---- what it says that nothing is refused

-- nothing is refused in either part
pub none_both : (p q : Option ImageError) → option_or p q ≡ None → (p ≡ None) × (q ≡ None)
none_both None q h = (refl, h)
none_both (Some e) q h = absurd (cc)

pub whole_or : (short : Bool) (e : ImageError) (bad : Option ImageError) → (if short then Some e else bad) ≡ None → (short ≡ false) × (bad ≡ None)
whole_or true e bad h = absurd (cc)
whole_or false e bad h = (refl, h)

-- a field that isn't refused is whole
pub field_whole : (file : List ℕ) (field : Field) → refusal_of file field ≡ None → field.at + field.size ≤ length file
field_whole file field h =
    let enough = (whole_or (nat_lt (length file) (field.at + field.size)) (Truncated (length file)) field.bad h).0 in
    grind (arith, nat_tests)

pub passes : (valid : Bool) (e : ImageError) → (if valid then None else Some e) ≡ None → valid ≡ true
passes true e h = refl
passes false e h = absurd (cc)

-- and passes its test
pub field_passes : (file : List ℕ) (at size : ℕ) (valid : Bool) → refusal_of file (tested_field at size valid) ≡ None → valid ≡ true
field_passes file at size valid h =
    passes valid (BadHeader at) (whole_or (nat_lt (length file) (at + size)) (Truncated (length file)) (if valid then None else Some (BadHeader at)) h).1

-- field k of fields of which none is refused
pub field_none : (file : List ℕ) (fields : List Field) (k : ℕ) (d : Field) → first_refusal file fields ≡ None → k < length fields → refusal_of file (get_or fields k d) ≡ None
field_none file [] k d none below = absurd (omega arith)
field_none file (field ∷ fields) zero d none below = (none_both (refusal_of file field) (first_refusal file fields) none).0
field_none file (field ∷ fields) (suc k) d none below = field_none file fields k d (none_both (refusal_of file field) (first_refusal file fields) none).1 (omega arith)
