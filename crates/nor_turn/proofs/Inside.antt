-- What a lock and a pass hold, by what contracts see of them.
use Rattle.std.proofs.Common.{◌≡◌, ℕ, zero, suc, ◌+◌, ◌<◌, Bool, true, false, List, [], ◌∷◌, ◌++◌, length, get_or, sym, refl, ap, ◌∙◌, subst, ⊎_elim, inl, inr, arith, Option, Some, None, All, Contains}
use Rattle.std.specs.Prelude.{IsSome}
use mathlib.Core.Option.{some, some-ne-none, some-injective}
use mathlib.Core.List.{IsPrefix}
use lib.ListN.{get_elem?}
use Rattle.atomic_table.specs.Seated.{TableId}
use Rattle.atomic_table.specs.Table.{Me}
use Rattle.nor_turn.specs.declared.view.View.{View}
use Rattle.nor_turn.specs.Fronts.{Name, Front}
use Rattle.nor_turn.specs.Passes.{PassView, Owns, Continues}
use Rattle.nor_turn.specs.Inside.{ticket_word, pass_view, Agrees}
use Rattle.nor_turn.specs.Rule.{HasName, Strange}

-- no word is that of no ticket
none_word : (k : Option ℕ) → ticket_word k ≡ None → k ≡ None
none_word None e = refl
none_word (Some k) e = absurd (cc e)

-- a ticket that has a word is a number
some_word : (k : Option ℕ) → IsSome (ticket_word k) → (n : ℕ) × (k ≡ Some n)
some_word (Some k) h = (k, refl)
some_word None h = absurd (cc h)

-- who has no ticket has no turn
idle_by : (turn : Bool) (ticket : Option ℕ) → (turn ≡ true → IsSome ticket) → ticket ≡ None → turn ≡ false
idle_by false ticket drawn none = refl
idle_by true ticket drawn none = absurd (cc (subst (λ (k : Option ℕ). IsSome k) none (drawn refl)))

module _ {A : Type 0} where
  -- an element by its place
  at_or : (l : List A) (k : ℕ) (d : A) → k < length l → get_elem? l k ≡ some (get_or l k d)
  at_or [] k d short = absurd (omega arith)
  at_or (x ∷ xs) zero d short = refl
  at_or (x ∷ xs) (suc k) d short = at_or xs k d (omega arith)

  -- the place of an element
  or_at : (l : List A) (k : ℕ) (a : A) → get_elem? l k ≡ some a → (k < length l) × (get_or l k a ≡ a)
  or_at [] k a at = absurd (some-ne-none a (sym at))
  or_at (x ∷ xs) zero a at = (omega arith, some-injective x a at)
  or_at (x ∷ xs) (suc k) a at = let r = or_at xs k a at in (omega (arith, r.0), r.1)

  -- an element behind a beginning
  at_far : (xs ys : List A) (i k : ℕ) (d : A) → i ≡ length xs + k → k < length ys → get_elem? (xs ++ ys) i ≡ some (get_or ys k d)
  at_far [] ys i k d is short = let e : i ≡ k = omega arith in ap (get_elem? ys) e ∙ at_or ys k d short
  at_far (x ∷ xs) ys zero k d is short = absurd (omega arith)
  at_far (x ∷ xs) ys (suc i) k d is short = at_far xs ys i k d (omega arith) short

module _ {V E : Type 0} where
  -- contracts see no ticket where the table knows of none
  pub no_ticket : (t : TableId) (v : View V E) (p : PassView V E) → pass_view t v ≡ p → p.ticket ≡ None → v.ticket ≡ None
  no_ticket t v p ps none = none_word v.ticket (ap (λ (z : PassView V E). z.ticket) ps ∙ none)

  -- contracts see a ticket where the table knows its number
  pub number_by : (t : TableId) (v : View V E) (p : PassView V E) → pass_view t v ≡ p → IsSome p.ticket → (k : ℕ) × (v.ticket ≡ Some k)
  number_by t v p ps some_ticket = some_word v.ticket (subst (λ (z : PassView V E). IsSome z.ticket) (sym ps) some_ticket)

  -- who has no ticket has no turn
  pub no_turn : (me : Me (Option V) (View V E)) (share room ticket : ℕ) → Agrees me share room ticket → me.0.ticket ≡ None → me.0.has_turn ≡ false
  no_turn me share room ticket a none = idle_by me.0.has_turn me.0.ticket a.drawn none

  -- a name that the pass owns is one that the table knows to be its
  name_by : (t : TableId) (v : View V E) (p : PassView V E) (n : Name) → pass_view t v ≡ p → Owns p n → HasName v n
  name_by t v p n ps own = ⊎_elim
      (λ (e : n ≡ v.name). inl e)
      (λ (c : Contains v.taken n). inr (c.0, at_or v.taken c.0 n c.1 ∙ ap some c.2))
      (subst (λ (z : PassView V E). Owns z n) (sym ps) own)

  -- and the other way round
  owns_by : (t : TableId) (v : View V E) (p : PassView V E) (n : Name) → pass_view t v ≡ p → HasName v n → Owns p n
  owns_by t v p n ps has = subst (λ (z : PassView V E). Owns z n) ps (⊎_elim
      (λ (e : n ≡ v.name). inl e)
      (λ (c : (k : ℕ) × (get_elem? v.taken k ≡ some n)). let r = or_at v.taken c.0 n c.1 in inr (c.0, r.0, r.1))
      has)

  -- the front begins with what the pass has seen, and goes on with entries that are strange to it
  pub continues : (t : TableId) (v : View V E) (p : PassView V E) (front : Front E) → pass_view t v ≡ p → IsPrefix v.seen front → Strange v front → Continues p front
  continues t v p front ps begins strange =
      subst (λ (z : PassView V E). Continues z front) ps record {
        added = begins.0;
        whole = begins.1;
        others = λ k d short own. strange (length v.seen + k) (get_or begins.0 k d)
            (ap (λ (l : Front E). get_elem? l (length v.seen + k)) (sym begins.1) ∙ at_far v.seen begins.0 (length v.seen + k) k d refl short)
            (omega arith)
            (name_by t v (pass_view t v) (get_or begins.0 k d).0 refl own);
      }

  -- each entry has a name that the pass owns
  pub all_owned : (t : TableId) (v : View V E) (p : PassView V E) → pass_view t v ≡ p → ((k : ℕ) (pair : Name × E) → get_elem? v.seen k ≡ some pair → HasName v pair.0) → All (λ (pair : Name × E). Owns p pair.0) p.seen
  all_owned t v p ps named = subst (λ (z : PassView V E). All (λ (pair : Name × E). Owns z pair.0) z.seen) ps
      (λ k d short. owns_by t v (pass_view t v) (get_or v.seen k d).0 refl (named k (get_or v.seen k d) (at_or v.seen k d short)))
