-- The beginning and the end of a lock.
use Rattle.std.proofs.Common.{◌≡◌, ℕ, zero, suc, ◌≤◌, true, false, List, [], ◌∷◌, length, sym, refl, ap, ◌∙◌, subst, ⊎_elim, inl, inr, arith, Option, Some}
use mathlib.Core.Logic.{dite}
use mathlib.Core.Option as maybe
use mathlib.Core.Option.{none, some, some-ne-none, some-injective}
use native.Mathlib.Decide.{ℕ_discrete}
use lib.ListN.{get_elem?}
use Rattle.atomic_table.specs.Table.{State, Final, Seen, opening}
use Rattle.nor_turn.specs.declared.view.View.{View}
use Rattle.nor_turn.specs.Fronts.{Name, Front}
use Rattle.nor_turn.specs.Rule.{all_shares, first_view, spent, share_of, Live, HasName, Kept}
use Rattle.nor_turn.proofs.Sums.{terms_le}
use Rattle.nor_turn.proofs.Names.{named_start, all_seen}
use Rattle.nor_turn.proofs.Fronts.{prefix_whole}
use Rattle.nor_turn.proofs.Keeps.{some_apart, live, not_begun}

module _ {V E : Type 0} (stands : V → Front E → V → Type 0) (origin : V) where
  abbrev L : Type 0
  L = View V E

  abbrev St : Type 0
  St = State (Option V) L

  abbrev Rule : St → Type 0
  Rule = Kept stands origin

  -- a list of one view has no other
  alone : (a : L) (j : ℕ) (v : L) → get_elem? (a ∷ []) j ≡ some v → (j ≡ 0) × (a ≡ v)
  alone a zero v e = (refl, some-injective a v e)
  alone a (suc j) v e = absurd (some-ne-none v (sym e))

  -- the rule holds of the table that a lock begins with
  starts : (x : V) → stands x [] x → origin ≡ x → Rule (opening (0 ∷ 0 ∷ 0 ∷ []) (Some x ∷ []) (first_view origin))
  starts x st e = record {
    issued = 0;
    served = 0;
    log = [];
    words = refl;
    queue = refl;
    shares = refl;
    rooms = refl;
    each = λ j v at. let t = alone (first_view origin) j v at in inr (subst (λ (z : L). Live origin 0 0 [] (some (Some x) ∷ []) z) t.1 record {
      origin_is = refl;
      share_is = omega arith;
      prefix = ([], refl);
      begun = (not_begun stands origin [], not_begun stands origin []);
      queued = λ k z. absurd (some_apart k z);
      turn_is = λ z. absurd (cc z);
    });
    apart = λ i j k v w at_i at_j _ _. (alone (first_view origin) i v at_i).0 ∙ sym (alone (first_view origin) j w at_j).0;
    waiting = λ k low high. absurd (omega (arith, low, high));
    slot = inl (x, refl, subst (λ (z : V). stands z [] x) (sym e) st);
    names = named_start V E origin x;
  }

  -- the same, for a list of slots that has the value
  pub starts_with : (items : List (Option V)) (x : V) → stands x [] x → origin ≡ x → items ≡ Some x ∷ [] → Rule (opening (0 ∷ 0 ∷ 0 ∷ []) items (first_view origin))
  starts_with items x st e is = subst (λ (l : List (Option V)). Rule (opening (0 ∷ 0 ∷ 0 ∷ []) l (first_view origin))) (sym is) (starts x st e)

  -- the value at home stands for what the pass has seen, which is the whole history, each entry under a name of its
  record Ends (s : St) (v : L) : Type 0 where
    pub value : V
    pub home : s.homes ≡ some (Some value) ∷ []
    pub stood : stands origin v.seen value
    pub count : get_elem? s.words 2 ≡ some (length v.seen)
    pub named : (k : ℕ) (p : List ℕ × E) → get_elem? v.seen k ≡ some p → HasName v p.0

  -- where a pass has all shares and no turn
  ends : (s : St) (id : ℕ) (v : L) → Rule s → get_elem? s.views id ≡ some v → v.opening ≡ Some origin → v.share ≡ all_shares → v.has_turn ≡ false → Ends s v
  ends s id v r at o whole idle = ⊎_elim
      (λ (h : (x : V) × (s.homes ≡ some (Some x) ∷ []) × stands origin r.log x). record {
        value = h.0;
        home = h.1;
        stood = subst (λ (l : Front E). stands origin l h.0) same h.2;
        count = ap (λ (ws : List ℕ). get_elem? ws 2) r.words ∙ ap (λ (l : Front E). some (length l)) same;
        named = λ k p e. seen.1 k p (ap (λ (l : Front E). get_elem? l k) same ∙ e);
      })
      (λ (z : (j : ℕ) × (u : L) × (get_elem? s.views j ≡ some u) × (u.has_turn ≡ true)).
      let it : z.1.opening ≡ Some origin = ⊎_elim (λ (e : z.1 ≡ spent). absurd (cc (ap (λ (y : L). y.has_turn) e, z.3))) (λ (h : Live origin r.issued r.served r.log s.homes z.1). h.origin_is) (r.each z.0 z.1 z.2) in
      let e : z.0 ≡ id = only z.0 z.1 z.2 it in
      let same_view : z.1 ≡ v = some-injective z.1 v (sym z.2 ∙ (ap (get_elem? s.views) e ∙ at)) in
      absurd (cc (z.3, ap (λ (y : L). y.has_turn) same_view, idle)))
      r.slot
    where
      mine : Live origin r.issued r.served r.log s.homes v
      mine = live stands origin _ _ _ _ _ _ o (r.each id v at)

      only : (j : ℕ) (u : L) → get_elem? s.views j ≡ some u → u.opening ≡ Some origin → j ≡ id
      only j u e is = dite (ℕ_discrete j id) (λ h. h) (λ h. absurd (
          let both = terms_le share_of s.views id j v u h at e in
          let some_share = Live.share_is (live stands origin _ _ _ _ _ _ is (r.each j u e)) in
          omega (arith, both, some_share, whole, r.shares)))

      seen : (length r.log ≤ length v.seen) × ((k : ℕ) (p : List ℕ × E) → get_elem? r.log k ≡ some p → HasName v p.0)
      seen = all_seen V E origin r.log s.views id v at o mine.prefix only r.names

      same : r.log ≡ v.seen
      same = sym (prefix_whole v.seen r.log mine.prefix seen.0)

  -- what the closed table has for such a pass
  pub record Ended (v : L) (ws : List ℕ) (xs : List (Option V)) : Type 0 where
    pub value : V
    pub home : get_elem? xs 0 ≡ some (Some value)
    pub stood : stands origin v.seen value
    pub count : get_elem? ws 2 ≡ some (length v.seen)
    pub named : (k : ℕ) (p : Name × E) → get_elem? v.seen k ≡ some p → HasName v p.0

  -- the value and the count that the table is left with
  pub closed : (id : ℕ) (v : L) (ws : List ℕ) (xs : List (Option V)) → Final (Seen Rule id v) ws xs → v.opening ≡ Some origin → v.share ≡ all_shares → v.has_turn ≡ false → Ended v ws xs
  closed id v ws xs f o whole idle =
      let e : Ends f.0 v = ends f.0 id v f.1.0 f.1.1 o whole idle in record {
        value = e.value;
        home = f.4 0 (Some e.value) (ap (λ (hs : List (maybe.Option (Option V))). get_elem? hs 0) e.home);
        stood = e.stood;
        count = sym (ap (λ (l : List ℕ). get_elem? l 2) f.2) ∙ e.count;
        named = e.named;
      }
