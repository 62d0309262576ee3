use Rattle.std.proofs.Common.{sym, ◌∙◌}
use Rattle.std.proofs.lemmas.Bool.{eqb-true}
use Rattle.nor_query.proofs.Validating.{valid_where_free}
use Rattle.nor_query.proofs.query.Query.valid.Goals as goal
use Rattle.nor_query.proofs.query.Query.valid.Goals.{then-has_numbers, else-has_numbers, then-has_regions, else-has_regions, then-has_size, else-has_size}

pub returns-then-has_place : goal.returns-then-has_place
returns-then-has_place c = elim c.if-has_size.branch [
  | else-has_size s ↦ absurd (cc)
  | then-has_size s ↦ elim c.if-has_regions.branch [
    | else-has_regions r ↦ absurd (cc)
    | then-has_regions r ↦ elim c.if-has_numbers.branch [
      | else-has_numbers n ↦ absurd (cc)
      | then-has_numbers n ↦
          let numbers = c.has_numbers.ensures.0 n.if-has_numbers.true in
          let regions = n.has_regions.ensures.regions.0 (sym n.value-is ∙ r.if-has_regions.true) in
          let size = eqb-true _ _ (sym r.has_size.ensures ∙ (sym r.value-is ∙ s.if-has_size.true)) in
          let place = s.has_place.ensures.0 (sym s.value-is ∙ c.if-has_place.true) in
          valid_where_free c.args.self.now c.has_free_rest.result numbers regions n.has_regions.ensures.few size place c.has_free_rest.ensures
    ]
  ]
]
