use Rattle.std.proofs.Common.{◌≡◌, List, IfOk, subst, rules}
use Rattle.nor_cell.specs.declared.device.Span.{Span}
use Rattle.nor_query.specs.Stands.{StandsFor}
use Rattle.nor_dump.proofs.lanes.blocks_of.Goals as goal

pub returns-clause-blocks : goal.returns-clause-blocks
returns-clause-blocks c =
    let stands : StandsFor c.args.table.now c.unwrap-query.result = search rules in
    subst (λ (xs : List Span). IfOk c.spans_of.result (λ blocks. blocks.items ≡ xs)) (c.block_map-map.ensures.chip c.args.table.now stands) c.spans_of.ensures
