use Rattle.std.proofs.Common.{◌+◌, ◌∙◌, ap}
use Rattle.std.specs.Prelude.{slice_index}
use Rattle.nor_cell.specs.Table.{most_reads}
use Rattle.nor_query.proofs.Deriving.{limit_agrees}
use Rattle.nor_query.proofs.query.Query.limit.Goals as goal

pub returns-clause-chip : goal.returns-clause-chip
returns-clause-chip c table stands =
    let times = c.args.self.now.times in
    ap (λ n. n + 16) c.most_reads.ensures.value
    ∙ (ap (λ time. most_reads (slice_index times time) (slice_index times (time + 4)) + 16) c.time_of-time.ensures ∙ limit_agrees table c.args.self.now c.args.work stands)
