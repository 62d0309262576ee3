use Rattle.std.proofs.Common.{arith}
use Rattle.nor_region.proofs.Sizes.{total_fits}
use Rattle.nor_region.proofs.region.total_len.Goals as goal

pub sum_lens-requires : goal.sum_lens-requires
sum_lens-requires c = omega (arith, total_fits c.args.regions.now c.requires.ranges)
