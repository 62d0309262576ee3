use Rattle.std.proofs.Common.{◌∙◌}
use Rattle.nor_image.proofs.Sizes.{list_any-flip, chip_sizes}
use Rattle.nor_image.proofs.size.is_chip_size.Goals as goal

pub returns : goal.returns
returns c = c.contains.ensures.value ∙ list_any-flip c.args.size chip_sizes
