use Rattle.std.proofs.Common.{◌≡◌, ap}
use Rattle.nor_region.specs.Map.{spans_of}
use Rattle.nor_array.specs.Array.{ArrayState}
use Rattle.nor_array.proofs.Arrays.{all_of}
use Rattle.nor_array.proofs.refuse.all_blocks.Goals as goal

pub returns : goal.returns
returns c =
    let same : spans_of c.array.inside.consts.map ≡ c.args.array.now.consts.blocks = ap (λ (s : ArrayState). s.consts.blocks) c.array.view_is in
    all_of c.size.result (spans_of c.array.inside.consts.map) c.args.array.now.consts.blocks c.size.ensures.partition same
