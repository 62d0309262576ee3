use Rattle.std.proofs.Common.{rules, refl, codes, decimal}
use Rattle.nor_image.specs.declared.error.ImageError.TheVariants.{BadHeader, Truncated, Trailing, SizeDiffers}
use Rattle.norbank.proofs.Putting.{says_line}
use Rattle.norbank.proofs.telling.say_image.Goals as goal

pub returns-in-BadHeader-clause-says : goal.returns-in-BadHeader-clause-says
returns-in-BadHeader-clause-says g c =
    let at = c.in-BadHeader.at in
    says_line c.args.error (BadHeader at) c.args.code c.say_line.result.code (codes "image: bad header at ") c.as_bytes-at.result.now (decimal at)
    (g.K.Sink.state c.args.out.now) (g.K.Sink.state c.say_line.new.out) c.in-BadHeader.is (search rules) refl c.say_line.ensures.says

pub returns-in-Truncated-clause-says : goal.returns-in-Truncated-clause-says
returns-in-Truncated-clause-says g c =
    let at = c.in-Truncated.at in
    says_line c.args.error (Truncated at) c.args.code c.say_line-in-Truncated.result.code (codes "image: truncated at ") c.as_bytes-at-in-Truncated.result.now (decimal at)
    (g.K.Sink.state c.args.out.now) (g.K.Sink.state c.say_line-in-Truncated.new.out) c.in-Truncated.is (search rules) refl c.say_line-in-Truncated.ensures.says

pub returns-in-Trailing-clause-says : goal.returns-in-Trailing-clause-says
returns-in-Trailing-clause-says g c =
    let at = c.in-Trailing.at in
    says_line c.args.error (Trailing at) c.args.code c.say_line-in-Trailing.result.code (codes "image: trailing at ") c.as_bytes-at-in-Trailing.result.now (decimal at)
    (g.K.Sink.state c.args.out.now) (g.K.Sink.state c.say_line-in-Trailing.new.out) c.in-Trailing.is (search rules) refl c.say_line-in-Trailing.ensures.says

pub returns-in-SizeDiffers-clause-says : goal.returns-in-SizeDiffers-clause-says
returns-in-SizeDiffers-clause-says g c =
    let lane = c.in-SizeDiffers.lane in
    says_line c.args.error (SizeDiffers lane) c.args.code c.say_line-in-SizeDiffers.result.code (codes "image: size differs in lane ") c.as_bytes-lane.result.now (decimal lane)
    (g.K.Sink.state c.args.out.now) (g.K.Sink.state c.say_line-in-SizeDiffers.new.out) c.in-SizeDiffers.is (search rules) refl c.say_line-in-SizeDiffers.ensures.says
