use Rattle.std.proofs.Common.{◌∙◌}
use Rattle.norimage.proofs.WordLemmas.{word_there}
use Rattle.norimage.proofs.words.word.Goals as goal

pub returns : goal.returns
returns c = c.as_str.ensures.value ∙ word_there c.args.words.now c.args.k _ c.requires c.index-words-k.is
