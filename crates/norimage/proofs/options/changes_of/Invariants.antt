use Rattle.std.proofs.Common.{◌≡◌, drop}
use Rattle.norimage.specs.Options.{changes_from}
use Rattle.norimage.proofs.options.changes_of.Given as goal

-- the words to come give the changes of all
abbrev pub invariant-loop-word : goal.invariant-loop-word
invariant-loop-word l = changes_from l.due l.changes.items (drop l.word-index l.words) ≡ changes_from l.initial.due l.initial.changes.items l.words
