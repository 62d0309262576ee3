use Rattle.nor_script.proofs.Fields.{rest_from}
use Rattle.nor_script.proofs.field.behind.Goals as goal

pub returns-then-place-text : goal.returns-then-place-text
returns-then-place-text c = rest_from _ c.args.text.now
