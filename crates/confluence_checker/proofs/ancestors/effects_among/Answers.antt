use Rattle.confluence_checker.proofs.Newest.{effects_start}
use Rattle.confluence_checker.proofs.ancestors.effects_among.Goals as goal

pub loop-j-init : goal.loop-j-init
loop-j-init c = effects_start c.nothing-did.result c.nothing-did.ensures
