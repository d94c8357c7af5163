use Rattle.std.proofs.Common.{sym}
use Rattle.head_set.proofs.States.{states_long}
use Rattle.head_set.proofs.heads.Heads.added.Goals as goal

pub returns : goal.returns
returns c = rw (← c.self.view_is) (sym (states_long c.self.inside.spans.entries c.self.inside.added))
