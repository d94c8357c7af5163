use Rattle.std.proofs.Common.{ap, ◌∙◌, map}
use Rattle.std.specs.Prelude.{is_some}
use Rattle.update_model.proofs.Closed.{position_of-held}
use Rattle.hash_graph.proofs.graph.Graph.is_held.Goals as goal

pub returns : goal.returns
returns g c = c.is_some.ensures ∙ ap is_some c.position.ensures ∙ position_of-held (map g.M.Member.entry c.args.self.now) c.args.id.now
