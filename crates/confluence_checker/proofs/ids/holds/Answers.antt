use Rattle.std.proofs.Common.{sym, ◌∙◌}
use Rattle.update_model.specs.Entry.{same_id}
use Rattle.update_model.specs.Node.{NodeData}
use Rattle.table_model.proofs.Members.{any_reversed}
use Rattle.confluence_checker.proofs.ids.holds.Goals as goal

pub returns : goal.returns
returns c = c.is_held.ensures ∙ sym (any_reversed (λ (node : NodeData). same_id c.args.id.now node.id) c.args.nodes.now)
