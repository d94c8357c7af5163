use Rattle.outcomes.specs.Rules.{nodes_of, rules_of}
use Rattle.node_commands.proofs.graph_tables.graph_text.Goals as goal

pub replay-requires-after_bounds : goal.replay-requires-after_bounds
replay-requires-after_bounds c κs = c.accepted_is_unlimited.ensures (rules_of c.args.schema.now) c.requires

pub returns : goal.returns
returns c = c.in_ok-text.ensures (nodes_of c.args.graph.now) c.in_ok-tables.ensures
