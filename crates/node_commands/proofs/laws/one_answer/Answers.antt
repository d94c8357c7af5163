use Rattle.node_commands.proofs.Answer.{OneAnswer, answered}
use Rattle.node_commands.proofs.laws.one_answer.Goals as goal

pub returns : goal.returns
returns c =
    let one : OneAnswer = answered (record { one_graph = c.one_graph.ensures; one_refusal = c.one_refusal.ensures; whole_or_refused = c.whole_or_refused.ensures })
    (record { one_schema = c.one_schema.ensures; taken_or_refused = c.taken_or_refused.ensures; refused_once = c.refused_once.ensures })
    (record { arrivals = c.arrivals_are_closed.ensures; same_tables = c.tables_are_of_the_set.ensures }) in
    record { heads = one.heads; check = one.check; dump = one.dump }
