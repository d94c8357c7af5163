use Rattle.node_commands.proofs.PartsOnce.{OneOfParts, answered_of_parts}
use Rattle.node_commands.proofs.laws.one_answer_of_parts.Goals as goal

pub returns : goal.returns
returns c =
    let one : OneOfParts = answered_of_parts
    (record { one_store = c.one_store.ensures; not_bad = c.store_or_not.ensures.not_bad; no_store = c.store_or_not.ensures.no_store; bad_store = c.store_or_not.ensures.bad_store })
    (record { arrivals = c.arrivals_are_closed.ensures; same_tables = c.tables_are_of_the_set.ensures })
    (record { one_query = c.one_query.ensures; one_fault = c.one_fault.ensures; no_fault = c.no_fault.ensures; one_answer = c.one_answer_over.ensures }) in
    record { heads = one.heads; dump = one.dump; query = one.query; notes = one.notes; export = one.export }
