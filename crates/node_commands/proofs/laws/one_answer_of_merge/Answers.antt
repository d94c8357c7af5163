use Rattle.node_commands.proofs.MergeOnce.{answered_of_merge}
use Rattle.node_commands.proofs.laws.one_answer_of_merge.Goals as goal

pub returns : goal.returns
returns c = answered_of_merge
    (record { one_store = c.one_store.ensures; not_bad = c.store_or_not.ensures.not_bad; no_store = c.store_or_not.ensures.no_store; bad_store = c.store_or_not.ensures.bad_store })
