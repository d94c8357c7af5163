use Rattle.node_commands.proofs.MakersOnce.{OneOfMakers, answered_of_makers}
use Rattle.node_commands.proofs.laws.one_answer_of_makers.Goals as goal

pub returns : goal.returns
returns c =
    let one : OneOfMakers = answered_of_makers
    (record { one_schema = c.one_schema.ensures; taken_or_refused = c.taken_or_refused.ensures; refused_once = c.refused_once.ensures })
    (record { one_store = c.one_store.ensures; not_bad = c.store_or_not.ensures.not_bad; no_store = c.store_or_not.ensures.no_store; bad_store = c.store_or_not.ensures.bad_store })
    (record { one_key = c.one_key.ensures; not_bad = c.key_or_not.ensures.not_bad; no_key = c.key_or_not.ensures.no_key; bad_key = c.key_or_not.ensures.bad_key })
    (record { one_transaction = c.one_transaction.ensures; one_fault = c.one_fault.ensures; no_fault = c.no_fault.ensures })
    (record { refused = c.one_early_refusal.ensures.refused; made_or_refused = c.one_early_refusal.ensures.made_or_refused })
    (record { made = c.one_make.ensures.made; refused = c.one_make.ensures.refused; made_or_refused = c.one_make.ensures.made_or_refused })
    (record {
      joined = c.one_join.ensures.joined;
      refused = c.one_join.ensures.refused;
      joined_or_none = c.one_join.ensures.joined_or_none;
      joined_or_refused = c.one_join.ensures.joined_or_refused;
      none_or_refused = c.one_join.ensures.none_or_refused;
    }) in
    record { init = one.init; keygen = one.keygen; apply = one.apply; join = one.join }
