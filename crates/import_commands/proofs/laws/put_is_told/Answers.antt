use Rattle.outcomes.proofs.StoreOnce.{StoreLaws}
use Rattle.import_commands.proofs.Telling.{told_of_put}
use Rattle.import_commands.proofs.laws.put_is_told.Goals as goal

pub returns : goal.returns
returns c contents schema dir stream stream_new before after old new outcome takes home puts =
    let laws : StoreLaws = record {
      one_store = c.one_store.ensures;
      not_bad = c.store_or_not.ensures.not_bad;
      no_store = c.store_or_not.ensures.no_store;
      bad_store = c.store_or_not.ensures.bad_store;
    } in
    told_of_put laws c.taken_or_refused.ensures contents schema takes dir stream stream_new before after old new home outcome puts
