use Rattle.std.proofs.Common.{◌∙◌, sym, []}
use Rattle.std.specs.BTreeSet.{keys}
use Rattle.update_model.specs.declared.update_id.UpdateId.{UpdateId as Id}
use Rattle.update_model.specs.Graph.{has}
use Rattle.sync_session.proofs.Searching.{any_at, any_none_more}
use Rattle.sync_session.proofs.greeting.names_one.Goals as goal

pub returns-then-contains : goal.returns-then-contains
returns-then-contains c =
    let none : Id = record { 0 = [] } in
    sym (any_at (has (keys c.args.set.now)) c.args.ids.now c.loop-id.id-index none c.loop-id-test.true (sym c.contains.ensures ∙ c.if-contains.true))

pub loop-id-preserved : goal.loop-id-preserved
loop-id-preserved c =
    let none : Id = record { 0 = [] } in
    any_none_more (has (keys c.args.set.now)) c.args.ids.now c.loop-id.id-index none c.loop-id-test.true c.loop-id.invariant (sym c.contains.ensures ∙ c.if-contains.false)
