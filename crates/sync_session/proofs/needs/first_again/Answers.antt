use Rattle.std.proofs.Common.{◌∙◌, sym, []}
use Rattle.update_model.specs.declared.update_id.UpdateId.{UpdateId as Id}
use Rattle.update_model.specs.Graph.{has}
use Rattle.std.specs.BTreeSet.{keys}
use Rattle.sync_session.proofs.Searching.{found_at, none_more}
use Rattle.sync_session.proofs.needs.first_again.Goals as goal

pub returns-then-contains : goal.returns-then-contains
returns-then-contains c =
    let none : Id = record { 0 = [] } in
    sym (found_at (has (keys c.args.set.now)) c.args.ids.now c.loop-id.id-index none c.loop-id-test.true c.loop-id.invariant (sym c.contains.ensures ∙ c.if-contains.true))

pub loop-id-preserved : goal.loop-id-preserved
loop-id-preserved c =
    let none : Id = record { 0 = [] } in
    none_more (has (keys c.args.set.now)) c.args.ids.now c.loop-id.id-index none c.loop-id-test.true c.loop-id.invariant (sym c.contains.ensures ∙ c.if-contains.false)
