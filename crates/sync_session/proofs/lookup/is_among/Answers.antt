use Rattle.std.proofs.Common.{◌∙◌, sym, true, false, get_or, []}
use Rattle.update_model.specs.declared.update_id.UpdateId.{UpdateId as Id}
use Rattle.update_model.specs.Entry.{same_id}
use Rattle.update_model.proofs.Ids.{same_id-symm}
use Rattle.sync_session.proofs.Faults.{same_from_eq}
use Rattle.sync_session.proofs.Searching.{any_at, any_none_more}
use Rattle.sync_session.proofs.lookup.is_among.Goals as goal

pub returns-then-eq : goal.returns-then-eq
returns-then-eq c =
    let none : Id = record { 0 = [] } in
    let one = get_or c.args.ids.now c.loop-one.one-index none in
    sym (any_at (same_id c.args.id.now) c.args.ids.now c.loop-one.one-index none c.loop-one-test.true
    (same_id-symm c.args.id.now one ∙ same_from_eq one c.args.id.now c.eq.result true c.eq.ensures c.if-eq.true))

pub loop-one-preserved : goal.loop-one-preserved
loop-one-preserved c =
    let none : Id = record { 0 = [] } in
    let one = get_or c.args.ids.now c.loop-one.one-index none in
    any_none_more (same_id c.args.id.now) c.args.ids.now c.loop-one.one-index none c.loop-one-test.true c.loop-one.invariant
    (same_id-symm c.args.id.now one ∙ same_from_eq one c.args.id.now c.eq.result false c.eq.ensures c.if-eq.false)
