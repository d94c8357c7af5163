use Rattle.std.proofs.Common.{◌∙◌, ◌++◌, ◌∷◌, [], true, false, map, sym, ap, append-nil}
use Rattle.ready_batch.specs.Steps.{kept_of}
use Rattle.ready_batch.proofs.Answering.{held_by_position}
use Rattle.ready_batch.proofs.Ending.{kept_one, kept_none}
use Rattle.ready_batch.proofs.adding.left_over.Goals as goal

pub loop-slot-preserved-in-Continue-1 : goal.loop-slot-preserved-in-Continue-1
loop-slot-preserved-in-Continue-1 g c =
    let graph = map g.M.Member.entry c.args.graph.now in
    let lacks = held_by_position graph (g.M.Member.entry c.in-Some-slot.member).id c.id.result c.position.result c.is_none.result true c.id.ensures c.position.ensures c.is_none.ensures c.if-is_none.true in
    c.in_ok-push.ensures.items ∙ ap (λ l. l ++ c.in-Some-slot.member ∷ []) c.loop-slot.invariant
    ∙ sym (kept_one g.M.Member.entry graph c.loop-slot.yielded c.in-Some.slot c.in-Some-slot.member false c.in-Some-slot.is lacks)

pub loop-slot-preserved-else-is_none : goal.loop-slot-preserved-else-is_none
loop-slot-preserved-else-is_none g c =
    let graph = map g.M.Member.entry c.args.graph.now in
    let held = held_by_position graph (g.M.Member.entry c.in-Some-slot.member).id c.id.result c.position.result c.is_none.result false c.id.ensures c.position.ensures c.is_none.ensures c.if-is_none.false in
    c.loop-slot.invariant
    ∙ sym (kept_one g.M.Member.entry graph c.loop-slot.yielded c.in-Some.slot c.in-Some-slot.member true c.in-Some-slot.is held ∙ append-nil (kept_of g.M.Member.entry graph c.loop-slot.yielded))

pub loop-slot-preserved : goal.loop-slot-preserved
loop-slot-preserved g c =
    c.loop-slot.invariant ∙ sym (kept_none g.M.Member.entry (map g.M.Member.entry c.args.graph.now) c.loop-slot.yielded c.in-Some.slot c.in_default.is)
