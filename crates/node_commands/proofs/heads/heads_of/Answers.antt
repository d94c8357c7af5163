use Rattle.std.proofs.Common.{◌≤◌, length, arith}
use Rattle.node_commands.proofs.HeadSteps.{few_adds, heads_next, next_was_none}
use Rattle.node_commands.proofs.heads.heads_of.Goals as goal

pub add-requires-clause-room : goal.add-requires-clause-room
add-requires-clause-room g c =
    let few : length c.loop-position.heads ≤ c.loop-position.position = few_adds g.M.Member.entry c.args.graph.now c.loop-position.position c.loop-position.heads c.loop-position.invariant in
    omega (arith, few, c.loop-position-test.true, c.len-position-end.ensures.few)

pub add-requires-clause-new : goal.add-requires-clause-new
add-requires-clause-new g c =
    next_was_none g.M.Member.entry c.args.graph.now c.loop-position.position c.at-member.result.now c.id.result c.loop-position.heads
    c.new_ids_were_no_heads.ensures c.len-position-end.ensures.closed c.at-member.ensures c.id.ensures c.loop-position.invariant

pub loop-position-preserved : goal.loop-position-preserved
loop-position-preserved g c =
    heads_next g.M.Member.entry c.args.graph.now c.loop-position.position c.at-member.result.now c.id.result c.preds.result.now
    c.loop-position.heads c.add.new.self c.len-position-end.ensures.closed c.at-member.ensures c.id.ensures c.preds.ensures.value
    c.in_ok-add.ensures.graph c.loop-position.invariant
