use Rattle.std.proofs.Common.{[]}
use Rattle.log_texts.proofs.Marks.{heads_next}
use Rattle.log_texts.proofs.entries.heads_by_id.Goals as goal

pub loop-position-preserved : goal.loop-position-preserved
loop-position-preserved c =
    heads_next c.args.heads.now c.loop-position.position (record { 0 = [] }) c.loop-position.known c.insert.new.self (search) (search) c.loop-position.invariant c.in_ok-insert.ensures.updates
