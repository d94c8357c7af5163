use Rattle.std.proofs.Common.{[]}
use Rattle.log_texts.proofs.Marks.{reasons_next}
use Rattle.log_texts.proofs.entries.reasons_by_id.Goals as goal

pub loop-position-preserved : goal.loop-position-preserved
loop-position-preserved c =
    reasons_next c.args.voids.now c.loop-position.position (record { id = record { 0 = [] }; reason = 0; operation = 0 }) c.loop-position.known c.insert.new.self (search) (search) c.loop-position.invariant c.in_ok-insert.ensures.updates
