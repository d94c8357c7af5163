use Rattle.log_texts.proofs.Marks.{notes_next}
use Rattle.log_texts.proofs.entries.notes_by_id.Goals as goal

pub loop-position-preserved : goal.loop-position-preserved
loop-position-preserved c =
    notes_next c.args.notes.now c.loop-position.position c.index-notes-position.result c.loop-position.known c.insert.new.self c.as_slice.result (search) (search) c.index-notes-position.is c.loop-position.invariant c.in_ok-insert.ensures.updates c.as_slice.ensures
