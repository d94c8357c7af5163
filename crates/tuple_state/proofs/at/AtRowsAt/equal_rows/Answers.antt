use Rattle.tuple_state.proofs.at.AtRowsAt.equal_rows.Goals as goal

pub shown_with-requires : goal.shown_with-requires
shown_with-requires g c = c.keeps_in.ensures c.if-keeps_in.true
