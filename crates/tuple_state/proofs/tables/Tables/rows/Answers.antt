use Rattle.std.proofs.Common.{List, sym, subst}
use Rattle.table_model.specs.declared.shown_row.ShownRow.{ShownRow}
use Rattle.table_model.specs.Tables.{AreRowsIn}
use Rattle.tuple_state.proofs.Listing.{arrived_shown}
use Rattle.tuple_state.proofs.tables.Tables.rows.Goals as goal

pub returns : goal.returns
returns c rules nodes held =
    subst (λ (l : List ShownRow). AreRowsIn rules nodes c.args.table l) (sym c.from_vec.ensures)
    (arrived_shown rules nodes c.args.self.now c.args.table c.in_ok-lines.lines.items held c.in_ok-lines.ensures.rising c.in_ok-lines.ensures.exact)
