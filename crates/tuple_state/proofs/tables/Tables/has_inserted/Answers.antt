use Rattle.std.proofs.Common.{ap, sym, ◌∙◌}
use Rattle.std.specs.Prelude.{is_some}
use Rattle.update_model.proofs.Closed.{is_some-position}
use Rattle.table_model.specs.Visible.{same_row}
use Rattle.tuple_state.specs.declared.inserted.Inserted.{Inserted}
use Rattle.tuple_state.proofs.Lookups.{named_reversed}
use Rattle.tuple_state.proofs.tables.Tables.has_inserted.Goals as goal

pub returns : goal.returns
returns c =
    let rows = c.args.self.now.inserted in
    c.is_some.ensures ∙ ap is_some c.place.ensures ∙ is_some-position (λ (it : Inserted). same_row it.name c.args.row.now) 0 rows ∙ sym (named_reversed rows c.args.row.now)
