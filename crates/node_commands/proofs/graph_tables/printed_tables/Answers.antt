use Rattle.node_commands.proofs.Tables.{has_tables}
use Rattle.node_commands.proofs.graph_tables.printed_tables.Goals as goal

pub returns : goal.returns
returns c = λ taken.
    let t = c.in_ok-text.ensures in (
      t.0,
      (
        t.1.0,
        has_tables (record { arrivals = c.arrivals_are_closed.ensures; same_tables = c.tables_are_of_the_set.ensures })
            (record { accepted = c.accepted_holds.ensures; fit = c.shown_rows_fit.ensures; equal_heads = c.equal_heads_mean_equal_sets.ensures })
            c.args.schema.now c.args.graph.now t.0 t.1.0 c.requires.sound c.requires.accepted taken t.1.1,
        t.1.2,
      ),
    )
