use Rattle.std.proofs.Common.{List, subst}
use Rattle.row_check.specs.Checksum.{is_luhn}
use Rattle.schema.specs.Data.{SchemaData}
use Rattle.update_model.specs.Node.{NodeData}
use Rattle.tuple_state.specs.State.{IsStateOf}
use Rattle.node_commands.specs.Bundle.{ShowsState}
use Rattle.outcomes.specs.Rules.{nodes_of, rules_of}
use Rattle.node_commands.proofs.Tables.{has_tables}
use Rattle.node_commands.proofs.graph_tables.replica_tables.Goals as goal

pub returns : goal.returns
returns g c =
    let history = c.args.replica.now.history in
    let taken = c.each_stands.ensures.taken in
    let P : SchemaData → Type 0 = λ s. (nodes : List NodeData) → IsStateOf (rules_of s) nodes c.tables.result.now → ShowsState c.args.json s nodes c.in_ok-text.text.items in
    let t : ShowsState c.args.json history.schema (nodes_of history.members) c.in_ok-text.text.items = subst P c.schema.ensures c.in_ok-text.ensures (nodes_of history.members) c.tables.ensures in (
      t.0,
      (
        t.1.0,
        has_tables (record { arrivals = c.arrivals_are_closed.ensures; same_tables = c.tables_are_of_the_set.ensures })
            (record { accepted = c.accepted_holds.ensures; fit = c.shown_rows_fit.ensures; equal_heads = c.equal_heads_mean_equal_sets.ensures })
            history.schema history.members t.0 t.1.0 (c.declared_is_sound.ensures is_luhn history.schema.text history.schema taken.declares).tables taken.accepted
            c.each_stands.ensures.history_is.members t.1.1,
        t.1.2,
      ),
    )
