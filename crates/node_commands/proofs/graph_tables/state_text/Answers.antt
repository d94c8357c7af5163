use Rattle.std.proofs.Common.{◌∙◌, List, ap}
use Rattle.row_check.specs.Checksum.{is_luhn}
use Rattle.table_model.specs.declared.shown_row.ShownRow.{ShownRow}
use Rattle.table_model.specs.declared.void_line.VoidLine.{VoidLine}
use Rattle.node_commands.specs.Bundle.{dump_text}
use Rattle.outcomes.specs.Rules.{rules_of}
use Rattle.node_commands.proofs.Bundles.{tables_shown}
use Rattle.node_commands.proofs.graph_tables.state_text.Goals as goal

pub returns : goal.returns
returns c = λ nodes is.
    let rules = rules_of c.args.schema.now in (
      c.in_ok-lists.lists.items,
      (
        c.in_ok-voids.voids,
        tables_shown rules nodes c.in_ok-lists.lists.items c.in_ok-voids.voids (c.in_ok-lists.ensures is_luhn nodes is) (c.in_ok-voids.ensures rules nodes is),
        c.in_ok-text.ensures
            ∙ ap (λ (ls : List (List ShownRow)). dump_text c.args.json c.args.schema.now ls c.as_slice-2.result.now) c.as_slice.ensures.value
            ∙ ap (λ (vs : List VoidLine). dump_text c.args.json c.args.schema.now c.in_ok-lists.lists.items vs) c.as_slice-2.ensures,
      ),
    )
