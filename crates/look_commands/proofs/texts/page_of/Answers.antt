use Rattle.std.proofs.Common.{List, subst}
use Rattle.outcomes.specs.Rules.{nodes_of}
use Rattle.row_check.specs.Checksum.{is_luhn}
use Rattle.table_model.specs.declared.shown_row.ShownRow.{ShownRow}
use Rattle.look_commands.specs.Texts.{IsPageWith}
use Rattle.look_commands.proofs.texts.page_of.Goals as goal

pub returns : goal.returns
returns c =
    let members = c.args.members in
    record {
      told = c.in_ok-told.told;
      lists = c.in_ok-lists.lists.items;
      seen = record { is_told = c.in_ok-told.ensures; are_shown = c.in_ok-lists.ensures is_luhn (nodes_of members.graph.now) c.requires };
      shows = subst (λ (ls : List (List ShownRow)). IsPageWith members.schema.now members.graph.now c.in_ok-told.told ls c.in_ok-text.text.items) c.as_slice.ensures.value c.in_ok-text.ensures;
    }
