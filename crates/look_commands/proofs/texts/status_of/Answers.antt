use Rattle.outcomes.specs.Rules.{nodes_of}
use Rattle.row_check.specs.Checksum.{is_luhn}
use Rattle.look_commands.proofs.texts.status_of.Goals as goal

pub returns : goal.returns
returns c = record {
  told = c.in_ok-told.told;
  lists = c.in_ok-lists.lists.items;
  seen = record { is_told = c.in_ok-told.ensures; are_shown = c.in_ok-lists.ensures is_luhn (nodes_of c.args.members.graph.now) c.requires };
  shows = rw (c.counts_of-counts.ensures, c.as_slice.ensures.value) at c.in_ok-text.ensures;
}
