use Rattle.std.proofs.Common.{◌∙◌, ap, arith, length}
use Rattle.demonstration.proofs.counts.counts_of.Goals as goal
use Rattle.history.specs.Histories.{nodes_of}
use Rattle.row_check.specs.Checksum.{is_luhn}
use Rattle.table_model.specs.Visible.{rules_with}

pub returns : goal.returns
returns c =
    let history = c.args.author.now.store.history in
    let rules = rules_with is_luhn history.schema.tables in
    let nodes = nodes_of history.members in
    record {
      heads = c.in_ok-heads.heads.items;
      lists = c.in_ok-lists.lists;
      tasks = c.in_ok-tasks.tasks;
      voids = c.in_ok-voids.voids;
      taken = c.len-updates.ensures.taken;
      closed = c.len-updates.ensures.history;
      are_heads = c.in_ok-heads.ensures;
      are_lists = c.in_ok-lists.ensures rules nodes c.tables-tables.ensures;
      are_tasks = c.in_ok-tasks.ensures rules nodes c.tables-tables.ensures;
      are_voids = c.in_ok-voids.ensures rules nodes c.tables-tables.ensures;
      updates_are = c.from.ensures ∙ c.len-updates.ensures.value;
      heads_are = (let counted = c.len.ensures in let whole = c.in_ok-heads.heads.ok.0 in omega (arith, counted, whole));
      lists_are = ap length c.as_slice.ensures;
      tasks_are = ap length c.as_slice-2.ensures;
      voids_are = ap length c.as_slice-3.ensures;
    }
