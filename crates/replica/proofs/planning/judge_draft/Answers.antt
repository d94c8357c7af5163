use Rattle.std.proofs.Common.{◌≡◌, true, List, sym, subst, ◌∙◌}
use Rattle.std.specs.List.{list_all}
use Rattle.update_model.specs.declared.update_id.UpdateId.{UpdateId}
use Rattle.table_model.specs.Nodes as nodes
use Rattle.history.specs.Histories.{nodes_of}
use Rattle.replica.proofs.HeadLists.{nodes_held, all_nodes_held}
use Rattle.replica.proofs.planning.judge_draft.Goals as goal

pub judge-requires-after_bounds : goal.judge-requires-after_bounds
judge-requires-after_bounds g c κs within = record {
  new = nodes_held c.args.history.now.members c.in_ok-draft.draft.id ∙ c.in_ok-draft.ensures.new;
  preds = subst (λ (l : List UpdateId). list_all (nodes.holds (nodes_of c.args.history.now.members)) l ≡ true) (sym c.in_ok-draft.ensures.preds_are)
      (all_nodes_held c.args.history.now.members c.args.preds.now c.requires.held);
}
