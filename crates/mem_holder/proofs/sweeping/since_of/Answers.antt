use Rattle.std.proofs.Common.{◌-◌, ◌∙◌, ◌||◌, ℕ, List, ap, subst, sym}
use Rattle.std.specs.BTreeSet.{keys}
use Rattle.update_model.specs.declared.update_id.UpdateId.{UpdateId}
use Rattle.update_model.specs.Graph.{has}
use Rattle.mem_holder.proofs.Sweeps.{Swept, position_before, sweep_begins, sweep_behind, sweep_new}
use Rattle.mem_holder.proofs.sweeping.since_of.Goals as goal

pub positions-init : goal.positions-init
positions-init c =
    subst (λ (l : List ℕ). Swept c.args.graph.now c.args.below c.args.old.now c.args.below (keys c.insert_all.new.set) l) (sym c.new-positions.ensures.items)
    (sweep_begins c.args.graph.now c.args.below c.args.old.now (keys c.insert_all.new.set) c.requires
    (λ id. c.in_ok-insert_all.ensures id ∙ ap (λ (l : List UpdateId). has l id || has c.args.old.now id) c.new-behind.ensures.empty))

pub positions-preserved-in-Continue-branch-2 : goal.positions-preserved-in-Continue-branch-2
positions-preserved-in-Continue-branch-2 c =
    sweep_behind c.args.graph.now c.args.below c.args.old.now (c.positions.position - 1) (keys c.positions.behind) c.positions.positions.items c.at-update.result.now c.len.ensures.closed
    c.at-update.ensures (position_before c.args.graph.now c.args.below c.args.old.now c.positions.position (keys c.positions.behind) c.positions.positions.items c.positions-test.true c.positions.invariant)
    c.preds.result.now (keys c.insert_all-then-has_id.new.set) (ap (has (keys c.positions.behind)) (sym c.id.ensures) ∙ sym c.has_id.ensures ∙ c.if-has_id.true)
    c.preds.ensures.value c.in_ok-insert_all-2.ensures

pub positions-preserved : goal.positions-preserved
positions-preserved c =
    subst (λ (l : List ℕ). Swept c.args.graph.now c.args.below c.args.old.now (c.positions.position - 1) (keys c.positions.behind) l) (sym c.in_ok-push.ensures.items)
    (sweep_new c.args.graph.now c.args.below c.args.old.now (c.positions.position - 1) (keys c.positions.behind) c.positions.positions.items c.at-update.result.now c.len.ensures.closed
    c.at-update.ensures (position_before c.args.graph.now c.args.below c.args.old.now c.positions.position (keys c.positions.behind) c.positions.positions.items c.positions-test.true c.positions.invariant)
    (ap (has (keys c.positions.behind)) (sym c.id.ensures) ∙ sym c.has_id.ensures ∙ c.if-has_id.false))
