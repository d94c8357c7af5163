use Rattle.std.proofs.Common.{◌∷◌, subst, sym}
use Rattle.update_model.specs.Node.{NodeData}
use Rattle.table_model.specs.declared.verdict.Verdict.{Verdict}
use Rattle.table_model.specs.declared.verdict.Verdict.TheVariants as verdict
use Rattle.tuple_state.specs.State.{IsStateOf, after}
use Rattle.tuple_state.proofs.Keeping.{count_next, state_next}
use Rattle.tuple_state.proofs.tables.Tables.apply.Goals as goal

pub keep_void-requires : goal.keep_void-requires
keep_void-requires c =
    let next = c.requires.next in
    let whole : IsStateOf next.rules (c.args.node ∷ next.nodes) (after c.args.self.now c.args.node (verdict.Void c.in-Void.reason c.in-Void.operation)) =
    subst (λ (v : Verdict). IsStateOf next.rules (c.args.node ∷ next.nodes) (after c.args.self.now c.args.node v)) c.in-Void.is (state_next c.args.self.now c.args.node c.args.verdict next) in
    record {
      few = count_next c.args.self.now c.args.node c.args.verdict next;
      held = record {
        rules = next.rules;
        nodes = c.args.node ∷ next.nodes;
        is = subst (λ (n : NodeData). IsStateOf next.rules (c.args.node ∷ next.nodes) (after c.args.self.now n (verdict.Void c.in-Void.reason c.in-Void.operation))) (sym c.node.view_is) whole;
      };
    }
