use Rattle.std.proofs.Common.{◌≡◌, ◌+◌, ◌<◌, ◌≤◌, List, ◌∷◌, Some, length, map, take, sym, ap, subst, ◌∙◌, arith, slice_get}
use Rattle.std.specs.Prelude.{option_map}
use Rattle.update_model.specs.Node.{NodeData}
use Rattle.update_codec.specs.Parts.{entry_of}
use Rattle.update_check.specs.Signed.{node_of}
use Rattle.table_model.specs.Nodes.{IsNext}
use Rattle.table_model.specs.Verdicts.{judge_next, judged}
use Rattle.table_model.specs.Visible.{Rules, rules_with}
use Rattle.tuple_state.specs.State.{IsStateOf, State, after}
use Rattle.history.specs.Arrivals.{nodes_before}
use Rattle.history.proofs.Arriving.{front_closed, is_next_from, length-nodes, next_from, node_there}
use Rattle.history.proofs.replaying.take_verdict.Goals as goal

pub apply-requires : goal.apply-requires
apply-requires g c =
    let rules : Rules = rules_with g.L.Relation.answer c.args.schema.now.tables in
    let graph = c.args.graph.now in
    let i = c.args.position in
    let node = c.in_ok-node.node in
    let here : option_map node_of (slice_get graph i) ≡ Some node = ap (option_map node_of) c.at.ensures ∙ ap Some (sym c.in_ok-node.ensures) in
    let next : IsNext (nodes_before graph i) node =
    is_next_from graph i node here (λ more are. c.arrivals_are_closed.ensures (map entry_of (take (i + 1) graph)) more are (front_closed graph (i + 1) c.len.ensures.closed)) in
    let low : i ≤ length graph = omega arith in
    let size : length (nodes_before graph i) ≡ i = length-nodes graph i low in
    let few : length (nodes_before graph i) < 131072 = omega arith in
    record { next = record { rules = rules; nodes = nodes_before graph i; is = c.requires.state; next = next; few = few; judged = c.in_ok-verdict.ensures } }

pub returns-in-Ok : goal.returns-in-Ok
returns-in-Ok g c =
    let rules : Rules = rules_with g.L.Relation.answer c.args.schema.now.tables in
    let graph = c.args.graph.now in
    let i = c.args.position in
    let node = c.in_ok-node.node in
    let nodes = nodes_before graph i in
    let verdict = c.in_ok-verdict.verdict in
    let here : option_map node_of (slice_get graph i) ≡ Some node = ap (option_map node_of) c.at.ensures ∙ ap Some (sym c.in_ok-node.ensures) in
    let next : IsNext nodes node =
    is_next_from graph i node here (λ more are. c.arrivals_are_closed.ensures (map entry_of (take (i + 1) graph)) more are (front_closed graph (i + 1) c.len.ensures.closed)) in
    let state : IsStateOf rules (node ∷ nodes) (after c.args.tables.now node verdict) =
    c.applied_is_next.ensures rules nodes c.args.tables.now node verdict c.requires.state next c.in_ok-verdict.ensures in
    record {
      state = subst (λ (l : List NodeData). IsStateOf rules l c.apply.new.self) (sym (next_from graph i node here)) (subst (λ (s : State). IsStateOf rules (node ∷ nodes) s) (sym c.in-Ok.ensures) state);
      verdict = λ bytes there. c.in_ok-verdict.ensures ∙ ap (λ (m : NodeData). (judge_next rules (judged rules nodes) m).verdict) (node_there graph i bytes node there here);
      same = tt;
    }
