use Rattle.std.proofs.Common.{◌≡◌, ℕ, ◌≤◌, ◌+◌, max, List, [], ◌∷◌, ◌++◌, length, map, reverse, take, Some, ◌∙◌, sym, ap, subst, arith}
use Rattle.std.specs.BTreeMap.{get, Updates}
use Rattle.std.proofs.lemmas.List.Folds.{fold-map}
use Rattle.std.specs.Option.{unwrap_or}
use Rattle.update_model.specs.declared.update_id.UpdateId.{UpdateId}
use Rattle.update_model.specs.Entry.{id_cmp}
use Rattle.update_model.specs.Node.{NodeData}
use Rattle.graph_drawing.specs.Depths.{depth_in, greatest, nodes_of, placed_in}
use Rattle.graph_drawing.proofs.Arrived.{known_next, nodes_next, nodes-le, placed_next}
use Rattle.graph_drawing.proofs.DepthFacts.{depth-le}
use Rattle.graph_drawing.proofs.Greatest.{fold-le}
use Rattle.graph_drawing.proofs.depths.place_all.Goals as goal

pub overflow_add-depth : goal.overflow_add-depth
overflow_add-depth c =
    let nodes = nodes_of (take c.loop-position.position c.args.graph.now) in
    let known : UpdateId → ℕ = λ id. unwrap_or (get id_cmp c.loop-position.depths id) 0 in
    let small : (id : UpdateId) → known id ≤ length nodes = λ id. subst (λ (n : ℕ). n ≤ length nodes) (sym (c.loop-position.invariant.known id)) (depth-le nodes id) in
    let top = fold-le known (length nodes) small 0 (omega arith) c.as_slice.result.now in
    let size = nodes-le c.args.graph.now c.loop-position.position in
    let is : c.greatest_depth-depth.result ≡ greatest (map known c.as_slice.result.now) = c.greatest_depth-depth.ensures ∙ sym (fold-map max known 0 c.as_slice.result.now) in
    omega (arith, top, size, is, c.loop-position-test.true, c.len-position-end.ensures.few)

pub loop-position-preserved : goal.loop-position-preserved
loop-position-preserved c =
    let graph = c.args.graph.now in
    let older = nodes_of (take c.loop-position.position graph) in
    let node : NodeData = c.in_ok-node.node in
    let next : nodes_of (take (c.loop-position.position + 1) graph) ≡ node ∷ older = nodes_next graph c.loop-position.position c.at.result.now c.at.ensures ∙ ap (λ (n : NodeData). n ∷ older) (sym c.in_ok-node.ensures) in
    let known : UpdateId → ℕ = λ id. unwrap_or (get id_cmp c.loop-position.depths id) 0 in
    let preds : c.as_slice.result.now ≡ node.preds = c.as_slice.ensures ∙ ap (λ (n : NodeData). n.preds) c.node-in-loop-position.view_is in
    let depth : 1 + c.greatest_depth-depth.result ≡ 1 + greatest (map known node.preds) = ap (λ n. 1 + n) (c.greatest_depth-depth.ensures ∙ sym (fold-map max known 0 c.as_slice.result.now) ∙ ap (λ (ids : List UpdateId). greatest (map known ids)) preds) in
    let view = c.node-in-loop-position.view_is in
    let updates : Updates id_cmp c.loop-position.depths c.insert.new.self node.id (Some (1 + c.greatest_depth-depth.result)) =
    subst (λ (k : UpdateId). Updates id_cmp c.loop-position.depths c.insert.new.self k (Some (1 + c.greatest_depth-depth.result))) (ap (λ (n : NodeData). n.id) view) c.in_ok-insert.ensures.updates in
    let items = c.in_ok-push.ensures.items in
    let pushed : c.push.new.self.items ≡ c.loop-position.placed.items ++ record { depth = 1 + c.greatest_depth-depth.result; node = node } ∷ [] = cc in
    record {
      known = λ id.
          known_next older node c.loop-position.depths c.insert.new.self (1 + c.greatest_depth-depth.result) c.loop-position.invariant.known depth updates id
          ∙ ap (λ (l : List NodeData). depth_in l id) (sym next);
      placed =
          placed_next older node known (1 + c.greatest_depth-depth.result) c.loop-position.placed.items c.push.new.self.items c.loop-position.invariant.known depth c.loop-position.invariant.placed pushed
          ∙ ap (λ (l : List NodeData). reverse (placed_in l)) (sym next);
    }
