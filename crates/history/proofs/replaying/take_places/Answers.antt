use Rattle.std.proofs.Common.{◌≡◌, ℕ, ◌+◌, ◌<◌, ◌≤◌, List, [], ◌∷◌, ◌++◌, length, map, take, sym, ap, subst, ◌∙◌, arith, All}
use Rattle.std.specs.List.{filter_map}
use Rattle.update_codec.specs.Parts.{entry_of, preds_of}
use Rattle.update_check.specs.Signed.{node_of}
use Rattle.table_model.specs.Nodes.{IsClosed}
use Rattle.history.specs.Arrivals.{nodes_before, place_in}
use Rattle.history.proofs.Arriving.{are_nodes, front_closed, length-before, places_earlier, places_next}
use Rattle.history.proofs.replaying.take_places.Goals as goal

pub add-requires-clause-earlier : goal.add-requires-clause-earlier
add-requires-clause-earlier c =
    let graph = c.args.graph.now in
    let bytes = c.at.result.now in
    let next = take (c.args.position + 1) graph in
    let closed : IsClosed (nodes_before graph (c.args.position + 1)) =
    c.arrivals_are_closed.ensures (map entry_of next) (map node_of next) (are_nodes next) (front_closed graph (c.args.position + 1) c.len.ensures.closed) in
    let places : c.as_slice.result.now ≡ filter_map (place_in graph) (preds_of bytes) =
    c.as_slice.ensures.value ∙ c.in_ok-places.ensures ∙ ap (filter_map (place_in graph)) c.preds.ensures.value in
    subst (λ (l : List ℕ). All (λ p. p < length c.args.ancestry.now) l) (sym places)
    (subst (λ (old : List (List ℕ)). All (λ p. p < length old) (filter_map (place_in graph) (preds_of bytes))) (sym c.requires.places)
    (places_earlier graph c.args.position bytes c.at.ensures closed))

pub add-requires-clause-room : goal.add-requires-clause-room
add-requires-clause-room c =
    let low : c.args.position ≤ length c.args.graph.now = omega arith in
    let size : length c.args.ancestry.now ≡ c.args.position = ap length c.requires.places ∙ length-before c.args.graph.now c.args.position low in omega arith

pub returns-clause-places : goal.returns-clause-places
returns-clause-places c =
    let graph = c.args.graph.now in
    let bytes = c.at.result.now in
    let places : c.as_slice.result.now ≡ filter_map (place_in graph) (preds_of bytes) =
    c.as_slice.ensures.value ∙ c.in_ok-places.ensures ∙ ap (filter_map (place_in graph)) c.preds.ensures.value in
    c.in_ok-add.ensures.value ∙ (λ i. c.requires.places i ++ places i ∷ []) ∙ sym (places_next graph c.args.position bytes c.at.ensures)
