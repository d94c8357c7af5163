-- The order of depth and id, in which the nodes of a closed list differ.
use Rattle.std.proofs.Common.{◌≡◌, ℕ, ◌+◌, false, List, [], ◌∷◌, map, reverse, refl, sym, subst}
use Rattle.std.specs.List.{AllByRecursion, IsDistinct}
use Rattle.std.specs.Cmp.{IsTotalOrder}
use Rattle.std.specs.declared.cmp.Ordering.{Ordering}
use Rattle.std.specs.declared.cmp.Ordering.TheVariants.{Less, Equal, Greater}
use Rattle.std.specs.Ordering.{eq_by_cmp, is_eq, nat_cmp, ordering_then}
use Rattle.std.proofs.lemmas.Bool.{or_parts}
use Rattle.std.specs.List.Sorted.{IsPermutation}
use Rattle.std.proofs.lemmas.Cmp.{eq_by_cmp_equiv, nat_cmp_total, then_total, on_total}
use Rattle.std.proofs.lemmas.List.Sorted.{IsPermutation-map, IsPermutation-reverse, IsPermutation-sym, IsPermutation-trans}
use Rattle.std.proofs.lemmas.Map.Keys.{IsDistinct-IsPermutation}
use Rattle.update_model.specs.declared.update_id.UpdateId.{UpdateId}
use Rattle.update_model.specs.Entry.{id_cmp, same_id}
use Rattle.update_model.specs.Node.{NodeData}
use Rattle.update_model.proofs.Ids.{id_cmp_total}
use Rattle.table_model.specs.Nodes.{holds, IsClosed}
use Rattle.graph_drawing.specs.declared.placed.Placed.{Placed}
use Rattle.graph_drawing.specs.Depths.{depth_in, greatest, placed_in, rank, rank_cmp}

pub rank_cmp_total : IsTotalOrder rank_cmp
rank_cmp_total = then_total (on_total (λ (r : ℕ × UpdateId). r.0) nat_cmp_total) (on_total (λ (r : ℕ × UpdateId). r.1) id_cmp_total)

then_apart : (a b : Ordering) → is_eq b ≡ false → is_eq (ordering_then a b) ≡ false
then_apart Less b e = refl
then_apart Equal b e = e
then_apart Greater b e = refl

none_ranked : (depth : ℕ) (id : UpdateId) (nodes : List NodeData) → holds nodes id ≡ false → AllByRecursion (λ r. eq_by_cmp rank_cmp (depth, id) r ≡ false) (map rank (placed_in nodes))
none_ranked depth id [] h = tt
none_ranked depth id (node ∷ older) h =
    let parts = or_parts (same_id id node.id) (holds older id) h in
    (then_apart (nat_cmp depth (1 + greatest (map (depth_in older) node.preds))) (id_cmp id node.id) parts.0, none_ranked depth id older parts.1)

pub ranks_distinct : (nodes : List NodeData) → IsClosed nodes → IsDistinct (eq_by_cmp rank_cmp) (map rank (placed_in nodes))
unfolding IsDistinct
ranks_distinct [] c = tt
ranks_distinct (node ∷ older) c = (none_ranked (1 + greatest (map (depth_in older) node.preds)) node.id older c.0.new, ranks_distinct older c.1)

-- in the order of arrival
pub arrived_distinct : (nodes : List NodeData) → IsClosed nodes → (placed : List Placed) → placed ≡ reverse (placed_in nodes) → IsDistinct (eq_by_cmp rank_cmp) (map rank placed)
arrived_distinct nodes c placed is =
    let all = placed_in nodes in
    subst (λ (l : List Placed). IsDistinct (eq_by_cmp rank_cmp) (map rank l)) (sym is)
    (IsDistinct-IsPermutation (eq_by_cmp rank_cmp) ((eq_by_cmp_equiv rank_cmp_total).symm) (map rank all) (map rank (reverse all)) (IsPermutation-map rank all (reverse all) (IsPermutation-reverse all)) (ranks_distinct nodes c))

pub arrived_exact : (nodes : List NodeData) (placed sorted : List Placed) → placed ≡ reverse (placed_in nodes) → IsPermutation placed sorted → IsPermutation sorted (placed_in nodes)
arrived_exact nodes placed sorted is moved =
    let all = placed_in nodes in
    let back : IsPermutation sorted (reverse all) = subst (λ (l : List Placed). IsPermutation sorted l) is (IsPermutation-sym placed sorted moved) in
    IsPermutation-trans sorted (reverse all) all back (IsPermutation-sym all (reverse all) (IsPermutation-reverse all))
