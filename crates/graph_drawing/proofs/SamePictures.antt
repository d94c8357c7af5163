-- A picture is of the set of updates.
use Rattle.std.proofs.Common.{◌≡◌, ℕ, List, sym, ◌∙◌, ap, subst, Some}
use Rattle.std.proofs.lemmas.List.Sorted.{IsPermutation-sym}
use Rattle.schema.specs.declared.table_def.TableDef.{TableDef}
use Rattle.update_model.specs.Node.{NodeData}
use Rattle.table_model.specs.Nodes.{node_of, IsClosed, IsSameSet}
use Rattle.confluence_laws.proofs.SameTables.{PassesOn, permuted_on}
use Rattle.graph_drawing.specs.declared.form.Form.{Form}
use Rattle.graph_drawing.specs.declared.placed.Placed.{Placed}
use Rattle.graph_drawing.specs.Depths.{AreInOrder, depth_in, placed_in, rank, rank_cmp}
use Rattle.graph_drawing.specs.Pictures.{IsPicture, text_in_order}
use Rattle.graph_drawing.specs.Told.{Told}
use Rattle.graph_drawing.proofs.DepthFacts.{at_node, found_held, from_nodes, same_depth}
use Rattle.graph_drawing.proofs.Ranks.{rank_cmp_total}
use Rattle.graph_drawing.proofs.Rising.{one_list, rises}

passes_through : {X : Type 0} {xs ys zs : List X} → PassesOn xs ys → PassesOn ys zs → PassesOn xs zs
passes_through a b = record { on = λ P h. b.on P (a.on P h) }

flipped : (xs ys : List NodeData) → IsSameSet xs ys → IsSameSet ys xs
flipped xs ys same id = sym (same id)

placed_on : (xs ys : List NodeData) → IsClosed xs → IsClosed ys → IsSameSet xs ys → PassesOn (placed_in xs) (placed_in ys)
placed_on xs ys c d same = record {
  on = λ P h.
      from_nodes P ys d (λ id node e.
      let there : node_of xs id ≡ Some node = same id ∙ e in
      let depth : depth_in xs id ≡ depth_in ys id = same_depth xs ys c d (λ q n f. sym (same q) ∙ f) id (found_held xs id node there) in
      subst (λ (k : ℕ). P (record { depth = k; node = node })) depth (at_node P xs c h id node there));
}

-- the nodes of one set are in one order
pub same_order : (xs ys : List NodeData) → IsClosed xs → IsClosed ys → IsSameSet xs ys → (placed others : List Placed) → AreInOrder xs placed → AreInOrder ys others → placed ≡ others
same_order xs ys c d same placed others a b =
    let one = placed_in xs in
    let two = placed_in ys in
    one_list rank rank_cmp rank_cmp_total placed others (rises rank rank_cmp rank_cmp_total placed a.rising) (rises rank rank_cmp rank_cmp_total others b.rising)
    (passes_through (permuted_on placed one a.exact) (passes_through (placed_on xs ys c d same) (permuted_on two others (IsPermutation-sym others two b.exact))))
    (passes_through (permuted_on others two b.exact) (passes_through (placed_on ys xs d c (flipped xs ys same)) (permuted_on one placed (IsPermutation-sym placed one a.exact))))

pub same_picture : (form : Form) (tables : List TableDef) (xs ys : List NodeData) (told : Told) (text other : List ℕ)
    → IsClosed xs → IsClosed ys → IsSameSet xs ys → IsPicture form tables xs told text → IsPicture form tables ys told other → text ≡ other
same_picture form tables xs ys told text other c d same a b =
    a.2 ∙ ap (text_in_order form tables told) (same_order xs ys c d same a.0 b.0 a.1 b.1) ∙ sym b.2
