-- The depth of an update is a function of the set, and greater than that of each predecessor.
use Rattle.std.proofs.Common.{◌≡◌, ℕ, ◌+◌, ◌≤◌, Bool, true, false, cond, ◌||◌, List, [], ◌∷◌, length, map, refl, sym, ◌∙◌, ap, subst, arith, Some}
use Rattle.std.specs.List.{list_all, AllByRecursion}
use Rattle.std.proofs.lemmas.Bool.{and_parts, both_ways, false_from_ne_true, or_right}
use Rattle.update_model.specs.declared.update_id.UpdateId.{UpdateId}
use Rattle.update_model.specs.Entry.{same_id}
use Rattle.update_model.specs.Node.{NodeData}
use Rattle.update_model.proofs.Ids.{id_from_same, same_id-refl, same_id-symm}
use Rattle.table_model.specs.Nodes.{holds, node_of, IsClosed, IsNext}
use Rattle.graph_drawing.specs.declared.placed.Placed.{Placed}
use Rattle.graph_drawing.specs.Depths.{depth_in, greatest, placed_in}
use Rattle.graph_drawing.proofs.Greatest.{fold-le, same_map}

-- ---- ids that are held

-- an id that is held is not one that is not
pub apart : (nodes : List NodeData) (id other : UpdateId) → holds nodes id ≡ false → holds nodes other ≡ true → same_id id other ≡ false
apart nodes id other none held =
    false_from_ne_true _ (λ same. both_ways _ none (subst (λ (x : UpdateId). holds nodes x ≡ true) (sym (id_from_same id other same)) held))

pub found_held : (nodes : List NodeData) (id : UpdateId) (node : NodeData) → node_of nodes id ≡ Some node → holds nodes id ≡ true
found_held [] id node e = absurd cc
found_held (first ∷ older) id node e =
    let step : (b : Bool) → same_id id first.id ≡ b → cond b (Some first) (node_of older id) ≡ Some node → (b || holds older id) ≡ true = elim [
      | true ↦ λ is at. refl
      | false ↦ λ is at. found_held older id node at
    ] in
    step (same_id id first.id) refl e

-- what is found among older nodes is found behind a new one
found_later : (first : NodeData) (older : List NodeData) → IsNext older first → (id : UpdateId) (node : NodeData) → node_of older id ≡ Some node → node_of (first ∷ older) id ≡ Some node
found_later first older next id node e =
    let other : same_id id first.id ≡ false = same_id-symm id first.id ∙ apart older first.id id next.new (found_held older id node e) in
    ap (λ (b : Bool). cond b (Some first) (node_of older id)) other ∙ e

-- ---- depths

-- a new node leaves the depths of those that are held
pub depth_later : (first : NodeData) (older : List NodeData) → IsNext older first → (id : UpdateId) → holds older id ≡ true → depth_in (first ∷ older) id ≡ depth_in older id
depth_later first older next id held =
    ap (λ (b : Bool). cond b (1 + greatest (map (depth_in older) first.preds)) (depth_in older id)) (apart older first.id id next.new held)

depth_first : (first : NodeData) (older : List NodeData) (id : UpdateId) → same_id id first.id ≡ true → depth_in (first ∷ older) id ≡ 1 + greatest (map (depth_in older) first.preds)
depth_first first older id is =
    ap (λ (b : Bool). cond b (1 + greatest (map (depth_in older) first.preds)) (depth_in older id)) (same_id-symm first.id id ∙ is)

all_later : (first : NodeData) (older : List NodeData) (ids : List UpdateId) → list_all (holds older) ids ≡ true → list_all (holds (first ∷ older)) ids ≡ true
all_later first older [] h = refl
all_later first older (id ∷ ids) h =
    let parts = and_parts (holds older id) (list_all (holds older) ids) h in
    let here : holds (first ∷ older) id ≡ true = or_right (same_id id first.id) (holds older id) parts.0 in
    rw here (all_later first older ids parts.1)

preds_held : (nodes : List NodeData) → IsClosed nodes → (id : UpdateId) (node : NodeData) → node_of nodes id ≡ Some node → list_all (holds nodes) node.preds ≡ true
preds_held [] c id node e = absurd cc
preds_held (first ∷ older) c id node e =
    let step : (b : Bool) → same_id id first.id ≡ b → cond b (Some first) (node_of older id) ≡ Some node → list_all (holds (first ∷ older)) node.preds ≡ true = elim [
      | true ↦ λ is at. let same : first ≡ node = cc in subst (λ (n : NodeData). list_all (holds (first ∷ older)) n.preds ≡ true) same (all_later first older first.preds c.0.preds)
      | false ↦ λ is at. all_later first older node.preds (preds_held older c.1 id node at)
    ] in
    step (same_id id first.id) refl e

-- in a closed list a node lies one deeper than the deepest of its predecessors
pub depth_is : (nodes : List NodeData) → IsClosed nodes → (id : UpdateId) (node : NodeData) → node_of nodes id ≡ Some node → depth_in nodes id ≡ 1 + greatest (map (depth_in nodes) node.preds)
depth_is [] c id node e = absurd cc
depth_is (first ∷ older) c id node e =
    let later : (ids : List UpdateId) → list_all (holds older) ids ≡ true → map (depth_in older) ids ≡ map (depth_in (first ∷ older)) ids =
    λ ids held. same_map (depth_in older) (depth_in (first ∷ older)) (holds older) (λ q h. sym (depth_later first older c.0 q h)) ids held in
    let step : (b : Bool) → same_id id first.id ≡ b → cond b (Some first) (node_of older id) ≡ Some node → depth_in (first ∷ older) id ≡ 1 + greatest (map (depth_in (first ∷ older)) node.preds) = elim [
      | true ↦ λ is at.
          let same : first ≡ node = cc in
          depth_first first older id is ∙ ap (λ ns. 1 + greatest ns) (later first.preds c.0.preds) ∙ ap (λ (n : NodeData). 1 + greatest (map (depth_in (first ∷ older)) n.preds)) same
      | false ↦ λ is at.
          depth_later first older c.0 id (found_held older id node at) ∙ depth_is older c.1 id node at ∙ ap (λ ns. 1 + greatest ns) (later node.preds (preds_held older c.1 id node at))
    ] in
    step (same_id id first.id) refl e

-- ---- depths are of the set

-- each node of one list is found in the other
abbrev pub IsAmong : List NodeData → List NodeData → Type 0
IsAmong xs ys = (id : UpdateId) (node : NodeData) → node_of xs id ≡ Some node → node_of ys id ≡ Some node

pub same_depth : (xs ys : List NodeData) → IsClosed xs → IsClosed ys → IsAmong xs ys → (id : UpdateId) → holds xs id ≡ true → depth_in xs id ≡ depth_in ys id
same_depth [] ys c d among id held = absurd cc
same_depth (first ∷ older) ys c d among id held =
    let later : IsAmong older ys = λ q node e. among q node (found_later first older c.0 q node e) in
    let agree : (q : UpdateId) → holds older q ≡ true → depth_in older q ≡ depth_in ys q = same_depth older ys c.1 d later in
    let step : (b : Bool) → same_id id first.id ≡ b → (b || holds older id) ≡ true → depth_in (first ∷ older) id ≡ depth_in ys id = elim [
      | true ↦ λ is h.
          let here : node_of (first ∷ older) id ≡ Some first = ap (λ (b : Bool). cond b (Some first) (node_of older id)) is in
          depth_first first older id is
          ∙ ap (λ ns. 1 + greatest ns) (same_map (depth_in older) (depth_in ys) (holds older) agree first.preds c.0.preds)
          ∙ sym (depth_is ys d id first (among id first here))
      | false ↦ λ is h. depth_later first older c.0 id h ∙ agree id h
    ] in
    step (same_id id first.id) refl held

-- ---- placed nodes

-- what each placed node is, is told of each node that is found
pub at_node : (P : Placed → Type 0) (nodes : List NodeData) → IsClosed nodes → AllByRecursion P (placed_in nodes) → (id : UpdateId) (node : NodeData) → node_of nodes id ≡ Some node
    → P (record { depth = depth_in nodes id; node = node })
at_node P [] c h id node e = absurd cc
at_node P (first ∷ older) c h id node e =
    let step : (b : Bool) → same_id id first.id ≡ b → cond b (Some first) (node_of older id) ≡ Some node → P (record { depth = depth_in (first ∷ older) id; node = node }) = elim [
      | true ↦ λ is at.
          let same : first ≡ node = cc in
          subst (λ (n : NodeData). P (record { depth = depth_in (first ∷ older) id; node = n })) same
          (subst (λ (d : ℕ). P (record { depth = d; node = first })) (sym (depth_first first older id is)) h.0)
      | false ↦ λ is at.
          subst (λ (d : ℕ). P (record { depth = d; node = node })) (sym (depth_later first older c.0 id (found_held older id node at))) (at_node P older c.1 h.1 id node at)
    ] in
    step (same_id id first.id) refl e

pub from_nodes : (P : Placed → Type 0) (nodes : List NodeData) → IsClosed nodes
    → ((id : UpdateId) (node : NodeData) → node_of nodes id ≡ Some node → P (record { depth = depth_in nodes id; node = node })) → AllByRecursion P (placed_in nodes)
from_nodes P [] c told = tt
from_nodes P (first ∷ older) c told =
    let itself : same_id first.id first.id ≡ true = same_id-refl first.id in
    let here : node_of (first ∷ older) first.id ≡ Some first = ap (λ (b : Bool). cond b (Some first) (node_of older first.id)) itself in (
      subst (λ (d : ℕ). P (record { depth = d; node = first })) (depth_first first older first.id itself) (told first.id first here),
      from_nodes P older c.1 (λ id node e.
          subst (λ (d : ℕ). P (record { depth = d; node = node })) (depth_later first older c.0 id (found_held older id node e)) (told id node (found_later first older c.0 id node e))),
    )

-- the id of what is found
pub found_id : (nodes : List NodeData) (id : UpdateId) (node : NodeData) → node_of nodes id ≡ Some node → id ≡ node.id
found_id [] id node e = absurd cc
found_id (first ∷ older) id node e =
    let step : (b : Bool) → same_id id first.id ≡ b → cond b (Some first) (node_of older id) ≡ Some node → id ≡ node.id = elim [
      | true ↦ λ is at. let same : first ≡ node = cc in id_from_same id first.id is ∙ ap (λ (n : NodeData). n.id) same
      | false ↦ λ is at. found_id older id node at
    ] in
    step (same_id id first.id) refl e

-- a depth is at most the number of nodes
pub depth-le : (nodes : List NodeData) (id : UpdateId) → depth_in nodes id ≤ length nodes
depth-le [] id = omega arith
depth-le (first ∷ older) id =
    let rest = depth-le older id in
    let top = fold-le (depth_in older) (length older) (depth-le older) 0 (omega arith) first.preds in
    let step : (b : Bool) → cond b (1 + greatest (map (depth_in older) first.preds)) (depth_in older id) ≤ length (first ∷ older) = elim [
      | true ↦ omega (arith, top)
      | false ↦ omega (arith, rest)
    ] in
    step (same_id first.id id)
