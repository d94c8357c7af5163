-- Where a node stands in a list, newest first: at a position as high as those behind it are many.
use Rattle.std.proofs.Common.{◌≡◌, ℕ, suc, ◌<◌, ◌==◌, true, false, List, [], ◌∷◌, ◌++◌, length, refl, sym, ◌∙◌, subst, arith, inl, inr, ◌⊎◌}
use Rattle.std.proofs.lemmas.Bool.{both_ways, or_left, or_right, eq-eqb, ne_eqb, false_from_ne_true}
use Rattle.std.proofs.lemmas.List.{length-append}
use Rattle.update_model.specs.declared.update_id.UpdateId.{UpdateId}
use Rattle.update_model.specs.Entry.{same_id}
use Rattle.update_model.specs.Node.{NodeData}
use Rattle.update_model.proofs.Ids.{id_from_same, same_id-refl}
use Rattle.table_model.specs.Nodes.{holds, IsClosed}

-- the node with this id stands at this position
abbrev pub IsAt : List NodeData → UpdateId → ℕ → Type 0
IsAt [] id k = ⊥
IsAt (n ∷ older) id k = ((n.id ≡ id) × (length older ≡ k)) ⊎ IsAt older id k

pub at_below : (ns : List NodeData) (id : UpdateId) (k : ℕ) → IsAt ns id k → k < length ns
at_below [] id k at = absurd at
at_below (n ∷ older) id k (inl here) = let e = here.1 in omega arith
at_below (n ∷ older) id k (inr there) = let low : k < length older = at_below older id k there in omega arith

pub at_held : (ns : List NodeData) (id : UpdateId) (k : ℕ) → IsAt ns id k → holds ns id ≡ true
at_held [] id k at = absurd at
at_held (n ∷ older) id k (inl here) = or_left _ _ (subst (λ (x : UpdateId). same_id id x ≡ true) (sym here.0) (same_id-refl id))
at_held (n ∷ older) id k (inr there) = or_right (same_id id n.id) _ (at_held older id k there)

-- an id that is held is not that of a new node
pub other_id : (older : List NodeData) (n : NodeData) (id : UpdateId) → holds older n.id ≡ false → holds older id ≡ true → same_id n.id id ≡ false
other_id older n id new held =
    false_from_ne_true _ (λ same. both_ways _ new (subst (λ (x : UpdateId). holds older x ≡ true) (sym (id_from_same n.id id same)) held))

pub other_back : (older : List NodeData) (n : NodeData) (id : UpdateId) → holds older n.id ≡ false → holds older id ≡ true → same_id id n.id ≡ false
other_back older n id new held =
    false_from_ne_true _ (λ same. both_ways _ new (subst (λ (x : UpdateId). holds older x ≡ true) (id_from_same id n.id same) held))

-- two ids are one exactly where they stand at one position
pub same_place : (ns : List NodeData) → IsClosed ns → (x y : UpdateId) (i k : ℕ) → IsAt ns x i → IsAt ns y k → same_id x y ≡ (k == i)
same_place [] c x y i k a b = absurd a
same_place (n ∷ older) c x y i k (inl a) (inl b) =
    let same : x ≡ y = sym a.0 ∙ b.0 in
    let places : k ≡ i = sym b.1 ∙ a.1 in
    subst (λ (z : UpdateId). same_id x z ≡ true) same (same_id-refl x) ∙ sym (eq-eqb k i places)
same_place (n ∷ older) c x y i k (inl a) (inr b) =
    let low : k < length older = at_below older y k b in
    let e = a.1 in
    let apart : (k == i) ≡ false = ne_eqb k i (λ same. omega arith) in
    subst (λ (z : UpdateId). same_id z y ≡ false) a.0 (other_id older n y c.0.new (at_held older y k b)) ∙ sym apart
same_place (n ∷ older) c x y i k (inr a) (inl b) =
    let low : i < length older = at_below older x i a in
    let e = b.1 in
    let apart : (k == i) ≡ false = ne_eqb k i (λ same. omega arith) in
    subst (λ (z : UpdateId). same_id x z ≡ false) b.0 (other_back older n x c.0.new (at_held older x i a)) ∙ sym apart
same_place (n ∷ older) c x y i k (inr a) (inr b) = same_place older c.1 x y i k a b

-- one more node in front of all
pub at_last : (ns : List NodeData) (n : NodeData) → IsAt (ns ++ n ∷ []) n.id 0
at_last [] n = inl (refl, refl)
at_last (m ∷ older) n = inr (at_last older n)

pub at_shift : (ns : List NodeData) (n : NodeData) (id : UpdateId) (k : ℕ) → IsAt ns id k → IsAt (ns ++ n ∷ []) id (suc k)
at_shift [] n id k at = absurd at
at_shift (m ∷ older) n id k (inl here) = let e = here.1 in let more = length-append older (n ∷ []) in inl (here.0, omega (arith, e, more))
at_shift (m ∷ older) n id k (inr there) = inr (at_shift older n id k there)
