-- The ancestors by which an update is judged are its ancestors in the graph.
use Rattle.std.proofs.Common.{◌≡◌, ◌⊎◌, inl, inr, Bool, true, false, ◌&&◌, ◌||◌, List, [], ◌∷◌, ◌++◌, reverse, refl, sym, ◌∙◌, ap, subst, Contains}
use Rattle.std.specs.Prelude.{◌↔◌}
use Rattle.std.specs.List.{list_any}
use Rattle.std.proofs.lemmas.Bool.{and_parts, and_from, both_ways, or_left, or_right, or_parts}
use Rattle.std.proofs.lemmas.List.Folds.{list_any-append}
use Rattle.update_model.specs.declared.update_id.UpdateId.{UpdateId}
use Rattle.update_model.specs.Entry.{Entry, same_id}
use Rattle.update_model.specs.Graph.{Follows, IsAncestor, has, holds as graph_holds, named, through}
use Rattle.update_model.specs.Node.{NodeData}
use Rattle.update_model.proofs.Ids.{id_from_same, same_id-refl}
use Rattle.table_model.specs.Nodes.{AreNodesOf, IsClosed, IsNext, holds}
use Rattle.table_model.specs.Verdicts.{Judged, ancestor_of, judge_next, judged}
use Rattle.table_model.specs.Visible.{Rules}
use Rattle.table_model.proofs.Arrivals.{closed_reversed}
use Rattle.table_model.proofs.Members.{any_finds, any_of_contained, contains_cases, contains_first, contains_later, none_in, turned_contains}
use Rattle.table_model.proofs.Order.{at_id}

or_split : (x y : Bool) → (x || y) ≡ true → (x ≡ true) ⊎ (y ≡ true)
or_split true y h = inl refl
or_split false y h = inr h

-- later members are new
later_new : (before es : List Entry) → Follows before es → (y : Entry) → Contains es y → graph_holds before y.id ≡ false
later_new before [] f y c = absurd (none_in y c)
later_new before (e ∷ es) f y c = elim (contains_cases e y es c) [
  | inl here ↦ subst (λ (x : Entry). graph_holds before x.id ≡ false) here f.0.new
  | inr later ↦
      (or_parts (graph_holds before y.id) (graph_holds (e ∷ []) y.id)
      (sym (list_any-append (λ (x : Entry). same_id y.id x.id) before (e ∷ [])) ∙ later_new (before ++ e ∷ []) es f.1 y later)).0
]

-- so the first of some members has no id of a later one
first_apart : (before es : List Entry) (e y : Entry) → Follows (before ++ e ∷ []) es → Contains es y → e.id ≡ y.id → ⊥
first_apart before es e y f c same =
    let new = later_new (before ++ e ∷ []) es f y c in
    let here : same_id y.id e.id ≡ true = subst (λ (id : UpdateId). same_id y.id id ≡ true) (sym same) (same_id-refl y.id) in
    both_ways _ new (list_any-append (λ (x : Entry). same_id y.id x.id) before (e ∷ []) ∙ or_right (graph_holds before y.id) _ (or_left (same_id y.id e.id) false here))

-- members of one id are one
one_member : (before es : List Entry) → Follows before es → (x y : Entry) → Contains es x → Contains es y → x.id ≡ y.id → x ≡ y
one_member before [] f x y cx cy same = absurd (none_in x cx)
one_member before (e ∷ es) f x y cx cy same =
    let cases : (e ≡ x) ⊎ Contains es x → (e ≡ y) ⊎ Contains es y → x ≡ y =
    elim [
      | inl hx ↦ elim [
        | inl hy ↦ sym hx ∙ hy
        | inr ly ↦ absurd (first_apart before es e y f.1 ly (ap (λ (m : Entry). m.id) hx ∙ same))
      ]
      | inr lx ↦ elim [
        | inl hy ↦ absurd (first_apart before es e x f.1 lx (ap (λ (m : Entry). m.id) hy ∙ sym same))
        | inr ly ↦ one_member (before ++ e ∷ []) es f.1 x y lx ly same
      ]
    ] in
    cases (contains_cases e x es cx) (contains_cases e y es cy)

-- each node is of a member
backs : (es : List Entry) (ns : List NodeData) → AreNodesOf es ns → (n : NodeData) → Contains ns n → (x : Entry) × Contains es x × (x.id ≡ n.id) × (x.preds ≡ n.preds)
backs [] [] h n c = absurd (none_in n c)
backs [] (m ∷ ns) h n c = absurd h
backs (e ∷ es) [] h n c = absurd h
backs (e ∷ es) (m ∷ ns) h n c = elim (contains_cases m n ns c) [
  | inl here ↦ (e, contains_first e es, h.0 ∙ ap (λ (k : NodeData). k.id) here, h.1 ∙ ap (λ (k : NodeData). k.preds) here)
  | inr later ↦ let x = backs es ns h.2 n later in (x.0, contains_later e x.0 es x.1, x.2, x.3)
]

module _ (rules : Rules) (graph : List Entry) (closed : Follows [] graph) where
  -- each of these nodes is of a member
  abbrev Backed : List NodeData → Type 0
  Backed ns = (n : NodeData) → Contains ns n → (x : Entry) × Contains graph x × (x.id ≡ n.id) × (x.preds ≡ n.preds)

  judged_node : (ns : List NodeData) (j : Judged) → Contains (judged rules ns) j → Contains ns j.node
  unfolding judged judge_next
  judged_node [] j c = absurd (none_in j c)
  judged_node (n ∷ ns) j c = elim (contains_cases (judge_next rules (judged rules ns) n) j (judged rules ns) c) [
    | inl here ↦ subst (λ (k : Judged). Contains (n ∷ ns) k.node) here (contains_first n ns)
    | inr later ↦ contains_later n j.node ns (judged_node ns j later)
  ]

  preds_are : (ns : List NodeData) → Backed ns → (j : Judged) → Contains (judged rules ns) j → (e : Entry) → Contains graph e → e.id ≡ j.node.id → e.preds ≡ j.node.preds
  preds_are ns b j cj e ce same =
      let at = b j.node (judged_node ns j cj) in
      let one : at.0 ≡ e = one_member [] graph closed at.0 e at.1 ce (at.2 ∙ sym same) in
      sym (ap (λ (x : Entry). x.preds) one) ∙ at.3

  forth : (ns : List NodeData) → Backed ns → (j : Judged) → Contains (judged rules ns) j → (a e : Entry) → Contains graph a → Contains graph e → e.id ≡ j.node.id
      → j.is_ancestor a.id ≡ true → IsAncestor graph a e
  unfolding judged judge_next
  forth [] b j c a e ca ce same h = absurd (none_in j c)
  forth (n ∷ ns) b j c a e ca ce same h =
      let js = judged rules ns in
      let older : Backed ns = λ m cm. b m (contains_later n m ns cm) in
      elim (contains_cases (judge_next rules js n) j js c) [
        | inl here ↦
            let preds : e.preds ≡ n.preds = preds_are (n ∷ ns) b j c e ce same ∙ sym (ap (λ (k : Judged). k.node.preds) here) in
            let passes : (has n.preds a.id || list_any (λ (k : Judged). has n.preds k.node.id && k.is_ancestor a.id) js) ≡ true = subst (λ (k : Judged). k.is_ancestor a.id ≡ true) (sym here) h in
            elim (or_split (has n.preds a.id) _ passes) [
              | inl calls ↦ named e ca (ap (λ (l : List UpdateId). has l a.id) preds ∙ calls)
              | inr any ↦
                  let found = any_finds (λ (k : Judged). has n.preds k.node.id && k.is_ancestor a.id) js any in
                  let parts = and_parts (has n.preds found.0.node.id) (found.0.is_ancestor a.id) found.2 in
                  let p = older found.0.node (judged_node ns found.0 found.1) in
                  through p.0 e p.1 ((λ i. has (preds i) (p.2 i)) ∙ parts.0) (forth ns older found.0 found.1 a p.0 ca p.1 p.2 parts.1)
            ]
        | inr later ↦ forth ns older j later a e ca ce same h
      ]

  -- what a node is judged on
  older_of : (ns : List NodeData) → IsClosed ns → (j : Judged) → Contains (judged rules ns) j
      → (older : List NodeData) × IsNext older j.node × ((id : UpdateId) → j.is_ancestor id ≡ ancestor_of (judged rules older) j.node id)
      × ((k : Judged) → Contains (judged rules older) k → Contains (judged rules ns) k)
  unfolding judged judge_next
  older_of [] c j cj = absurd (none_in j cj)
  older_of (n ∷ ns) c j cj =
      let first = judge_next rules (judged rules ns) n in
      elim (contains_cases first j (judged rules ns) cj) [
        | inl here ↦ (
          ns,
          subst (λ (k : Judged). IsNext ns k.node) here c.0,
          subst (λ (k : Judged). (id : UpdateId) → k.is_ancestor id ≡ ancestor_of (judged rules ns) k.node id) here (λ id. refl),
          λ k ck. contains_later first k (judged rules ns) ck,
        )
        | inr later ↦ let o = older_of ns c.1 j later in (o.0, o.1, o.2, λ k ck. contains_later first k (judged rules ns) (o.3 k ck))
      ]

  held_judged : (ns : List NodeData) (id : UpdateId) → holds ns id ≡ true → (k : Judged) × Contains (judged rules ns) k × (k.node.id ≡ id)
  unfolding judged judge_next
  held_judged [] id h = absurd cc
  held_judged (n ∷ ns) id h =
      let first = judge_next rules (judged rules ns) n in
      elim (or_split (same_id id n.id) (holds ns id) h) [
        | inl same ↦ (first, contains_first first (judged rules ns), sym (id_from_same id n.id same))
        | inr later ↦ let k = held_judged ns id later in (k.0, contains_later first k.0 (judged rules ns) k.1, k.2)
      ]

  back : (ns : List NodeData) → IsClosed ns → Backed ns → (a e : Entry) → IsAncestor graph a e → Contains graph e → (j : Judged) → Contains (judged rules ns) j → e.id ≡ j.node.id
      → j.is_ancestor a.id ≡ true
  back ns c b a e (named _ held calls) ce j cj same =
      let o = older_of ns c j cj in
      let own : has j.node.preds a.id ≡ true = sym (ap (λ (l : List UpdateId). has l a.id) (preds_are ns b j cj e ce same)) ∙ calls in
      o.2 a.id ∙ or_left (has j.node.preds a.id) _ own
  back ns c b a e (through p _ held calls rest) ce j cj same =
      let o = older_of ns c j cj in
      let own : has j.node.preds p.id ≡ true = sym (ap (λ (l : List UpdateId). has l p.id) (preds_are ns b j cj e ce same)) ∙ calls in
      let k = held_judged o.0 p.id (at_id (holds o.0) j.node.preds p.id o.1.preds own) in
      let up = back ns c b a p rest held k.0 (o.3 k.0 k.1) (sym k.2) in
      o.2 a.id
      ∙ or_right (has j.node.preds a.id) _
      (any_of_contained (λ (m : Judged). has j.node.preds m.node.id && m.is_ancestor a.id) (judged rules o.0) k.0 k.1 (and_from _ _ (ap (has j.node.preds) k.2 ∙ own) up))

pub same_ancestors : (rules : Rules) (graph : List Entry) (nodes : List NodeData) (a e : Entry) (j : Judged) → AreNodesOf graph nodes → Follows [] graph
    → Contains graph a → Contains graph e → Contains (judged rules (reverse nodes)) j → e.id ≡ j.node.id → (j.is_ancestor a.id ≡ true) ↔ IsAncestor graph a e
same_ancestors rules graph nodes a e j are follows ca ce cj same =
    let backed : (n : NodeData) → Contains (reverse nodes) n → (x : Entry) × Contains graph x × (x.id ≡ n.id) × (x.preds ≡ n.preds) = λ n c. backs graph nodes are n (turned_contains n nodes c) in
    (forth rules graph follows (reverse nodes) backed j cj a e ca ce same, λ up. back rules graph follows (reverse nodes) (closed_reversed [] [] tt graph nodes are tt follows) backed a e up ce j cj same)
