-- A node that names all heads of a closed list has the whole list behind it.
use Rattle.std.proofs.Common.{◌≡◌, inl, inr, Bool, true, false, cond, not, ◌&&◌, ◌||◌, List, [], ◌∷◌, filter, reverse, refl, sym, ap, ap₂, subst, ◌∙◌}
use Rattle.std.specs.List.{AllByRecursion, list_any}
use Rattle.std.proofs.lemmas.Bool.{and_from, and_parts, both_ways, false_from_ne_true, or_cases, or_from, or_left, or_parts, or_right}
use Rattle.update_model.specs.declared.update_id.UpdateId.{UpdateId}
use Rattle.update_model.specs.Entry.{Entry, same_id}
use Rattle.update_model.specs.Graph.{AreHeads, Follows, has}
use Rattle.update_model.specs.Node.{NodeData}
use Rattle.update_model.proofs.Ids.{id_from_same, same_id-refl}
use Rattle.table_model.specs.Nodes.{AreNodesOf, IsClosed, holds}
use Rattle.table_model.specs.Verdicts.{Judged, ancestor_of, effects, effects_in, judge_next, judged, verdict_on}
use Rattle.table_model.specs.Visible.{Rules}
use Rattle.table_model.proofs.Arrivals.{closed_reversed}
use Rattle.table_model.proofs.Members.{any_reversed}
use Rattle.table_model.proofs.Order.{ancestors_held, any_weaker, at_id}

-- ---- lists

filter_all : {X : Type 0} (p : X → Bool) (xs : List X) → AllByRecursion (λ x. p x ≡ true) xs → filter p xs ≡ xs
filter_all p [] h = refl
filter_all p (x ∷ xs) h = λ i. cond (h.0 i) (x ∷ filter_all p xs h.1 i) (filter p xs)

-- what none passes
none_passes : {X : Type 0} (p : X → Bool) (Q : X → Type 0) (xs : List X) → list_any p xs ≡ false → AllByRecursion (λ x. p x ≡ true → Q x) xs
none_passes p Q [] h = tt
none_passes p Q (x ∷ xs) h = let parts = or_parts (p x) (list_any p xs) h in ((λ is. absurd (both_ways _ parts.0 is)), none_passes p Q xs parts.1)

any_with : {X : Type 0} (p q r : X → Bool) (xs : List X) → AllByRecursion (λ x. q x ≡ true → r x ≡ true) xs → list_any (λ x. p x && q x) xs ≡ true → list_any (λ x. p x && r x) xs ≡ true
any_with p q r [] each h = h
any_with p q r (x ∷ xs) each h =
    elim (or_cases (p x && q x) (list_any (λ y. p y && q y) xs) h) [
      | inl here ↦ let parts = and_parts (p x) (q x) here in or_left _ _ (and_from _ _ parts.0 (each.0 parts.1))
      | inr there ↦ or_right (p x && r x) _ (any_with p q r xs each.1 there)
    ]

-- ---- names

-- whether a node names an id
abbrev names : List NodeData → UpdateId → Bool
names nodes id = list_any (λ node. has node.preds id) nodes

-- whether the node with an id names another one
abbrev links : List NodeData → UpdateId → UpdateId → Bool
links nodes id other = list_any (λ node. same_id id node.id && has node.preds other) nodes

-- what a node of a closed list names is held
named_held : (nodes : List NodeData) → IsClosed nodes → (id : UpdateId) → names nodes id ≡ true → holds nodes id ≡ true
named_held [] closed id h = absurd cc
named_held (node ∷ older) closed id h =
    or_right (same_id id node.id) _ (elim (or_cases (has node.preds id) (names older id) h) [
      | inl here ↦ at_id (holds older) node.preds id closed.0.preds here
      | inr there ↦ named_held older closed.1 id there
    ])

module _ (rules : Rules) where
  -- an ancestor of the next node is held
  ancestor_held : (older : List NodeData) (node : NodeData) → IsClosed (node ∷ older) → (id : UpdateId) → ancestor_of (judged rules older) node id ≡ true → holds older id ≡ true
  ancestor_held older node closed id h = elim (or_cases (has node.preds id) _ h) [
    | inl direct ↦ at_id (holds older) node.preds id closed.0.preds direct
    | inr far ↦ ancestors_held rules older closed.1 id (any_weaker _ (λ j. j.is_ancestor id) (λ j g. (and_parts (has node.preds j.node.id) (j.is_ancestor id) g).1) (judged rules older) far)
  ]

  -- Where the node with an id names another one, each node behind which the first is has the other behind it.
  abbrev PassesOn : List NodeData → UpdateId → UpdateId → Type 0
  PassesOn nodes id other = AllByRecursion (λ j. j.is_ancestor id ≡ true → j.is_ancestor other ≡ true) (judged rules nodes)

  -- what a node names that is named itself
  through_one : (nodes : List NodeData) (p : UpdateId → Bool) (id other : UpdateId) → p id ≡ true → links nodes id other ≡ true → list_any (λ j. p j.node.id && j.is_ancestor other) (judged rules nodes) ≡ true
  unfolding judged judge_next
  through_one [] p id other passes h = absurd cc
  through_one (node ∷ older) p id other passes h = elim (or_cases (same_id id node.id && has node.preds other) (links older id other) h) [
    | inl here ↦
        let parts = and_parts (same_id id node.id) (has node.preds other) here in
        or_left _ _ (and_from _ _ (subst (λ (x : UpdateId). p x ≡ true) (id_from_same id node.id parts.0) passes) (or_left _ _ parts.1))
    | inr there ↦ or_right (p node.id && ancestor_of (judged rules older) node other) _ (through_one older p id other passes there)
  ]

  -- the next node has it behind it too
  next_passes : (nodes : List NodeData) (node : NodeData) (id other : UpdateId) → PassesOn nodes id other → links nodes id other ≡ true
      → ancestor_of (judged rules nodes) node id ≡ true → ancestor_of (judged rules nodes) node other ≡ true
  next_passes nodes node id other passes linked h =
      or_right (has node.preds other) _ (elim (or_cases (has node.preds id) _ h) [
        | inl direct ↦ through_one nodes (has node.preds) id other direct linked
        | inr far ↦ any_with (λ j. has node.preds j.node.id) (λ j. j.is_ancestor id) (λ j. j.is_ancestor other) (judged rules nodes) passes far
      ])

  all_pass : (nodes : List NodeData) → IsClosed nodes → (id other : UpdateId) → links nodes id other ≡ true → PassesOn nodes id other
  unfolding judged judge_next
  all_pass [] closed id other h = tt
  all_pass (node ∷ older) closed id other h = elim (or_cases (same_id id node.id && has node.preds other) (links older id other) h) [
    | inl here ↦
        let same : node.id ≡ id = sym (id_from_same id node.id (and_parts (same_id id node.id) _ here).0) in
        let new : holds older id ≡ false = subst (λ (x : UpdateId). holds older x ≡ false) same closed.0.new in (
          λ up. absurd (both_ways _ new (ancestor_held older node closed id up)),
          none_passes (λ j. j.is_ancestor id) (λ j. j.is_ancestor other ≡ true) (judged rules older) (false_from_ne_true _ (λ up. both_ways _ new (ancestors_held rules older closed.1 id up))),
        )
    | inr there ↦ let rest = all_pass older closed.1 id other there in (next_passes older node id other rest there, rest)
  ]

  -- ---- all that is behind a node that names all heads

  module _ (nodes : List NodeData) (closed : IsClosed nodes) (draft : NodeData) where
    abbrev behind_it : UpdateId → Bool
    behind_it id = ancestor_of (judged rules nodes) draft id

    -- what of the oldest nodes none of these names is behind it, and so each of them is
    all_behind : (oldest : List NodeData) → IsClosed oldest → ((p : NodeData → Bool) → list_any p oldest ≡ true → list_any p nodes ≡ true)
        → ((id : UpdateId) → holds oldest id ≡ true → names oldest id ≡ false → behind_it id ≡ true) → AllByRecursion (λ j. behind_it j.node.id ≡ true) (judged rules oldest)
    unfolding judged judge_next
    all_behind [] c among unnamed = tt
    all_behind (node ∷ older) c among unnamed =
        let own : names (node ∷ older) node.id ≡ false = or_from (has node.preds node.id) (names older node.id)
        (false_from_ne_true _ (λ h. both_ways _ c.0.new (at_id (holds older) node.preds node.id c.0.preds h)))
        (false_from_ne_true _ (λ h. both_ways _ c.0.new (named_held older c.1 node.id h))) in
        let first : behind_it node.id ≡ true = unnamed node.id (or_left _ _ (same_id-refl node.id)) own in
        let later : (id : UpdateId) → holds older id ≡ true → names older id ≡ false → behind_it id ≡ true = λ id held alone. by_first first id (or_right (same_id id node.id) _ held) alone (has node.preds id) refl in
        (first, all_behind older c.1 (λ p h. among p (or_right (p node) _ h)) later)
      where
        by_first : behind_it node.id ≡ true → (id : UpdateId) → holds (node ∷ older) id ≡ true → names older id ≡ false → (b : Bool) → has node.preds id ≡ b → behind_it id ≡ true
        by_first first id held alone true is =
            let linked : links nodes node.id id ≡ true = among (λ n. same_id node.id n.id && has n.preds id) (or_left _ _ (and_from _ _ (same_id-refl node.id) is)) in
            next_passes nodes draft node.id id (all_pass nodes closed node.id id linked) linked first
        by_first first id held alone false is = unnamed id held (or_from _ _ is alone)

    -- so it is judged on what the valid ones of all did
    pub judged_on_all : ((id : UpdateId) → has draft.preds id ≡ (holds nodes id && not (names nodes id))) → (judge_next rules (judged rules nodes) draft).verdict ≡ verdict_on rules (effects_in rules nodes) draft
    unfolding judge_next
    judged_on_all heads =
        let unnamed : (id : UpdateId) → holds nodes id ≡ true → names nodes id ≡ false → behind_it id ≡ true = λ id held alone. or_left _ _ (heads id ∙ (λ i. held i && not (alone i))) in
        let whole = filter_all (λ j. behind_it j.node.id) (judged rules nodes) (all_behind nodes closed (λ p h. h) unnamed) in
        ap (λ (js : List Judged). verdict_on rules (effects js) draft) whole

-- ---- by the members of a graph

nodes_any : (p : UpdateId → List UpdateId → Bool) (graph : List Entry) (nodes : List NodeData) → AreNodesOf graph nodes → list_any (λ n. p n.id n.preds) nodes ≡ list_any (λ e. p e.id e.preds) graph
nodes_any p [] [] are = refl
nodes_any p [] (node ∷ nodes) are = absurd are
nodes_any p (e ∷ graph) [] are = absurd are
nodes_any p (e ∷ graph) (node ∷ nodes) are = λ i. p (sym are.0 i) (sym are.1 i) || nodes_any p graph nodes are.2 i

pub heads_on_all : (rules : Rules) (graph : List Entry) (nodes : List NodeData) (draft : NodeData) → AreNodesOf graph nodes → Follows [] graph → AreHeads graph draft.preds
    → (judge_next rules (judged rules (reverse nodes)) draft).verdict ≡ verdict_on rules (effects_in rules (reverse nodes)) draft
heads_on_all rules graph nodes draft are follows heads =
    judged_on_all rules (reverse nodes) (closed_reversed [] [] tt graph nodes are tt follows) draft (λ id.
    heads.exact id
    ∙ ap₂ (λ x y. x && not y)
    (sym (any_reversed (λ n. same_id id n.id) nodes ∙ nodes_any (λ other preds. same_id id other) graph nodes are))
    (sym (any_reversed (λ n. has n.preds id) nodes ∙ nodes_any (λ other preds. has preds id) graph nodes are)))
