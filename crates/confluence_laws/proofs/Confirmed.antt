-- A counterexample that confirms shows that an invariant is not confluent.
use Rattle.std.proofs.Common.{◌≡◌, true, false, cond, not, List, [], ◌∷◌, ◌++◌, filter, refl, sym, ap, ◌∙◌, subst, Some, is_some}
use Rattle.std.proofs.lemmas.Bool.{and_parts, or_parts, or_from, or_left, or_right, not-true, both_ways, false_from_ne_true}
use Rattle.update_model.specs.declared.update_id.UpdateId.{UpdateId}
use Rattle.update_model.specs.Entry.{same_id}
use Rattle.update_model.specs.Node.{NodeData}
use Rattle.table_model.specs.Verdicts.{effects, judge_next, judged, verdict_on}
use Rattle.table_model.specs.Nodes.{node_of, Agree, holds, IsClosed, union}
use Rattle.table_model.specs.Visible.{Rules}
use Rattle.table_model.specs.Invariants.{Claim, claim_holds, shown_in, satisfies}
use Rattle.confluence_laws.specs.Confluence.{IsConfluent, is_closed, breaks}
use Rattle.table_model.proofs.Order.{ids_equal, equal_ids, holds-append, node_of-append, held-found}

pub closed_from_test : (nodes : List NodeData) → is_closed nodes ≡ true → IsClosed nodes
closed_from_test [] h = tt
closed_from_test (n ∷ nodes) h =
    let a = and_parts _ (is_closed nodes) h in
    let b = and_parts (not (holds nodes n.id)) _ a.0 in
    (record { new = not-true _ b.0; preds = b.1 }, closed_from_test nodes a.1)

-- newer nodes have none of these ids
apart : (newer older : List NodeData) (id : UpdateId) → IsClosed (newer ++ older) → holds older id ≡ true → holds newer id ≡ false
apart [] older id c h = refl
apart (n ∷ newer) older id c h =
    let parts = or_parts (holds newer n.id) (holds older n.id) (sym (holds-append newer older n.id) ∙ c.0.new) in
    or_from _ _ (false_from_ne_true (same_id id n.id) (λ e. both_ways _ parts.1 (subst (λ (k : UpdateId). holds older k ≡ true) (sym (ids_equal n.id id e)) h))) (apart newer older id c.1 h)

-- newer nodes are all kept, and the common ones are not repeated
keeps_new : (newer xs : List NodeData) (ys : List NodeData) → IsClosed (newer ++ xs) → filter (λ n. not (holds xs n.id)) ys ≡ [] → filter (λ n. not (holds xs n.id)) (newer ++ ys) ≡ newer
keeps_new [] xs ys c h = h
keeps_new (n ∷ newer) xs ys c h =
    let fresh : holds xs n.id ≡ false = (or_parts (holds newer n.id) (holds xs n.id) (sym (holds-append newer xs n.id) ∙ c.0.new)).1 in
    (λ i. cond (not (fresh i)) (n ∷ keeps_new newer xs ys c.1 h i) (keeps_new newer xs ys c.1 h i))

drops_old : (xs ys : List NodeData) → ((id : UpdateId) → holds ys id ≡ true → holds xs id ≡ true) → filter (λ n. not (holds xs n.id)) ys ≡ []
drops_old xs [] h = refl
drops_old xs (y ∷ ys) h =
    let here : holds xs y.id ≡ true = h y.id (or_left _ _ (equal_ids y.id y.id refl)) in
    let rest = drops_old xs ys (λ id k. h id (or_right (same_id id y.id) _ k)) in
    (λ i. cond (not (here i)) (y ∷ rest i) (rest i))

pub union_is : (base left right : List NodeData) → IsClosed (right ++ (left ++ base)) → union (left ++ base) (right ++ base) ≡ right ++ (left ++ base)
union_is base left right c =
    ap (λ l. l ++ (left ++ base)) (keeps_new right (left ++ base) base c (drops_old (left ++ base) base (λ id h. holds-append left base id ∙ or_right (holds left id) _ h)))

closed_tail : (newer older : List NodeData) → IsClosed (newer ++ older) → IsClosed older
closed_tail [] older c = c
closed_tail (n ∷ newer) older c = closed_tail newer older c.1

found_held : (nodes : List NodeData) (id : UpdateId) (n : NodeData) → node_of nodes id ≡ Some n → holds nodes id ≡ true
found_held nodes id n e = held-found nodes id ∙ ap is_some e

-- where the newer nodes have other ids, the older ones are found
found_older : (newer older : List NodeData) (id : UpdateId) → IsClosed (newer ++ older) → holds older id ≡ true → node_of (newer ++ older) id ≡ node_of older id
found_older newer older id c h = node_of-append newer older id ∙ (λ i. cond (apart newer older id c h i) (node_of newer id) (node_of older id))

-- the two sides of an example agree
pub sides_agree : (base left right : List NodeData) → IsClosed (right ++ (left ++ base)) → Agree (left ++ base) (right ++ base)
sides_agree base left right c id a b e f =
    let absent : holds right id ≡ false = apart right (left ++ base) id c (found_held (left ++ base) id a e) in
    let in_base : node_of base id ≡ Some b = (λ i. cond (sym absent i) (node_of right id) (node_of base id)) ∙ sym (node_of-append right base id) ∙ f in
    let same : Some a ≡ Some b = sym e ∙ found_older left base id (closed_tail right (left ++ base) c) (found_held base id b in_base) ∙ in_base in
    cc

-- what breaks an invariant shows that it is not confluent
pub broken : (rules : Rules) (earlier : List Claim) (claim : Claim) (base left right : List NodeData) → breaks rules earlier claim base left right ≡ true → IsConfluent rules earlier claim → ⊥
unfolding verdict_on effects judge_next judged
broken rules earlier claim base left right h all =
    let a = left ++ base in
    let b = right ++ base in
    let p5 = and_parts _ (not (claim_holds rules (shown_in rules (right ++ a)) claim)) h in
    let p4 = and_parts _ (satisfies rules b (earlier ++ claim ∷ [])) p5.0 in
    let p3 = and_parts _ (satisfies rules a (earlier ++ claim ∷ [])) p4.0 in
    let p2 = and_parts _ (is_closed (right ++ a)) p3.0 in
    let p1 = and_parts (is_closed a) (is_closed b) p2.0 in
    both_ways (claim_holds rules (shown_in rules (right ++ a)) claim) (not-true _ p5.1)
    (subst (λ (l : List NodeData). claim_holds rules (shown_in rules l) claim ≡ true) (union_is base left right (closed_from_test _ p2.1))
    (all a b (closed_from_test a p1.0) (closed_from_test b p1.1) (sides_agree base left right (closed_from_test (right ++ a) p2.1)) p3.1 p4.1))
