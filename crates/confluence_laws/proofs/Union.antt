-- The union of two closed lists is closed, in either order the same set, and keeps what always holds.
use Rattle.std.proofs.Common.{◌≡◌, Bool, true, false, cond, not, List, [], ◌∷◌, ◌++◌, filter, refl, sym, ap, ◌∙◌, Option, Some, None, is_some, subst, inl, inr}
use Rattle.std.proofs.lemmas.Bool.{or_cases, or_right, or_left, or_from, false_from_ne_true, both_ways}
use Rattle.update_model.specs.declared.update_id.UpdateId.{UpdateId}
use Rattle.update_model.specs.Entry.{same_id}
use Rattle.update_model.specs.Node.{NodeData}
use Rattle.table_model.specs.Nodes.{node_of, IsSameSet, Agree, holds, IsNext, IsClosed, union}
use Rattle.table_model.specs.Visible.{Rules}
use Rattle.table_model.specs.Verdicts.{judged, effects, judge_next, verdict_on}
use Rattle.table_model.specs.Invariants.{Claim, shown_in}
use Rattle.confluence_laws.specs.Confluence.{IsConfluent, accepts}
use Rattle.table_model.proofs.Alike.{Alike}
use Rattle.table_model.proofs.Permuted.{Alike-permuted}
use Rattle.table_model.proofs.SameEffects.{same_effects, same_shown}
use Rattle.table_model.proofs.Order.{ids_equal, holds-append, node_of-append, held-found, none_found, same_judged}
use Rattle.table_model.proofs.Founded.{Sub-filter, all_weaker}
use Rattle.schema.proofs.Soundness.{IsSound}
use Rattle.confluence_laws.proofs.Accepted.{IsDeclared, accepted_stands}

-- what either holds, the union holds
union_held : (xs ys : List NodeData) (id : UpdateId) → holds ys id ≡ true → holds (union xs ys) id ≡ true
union_held xs [] id h = absurd (cc)
union_held xs (y ∷ ys) id h =
    let rest : holds ys id ≡ true → holds (filter (λ n. not (holds xs n.id)) ys ++ xs) id ≡ true = union_held xs ys id in
    let step : (b : Bool) → holds xs y.id ≡ b → holds (cond (not b) (y ∷ filter (λ n. not (holds xs n.id)) ys) (filter (λ n. not (holds xs n.id)) ys) ++ xs) id ≡ true =
    elim [
      | true ↦ λ e. elim (or_cases (same_id id y.id) _ h) [
        | inl here ↦ holds-append _ xs id ∙ or_right _ _ (subst (λ (n : UpdateId). holds xs n ≡ true) (ids_equal y.id id here) e)
        | inr there ↦ rest there
      ]
      | false ↦ λ e. elim (or_cases (same_id id y.id) _ h) [ inl here ↦ or_left _ _ here | inr there ↦ or_right (same_id id y.id) _ (rest there) ]
    ] in
    step (holds xs y.id) refl

pub union_closed : (xs ys : List NodeData) → IsClosed xs → IsClosed ys → IsClosed (union xs ys)
union_closed xs [] c d = c
union_closed xs (y ∷ ys) c d =
    let next : IsNext ys y = d.0 in
    let kept = filter (λ n. not (holds xs n.id)) ys in
    let step : (b : Bool) → holds xs y.id ≡ b → IsClosed (cond (not b) (y ∷ kept) kept ++ xs) =
    elim [
      | true ↦ λ e. union_closed xs ys c d.1
      | false ↦ λ e. (
        record {
          new = holds-append kept xs y.id ∙ or_from _ _ (false_from_ne_true _ (λ h. both_ways _ next.new ((Sub-filter (λ n. not (holds xs n.id)) ys).more (λ n. same_id y.id n.id) h))) e;
          preds = all_weaker (holds ys) (holds (union xs ys)) (λ p h. union_held xs ys p h) y.preds next.preds;
        },
        union_closed xs ys c d.1,
      )
    ] in
    step (holds xs y.id) refl

-- in the union an id names the first list's node, or else the second's
node_of-kept : (xs ys : List NodeData) (id : UpdateId) → node_of (filter (λ n. not (holds xs n.id)) ys) id ≡ cond (holds xs id) None (node_of ys id)
node_of-kept xs [] id = let none : Option NodeData = None in elim (holds xs id) as (λ b. none ≡ cond b none none) [ true ↦ refl | false ↦ refl ]
node_of-kept xs (y ∷ ys) id =
    let rest = node_of-kept xs ys id in
    let kept = filter (λ n. not (holds xs n.id)) ys in
    let step : (b : Bool) → holds xs y.id ≡ b → (s : Bool) → (same_id id y.id) ≡ s
    → node_of (cond (not b) (y ∷ kept) kept) id ≡ cond (holds xs id) None (cond s (Some y) (node_of ys id)) =
    elim [
      | true ↦ λ e. elim [
        | true ↦ λ t.
            let here : holds xs id ≡ true = subst (λ (n : UpdateId). holds xs n ≡ true) (ids_equal y.id id t) e in
            rest ∙ (λ i. cond (here i) None (node_of ys id)) ∙ (λ i. cond (sym here i) None (Some y))
        | false ↦ λ t. rest
      ]
      | false ↦ λ e. elim [
        | true ↦ λ t.
            let here : holds xs id ≡ false = subst (λ (n : UpdateId). holds xs n ≡ false) (ids_equal y.id id t) e in
            (λ i. cond (t i) (Some y) (node_of kept id)) ∙ (λ i. cond (sym here i) None (Some y))
        | false ↦ λ t. (λ i. cond (t i) (Some y) (node_of kept id)) ∙ rest
      ]
    ] in
    step (holds xs y.id) refl (same_id id y.id) refl

pub node_of-union : (xs ys : List NodeData) (id : UpdateId) → node_of (union xs ys) id ≡ cond (holds xs id) (node_of xs id) (node_of ys id)
node_of-union xs ys id =
    let kept = filter (λ n. not (holds xs n.id)) ys in
    let found : holds kept id ≡ is_some (cond (holds xs id) None (node_of ys id)) = held-found kept id ∙ ap is_some (node_of-kept xs ys id) in
    let none : holds xs id ≡ false → node_of xs id ≡ None = none_found xs id in
    let finish : (b : Bool) (o x : Option NodeData) → (b ≡ false → x ≡ None) → cond (is_some (cond b None o)) (cond b None o) x ≡ cond b x o =
    elim [ true ↦ λ o x n. refl | false ↦ elim [ Some y ↦ λ x n. refl | None ↦ λ x n. n refl ] ] in
    node_of-append kept xs id
    ∙ (λ i. cond (found i) (node_of-kept xs ys id i) (node_of xs id))
    ∙ finish (holds xs id) (node_of ys id) (node_of xs id) none

pub union_same : (xs ys : List NodeData) → Agree xs ys → IsSameSet (union xs ys) (union ys xs)
union_same xs ys agree id =
    let finish : (a b : Option NodeData) → node_of xs id ≡ a → node_of ys id ≡ b → cond (is_some a) a b ≡ cond (is_some b) b a =
    elim [
      | Some x ↦ elim [ Some y ↦ λ e f. ap (λ (n : NodeData). Some n) (agree id x y e f) | None ↦ λ e f. refl ]
      | None ↦ elim [ Some y ↦ λ e f. refl | None ↦ λ e f. refl ]
    ] in
    node_of-union xs ys id
    ∙ (λ i. cond (held-found xs id i) (node_of xs id) (node_of ys id))
    ∙ finish (node_of xs id) (node_of ys id) refl refl
    ∙ (λ i. cond (sym (held-found ys id) i) (node_of ys id) (node_of xs id))
    ∙ sym (node_of-union ys xs id)

-- what the rows that a closed list shows are depends on its set alone
pub same_judgements : (rules : Rules) (xs ys : List NodeData) → IsClosed xs → IsClosed ys → IsSameSet xs ys → Alike (judged rules xs) (judged rules ys)
unfolding verdict_on effects judge_next judged
same_judgements rules xs ys c d same = Alike-permuted (judged rules xs) (judged rules ys) (same_judged rules xs ys c d same)

pub same_tables : (rules : Rules) (xs ys : List NodeData) → IsClosed xs → IsClosed ys → IsSameSet xs ys → Alike (shown_in rules xs) (shown_in rules ys)
unfolding verdict_on effects judge_next judged
same_tables rules xs ys c d same = same_shown rules (same_effects (same_judgements rules xs ys c d same))

-- the static rule accepts only what is confluent
pub accepted_joins : (rules : Rules) → IsSound rules.tables → (earlier : List Claim) (claim : Claim) → IsDeclared rules claim → accepts rules claim ≡ true → IsConfluent rules earlier claim
accepted_joins rules sound earlier claim d h xs ys c e agree a b = accepted_stands rules sound (union xs ys) (union_closed xs ys c e) claim d h
