-- Verdicts depend on the set alone, and not on the order of the closed list.
use Rattle.std.proofs.Common.{◌≡◌, Bool, true, false, cond, ◌&&◌, ◌||◌, List, [], ◌∷◌, ◌++◌, filter, refl, sym, ap, ◌∙◌, Option, Some, None, is_some, subst, inl, inr}
use Rattle.std.specs.List.{list_any, list_all}
use Rattle.std.specs.List.Sorted.{IsPermutation}
use Rattle.std.proofs.lemmas.Bool.{and_parts, or_cases, or_right, or_left, or_parts, or_from, and_from, false_from_ne_true, both_ways}
use Rattle.std.proofs.lemmas.List.Folds.{list_any-append}
use Rattle.std.proofs.lemmas.List.Sorted.{IsPermutation-refl, IsPermutation-sym, IsPermutation-trans, IsPermutation-cons}
use Rattle.update_model.specs.declared.update_id.UpdateId.{UpdateId}
use Rattle.update_model.specs.Entry.{same_id}
use Rattle.update_model.specs.Graph.{has}
use Rattle.update_model.specs.Node.{NodeData}
use Rattle.update_model.proofs.Ids.{id_from_same, same_id-refl}
use Rattle.table_model.specs.Nodes.{node_of, IsSameSet, holds, IsNext, IsClosed}
use Rattle.table_model.specs.Visible.{Rules}
use Rattle.table_model.specs.Verdicts.{verdict_on, effects, Judged, ancestor_of, judge_next, judged}
use Rattle.table_model.proofs.Alike.{Alike, Alike-refl, Alike-sym, Alike-same, Alike-trans, Alike-cons, Alike-middle, same_any, filter-each}
use Rattle.table_model.proofs.Permuted.{Alike-permuted, permuted_swap, permuted_same}
use Rattle.table_model.proofs.SameEffects.{same_next}

pub ids_equal : (a b : UpdateId) → same_id b a ≡ true → a ≡ b
ids_equal a b e = sym (id_from_same b a e)

pub equal_ids : (a b : UpdateId) → a ≡ b → same_id b a ≡ true
equal_ids a b e = subst (λ (n : UpdateId). same_id n a ≡ true) e (same_id-refl a)

pub any_weaker : {X : Type 0} (p q : X → Bool) → ((x : X) → p x ≡ true → q x ≡ true) → (xs : List X) → list_any p xs ≡ true → list_any q xs ≡ true
any_weaker p q h [] e = e
any_weaker p q h (x ∷ xs) e =
    elim (or_cases (p x) (list_any p xs) e) [
      | inl here ↦ or_left (q x) _ (h x here)
      | inr there ↦ or_right (q x) _ (any_weaker p q h xs there)
    ]

-- a test that holds of each predecessor holds of the one with this id
pub at_id : (p : UpdateId → Bool) (ids : List UpdateId) (id : UpdateId) → list_all p ids ≡ true → has ids id ≡ true → p id ≡ true
at_id p [] id h e = absurd (cc)
at_id p (x ∷ xs) id h e =
    let parts = and_parts (p x) (list_all p xs) h in
    elim (or_cases (same_id id x) (has xs id) e) [
      | inl here ↦ subst (λ (n : UpdateId). p n ≡ true) (ids_equal x id here) parts.0
      | inr there ↦ at_id p xs id parts.1 there
    ]

-- what an update names stands before it, and so does each ancestor
pub ancestors_held : (rules : Rules) (older : List NodeData) → IsClosed older → (id : UpdateId) → list_any (λ j. j.is_ancestor id) (judged rules older) ≡ true → holds older id ≡ true
unfolding verdict_on effects judge_next judged
ancestors_held rules [] c id e = absurd (cc)
ancestors_held rules (n ∷ older) c id e =
    let next : IsNext older n = c.0 in
    let rest = ancestors_held rules older c.1 id in
    or_right (same_id id n.id) _ (
    elim (or_cases _ (list_any (λ j. j.is_ancestor id) (judged rules older)) e) [
      | inl own ↦ elim (or_cases (has n.preds id) _ own) [
        | inl direct ↦ at_id (holds older) n.preds id next.preds direct
        | inr far ↦ rest (any_weaker _ (λ j. j.is_ancestor id) (λ j h. (and_parts _ _ h).1) (judged rules older) far)
      ]
      | inr there ↦ rest there
    ])

-- an update that is no ancestor changes nothing
pub unaffected : (rules : Rules) (k : Judged) (js : List Judged) (n : NodeData) → has n.preds k.node.id ≡ false → list_any (λ j. j.is_ancestor k.node.id) js ≡ false
    → judge_next rules (k ∷ js) n ≡ judge_next rules js n
unfolding verdict_on effects judge_next judged
unaffected rules k js n apart new =
    let same : (id : UpdateId) → ancestor_of (k ∷ js) n id ≡ ancestor_of js n id =
    λ id i. has n.preds id || ((apart i && k.is_ancestor id) || list_any (λ j. has n.preds j.node.id && j.is_ancestor id) js) in
    let out : ancestor_of js n k.node.id ≡ false =
    or_from _ _ apart (false_from_ne_true _ (λ h. both_ways _ new (any_weaker _ (λ j. j.is_ancestor k.node.id) (λ j g. (and_parts _ _ g).1) js h))) in
    let past : filter (λ j. ancestor_of (k ∷ js) n j.node.id) (k ∷ js) ≡ filter (λ j. ancestor_of js n j.node.id) js =
    (λ i. cond ((same k.node.id ∙ out) i) (k ∷ filter (λ j. ancestor_of (k ∷ js) n j.node.id) js) (filter (λ j. ancestor_of (k ∷ js) n j.node.id) js))
    ∙ filter-each _ _ js (λ j. same j.node.id) in
    λ i. record { node = n; is_ancestor = λ id. same id i; verdict = verdict_on rules (effects (past i)) n }

abbrev names : List NodeData → UpdateId → Bool
names ns id = list_any (λ m. has m.preds id) ns

pub holds-append : (xs ys : List NodeData) (id : UpdateId) → holds (xs ++ ys) id ≡ (holds xs id || holds ys id)
holds-append xs ys id = list_any-append (λ n. same_id id n.id) xs ys

module _ (n : NodeData) (older : List NodeData) where
  holds-middle : (newer : List NodeData) (id : UpdateId) → holds (newer ++ n ∷ older) id ≡ false → ((same_id id n.id) ≡ false) × (holds (newer ++ older) id ≡ false)
  holds-middle newer id e =
      let parts = or_parts (holds newer id) _ (sym (holds-append newer (n ∷ older) id) ∙ e) in
      let last = or_parts (same_id id n.id) _ parts.1 in
      (last.0, holds-append newer older id ∙ or_from _ _ parts.0 last.1)

  -- its id is nobody else's
  fresh : (newer : List NodeData) → IsClosed (newer ++ n ∷ older) → holds (newer ++ older) n.id ≡ false
  fresh [] c = c.0.new
  fresh (m ∷ newer) c =
      let apart = holds-middle newer m.id c.0.new in
      or_from (same_id n.id m.id) _ (false_from_ne_true _ (λ h. both_ways _ apart.0 (equal_ids n.id m.id (sym (ids_equal m.id n.id h))))) (fresh newer c.1)

  -- what it names stands before it
  named_held : (newer : List NodeData) → IsClosed (newer ++ n ∷ older) → list_all (holds older) n.preds ≡ true
  named_held [] c = c.0.preds
  named_held (m ∷ newer) c = named_held newer c.1

  held_without : (newer : List NodeData) (ids : List UpdateId) → has ids n.id ≡ false → list_all (holds (newer ++ n ∷ older)) ids ≡ true → list_all (holds (newer ++ older)) ids ≡ true
  held_without newer [] apart h = refl
  held_without newer (p ∷ ids) apart h =
      let split = or_parts (same_id n.id p) _ apart in
      let parts = and_parts _ (list_all (holds (newer ++ n ∷ older)) ids) h in
      let kept : holds (newer ++ older) p ≡ true =
      holds-append newer older p ∙ (elim (or_cases (holds newer p) _ (sym (holds-append newer (n ∷ older) p) ∙ parts.0)) [
        | inl new ↦ or_left _ _ new
        | inr old ↦ elim (or_cases (same_id p n.id) _ old) [
          | inl same ↦ absurd (both_ways _ split.0 (equal_ids p n.id (sym (ids_equal n.id p same))))
          | inr before ↦ or_right _ _ before
        ]
      ]) in
      and_from _ _ kept (held_without newer ids split.1 parts.1)

  -- an update that nobody names can be left out, and can as well come last
  pub judged_middle : (rules : Rules) (newer : List NodeData) → IsClosed (newer ++ n ∷ older) → names newer n.id ≡ false
      → IsClosed (newer ++ older) × IsPermutation (judged rules (newer ++ n ∷ older)) (judge_next rules (judged rules (newer ++ older)) n ∷ judged rules (newer ++ older))
  unfolding verdict_on effects judge_next judged
  judged_middle rules [] c free = (c.1, IsPermutation-refl (judged rules (n ∷ older)))
  judged_middle rules (m ∷ newer) c free =
      let next : IsNext (newer ++ n ∷ older) m = c.0 in
      let parts = or_parts (has m.preds n.id) (names newer n.id) free in
      let rest = judged_middle rules newer c.1 parts.1 in
      let base = judged rules (newer ++ older) in
      let apart = holds-middle newer m.id next.new in
      let absent : (id : UpdateId) → holds (newer ++ older) id ≡ false → list_any (λ j. j.is_ancestor id) base ≡ false =
      λ id h. false_from_ne_true _ (λ e. both_ways _ h (ancestors_held rules (newer ++ older) rest.0 id e)) in
      let m_alone : judge_next rules (judge_next rules base n ∷ base) m ≡ judge_next rules base m =
      unaffected rules (judge_next rules base n) base m parts.0 (absent n.id (fresh newer c.1)) in
      let m_old : (holds older m.id) ≡ false = (or_parts (holds newer m.id) (holds older m.id) (sym (holds-append newer older m.id) ∙ apart.1)).1 in
      let n_apart : has n.preds m.id ≡ false =
      false_from_ne_true _ (λ e. both_ways _ m_old (at_id (holds older) n.preds m.id (named_held newer c.1) e)) in
      let n_alone : judge_next rules (judge_next rules base m ∷ base) n ≡ judge_next rules base n =
      unaffected rules (judge_next rules base m) base n n_apart (absent m.id apart.1) in (
        (record { new = apart.1; preds = held_without newer m.preds parts.0 next.preds }, rest.0),
        (let whole = judged rules (newer ++ n ∷ older) in
            let nn = judge_next rules base n in
            let mm = judge_next rules base m in
            let likes = Alike-permuted whole (nn ∷ base) rest.1 in
            IsPermutation-trans (judge_next rules whole m ∷ whole) (mm ∷ whole) (judge_next rules (mm ∷ base) n ∷ mm ∷ base)
            (permuted_same (judge_next rules whole m ∷ whole) (mm ∷ whole) (ap (λ (j : Judged). j ∷ whole) (same_next rules likes m ∙ m_alone)))
            (IsPermutation-trans (mm ∷ whole) (mm ∷ nn ∷ base) (judge_next rules (mm ∷ base) n ∷ mm ∷ base) (IsPermutation-cons mm whole (nn ∷ base) rest.1)
            (IsPermutation-trans (mm ∷ nn ∷ base) (nn ∷ mm ∷ base) (judge_next rules (mm ∷ base) n ∷ mm ∷ base) (permuted_swap mm nn base)
            (permuted_same (nn ∷ mm ∷ base) (judge_next rules (mm ∷ base) n ∷ mm ∷ base) (ap (λ (j : Judged). j ∷ mm ∷ base) (sym n_alone)))))),
      )

-- ids that are new are in no node that is looked up
pub held-found : (ns : List NodeData) (id : UpdateId) → holds ns id ≡ is_some (node_of ns id)
held-found [] id = refl
held-found (n ∷ ns) id =
    elim (same_id id n.id) as (λ b. (b || holds ns id) ≡ is_some (cond b (Some n) (node_of ns id))) [ true ↦ refl | false ↦ held-found ns id ]

pub none_found : (ns : List NodeData) (id : UpdateId) → holds ns id ≡ false → node_of ns id ≡ None
none_found ns id h =
    let step : (o : Option NodeData) → is_some o ≡ false → o ≡ None = elim [ Some x ↦ λ e. cc | None ↦ λ e. refl ] in
    step (node_of ns id) (sym (held-found ns id) ∙ h)

record Splits (ys : List NodeData) (n : NodeData) : Type 0 where
  newer : List NodeData
  older : List NodeData
  is : ys ≡ newer ++ n ∷ older

split_at : (ys : List NodeData) (n : NodeData) (id : UpdateId) → node_of ys id ≡ Some n → Splits ys n
split_at [] n id e = absurd (cc)
split_at (y ∷ ys) n id e =
    let step : (b : Bool) → cond b (Some y) (node_of ys id) ≡ Some n → Splits (y ∷ ys) n =
    elim [
      | true ↦ λ h. let same : y ≡ n = cc in record { newer = []; older = ys; is = ap (λ z. z ∷ ys) same }
      | false ↦ λ h. let r = split_at ys n id h in record { newer = y ∷ r.newer; older = r.older; is = ap (λ l. y ∷ l) r.is }
    ] in
    step (same_id id y.id) e

pub node_of-append : (xs ys : List NodeData) (id : UpdateId) → node_of (xs ++ ys) id ≡ cond (holds xs id) (node_of xs id) (node_of ys id)
node_of-append [] ys id = refl
node_of-append (x ∷ xs) ys id =
    elim (same_id id x.id) as (λ b. cond b (Some x) (node_of (xs ++ ys) id) ≡ cond (b || holds xs id) (cond b (Some x) (node_of xs id)) (node_of ys id))
    [ true ↦ refl | false ↦ node_of-append xs ys id ]

-- without the node that both have, the lists are one set still
without : (n : NodeData) (xs newer older : List NodeData) → holds xs n.id ≡ false → holds (newer ++ older) n.id ≡ false
    → IsSameSet (n ∷ xs) (newer ++ n ∷ older) → IsSameSet xs (newer ++ older)
without n xs newer older a b same id =
    let parts = or_parts (holds newer n.id) (holds older n.id) (sym (holds-append newer older n.id) ∙ b) in
    let step : (t : Bool) → (same_id id n.id) ≡ t → node_of xs id ≡ node_of (newer ++ older) id =
    elim [
      | true ↦ λ e. let here : n.id ≡ id = ids_equal n.id id e in
          subst (λ (k : UpdateId). node_of xs k ≡ node_of (newer ++ older) k) here (none_found xs n.id a ∙ sym (none_found (newer ++ older) n.id b))
      | false ↦ λ e.
          (λ i. cond (sym e i) (Some n) (node_of xs id)) ∙ same id
          ∙ node_of-append newer (n ∷ older) id ∙ (λ i. cond (holds newer id) (node_of newer id) (cond (e i) (Some n) (node_of older id)))
          ∙ sym (node_of-append newer older id)
    ] in
    step (same_id id n.id) refl

-- the ids are distinct
abbrev Distinct : List NodeData → Type 0
Distinct [] = Unit {0}
Distinct (n ∷ ns) = (holds ns n.id ≡ false) × Distinct ns

distinct_closed : (ns : List NodeData) → IsClosed ns → Distinct ns
distinct_closed [] c = tt
distinct_closed (n ∷ ns) c = (c.0.new, distinct_closed ns c.1)

module _ (n : NodeData) (older : List NodeData) where
  fresh_distinct : (newer : List NodeData) → Distinct (newer ++ n ∷ older) → holds (newer ++ older) n.id ≡ false
  fresh_distinct [] c = c.0
  fresh_distinct (m ∷ newer) c =
      let apart = holds-middle n older newer m.id c.0 in
      or_from (same_id n.id m.id) _ (false_from_ne_true _ (λ h. both_ways _ apart.0 (equal_ids n.id m.id (sym (ids_equal m.id n.id h))))) (fresh_distinct newer c.1)

  distinct_without : (newer : List NodeData) → Distinct (newer ++ n ∷ older) → Distinct (newer ++ older)
  distinct_without [] c = c.1
  distinct_without (m ∷ newer) c = ((holds-middle n older newer m.id c.0).1, distinct_without newer c.1)

missing : (y : NodeData) (ys : List NodeData) → IsSameSet [] (y ∷ ys) → ⊥
missing y ys same =
    let found : None ≡ Some y = same y.id ∙ (λ i. cond (equal_ids y.id y.id refl i) (Some y) (node_of ys y.id)) in absurd (cc)

own_split : (n : NodeData) (xs ys : List NodeData) → IsSameSet (n ∷ xs) ys → Splits ys n
own_split n xs ys same = split_at ys n n.id (sym (same n.id) ∙ (λ i. cond (equal_ids n.id n.id refl i) (Some n) (node_of xs n.id)))

pub same_nodes : (xs ys : List NodeData) → Distinct xs → Distinct ys → IsSameSet xs ys → Alike xs ys
same_nodes [] [] c d same = Alike-refl []
same_nodes [] (y ∷ ys) c d same = absurd (missing y ys same)
same_nodes (n ∷ xs) ys c d same =
    let step : (s : Splits ys n) → Alike (n ∷ xs) ys =
    λ s. let ends : Distinct (s.newer ++ n ∷ s.older) = subst Distinct s.is d in
    let one = without n xs s.newer s.older c.0 (fresh_distinct n s.older s.newer ends) (λ id. same id ∙ ap (λ l. node_of l id) s.is) in
    Alike-trans (Alike-cons n (same_nodes xs (s.newer ++ s.older) c.1 (distinct_without n s.older s.newer ends) one))
    (Alike-trans (Alike-sym (Alike-middle s.newer s.older n)) (Alike-same (sym s.is))) in
    step (own_split n xs ys same)

-- nobody names what does not stand
unnamed : (xs : List NodeData) (id : UpdateId) → IsClosed xs → holds xs id ≡ false → names xs id ≡ false
unnamed [] id c h = refl
unnamed (m ∷ xs) id c h =
    let parts = or_parts (same_id id m.id) (holds xs id) h in
    let next : IsNext xs m = c.0 in
    or_from _ _ (false_from_ne_true _ (λ e. both_ways _ parts.1 (at_id (holds xs) m.preds id next.preds e))) (unnamed xs id c.1 parts.1)

-- two closed lists of one set have the same verdicts
pub same_judged : (rules : Rules) (xs ys : List NodeData) → IsClosed xs → IsClosed ys → IsSameSet xs ys → IsPermutation (judged rules xs) (judged rules ys)
unfolding verdict_on effects judge_next judged
same_judged rules [] [] c d same = IsPermutation-refl []
same_judged rules [] (y ∷ ys) c d same = absurd (missing y ys same)
same_judged rules (n ∷ xs) ys c d same =
    let next : IsNext xs n = c.0 in
    let step : (s : Splits ys n) → IsPermutation (judged rules (n ∷ xs)) (judged rules ys) =
    λ s. let ends : IsClosed (s.newer ++ n ∷ s.older) = subst IsClosed s.is d in
    let alone = fresh n s.older s.newer ends in
    let one = without n xs s.newer s.older next.new alone (λ id. same id ∙ ap (λ l. node_of l id) s.is) in
    let nodes = same_nodes xs (s.newer ++ s.older) (distinct_closed xs c.1) (distinct_without n s.older s.newer (distinct_closed _ ends)) one in
    let free : names (s.newer ++ s.older) n.id ≡ false = sym (same_any (λ m. has m.preds n.id) nodes) ∙ unnamed xs n.id c.1 next.new in
    let last = judged_middle n s.older rules s.newer ends (or_parts (names s.newer n.id) (names s.older n.id) (sym (list_any-append (λ m. has m.preds n.id) s.newer s.older) ∙ free)).0 in
    let rest = same_judged rules xs (s.newer ++ s.older) c.1 last.0 one in
    let a = judged rules xs in
    let b = judged rules (s.newer ++ s.older) in
    let whole = judged rules (s.newer ++ n ∷ s.older) in
    IsPermutation-trans (judge_next rules a n ∷ a) (judge_next rules b n ∷ a) (judged rules ys)
    (permuted_same (judge_next rules a n ∷ a) (judge_next rules b n ∷ a) (ap (λ (j : Judged). j ∷ a) (same_next rules (Alike-permuted a b rest) n)))
    (IsPermutation-trans (judge_next rules b n ∷ a) (judge_next rules b n ∷ b) (judged rules ys) (IsPermutation-cons (judge_next rules b n) a b rest)
    (IsPermutation-trans (judge_next rules b n ∷ b) whole (judged rules ys) (IsPermutation-sym whole (judge_next rules b n ∷ b) last.1) (permuted_same whole (judged rules ys) (ap (judged rules) (sym s.is))))) in
    step (own_split n xs ys same)
