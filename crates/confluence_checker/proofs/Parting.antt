-- What two closed lists that agree share is a base on which they stand side by side.
use Rattle.std.proofs.Common.{◌≡◌, Bool, true, false, cond, not, ◌&&◌, List, [], ◌∷◌, ◌++◌, filter, reverse, refl, sym, ap, ◌∙◌, subst, Option, Some, None, is_some, inl, inr}
use Rattle.std.specs.List.{list_all}
use Rattle.std.proofs.lemmas.Bool.{and_from, and_parts, both_ways, false_from_ne_true, not_from_false, or_cases, or_left, or_right}
use Rattle.std.proofs.lemmas.List.{reverse-reverse}
use Rattle.update_model.specs.declared.update_id.UpdateId.{UpdateId}
use Rattle.update_model.specs.Entry.{same_id}
use Rattle.update_model.specs.Node.{NodeData}
use Rattle.table_model.specs.Nodes.{node_of, Agree, holds, IsClosed, IsNext, IsSameSet, union}
use Rattle.table_model.specs.Visible.{Rules}
use Rattle.table_model.specs.Invariants.{Claim, claim_holds, satisfies, shown_in}
use Rattle.confluence_laws.specs.Confluence.{breaks, confirms, is_closed}
use Rattle.table_model.proofs.Order.{equal_ids, held-found, ids_equal}
use Rattle.confluence_laws.proofs.Sides.{test_from_closed}
use Rattle.confluence_laws.proofs.Union.{node_of-union, union_closed}
use Rattle.confluence_checker.specs.Parting.{besides, parted, shared}

-- ---- what is shared

first_is : (n : NodeData) (older : List NodeData) → node_of (n ∷ older) n.id ≡ Some n
first_is n older = rw (equal_ids n.id n.id refl) refl

held_is : (nodes : List NodeData) (id : UpdateId) (o : Option NodeData) → node_of nodes id ≡ o → holds nodes id ≡ true → (n : NodeData) × (node_of nodes id ≡ Some n)
held_is nodes id (Some n) e h = (n, e)
held_is nodes id None e h = absurd (both_ways (holds nodes id) (held-found nodes id ∙ ap is_some e) h)

-- an older node is found behind the newest one
behind : (n : NodeData) (older : List NodeData) (id : UpdateId) (a : NodeData) → IsNext older n → node_of older id ≡ Some a → node_of (n ∷ older) id ≡ Some a
behind n older id a next e =
    let held : holds older id ≡ true = held-found older id ∙ ap is_some e in
    let other : same_id id n.id ≡ false = false_from_ne_true _ (λ same. both_ways (holds older n.id) next.new (subst (λ (k : UpdateId). holds older k ≡ true) (sym (ids_equal n.id id same)) held)) in
    rw other e

agree_behind : (n : NodeData) (older ys : List NodeData) → IsNext older n → Agree (n ∷ older) ys → Agree older ys
agree_behind n older ys next agree id a b e f = agree id a b (behind n older id a next e) f

-- all of what a held node names is held
preds_held : (ys : List NodeData) (id : UpdateId) (m : NodeData) → IsClosed ys → node_of ys id ≡ Some m → list_all (holds ys) m.preds ≡ true
preds_held [] id m c e = absurd cc
preds_held (y ∷ ys) id m c e = by_test (same_id id y.id) refl e (preds_held ys id m c.1)
  where
    more : (ids : List UpdateId) → list_all (holds ys) ids ≡ true → list_all (holds (y ∷ ys)) ids ≡ true
    more [] h = refl
    more (k ∷ ids) h = let parts = and_parts (holds ys k) (list_all (holds ys) ids) h in and_from _ _ (or_right (same_id k y.id) (holds ys k) parts.0) (more ids parts.1)

    by_test : (same : Bool) → same_id id y.id ≡ same → cond same (Some y) (node_of ys id) ≡ Some m → (node_of ys id ≡ Some m → list_all (holds ys) m.preds ≡ true) → list_all (holds (y ∷ ys)) m.preds ≡ true
    by_test true t e older = let is : y ≡ m = cc in subst (λ (n : NodeData). list_all (holds (y ∷ ys)) n.preds ≡ true) is (more y.preds c.0.preds)
    by_test false t e older = more m.preds (older e)

shared_node : (xs ys : List NodeData) (id : UpdateId) → node_of (shared xs ys) id ≡ cond (holds ys id) (node_of xs id) None
shared_node [] ys id = let none : Option NodeData = None in elim (holds ys id) as (λ b. none ≡ cond b none none) [ true ↦ refl | false ↦ refl ]
shared_node (x ∷ xs) ys id =
    let rest = shared_node xs ys id in
    let step : (b : Bool) → holds ys x.id ≡ b → (s : Bool) → same_id id x.id ≡ s
    → node_of (cond b (x ∷ shared xs ys) (shared xs ys)) id ≡ cond (holds ys id) (cond s (Some x) (node_of xs id)) None =
    elim [
      | true ↦ λ e. elim [
        | true ↦ λ t.
            let here : holds ys id ≡ true = subst (λ (n : UpdateId). holds ys n ≡ true) (ids_equal x.id id t) e in
            rw (t, here) refl
        | false ↦ λ t. rw t rest
      ]
      | false ↦ λ e. elim [
        | true ↦ λ t.
            let here : holds ys id ≡ false = subst (λ (n : UpdateId). holds ys n ≡ false) (ids_equal x.id id t) e in
            rest ∙ rw here refl
        | false ↦ λ t. rest
      ]
    ] in
    step (holds ys x.id) refl (same_id id x.id) refl

shared_held : (xs ys : List NodeData) (id : UpdateId) → holds (shared xs ys) id ≡ (holds ys id && holds xs id)
shared_held xs ys id =
    let finish : (b : Bool) → is_some (cond b (node_of xs id) None) ≡ (b && is_some (node_of xs id)) = elim [ true ↦ refl | false ↦ refl ] in
    held-found (shared xs ys) id ∙ ap is_some (shared_node xs ys id) ∙ finish (holds ys id) ∙ ap (λ b. holds ys id && b) (sym (held-found xs id))

both_held : (xs ys : List NodeData) (ids : List UpdateId) → list_all (holds ys) ids ≡ true → list_all (holds xs) ids ≡ true → list_all (holds (shared xs ys)) ids ≡ true
both_held xs ys [] h k = refl
both_held xs ys (id ∷ ids) h k =
    let a = and_parts (holds ys id) (list_all (holds ys) ids) h in
    let b = and_parts (holds xs id) (list_all (holds xs) ids) k in
    and_from _ _ (shared_held xs ys id ∙ and_from _ _ a.0 b.0) (both_held xs ys ids a.1 b.1)

pub shared_closed : (xs ys : List NodeData) → IsClosed xs → IsClosed ys → Agree xs ys → IsClosed (shared xs ys)
shared_closed [] ys c d agree = tt
shared_closed (x ∷ xs) ys c d agree = by_test (holds ys x.id) refl (shared_closed xs ys c.1 d (agree_behind x xs ys c.0 agree))
  where
    in_both : holds ys x.id ≡ true → list_all (holds ys) x.preds ≡ true
    in_both h =
        let found = held_is ys x.id (node_of ys x.id) refl h in
        let same : x ≡ found.0 = agree x.id x found.0 (first_is x xs) found.1 in
        preds_held ys x.id x d (found.1 ∙ ap (λ (n : NodeData). Some n) (sym same))

    new : (h : Bool) → holds (shared xs ys) x.id ≡ h → h ≡ false
    new true e = let both = and_parts (holds ys x.id) (holds xs x.id) (sym (shared_held xs ys x.id) ∙ e) in absurd (both_ways (holds xs x.id) c.0.new both.1)
    new false e = refl

    by_test : (b : Bool) → holds ys x.id ≡ b → IsClosed (shared xs ys) → IsClosed (cond b (x ∷ shared xs ys) (shared xs ys))
    by_test true h rest = (record { new = new (holds (shared xs ys) x.id) refl; preds = both_held xs ys x.preds (in_both h) c.0.preds }, rest)
    by_test false h rest = rest

-- ---- each list is its base and what it has besides

-- whatever the base has, the list has the same
same_as : (base xs : List NodeData) → ((id : UpdateId) → holds base id ≡ true → node_of base id ≡ node_of xs id) → IsSameSet (union base xs) xs
same_as base xs found id = node_of-union base xs id ∙ by_test (holds base id) refl
  where
    by_test : (b : Bool) → holds base id ≡ b → cond b (node_of base id) (node_of xs id) ≡ node_of xs id
    by_test true h = found id h
    by_test false h = refl

shared_in_first : (xs ys : List NodeData) (id : UpdateId) → holds (shared xs ys) id ≡ true → node_of (shared xs ys) id ≡ node_of xs id
shared_in_first xs ys id h =
    let both = and_parts (holds ys id) (holds xs id) (sym (shared_held xs ys id) ∙ h) in
    let held = both.0 in
    shared_node xs ys id ∙ rw held refl

shared_in_second : (xs ys : List NodeData) → Agree xs ys → (id : UpdateId) → holds (shared xs ys) id ≡ true → node_of (shared xs ys) id ≡ node_of ys id
shared_in_second xs ys agree id h =
    let both = and_parts (holds ys id) (holds xs id) (sym (shared_held xs ys id) ∙ h) in
    let a = held_is xs id (node_of xs id) refl both.1 in
    let b = held_is ys id (node_of ys id) refl both.0 in
    shared_in_first xs ys id h ∙ a.1 ∙ ap (λ (n : NodeData). Some n) (agree id a.0 b.0 a.1 b.1) ∙ sym b.1

-- ---- both together

-- what the second list has besides the base is what it has besides the first list
besides_same : (xs ys zs : List NodeData) → ((id : UpdateId) → holds zs id ≡ true → holds ys id ≡ true) → besides (union (shared xs ys) xs) zs ≡ besides (shared xs ys) zs
besides_same xs ys [] within = refl
besides_same xs ys (z ∷ zs) within =
    let rest = besides_same xs ys zs (λ id h. within id (or_right (same_id id z.id) _ h)) in
    let held : holds ys z.id ≡ true = within z.id (or_left _ _ (equal_ids z.id z.id refl)) in
    let in_union : holds (union (shared xs ys) xs) z.id ≡ holds xs z.id =
    held-found (union (shared xs ys) xs) z.id ∙ ap is_some (same_as (shared xs ys) xs (shared_in_first xs ys) z.id) ∙ sym (held-found xs z.id) in
    let in_base : holds (shared xs ys) z.id ≡ holds xs z.id = shared_held xs ys z.id ∙ rw held refl in
    rw (in_union, in_base, rest) refl

-- the union over a list of the same set
same_union : (xs zs ys : List NodeData) → IsSameSet zs xs → IsSameSet (union zs ys) (union xs ys)
same_union xs zs ys same id =
    let held : holds zs id ≡ holds xs id = held-found zs id ∙ ap is_some (same id) ∙ sym (held-found xs id) in
    node_of-union zs ys id ∙ rw (held, same id) refl ∙ sym (node_of-union xs ys id)

-- ---- what they satisfy

-- invariants depend on the set of nodes alone
abbrev pub AreOfTheSet : Type 0
AreOfTheSet = (rules : Rules) (xs ys : List NodeData) (claim : Claim) → IsClosed xs → IsClosed ys → IsSameSet xs ys
    → claim_holds rules (shown_in rules xs) claim ≡ claim_holds rules (shown_in rules ys) claim

same_satisfied : AreOfTheSet → (rules : Rules) (xs ys : List NodeData) → IsClosed xs → IsClosed ys → IsSameSet xs ys → (claims : List Claim) → satisfies rules xs claims ≡ satisfies rules ys claims
same_satisfied law rules xs ys c d same [] = refl
same_satisfied law rules xs ys c d same (claim ∷ claims) = rw (law rules xs ys claim c d same, same_satisfied law rules xs ys c d same claims) refl

pub parted_confirms : AreOfTheSet → (rules : Rules) (earlier : List Claim) (claim : Claim) (xs ys : List NodeData) → IsClosed xs → IsClosed ys → Agree xs ys
    → satisfies rules xs (earlier ++ claim ∷ []) ≡ true → satisfies rules ys (earlier ++ claim ∷ []) ≡ true → claim_holds rules (shown_in rules (union xs ys)) claim ≡ false
    → confirms rules earlier claim (parted xs ys) ≡ true
parted_confirms law rules earlier claim xs ys c d agree on_left on_right on_both =
    let base = shared xs ys in
    let left = besides base xs in
    let right = besides base ys in
    let closed = shared_closed xs ys c d agree in
    let closed_left : IsClosed (left ++ base) = union_closed base xs closed c in
    let closed_right : IsClosed (right ++ base) = union_closed base ys closed d in
    let same_left : IsSameSet (left ++ base) xs = same_as base xs (shared_in_first xs ys) in
    let same_right : IsSameSet (right ++ base) ys = same_as base ys (shared_in_second xs ys agree) in
    let together : right ++ (left ++ base) ≡ union (left ++ base) ys = ap (λ (l : List NodeData). l ++ (left ++ base)) (sym (besides_same xs ys ys (λ id h. h))) in
    let closed_both : IsClosed (right ++ (left ++ base)) = subst IsClosed (sym together) (union_closed (left ++ base) ys closed_left d) in
    let same_both : IsSameSet (right ++ (left ++ base)) (union xs ys) = subst (λ (l : List NodeData). IsSameSet l (union xs ys)) (sym together) (same_union xs (left ++ base) ys same_left) in
    let broken : breaks rules earlier claim base left right ≡ true =
    and_from _ _
    (and_from _ _
    (and_from _ _
    (and_from _ _ (and_from _ _ (test_from_closed (left ++ base) closed_left) (test_from_closed (right ++ base) closed_right)) (test_from_closed (right ++ (left ++ base)) closed_both))
    (same_satisfied law rules (left ++ base) xs closed_left c same_left (earlier ++ claim ∷ []) ∙ on_left))
    (same_satisfied law rules (right ++ base) ys closed_right d same_right (earlier ++ claim ∷ []) ∙ on_right))
    (not_from_false _ (law rules (right ++ (left ++ base)) (union xs ys) claim closed_both (union_closed xs ys c d) same_both ∙ on_both)) in
    subst (λ (l : List NodeData). breaks rules earlier claim l (reverse (reverse left)) (reverse (reverse right)) ≡ true) (sym (reverse-reverse base))
    (subst (λ (l : List NodeData). breaks rules earlier claim base l (reverse (reverse right)) ≡ true) (sym (reverse-reverse left))
    (subst (λ (l : List NodeData). breaks rules earlier claim base left l ≡ true) (sym (reverse-reverse right)) broken))
