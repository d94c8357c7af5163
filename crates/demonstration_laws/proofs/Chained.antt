-- Of which rows the updates of four authors delete: each time one that the update before it inserted.
use Rattle.std.proofs.Common.{◌≡◌, inl, inr, ℕ, zero, suc, ◌+◌, ◌<◌, ◌≤◌, Bool, true, false, cond, ◌||◌, List, [], ◌∷◌, ◌++◌, length, slice_index_or, refl, sym, ap, subst, ◌∙◌, arith}
use Rattle.std.specs.List.{AllByRecursion, list_any, sum_by}
use Rattle.std.proofs.lemmas.Bool.{and_parts, both_ways, false_from_ne_true, or_cases, or_left, or_parts, or_right}
use Rattle.std.proofs.lemmas.List.Folds.{list_any-append}
use Rattle.std.proofs.lemmas.List.Sorted.{list_any-IsPermutation, sum_by-IsPermutation}
use Rattle.std.proofs.lemmas.List.Sums.{sum_by-append, sum_by-cons}
use Rattle.update_model.specs.declared.row_name.RowName.{RowName}
use Rattle.update_model.specs.declared.op.Op.{Op}
use Rattle.update_model.specs.declared.update_id.UpdateId.{UpdateId}
use Rattle.update_model.specs.Entry.{same_id}
use Rattle.update_model.specs.Node.{NodeData}
use Rattle.update_model.proofs.Ids.{id_from_same, same_id-refl}
use Rattle.table_model.specs.Nodes.{IsClosed, holds}
use Rattle.table_model.specs.Verdicts.{effects_after, effects_of, nothing}
use Rattle.table_model.specs.Visible.{same_row}
use Rattle.demonstration_laws.specs.Chains.{ArePlanned, IsChain, all_of, last_id}
use Rattle.demonstration_laws.specs.Plans.{AreOpsOf, deletes, inserts}

-- ---- a row that is deleted

-- those before the newest
abbrev pub older_of : List NodeData → List NodeData
older_of [] = []
older_of (node ∷ older) = older

abbrev pub behind : List (List NodeData) → List NodeData
behind [] = []
behind (chain ∷ chains) = older_of chain ++ behind chains

any_older : (p : NodeData → Bool) (chain : List NodeData) → list_any p (older_of chain) ≡ true → list_any p chain ≡ true
any_older p [] h = h
any_older p (node ∷ older) h = or_right (p node) _ h

module _ (name : RowName) where
  abbrev pub deletes_it : NodeData → Bool
  deletes_it node = list_any (same_row name) (effects_of node).deleted

  abbrev pub is_its : NodeData → Bool
  is_its node = same_id name.update node.id

  -- what deletes a row stands right after the update that inserted it
  after_it : (author number : ℕ) (node : NodeData) (older : List NodeData) → AreOpsOf author number (last_id older) node.ops → deletes_it node ≡ true → list_any is_its older ≡ true
  after_it author number node [] (deletes update none fifth is) h = absurd cc
  after_it author number node (one ∷ older) (deletes update some fifth is) h =
      let id : one.id ≡ update = cc in
      let named : (same_row name (record { update = update; index = 0 }) || false) ≡ true = sym (ap (λ (ops : List Op). list_any (same_row name) (effects_after node 0 nothing ops).deleted) is) ∙ h in
      let same : same_id name.update update ≡ true = (and_parts (same_id name.update update) _ (elim (or_cases (same_row name (record { update = update; index = 0 })) false named) [ inl it ↦ it | inr never ↦ absurd cc ])).0 in
      or_left _ _ (subst (λ (other : UpdateId). same_id name.update other ≡ true) (sym id) same)
  after_it author number node older (inserts first second p q unless is) h =
      absurd (both_ways _ (ap (λ (ops : List Op). list_any (same_row name) (effects_after node 0 nothing ops).deleted) is) h)

  in_chain : (author : ℕ) (chain : List NodeData) → IsChain author chain → list_any deletes_it chain ≡ true → list_any is_its (older_of chain) ≡ true
  unfolding IsChain
  in_chain author [] is h = absurd cc
  in_chain author (node ∷ older) is h = elim (or_cases (deletes_it node) (list_any deletes_it older) h) [
    | inl now ↦ after_it author (length older) node older is.0 now
    | inr before ↦ any_older is_its older (in_chain author older is.1 before)
  ]

  -- in chains
  pub in_chains : (chains : List (List NodeData)) → AllByRecursion (λ chain. (author : ℕ) × IsChain author chain) chains → list_any deletes_it (all_of chains) ≡ true → list_any is_its (behind chains) ≡ true
  in_chains [] are h = absurd cc
  in_chains (chain ∷ chains) are h =
      list_any-append is_its (older_of chain) (behind chains)
      ∙ elim (or_cases (list_any deletes_it chain) (list_any deletes_it (all_of chains)) (sym (list_any-append deletes_it chain (all_of chains)) ∙ h)) [
        | inl here ↦ or_left _ _ (in_chain are.0.0 chain are.0.1 here)
        | inr there ↦ or_right (list_any is_its (older_of chain)) _ (in_chains chains are.1 there)
      ]

pub each_chain : (chains : List (List NodeData)) → ((k : ℕ) → k < length chains → (author : ℕ) × IsChain author (slice_index_or chains k [])) → AllByRecursion (λ chain. (author : ℕ) × IsChain author chain) chains
each_chain [] each = tt
each_chain (chain ∷ chains) each = (each 0 (omega arith), each_chain chains (λ k low. each (suc k) (omega arith)))

-- ---- one update has an id

one_if : (NodeData → Bool) → NodeData → ℕ
one_if p node = cond (p node) 1 0

one_is : (p : NodeData → Bool) (node : NodeData) → p node ≡ true → one_if p node ≡ 1
unfolding one_if
one_is p node h = ap (λ (b : Bool). cond b 1 0) h

one_is_not : (p : NodeData → Bool) (node : NodeData) → p node ≡ false → one_if p node ≡ 0
unfolding one_if
one_is_not p node h = ap (λ (b : Bool). cond b 1 0) h

none_counted : (p : NodeData → Bool) (nodes : List NodeData) → list_any p nodes ≡ false → sum_by (one_if p) nodes ≡ 0
none_counted p [] h = refl
none_counted p (node ∷ older) h =
    let parts = or_parts (p node) (list_any p older) h in
    let rest = none_counted p older parts.1 in
    let first = one_is_not p node parts.0 in
    let whole = sum_by-cons (one_if p) node older in
    omega arith

some_counted : (p : NodeData → Bool) (nodes : List NodeData) → list_any p nodes ≡ true → 1 ≤ sum_by (one_if p) nodes
some_counted p [] h = absurd cc
some_counted p (node ∷ older) h =
    let whole = sum_by-cons (one_if p) node older in
    elim (or_cases (p node) (list_any p older) h) [
      | inl here ↦ let first = one_is p node here in omega arith
      | inr there ↦ let rest = some_counted p older there in omega arith
    ]

-- a closed list has an id once
once : (id : UpdateId) (nodes : List NodeData) → IsClosed nodes → sum_by (one_if (λ node. same_id id node.id)) nodes ≤ 1
once id [] closed = omega arith
once id (node ∷ older) closed =
    let p = λ (n : NodeData). same_id id n.id in
    let whole = sum_by-cons (one_if p) node older in
    let step : (b : Bool) → p node ≡ b → sum_by (one_if p) (node ∷ older) ≤ 1 = elim [
      | true ↦ λ is.
          let rest = none_counted p older (subst (λ (other : UpdateId). holds older other ≡ false) (sym (id_from_same id node.id is)) closed.0.new) in
          let first = one_is p node is in
          omega arith
      | false ↦ λ is. let rest = once id older closed.1 in let first = one_is_not p node is in omega arith
    ] in
    step (p node) refl

-- ---- the newest of an author

fewer_older : (f : NodeData → ℕ) (chain : List NodeData) → sum_by f (older_of chain) ≤ sum_by f chain
fewer_older f [] = omega arith
fewer_older f (node ∷ older) = let whole = sum_by-cons f node older in omega arith

fewer_behind : (f : NodeData → ℕ) (chains : List (List NodeData)) → sum_by f (behind chains) ≤ sum_by f (all_of chains)
fewer_behind f [] = omega arith
fewer_behind f (chain ∷ chains) =
    let all = sum_by-append f chain (all_of chains) in
    let some = sum_by-append f (older_of chain) (behind chains) in
    let first = fewer_older f chain in
    let rest = fewer_behind f chains in
    omega arith

newest_counted : (f : NodeData → ℕ) (chains : List (List NodeData)) (k : ℕ) (node : NodeData) (older : List NodeData) → slice_index_or chains k [] ≡ node ∷ older
    → f node + sum_by f (behind chains) ≤ sum_by f (all_of chains)
newest_counted f [] k node older is = absurd cc
newest_counted f (chain ∷ chains) zero node older is =
    let all = sum_by-append f chain (all_of chains) in
    let some = sum_by-append f (older_of chain) (behind chains) in
    let one : sum_by f chain ≡ f node + sum_by f older = ap (sum_by f) is ∙ sum_by-cons f node older in
    let same : sum_by f (older_of chain) ≡ sum_by f older = ap (λ (c : List NodeData). sum_by f (older_of c)) is in
    let rest = fewer_behind f chains in
    omega arith
newest_counted f (chain ∷ chains) (suc k) node older is =
    let all = sum_by-append f chain (all_of chains) in
    let some = sum_by-append f (older_of chain) (behind chains) in
    let first = fewer_older f chain in
    let rest = newest_counted f chains k node older is in
    omega arith

-- what holds of the newest of an author is so of one of all
pub newest_among : (p : NodeData → Bool) (chains : List (List NodeData)) (k : ℕ) (node : NodeData) (older : List NodeData) → slice_index_or chains k [] ≡ node ∷ older → p node ≡ true
    → list_any p (all_of chains) ≡ true
newest_among p [] k node older is h = absurd cc
newest_among p (chain ∷ chains) zero node older is h = list_any-append p chain (all_of chains) ∙ or_left _ _ (ap (list_any p) is ∙ or_left (p node) _ h)
newest_among p (chain ∷ chains) (suc k) node older is h = list_any-append p chain (all_of chains) ∙ or_right (list_any p chain) _ (newest_among p chains k node older is h)

-- nothing deletes what the newest update of an author inserted
pub newest_stays : (nodes : List NodeData) (chains : List (List NodeData)) → ArePlanned chains nodes → IsClosed nodes → (author : ℕ) (node : NodeData) (older : List NodeData)
    → slice_index_or chains author [] ≡ node ∷ older → (index : ℕ) → list_any (deletes_it (record { update = node.id; index = index })) nodes ≡ false
newest_stays nodes chains planned closed author node older is index =
    let name : RowName = record { update = node.id; index = index } in
    let count = one_if (is_its name) in
    false_from_ne_true _ (λ h.
    let are = each_chain chains (λ k low. (k, planned.each k (let four = planned.four in omega arith))) in
    let later = in_chains name chains are (sym (list_any-IsPermutation (deletes_it name) nodes (all_of chains) planned.same) ∙ h) in
    let some = some_counted (is_its name) (behind chains) later in
    let first = one_is (is_its name) node (same_id-refl node.id) in
    let more = newest_counted count chains author node older is in
    let same = sum_by-IsPermutation count nodes (all_of chains) planned.same in
    let few = once node.id nodes closed in
    absurd (omega arith))
