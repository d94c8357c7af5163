-- How many rows are left of chains of updates, where each fifth deletes the list that the one before it inserted.
use Rattle.std.proofs.Common.{◌≡◌, ℕ, ◌+◌, ◌*◌, ◌%◌, ◌≤◌, suc, Bool, true, false, cond, ◌&&◌, ◌||◌, List, [], ◌∷◌, ◌++◌, length, refl, sym, ap, ap₂, ◌∙◌, arith, inl, inr, Some, None}
use Rattle.std.specs.List.{list_any, AllByRecursion}
use Rattle.std.proofs.lemmas.Bool.{or_cases, false_from_ne_true}
use Rattle.std.proofs.lemmas.List.Folds.{list_any-append}
use Rattle.update_model.specs.declared.op.Op.{Op}
use Rattle.update_model.specs.declared.op.Op.TheVariants.{Delete}
use Rattle.update_model.specs.declared.row_name.RowName.{RowName}
use Rattle.update_model.specs.declared.update_id.UpdateId.{UpdateId}
use Rattle.update_model.specs.Entry.{same_id}
use Rattle.update_model.specs.Node.{NodeData}
use Rattle.update_model.proofs.Ids.{same_id-refl}
use Rattle.table_model.specs.Verdicts.{effects_after, effects_of, nothing}
use Rattle.table_model.specs.Visible.{same_row}
use Rattle.table_model.proofs.Alike.{weight, weight-append, one_if}
use Rattle.demonstration_laws.specs.Chains.{IsChain, all_lists_left, all_of, last_id, lists_left}
use Rattle.demonstration_laws.specs.Plans.{list_insert, list_title, task_insert, task_title}
use Rattle.demonstration_laws.specs.Plans.AreOpsOf.{deletes, inserts}

-- ---- words

-- the name of the row that an update inserts first
abbrev pub first_row : UpdateId → RowName
first_row id = record { update = id; index = 0 }

-- whether one of these nodes deletes the row that the update with an id inserts first
abbrev pub gone : List NodeData → UpdateId → Bool
gone nodes id = list_any (λ node. list_any (same_row (first_row id)) (effects_of node).deleted) nodes

-- how often an id is one of these nodes'
abbrev pub many : List NodeData → UpdateId → ℕ
many nodes id = weight (λ node. one_if (same_id id node.id)) nodes

-- No two nodes have one id.
abbrev pub Once : List NodeData → Type 0
Once nodes = (id : UpdateId) → many nodes id ≤ 1

-- What is deleted is of these nodes.
abbrev pub Targets : List NodeData → Type 0
Targets nodes = (id : UpdateId) → gone nodes id ≡ true → 1 ≤ many nodes id

-- how many rows nodes have that are not out, by a number for each
abbrev pub left : (NodeData → ℕ) → (UpdateId → Bool) → List NodeData → ℕ
left rows out nodes = weight (λ node. cond (out node.id) 0 (rows node)) nodes

-- the operations that insert a list and two tasks in it
abbrev pub inserting : ℕ → ℕ → ℕ → ℕ → List Op
inserting author number first second =
    list_insert (list_title author number) ∷ task_insert (task_title author number 0) first ∷ task_insert (task_title author number 1) second ∷ []

-- ---- numbers

lists_up : (n : ℕ) → (n % 5 ≡ 4 → ⊥) → lists_left (suc n) ≡ lists_left n + 1
lists_up n h = omega arith

lists_down : (n : ℕ) → n % 5 ≡ 4 → lists_left (suc n) + 1 ≡ lists_left n
lists_down n h = omega arith

times_up : (k a b x : ℕ) → a ≡ b + 1 → x ≡ k * b → k + x ≡ k * a
times_up k a b x e f = rw e (omega arith)

times_down : (k a b x y : ℕ) → a + 1 ≡ b → x + k ≡ y → y ≡ k * b → x ≡ k * a
times_down k a b x y e f g = let h : y ≡ k * (a + 1) = rw e g in omega arith

-- ---- what nodes delete

one_deleted : (b : Bool) → ((b && true) || false) ≡ b
one_deleted true = refl
one_deleted false = refl

deleted_none : (node : NodeData) (author number first second : ℕ) → node.ops ≡ inserting author number first second → (effects_of node).deleted ≡ []
deleted_none node author number first second is = ap (λ (ops : List Op). (effects_after node 0 nothing ops).deleted) is

deleted_one : (node : NodeData) (name : RowName) → node.ops ≡ Delete name ∷ [] → (effects_of node).deleted ≡ name ∷ []
deleted_one node name is = ap (λ (ops : List Op). (effects_after node 0 nothing ops).deleted) is

gone_adds : (node : NodeData) (older : List NodeData) (id : UpdateId) → (effects_of node).deleted ≡ [] → gone (node ∷ older) id ≡ gone older id
gone_adds node older id none = ap (λ (names : List RowName). list_any (same_row (first_row id)) names || gone older id) none

gone_drops : (node : NodeData) (older : List NodeData) (id update : UpdateId) → (effects_of node).deleted ≡ first_row update ∷ [] → gone (node ∷ older) id ≡ (same_id id update || gone older id)
gone_drops node older id update one =
    ap (λ (names : List RowName). list_any (same_row (first_row id)) names || gone older id) one
    ∙ ap (λ (b : Bool). b || gone older id) (one_deleted (same_id id update))

-- an id of no node is not deleted
gone_none : (nodes : List NodeData) → Targets nodes → (id : UpdateId) → many nodes id ≡ 0 → gone nodes id ≡ false
gone_none nodes targets id none = false_from_ne_true (gone nodes id) (λ g. let low = targets id g in omega arith)

last_held : (older : List NodeData) (update id : UpdateId) → last_id older ≡ Some update → same_id id update ≡ true → 1 ≤ many older id
last_held [] update id last same = absurd cc
last_held (head ∷ rest) update id last same =
    let is : head.id ≡ update = cc in
    let one : one_if (same_id id head.id) ≡ 1 = ap (λ (u : UpdateId). one_if (same_id id u)) is ∙ ap one_if same in
    omega arith

-- a chain deletes rows of its own
pub chain_targets : (author : ℕ) (chain : List NodeData) → IsChain author chain → Targets chain
unfolding IsChain
chain_targets author [] is id g = absurd cc
chain_targets author (node ∷ older) is id g =
    let behind : gone older id ≡ true → 1 ≤ many (node ∷ older) id = λ e. let low = chain_targets author older is.1 id e in omega arith in
    elim is.0 [
      | deletes update last fifth ops ↦ elim (or_cases (same_id id update) (gone older id) (sym (gone_drops node older id update (deleted_one node (first_row update) ops)) ∙ g)) [
        | inl here ↦ let low = last_held older update id last here in omega arith
        | inr there ↦ behind there
      ]
      | inserts first second a b never ops ↦ behind (sym (gone_adds node older id (deleted_none node author (length older) first second ops)) ∙ g)
    ]

-- ---- how many rows are left

own_one : (id : UpdateId) → one_if (same_id id id) ≡ 1
own_one id = ap one_if (same_id-refl id)

or_none : (b : Bool) → (b || false) ≡ b
or_none true = refl
or_none false = refl

times_sum : (k a b : ℕ) → k * a + k * b ≡ k * (a + b)
times_sum k a b = omega arith

both_targets : (xs ys : List NodeData) → Targets xs → Targets ys → Targets (xs ++ ys)
both_targets xs ys first second id g =
    let parts = weight-append (λ (node : NodeData). one_if (same_id id node.id)) xs ys in
    elim (or_cases (gone xs id) (gone ys id) (sym (list_any-append (λ node. list_any (same_row (first_row id)) (effects_of node).deleted) xs ys) ∙ g)) [
      | inl here ↦ let low = first id here in omega arith
      | inr there ↦ let low = second id there in omega arith
    ]

-- the rows are counted by any number for each node, which is the same for each that inserts, and 0 for one that deletes
module _ (rows : NodeData → ℕ) (k : ℕ) (added : (node : NodeData) (author number first second : ℕ) → node.ops ≡ inserting author number first second → rows node ≡ k)
    (dropped : (node : NodeData) (name : RowName) → node.ops ≡ Delete name ∷ [] → rows node ≡ 0) where
  left_same : (a b : UpdateId → Bool) (nodes : List NodeData) → ((id : UpdateId) → 1 ≤ many nodes id → a id ≡ b id) → left rows a nodes ≡ left rows b nodes
  left_same a b [] h = refl
  left_same a b (node ∷ nodes) h =
      let first : a node.id ≡ b node.id = h node.id (let one = own_one node.id in omega arith) in
      let rest = left_same a b nodes (λ id low. h id (omega arith)) in
      ap₂ (λ (c : Bool) (n : ℕ). cond c 0 (rows node) + n) first rest

  left_adds : (node : NodeData) (older : List NodeData) → Targets older → Once (node ∷ older) → (effects_of node).deleted ≡ [] → rows node ≡ k → left rows (gone (node ∷ older)) (node ∷ older) ≡ k + left rows (gone older) older
  left_adds node older targets once none is =
      let fresh : many older node.id ≡ 0 = let one = own_one node.id in let low = once node.id in omega arith in
      let here : gone (node ∷ older) node.id ≡ false = gone_adds node older node.id none ∙ gone_none older targets node.id fresh in
      let rest = left_same (gone (node ∷ older)) (gone older) older (λ id low. gone_adds node older id none) in
      ap₂ (λ (c : Bool) (n : ℕ). cond c 0 (rows node) + n) here rest ∙ ap (λ (n : ℕ). n + left rows (gone older) older) is

  nothing_left : (b : Bool) (node : NodeData) → rows node ≡ 0 → cond b 0 (rows node) ≡ 0
  nothing_left true node is = refl
  nothing_left false node is = is

  left_drops : (node head : NodeData) (rest : List NodeData) → Targets rest → Once (node ∷ head ∷ rest) → (effects_of node).deleted ≡ first_row head.id ∷ [] → rows node ≡ 0
      → (effects_of head).deleted ≡ [] → rows head ≡ k → left rows (gone (node ∷ head ∷ rest)) (node ∷ head ∷ rest) + k ≡ left rows (gone (head ∷ rest)) (head ∷ rest)
  left_drops node head rest targets once one is none head_is =
      let all = node ∷ head ∷ rest in
      let own = nothing_left (gone all node.id) node is in
      let hit : gone all head.id ≡ true = gone_drops node (head ∷ rest) head.id head.id one ∙ ap (λ (b : Bool). b || gone (head ∷ rest) head.id) (same_id-refl head.id) in
      let gone_head : cond (gone all head.id) 0 (rows head) ≡ 0 = ap (λ (b : Bool). cond b 0 (rows head)) hit in
      let others : left rows (gone all) rest ≡ left rows (gone (head ∷ rest)) rest = left_same (gone all) (gone (head ∷ rest)) rest (λ id low.
      let apart : same_id id head.id ≡ false = false_from_ne_true (same_id id head.id) (λ same. let few = once id in let two = ap one_if same in omega arith) in
      gone_drops node (head ∷ rest) id head.id one ∙ ap (λ (b : Bool). b || gone (head ∷ rest) id) apart) in
      let fresh : many rest head.id ≡ 0 = let mine = own_one head.id in let low = once head.id in omega arith in
      let kept : gone (head ∷ rest) head.id ≡ false = gone_adds head rest head.id none ∙ gone_none rest targets head.id fresh in
      let head_left : cond (gone (head ∷ rest) head.id) 0 (rows head) ≡ k = ap (λ (b : Bool). cond b 0 (rows head)) kept ∙ head_is in
      omega arith

  -- of a chain whose newest node deletes
  left_fifth : (author : ℕ) (node : NodeData) (older : List NodeData) → IsChain author older → Once (node ∷ older) → (update : UpdateId) → last_id older ≡ Some update → length older % 5 ≡ 4
      → node.ops ≡ Delete (first_row update) ∷ [] → left rows (gone older) older ≡ k * lists_left (length older) → left rows (gone (node ∷ older)) (node ∷ older) ≡ k * lists_left (suc (length older))
  unfolding IsChain
  left_fifth author node [] is once update last fifth ops before = absurd cc
  left_fifth author node (head ∷ rest) is once update last fifth ops before =
      let same : head.id ≡ update = cc in
      let one : (effects_of node).deleted ≡ first_row head.id ∷ [] = deleted_one node (first_row update) ops ∙ ap (λ (u : UpdateId). first_row u ∷ []) (sym same) in
      elim is.0 [
        | deletes u l also o ↦ absurd (omega arith)
        | inserts first second a b never made ↦
            times_down k (lists_left (suc (suc (length rest)))) (lists_left (suc (length rest))) (left rows (gone (node ∷ head ∷ rest)) (node ∷ head ∷ rest)) (left rows (gone (head ∷ rest)) (head ∷ rest)) (lists_down (suc (length rest)) fifth)
            (left_drops node head rest (chain_targets author rest is.1) once one (dropped node (first_row update) ops) (deleted_none head author (length rest) first second made) (added head author (length rest) first second made)) before
      ]

  some_last : (older : List NodeData) → length older % 5 ≡ 4 → last_id older ≡ None → ⊥
  some_last [] fifth none = absurd (omega arith)
  some_last (head ∷ rest) fifth none = absurd cc

  -- of a chain
  pub chain_left : (author : ℕ) (chain : List NodeData) → IsChain author chain → Once chain → left rows (gone chain) chain ≡ k * lists_left (length chain)
  unfolding IsChain
  chain_left author [] is once = omega arith
  chain_left author (node ∷ older) is once =
      let fewer : Once older = λ id. let low = once id in omega arith in
      let before = chain_left author older is.1 fewer in
      elim is.0 [
        | deletes update last fifth ops ↦ left_fifth author node older is.1 once update last fifth ops before
        | inserts first second a b never ops ↦
            left_adds node older (chain_targets author older is.1) once (deleted_none node author (length older) first second ops) (added node author (length older) first second ops)
            ∙ times_up k (lists_left (suc (length older))) (lists_left (length older)) (left rows (gone older) older) (lists_up (length older) (λ fifth. some_last older fifth (never fifth))) before
      ]

  -- ---- of all chains

  -- two parts do not delete each other's rows
  left_parts : (xs ys : List NodeData) → Targets xs → Targets ys → Once (xs ++ ys) → left rows (gone (xs ++ ys)) (xs ++ ys) ≡ left rows (gone xs) xs + left rows (gone ys) ys
  left_parts xs ys first second once =
      let both : (id : UpdateId) → gone (xs ++ ys) id ≡ (gone xs id || gone ys id) = λ id. list_any-append (λ node. list_any (same_row (first_row id)) (effects_of node).deleted) xs ys in
      let sum : (id : UpdateId) → many xs id + many ys id ≤ 1 = λ id. let few = once id in let parts = weight-append (λ (node : NodeData). one_if (same_id id node.id)) xs ys in omega arith in
      let here = left_same (gone (xs ++ ys)) (gone xs) xs (λ id low.
      let none : gone ys id ≡ false = gone_none ys second id (let few = sum id in omega arith) in
      both id ∙ ap (λ (b : Bool). gone xs id || b) none ∙ or_none (gone xs id)) in
      let there = left_same (gone (xs ++ ys)) (gone ys) ys (λ id low.
      let none : gone xs id ≡ false = gone_none xs first id (let few = sum id in omega arith) in
      both id ∙ ap (λ (b : Bool). b || gone ys id) none) in
      weight-append (λ (node : NodeData). cond (gone (xs ++ ys) node.id) 0 (rows node)) xs ys ∙ ap₂ (λ (m n : ℕ). m + n) here there

  pub chains_left : (chains : List (List NodeData)) → AllByRecursion (λ c. (author : ℕ) × IsChain author c) chains → Once (all_of chains)
      → Targets (all_of chains) × (left rows (gone (all_of chains)) (all_of chains) ≡ k * all_lists_left chains)
  chains_left [] are once = (λ id g. absurd cc, omega arith)
  chains_left (chain ∷ chains) are once =
      let sum : (id : UpdateId) → many chain id + many (all_of chains) id ≤ 1 = λ id. let few = once id in let parts = weight-append (λ (node : NodeData). one_if (same_id id node.id)) chain (all_of chains) in omega arith in
      let own = chain_targets are.0.0 chain are.0.1 in
      let mine = chain_left are.0.0 chain are.0.1 (λ id. let few = sum id in omega arith) in
      let others = chains_left chains are.1 (λ id. let few = sum id in omega arith) in (
        both_targets chain (all_of chains) own others.0,
        left_parts chain (all_of chains) own others.0 once ∙ ap₂ (λ (m n : ℕ). m + n) mine others.1 ∙ times_sum k (lists_left (length chain)) (all_lists_left chains),
      )
