-- How many lists and tasks the authors of a demonstration leave.
use Rattle.std.proofs.Common.{◌≡◌, ℕ, ◌+◌, ◌*◌, ◌≤◌, ◌==◌, Bool, true, false, cond, List, [], ◌∷◌, length, map, filter, refl, sym, ap, ◌∙◌, subst, arith, inl, inr}
use Rattle.std.specs.List.{list_any, AllByRecursion}
use Rattle.std.proofs.lemmas.Bool.{or_parts}
use Rattle.std.proofs.lemmas.List.Elements.{All-from_recursion, recursion_from_All}
use Rattle.std.proofs.lemmas.List.Sorted.{All-permutation, IsPermutation-sym, length_permutation}
use Rattle.update_model.specs.declared.op.Op.{Op}
use Rattle.update_model.specs.declared.op.Op.TheVariants.{Delete}
use Rattle.update_model.specs.declared.row_name.RowName.{RowName}
use Rattle.update_model.specs.declared.update_id.UpdateId.{UpdateId}
use Rattle.update_model.specs.declared.value.Value.{Value}
use Rattle.update_model.specs.Entry.{same_id}
use Rattle.update_model.specs.Node.{NodeData}
use Rattle.update_model.proofs.Ids.{id_from_same}
use Rattle.table_model.specs.Nodes.{IsClosed, holds}
use Rattle.table_model.specs.Tables.{AreRowsIn, listed, listed_in}
use Rattle.table_model.specs.Verdicts.{effects_after, effects_in, effects_of, in_table, nothing}
use Rattle.table_model.specs.Visible.{Effects, Rules, TableRow, is_visible, same_row, shown, shown_rows}
use Rattle.table_model.specs.declared.shown_row.ShownRow.{ShownRow}
use Rattle.table_model.proofs.Alike.{Alike, same_any, weight, one_if}
use Rattle.table_model.proofs.Each.{each-append}
use Rattle.table_model.proofs.Founded.{founded_closed}
use Rattle.table_model.proofs.Permuted.{Alike-permuted}
use Rattle.table_model.proofs.Resting.{ones_from}
use Rattle.table_model.proofs.Settled.{IsOne}
use Rattle.demonstration_laws.specs.Chains.{ArePlanned, AreValid, did_by, IsChain, all_lists_left, all_of}
use Rattle.demonstration_laws.specs.Plans.AreOpsOf.{deletes, inserts}
use Rattle.demonstration_laws.proofs.Chained.{each_chain}
use Rattle.demonstration_laws.proofs.ChainsLeft.{Once, chains_left, first_row, gone, inserting, left, many}
use Rattle.demonstration_laws.proofs.Done.{all_did, any_deleted}
use Rattle.demonstration_laws.proofs.DemoRows.{AreTasks, Does, all_first, all_long, counted, nodes_counted, rows_added, rows_in}
use Rattle.demonstration_laws.proofs.Inserts.{demo}

-- ---- no two nodes of a closed list have one id

none_many : (older : List NodeData) (id : UpdateId) → holds older id ≡ false → many older id ≡ 0
none_many [] id none = refl
none_many (node ∷ older) id none =
    let parts = or_parts (same_id id node.id) (holds older id) none in
    let here : one_if (same_id id node.id) ≡ 0 = ap one_if parts.0 in
    let rest = none_many older id parts.1 in
    omega arith

once_closed : (nodes : List NodeData) → IsClosed nodes → Once nodes
once_closed [] closed id = omega arith
once_closed (node ∷ older) closed id =
    let step : (b : Bool) → same_id id node.id ≡ b → one_if b + many older id ≤ 1 = elim [
      | true ↦ λ same. let none = none_many older id (ap (holds older) (id_from_same id node.id same) ∙ closed.0.new) in omega arith
      | false ↦ λ apart. let low = once_closed older closed.1 id in omega arith
    ] in
    step (same_id id node.id) refl

-- ---- what the nodes of chains do

chain_does : (author : ℕ) (chain : List NodeData) → IsChain author chain → AllByRecursion Does chain
unfolding IsChain
chain_does author [] is = tt
chain_does author (node ∷ older) is = (
  elim is.0 [
    | deletes update last fifth ops ↦ inr (record { update = update; is = ops })
    | inserts first second a b never ops ↦ inl (record { author = author; number = length older; first = first; second = second; is = ops })
  ],
  chain_does author older is.1,
)

chains_do : (chains : List (List NodeData)) → AllByRecursion (λ c. (author : ℕ) × IsChain author c) chains → AllByRecursion Does (all_of chains)
chains_do [] are = tt
chains_do (chain ∷ chains) are = each-append Does chain (all_of chains) (chain_does are.0.0 chain are.0.1) (chains_do chains are.1)

-- ---- how many rows are listed

count_kept : {X Y Z : Type 0} (v : X → Bool) (f : X → Y) (q : Y → Bool) (g : Y → Z) (xs : List X) → length (map g (filter q (map f (filter v xs)))) ≡ weight (λ x. cond (v x) (one_if (q (f x))) 0) xs
count_kept v f q g [] = refl
count_kept v f q g (x ∷ xs) =
    let rest = count_kept v f q g xs in
    elim (v x) as (λ b. length (map g (filter q (map f (cond b (x ∷ filter v xs) (filter v xs))))) ≡ cond b (one_if (q (f x))) 0 + weight (λ x. cond (v x) (one_if (q (f x))) 0) xs) [
      | true ↦ elim (q (f x)) as (λ c. length (map g (cond c (f x ∷ filter q (map f (filter v xs))) (filter q (map f (filter v xs))))) ≡ one_if c + weight (λ x. cond (v x) (one_if (q (f x))) 0) xs) [
        | true ↦ omega arith
        | false ↦ omega arith
      ]
      | false ↦ omega arith
    ]

listed_count : (rules : Rules) (did : Effects) (table : ℕ) → length (map listed (filter (in_table table) (shown_rows rules did))) ≡ weight (counted rules did table) did.inserted
listed_count rules did table = count_kept (λ (row : TableRow). is_visible rules did row.name) (shown rules did) (in_table table) listed did.inserted

added_rows : (table k : ℕ) → one_if (1 == table) + (one_if (1 == table) + (one_if (0 == table) + 0)) ≡ k → (node : NodeData) (author number first second : ℕ) → node.ops ≡ inserting author number first second
    → rows_in table node ≡ k
added_rows table k is node author number first second ops =
    ap (weight (λ (row : TableRow). one_if (in_table table row))) (rows_added node (record { author = author; number = number; first = first; second = second; is = ops })) ∙ is

dropped_rows : (table : ℕ) (node : NodeData) (name : RowName) → node.ops ≡ Delete name ∷ [] → rows_in table node ≡ 0
dropped_rows table node name ops = ap (λ (os : List Op). weight (λ (row : TableRow). one_if (in_table table row)) (effects_after node 0 nothing os).inserted) ops

-- what is known of all that nodes do
module _ (rules : Rules) (tasks : AreTasks rules) (nodes : List NodeData) (closed : IsClosed nodes) (valid : AreValid rules nodes) where
  each_one : AllByRecursion (IsOne (did_by nodes).inserted) (did_by nodes).inserted
  each_one = subst (λ (did : Effects). AllByRecursion (IsOne did.inserted) did.inserted) (all_did rules nodes valid) (ones_from rules (effects_in rules nodes).inserted (founded_closed rules nodes closed).founded)

  listed_left : AllByRecursion Does nodes → (table : ℕ) → length (listed_in rules nodes table) ≡ left (rows_in table) (gone nodes) nodes
  listed_left does table =
      ap (λ (did : Effects). length (map listed (filter (in_table table) (shown_rows rules did)))) (all_did rules nodes valid)
      ∙ listed_count rules (did_by nodes) table
      ∙ nodes_counted rules tasks (did_by nodes) (all_first nodes does) (all_long nodes does) table nodes does each_one
      ∙ (λ i. left (rows_in table) (λ id. any_deleted (same_row (first_row id)) nodes i) nodes)

-- the same in another order
left_alike : (rows : NodeData → ℕ) (xs ys : List NodeData) → Alike xs ys → left rows (gone xs) xs ≡ left rows (gone ys) ys
left_alike rows xs ys same =
    (λ i. left rows (λ id. same_any (λ node. list_any (same_row (first_row id)) (effects_of node).deleted) same i) xs)
    ∙ same.weighs (λ node. cond (gone ys node.id) 0 (rows node))

once_alike : (xs ys : List NodeData) → Alike xs ys → Once xs → Once ys
once_alike xs ys same once id = let is = same.weighs (λ node. one_if (same_id id node.id)) in let few = once id in omega arith

-- each author's updates are a chain
planned_chains : (chains : List (List NodeData)) (nodes : List NodeData) → ArePlanned chains nodes → AllByRecursion (λ c. (author : ℕ) × IsChain author c) chains
planned_chains chains nodes planned = each_chain chains (λ i low. (i, planned.each i (let four = planned.four in omega arith)))

planned_do : (chains : List (List NodeData)) (nodes : List NodeData) → ArePlanned chains nodes → AllByRecursion Does nodes
planned_do chains nodes planned =
    let all = all_of chains in
    recursion_from_All Does nodes (All-permutation Does all nodes (IsPermutation-sym nodes all planned.same) (All-from_recursion Does all (chains_do chains (planned_chains chains nodes planned))))

-- how many rows of a table are left, which each list brings so many of
pub listed_of_planned : (rules : Rules) (chains : List (List NodeData)) (nodes : List NodeData) (table k : ℕ) → AreTasks rules → IsClosed nodes → ArePlanned chains nodes
    → AreValid rules nodes → one_if (1 == table) + (one_if (1 == table) + (one_if (0 == table) + 0)) ≡ k
    → length (listed_in rules nodes table) ≡ k * all_lists_left chains
listed_of_planned rules chains nodes table k tasks closed planned valid is =
    let all = all_of chains in
    let same = Alike-permuted nodes all planned.same in
    listed_left rules tasks nodes closed valid (planned_do chains nodes planned) table
    ∙ left_alike (rows_in table) nodes all same
    ∙ (chains_left (rows_in table) k (added_rows table k is) (dropped_rows table) chains (planned_chains chains nodes planned) (once_alike nodes all same (once_closed nodes closed))).1

-- ---- the demonstration's tables

pub demo_tasks : (ask : ℕ → List Value → Bool) → AreTasks (demo ask)
demo_tasks ask = record { list_kept = refl; task_kept = refl; list_refs = λ node title. refl; task_refs = λ node number title prio. refl }

pub lists_planned : (ask : ℕ → List Value → Bool) (chains : List (List NodeData)) (nodes : List NodeData) (lists : List ShownRow) → IsClosed nodes → ArePlanned chains nodes
    → AreValid (demo ask) nodes → AreRowsIn (demo ask) nodes 0 lists → length lists ≡ all_lists_left chains
lists_planned ask chains nodes lists closed planned valid are =
    let rules = demo ask in
    let size = length_permutation lists (listed_in rules nodes 0) are.exact in
    let count = listed_of_planned rules chains nodes 0 1 (demo_tasks ask) closed planned valid refl in
    sym size ∙ count ∙ omega arith

pub tasks_planned : (ask : ℕ → List Value → Bool) (chains : List (List NodeData)) (nodes : List NodeData) (tasks : List ShownRow) → IsClosed nodes → ArePlanned chains nodes
    → AreValid (demo ask) nodes → AreRowsIn (demo ask) nodes 1 tasks → length tasks ≡ 2 * all_lists_left chains
tasks_planned ask chains nodes tasks closed planned valid are =
    let rules = demo ask in
    let size = length_permutation tasks (listed_in rules nodes 1) are.exact in
    sym size ∙ listed_of_planned rules chains nodes 1 2 (demo_tasks ask) closed planned valid refl
