-- Which rows of lists and tasks are visible: those of each list that is not deleted.
use Rattle.std.proofs.Common.{◌≡◌, ◌≢◌, ℕ, ◌+◌, ◌==◌, suc, Bool, true, false, cond, not, ◌&&◌, ◌||◌, List, [], ◌∷◌, ◌++◌, length, refl, sym, ap, ap₂, ◌∙◌, subst, arith, ◌⊎◌, inl, inr, None, pos}
use Rattle.std.specs.List.{list_any, list_all, AllByRecursion}
use Rattle.std.proofs.lemmas.Bool.{ne_eqb}
use Rattle.update_model.specs.declared.op.Op.{Op}
use Rattle.update_model.specs.declared.op.Op.TheVariants.{Delete}
use Rattle.update_model.specs.declared.row_name.RowName.{RowName}
use Rattle.update_model.specs.declared.update_id.UpdateId.{UpdateId}
use Rattle.update_model.specs.declared.value.Value.TheVariants.{Int, Null, Own, Text}
use Rattle.update_model.specs.Entry.{same_id}
use Rattle.update_model.specs.Node.{NodeData}
use Rattle.schema.specs.declared.action.Action.TheVariants.{Cascade}
use Rattle.table_model.specs.Verdicts.{effects_after, effects_of, in_table, nothing, row_inserted}
use Rattle.table_model.specs.Visible.{Effects, RowRef, Rules, TableRow, cascade_refs, is_deleted, is_least_in, is_visible, kept_of, same_row, visible_to}
use Rattle.table_model.proofs.Alike.{weight, weight-append, one_if}
use Rattle.table_model.proofs.Each.{each-append, each-left, each-right}
use Rattle.table_model.proofs.Settled.{IsOne, shows_one}
use Rattle.demonstration_laws.specs.Chains.{did_by}
use Rattle.demonstration_laws.specs.Plans.{list_title, task_title}
use Rattle.demonstration_laws.proofs.ChainsLeft.{first_row, inserting, left}
use Rattle.demonstration_laws.proofs.Inserts.{list_row}

-- ---- rows

-- the row of a task in the list of the same update, inserted by the operation with this number
abbrev pub task_row : NodeData → ℕ → List ℕ → ℕ → TableRow
task_row node number title prio = row_inserted node number 1 (Text title ∷ Int (pos prio) ∷ Null ∷ Own 0 ∷ Null ∷ [])

-- A node inserts a list and two tasks in it.
pub record Adds (node : NodeData) : Type 0 where
  pub author : ℕ
  pub number : ℕ
  pub first : ℕ
  pub second : ℕ
  pub is : node.ops ≡ inserting author number first second

-- A node deletes the row that an update inserted first.
pub record Drops (node : NodeData) : Type 0 where
  pub update : UpdateId
  pub is : node.ops ≡ Delete (first_row update) ∷ []

abbrev pub Does : NodeData → Type 0
Does node = Adds node ⊎ Drops node

-- the rows that a node inserts, newest first
abbrev pub three_rows : NodeData → ℕ → ℕ → ℕ → ℕ → List TableRow
three_rows node author number first second =
    task_row node 2 (task_title author number 1) second ∷ task_row node 1 (task_title author number 0) first ∷ list_row node (list_title author number) ∷ []

pub rows_added : (node : NodeData) (a : Adds node) → (effects_of node).inserted ≡ three_rows node a.author a.number a.first a.second
rows_added node a = ap (λ (ops : List Op). (effects_after node 0 nothing ops).inserted) a.is

names_added : (node : NodeData) (a : Adds node) → (effects_of node).deleted ≡ []
names_added node a = ap (λ (ops : List Op). (effects_after node 0 nothing ops).deleted) a.is

rows_dropped : (node : NodeData) (d : Drops node) → (effects_of node).inserted ≡ []
rows_dropped node d = ap (λ (ops : List Op). (effects_after node 0 nothing ops).inserted) d.is

names_dropped : (node : NodeData) (d : Drops node) → (effects_of node).deleted ≡ first_row d.update ∷ []
names_dropped node d = ap (λ (ops : List Op). (effects_after node 0 nothing ops).deleted) d.is

-- how many rows of a table a node inserts
abbrev pub rows_in : ℕ → NodeData → ℕ
rows_in table node = weight (λ row. one_if (in_table table row)) (effects_of node).inserted

-- ---- all that is done

-- Each name is that of a row that an update inserted first.
abbrev pub AreFirst : List RowName → Type 0
AreFirst names = AllByRecursion (λ name. name.index ≡ 0) names

deleted_first : (node : NodeData) → Does node → AreFirst (effects_of node).deleted
deleted_first node (inl a) = subst AreFirst (sym (names_added node a)) tt
deleted_first node (inr d) = subst AreFirst (sym (names_dropped node d)) (refl, tt)

pub all_first : (nodes : List NodeData) → AllByRecursion Does nodes → AreFirst (did_by nodes).deleted
all_first [] does = tt
all_first (node ∷ nodes) does = each-append (λ (name : RowName). name.index ≡ 0) (effects_of node).deleted (did_by nodes).deleted (deleted_first node does.0) (all_first nodes does.1)

-- Where there is a row, there are two.
abbrev pub IsLong : List TableRow → Type 0
IsLong rows = list_any (λ row. true) rows ≡ true → (d : ℕ) × (length rows ≡ suc (suc d))

long_after : (node : NodeData) (rows : List TableRow) → Does node → IsLong rows → IsLong ((effects_of node).inserted ++ rows)
long_after node rows (inl a) long = subst (λ (new : List TableRow). IsLong (new ++ rows)) (sym (rows_added node a)) (λ h. (suc (length rows), refl))
long_after node rows (inr d) long = subst (λ (new : List TableRow). IsLong (new ++ rows)) (sym (rows_dropped node d)) long

pub all_long : (nodes : List NodeData) → AllByRecursion Does nodes → IsLong (did_by nodes).inserted
all_long [] does = λ h. absurd cc
all_long (node ∷ nodes) does = long_after node (did_by nodes).inserted does.0 (all_long nodes does.1)

-- ---- which rows are visible

-- what a row counts in a table: 1 where it is of that table and visible
abbrev pub counted : Rules → Effects → ℕ → TableRow → ℕ
counted rules did table row = cond (is_visible rules did row.name) (one_if (in_table table row)) 0

-- What is known of the tables: neither keeps a least row, a list refers to nothing, and a task goes with its list.
pub record AreTasks (rules : Rules) : Type 0 where
  pub list_kept : kept_of rules 0 ≡ None
  pub task_kept : kept_of rules 1 ≡ None
  pub list_refs : (node : NodeData) (title : List ℕ) → cascade_refs rules (list_row node title) ≡ []
  pub task_refs : (node : NodeData) (number : ℕ) (title : List ℕ) (prio : ℕ)
      → cascade_refs rules (task_row node number title prio) ≡ record { target = 0; action = Cascade; name = first_row node.id } ∷ []

and_true : (b : Bool) → (b && true) ≡ b
and_true true = refl
and_true false = refl

and_false : (b : Bool) → (b && false) ≡ false
and_false true = refl
and_false false = refl

not_first : (id : UpdateId) (number : ℕ) → number ≢ 0 → (names : List RowName) → AreFirst names → list_any (same_row (record { update = id; index = number })) names ≡ false
not_first id number apart [] first = refl
not_first id number apart (name ∷ names) first =
    let other : (number == name.index) ≡ false = ne_eqb number name.index (λ same. apart (same ∙ first.0)) in
    ap₂ (λ a b. a || b) (ap (λ (b : Bool). same_id id name.update && b) other ∙ and_false (same_id id name.update)) (not_first id number apart names first.1)

three_sum : (out x y z : Bool) (m n : ℕ) → x ≡ not out → y ≡ not out → z ≡ not out → cond x m 0 + (cond y m 0 + (cond z n 0 + 0)) ≡ cond out 0 (m + (m + (n + 0)))
three_sum out x y z m n e f g = rw (e, f, g) (each out)
  where
    each : (b : Bool) → cond (not b) m 0 + (cond (not b) m 0 + (cond (not b) n 0 + 0)) ≡ cond b 0 (m + (m + (n + 0)))
    each true = refl
    each false = refl

cond_nothing : (b : Bool) → ◌≡◌ {A = ℕ} (cond b 0 0) 0
cond_nothing true = refl
cond_nothing false = refl

module _ (rules : Rules) (tasks : AreTasks rules) (did : Effects) (first : AreFirst did.deleted) (long : IsLong did.inserted) where
  list_seen : (node : NodeData) (title : List ℕ) → IsOne did.inserted (list_row node title) → (d : ℕ) → visible_to rules did (suc d) (first_row node.id) ≡ not (is_deleted did (first_row node.id))
  unfolding visible_to
  list_seen node title one d =
      let row = list_row node title in
      let seen = visible_to rules did d in
      shows_one rules did seen row one
      ∙ ap₂ (λ (rs : List RowRef) (b : Bool). (list_all (λ r. seen r.name) rs && not (is_deleted did (first_row node.id))) && b) (tasks.list_refs node title) (ap (is_least_in rules did seen row) tasks.list_kept)
      ∙ and_true (not (is_deleted did (first_row node.id)))

  task_seen : (node : NodeData) (number : ℕ) (title name : List ℕ) (prio : ℕ) → number ≢ 0 → IsOne did.inserted (list_row node title) → IsOne did.inserted (task_row node number name prio) → (d : ℕ)
      → visible_to rules did (suc (suc d)) (record { update = node.id; index = number }) ≡ not (is_deleted did (first_row node.id))
  unfolding visible_to
  task_seen node number title name prio apart list one d =
      let row = task_row node number name prio in
      let seen = visible_to rules did (suc d) in
      let stays : is_deleted did row.name ≡ false = not_first node.id number apart did.deleted first in
      shows_one rules did seen row one
      ∙ ap₂ (λ (rs : List RowRef) (b : Bool). (list_all (λ r. seen r.name) rs && not (is_deleted did row.name)) && b) (tasks.task_refs node number name prio) (ap (is_least_in rules did seen row) tasks.task_kept)
      ∙ and_true ((seen (first_row node.id) && true) && not (is_deleted did row.name))
      ∙ ap₂ (λ (a b : Bool). a && not b) (and_true (seen (first_row node.id))) stays
      ∙ and_true (seen (first_row node.id))
      ∙ list_seen node title list d

  three_counted : (table : ℕ) (node : NodeData) (author number one two : ℕ) → AllByRecursion (IsOne did.inserted) (three_rows node author number one two)
      → weight (counted rules did table) (three_rows node author number one two)
      ≡ cond (is_deleted did (first_row node.id)) 0 (weight (λ row. one_if (in_table table row)) (three_rows node author number one two))
  three_counted table node author number one two ones =
      let deep = long (ones.0.here (λ row. true) refl) in
      let out = is_deleted did (first_row node.id) in
      let title = list_title author number in
      let at : (name : RowName) (b : Bool) → visible_to rules did (suc (suc deep.0)) name ≡ b → is_visible rules did name ≡ b = λ name b e. ap (λ (n : ℕ). visible_to rules did n name) deep.1 ∙ e in
      let a = at (record { update = node.id; index = 2 }) (not out) (task_seen node 2 title (task_title author number 1) two (omega arith) ones.1.1.0 ones.0 deep.0) in
      let b = at (record { update = node.id; index = 1 }) (not out) (task_seen node 1 title (task_title author number 0) one (omega arith) ones.1.1.0 ones.1.0 deep.0) in
      let c = at (first_row node.id) (not out) (list_seen node title ones.1.1.0 (suc deep.0)) in
      three_sum out _ _ _ (one_if (1 == table)) (one_if (0 == table)) a b c

  -- the visible rows of a table among those of a node
  node_counted : (table : ℕ) (node : NodeData) → Does node → AllByRecursion (IsOne did.inserted) (effects_of node).inserted
      → weight (counted rules did table) (effects_of node).inserted ≡ cond (is_deleted did (first_row node.id)) 0 (rows_in table node)
  node_counted table node (inl a) ones =
      let is = rows_added node a in
      subst (λ (new : List TableRow). weight (counted rules did table) new ≡ cond (is_deleted did (first_row node.id)) 0 (weight (λ row. one_if (in_table table row)) new)) (sym is)
      (three_counted table node a.author a.number a.first a.second (subst (AllByRecursion (IsOne did.inserted)) is ones))
  node_counted table node (inr d) ones =
      subst (λ (new : List TableRow). weight (counted rules did table) new ≡ cond (is_deleted did (first_row node.id)) 0 (weight (λ row. one_if (in_table table row)) new)) (sym (rows_dropped node d))
      (sym (cond_nothing (is_deleted did (first_row node.id))))

  -- and among those of nodes
  pub nodes_counted : (table : ℕ) (nodes : List NodeData) → AllByRecursion Does nodes → AllByRecursion (IsOne did.inserted) (did_by nodes).inserted
      → weight (counted rules did table) (did_by nodes).inserted ≡ left (rows_in table) (λ id. is_deleted did (first_row id)) nodes
  nodes_counted table [] does ones = refl
  nodes_counted table (node ∷ nodes) does ones =
      let new = (effects_of node).inserted in
      let old = (did_by nodes).inserted in
      weight-append (counted rules did table) new old
      ∙ ap₂ (λ (m n : ℕ). m + n) (node_counted table node does.0 (each-left (IsOne did.inserted) new old ones)) (nodes_counted table nodes does.1 (each-right (IsOne did.inserted) new old ones))
