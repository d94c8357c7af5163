-- What the updates of a demonstration do.
use Rattle.std.specs.Prelude.{◌≡◌, ◌+◌, ◌<◌, ◌%◌, ℕ, pos, List, [], ◌∷◌, ◌++◌, Option, Some, None, decimal}
use Rattle.update_model.specs.declared.op.Op.{Op}
use Rattle.update_model.specs.declared.op.Op.TheVariants.{Delete, Insert}
use Rattle.update_model.specs.declared.update_id.UpdateId.{UpdateId}
use Rattle.update_model.specs.declared.value.Value.TheVariants.{Int, Null, Own, Text}

-- the title of a list: the number of the author and that of its update, and a dash between
abbrev pub list_title : ℕ → ℕ → List ℕ
list_title author number = decimal author ++ (45 ∷ decimal number)

-- the title of a task, which the author's update inserts as this one
abbrev pub task_title : ℕ → ℕ → ℕ → List ℕ
task_title author number place = decimal author ++ (45 ∷ (decimal number ++ (45 ∷ (48 + place) ∷ [])))

-- a list with this title
abbrev pub list_insert : List ℕ → Op
list_insert title = Insert 0 (Text title ∷ Int (pos 9) ∷ [])

-- a task with this title and priority, in the list that the update inserts first
abbrev pub task_insert : List ℕ → ℕ → Op
task_insert title prio = Insert 1 (Text title ∷ Int (pos prio) ∷ Null ∷ Own 0 ∷ Null ∷ [])

-- The operations of an author's update with this number, where the one before it has this id: it deletes the row that the one before inserted first, as each fifth
-- one does; or it inserts a list and two tasks in it.
pub data AreOpsOf (author number : ℕ) (last : Option UpdateId) (ops : List Op) : Type 0 where
  deletes : (update : UpdateId) → last ≡ Some update → number % 5 ≡ 4 → ops ≡ Delete (record { update = update; index = 0 }) ∷ [] → AreOpsOf author number last ops
  inserts : (first second : ℕ) → first < 9 → second < 9 → (number % 5 ≡ 4 → last ≡ None)
      → ops ≡ list_insert (list_title author number) ∷ task_insert (task_title author number 0) first ∷ task_insert (task_title author number 1) second ∷ []
      → AreOpsOf author number last ops
