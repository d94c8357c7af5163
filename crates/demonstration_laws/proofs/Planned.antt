-- What an author makes by plan is valid.
use Rattle.std.proofs.Common.{◌≡◌, ℕ, ◌+◌, ◌^◌, ◌<◌, ◌≤◌, ◌%◌, Bool, true, false, List, [], ◌∷◌, ◌++◌, length, slice_index_or, refl, sym, ap, subst, ◌∙◌, arith, length-append}
use Rattle.std.specs.Fmt.{decimal}
use Rattle.std.specs.List.{list_any}
use Rattle.std.proofs.lemmas.Bool.{or_left, or_right}
use Rattle.std.proofs.lemmas.Fmt.{length-decimal-le}
use Rattle.std.proofs.lemmas.List.Sorted.{list_any-IsPermutation}
use Rattle.update_model.specs.declared.op.Op.{Op}
use Rattle.update_model.specs.declared.op.Op.TheVariants.{Delete}
use Rattle.update_model.specs.declared.update_id.UpdateId.{UpdateId}
use Rattle.update_model.specs.declared.value.Value.{Value}
use Rattle.update_model.specs.Node.{NodeData}
use Rattle.table_model.specs.declared.verdict.Verdict.TheVariants.{Valid}
use Rattle.table_model.specs.Nodes.{IsClosed}
use Rattle.table_model.specs.Verdicts.{effects_after, effects_in, effects_of, nothing, verdict_after, verdict_on}
use Rattle.table_model.specs.Visible.{Effects, TableRow, is_deleted, same_row, visible_rows}
use Rattle.demonstration_laws.specs.Chains.{ArePlanned, AreValid, IsChain, all_of, did_by, last_id}
use Rattle.demonstration_laws.specs.Plans.{AreOpsOf, deletes, inserts, list_insert, list_title, task_insert, task_title}
use Rattle.demonstration_laws.proofs.Chained.{newest_among, newest_stays}
use Rattle.demonstration_laws.proofs.Deletes.{delete_valid, may_delete}
use Rattle.demonstration_laws.proofs.Done.{all_did, any_deleted, any_inserted}
use Rattle.demonstration_laws.proofs.Inserts.{demo, inserts_valid, list_row}

-- ---- titles

-- A text of this length may be the title of a list, and so of a task.
record IsTitle (text : List ℕ) : Type 0 where
  some : 1 ≤ length text
  few : length text ≤ 40

dashed : (a b : List ℕ) → length a ≤ 10 → length b ≤ 12 → IsTitle (a ++ (45 ∷ b))
dashed a b few_a few_b = let whole = length-append a (45 ∷ b) in record { some = omega arith; few = omega arith }

module _ (author number : ℕ) (a : author < 4) (n : number < 2 ^ 31) where
  short_author : length (decimal author) ≤ 10
  short_author = length-decimal-le 10 author (omega arith) (omega arith) (omega arith)

  short_number : length (decimal number) ≤ 10
  short_number = length-decimal-le 10 number (omega arith) (omega arith) (omega arith)

  list_titled : IsTitle (list_title author number)
  list_titled = let one = short_author in let two = short_number in dashed (decimal author) (decimal number) (omega arith) (omega arith)

  task_titled : (place : ℕ) → IsTitle (task_title author number place)
  task_titled place =
      let one = short_author in
      let two = short_number in
      let end = length-append (decimal number) (45 ∷ (48 + place) ∷ []) in
      dashed (decimal author) (decimal number ++ (45 ∷ (48 + place) ∷ [])) (omega arith) (omega arith)

-- ---- the update

module _ (ask : ℕ → List Value → Bool) where
  insert_planned : (past : Effects) (rows : List TableRow) (draft : NodeData) (author number first second : ℕ) → author < 4 → number < 2 ^ 31 → first < 9 → second < 9
      → verdict_after (demo ask) past rows draft 0 nothing
      (list_insert (list_title author number) ∷ task_insert (task_title author number 0) first ∷ task_insert (task_title author number 1) second ∷ []) ≡ Valid
  insert_planned past rows draft author number first second a n p q =
      let list = list_titled author number a n in
      let one = task_titled author number a n 0 in
      let two = task_titled author number a n 1 in
      inserts_valid ask draft past rows (list_title author number) (task_title author number 0) (task_title author number 1) first second
      list.some list.few one.some (let few = one.few in omega arith) two.some (let few = two.few in omega arith) p q

  module _ (nodes : List NodeData) (chains : List (List NodeData)) (planned : ArePlanned chains nodes) (closed : IsClosed nodes) where
    -- a row that the newest update of an author inserts is among those of all
    newest_row : (author : ℕ) (node : NodeData) (older : List NodeData) → slice_index_or chains author [] ≡ node ∷ older → (p : TableRow → Bool) → list_any p (effects_of node).inserted ≡ true
        → list_any p (did_by nodes).inserted ≡ true
    newest_row author node older at p h =
        let test = λ (n : NodeData). list_any p (effects_of n).inserted in
        any_inserted p nodes ∙ list_any-IsPermutation test nodes (all_of chains) planned.same ∙ newest_among test chains author node older at h

    newest_kept : (author : ℕ) (node : NodeData) (older : List NodeData) → slice_index_or chains author [] ≡ node ∷ older → is_deleted (did_by nodes) (record { update = node.id; index = 0 }) ≡ false
    newest_kept author node older at =
        any_deleted (same_row (record { update = node.id; index = 0 })) nodes ∙ newest_stays nodes chains planned closed author node older at 0

    delete_planned : (author : ℕ) (node : NodeData) (older : List NodeData) → slice_index_or chains author [] ≡ node ∷ older → (length older + 1) % 5 ≡ 4
        → AreOpsOf author (length older) (last_id older) node.ops → (draft : NodeData)
        → verdict_after (demo ask) (did_by nodes) (visible_rows (demo ask) (did_by nodes)) draft 0 nothing (Delete (record { update = node.id; index = 0 }) ∷ []) ≡ Valid
    delete_planned author node older at fifth (deletes update some too is) draft = absurd (omega arith)
    delete_planned author node older at fifth (inserts first second p q unless is) draft =
        let past = did_by nodes in
        let title = list_title author (length older) in
        let here : (t : TableRow → Bool) → t (list_row node title) ≡ true → list_any t past.inserted ≡ true =
        λ t h. newest_row author node older at t (ap (λ (ops : List Op). list_any t (effects_after node 0 nothing ops).inserted) is ∙ or_right _ _ (or_right _ _ (or_left _ _ h))) in
        delete_valid ask past (visible_rows (demo ask) past) draft (record { update = node.id; index = 0 }) (may_delete ask past node title here (newest_kept author node older at))

    by_plan : (author : ℕ) (chain : List NodeData) → slice_index_or chains author [] ≡ chain → IsChain author chain → author < 4 → length chain < 2 ^ 31 → (draft : NodeData)
        → AreOpsOf author (length chain) (last_id chain) draft.ops
        → verdict_after (demo ask) (did_by nodes) (visible_rows (demo ask) (did_by nodes)) draft 0 nothing draft.ops ≡ Valid
    unfolding IsChain
    by_plan author chain at are a n draft (inserts first second p q unless is) =
        subst (λ (ops : List Op). verdict_after (demo ask) (did_by nodes) (visible_rows (demo ask) (did_by nodes)) draft 0 nothing ops ≡ Valid) (sym is)
        (insert_planned (did_by nodes) (visible_rows (demo ask) (did_by nodes)) draft author (length chain) first second a n p q)
    by_plan author [] at are a n draft (deletes update none fifth is) = absurd cc
    by_plan author (node ∷ older) at are a n draft (deletes update some fifth is) =
        let id : node.id ≡ update = cc in
        let ops : Delete (record { update = node.id; index = 0 }) ∷ [] ≡ draft.ops = ap (λ (u : UpdateId). Delete (record { update = u; index = 0 }) ∷ []) id ∙ sym is in
        subst (λ (o : List Op). verdict_after (demo ask) (did_by nodes) (visible_rows (demo ask) (did_by nodes)) draft 0 nothing o ≡ Valid) ops
        (delete_planned author node older at (omega arith) are.0 draft)

    pub planned_valid : AreValid (demo ask) nodes → (author : ℕ) → author < 4 → length (slice_index_or chains author []) < 2 ^ 31 → (draft : NodeData)
        → AreOpsOf author (length (slice_index_or chains author [])) (last_id (slice_index_or chains author [])) draft.ops → verdict_on (demo ask) (effects_in (demo ask) nodes) draft ≡ Valid
    unfolding verdict_on
    planned_valid valid author a n draft ops =
        subst (λ (past : Effects). verdict_on (demo ask) past draft ≡ Valid) (sym (all_did (demo ask) nodes valid))
        (by_plan author (slice_index_or chains author []) refl (planned.each author a) a n draft ops)
