-- A valid update deletes a name no more than once, so that deletions are counted by updates.
use Rattle.std.proofs.Common.{◌≡◌, ℕ, ◌+◌, ◌≤◌, ◌==◌, Bool, true, false, cond, not, ◌&&◌, List, [], ◌∷◌, ◌++◌, get_or, map, filter, refl, sym, ap, ◌∙◌, subst, Option, Some, None, Contains, inl, inr, arith}
use Rattle.std.specs.Prelude.{count_by, slice_get}
use Rattle.std.specs.List.{AllByRecursion, list_any}
use Rattle.std.specs.BTreeMap.{BTreeMap}
use Rattle.std.proofs.lemmas.Bool.{both_ways, cases_Bool, eqb-true, eq-eqb, or_parts}
use Rattle.update_model.specs.declared.op.Op.{Op}
use Rattle.update_model.specs.declared.op.Op.TheVariants.{Delete, Insert}
use Rattle.update_model.specs.declared.row_name.RowName.{RowName}
use Rattle.update_model.specs.Node.{NodeData}
use Rattle.table_model.specs.declared.verdict.Verdict.TheVariants as verdict
use Rattle.table_model.specs.Verdicts.{ancestor_of, delete_reason, effects, effects_after, effects_in, effects_of, first_reason, insert_reason, is_valid, joined, judge_next, judged, nothing, row_inserted, verdict_after, verdict_on}
use Rattle.table_model.specs.Visible.{Effects, RowRef, Rules, TableRow, is_deleted, is_least, is_visible, same_row, visible_rows}
use Rattle.table_model.specs.Counts.{one_where}
use Rattle.table_model.proofs.Founded.{founded_closed}
use Rattle.table_model.proofs.Members.{contains_mapped, contains_turned}
use Rattle.table_model.proofs.Standing.{row_from_same, same_row-refl}
use Rattle.tuple_state.specs.Absence.{causes_of}
use Rattle.tuple_state.specs.declared.dropped.Dropped.{Dropped}
use Rattle.tuple_state.specs.declared.groups.Groups.{Groups}
use Rattle.tuple_state.specs.declared.inserted.Inserted.{Inserted}
use Rattle.tuple_state.specs.Kept.{IsKept, place_of}
use Rattle.tuple_state.specs.Links.{Linked}
use Rattle.tuple_state.specs.State.{IsStateOf, State, done_in, row_of, rules_of_state}
use Rattle.tuple_state.proofs.Answering.{at_member, once_each}
use Rattle.tuple_state.proofs.Counting.{count_mapped, count_reversed}
use Rattle.tuple_state.proofs.Layers.{layered_founded, same_cascade, same_least}
use Rattle.tuple_state.proofs.Linking.{default_free}
use Rattle.tuple_state.proofs.Lookups.{shapes_same, did_same, get_or_from, row_found, visible_now}
use Rattle.tuple_state.proofs.Meaning.{causes_kept, count_append, count_cons, none_counted}
use Rattle.tuple_state.proofs.Marking.{slice_get_below}
use Rattle.tuple_state.proofs.Raising.{unit}

-- the first of three reasons does not apply where none does
no_first : (a b c : Bool) → first_reason ((6, a) ∷ (7, b) ∷ (8, c) ∷ []) ≡ None → a ≡ false
no_first a b c h =
    let step : (x : Bool) → cond x (Some 6) (first_reason ((7, b) ∷ (8, c) ∷ [])) ≡ None → x ≡ false = elim [ true ↦ λ e. absurd (cc) | false ↦ λ e. refl ] in
    step a h

none_of : (f : RowName → Bool) (xs : List RowName) → list_any f xs ≡ false → count_by f xs ≡ 0
none_of f xs h = eqb-true _ _ (none_counted f xs ∙ ap not h)

module _ (rules : Rules) (past : Effects) (rows : List TableRow) (node : NodeData) (name : RowName) where
  void_not_valid : (reason k : ℕ) → is_valid (verdict.Void reason k) ≡ true → ⊥
  void_not_valid reason k h = cc

  once_after : (k : ℕ) (did : Effects) (ops : List Op) → count_by (same_row name) did.deleted ≤ 1 → is_valid (verdict_after rules past rows node k did ops) ≡ true
      → count_by (same_row name) (effects_after node k did ops).deleted ≤ 1
  once_after k did [] so h = so
  once_after k did (Insert t values ∷ ops) so h =
      let row = row_inserted node k t values in
      let step : (o : Option ℕ) → is_valid (elim o [ Some reason ↦ verdict.Void reason k | None ↦ verdict_after rules past rows node (k + 1) (record did { inserted = row ∷ did.inserted }) ops ]) ≡ true
      → count_by (same_row name) (effects_after node (k + 1) (record did { inserted = row ∷ did.inserted }) ops).deleted ≤ 1 =
      elim [
        | Some reason ↦ λ v. absurd (void_not_valid reason k v)
        | None ↦ λ v. once_after (k + 1) (record did { inserted = row ∷ did.inserted }) ops so v
      ] in
      step (insert_reason rules (did.inserted ++ rows) row) h
  once_after k did (Delete gone ∷ ops) so h =
      let step : (o : Option ℕ) → delete_reason rules rows did.deleted node.author gone ≡ o
      → is_valid (elim o [ Some reason ↦ verdict.Void reason k | None ↦ verdict_after rules past rows node (k + 1) (record did { deleted = gone ∷ did.deleted }) ops ]) ≡ true
      → count_by (same_row name) (effects_after node (k + 1) (record did { deleted = gone ∷ did.deleted }) ops).deleted ≤ 1 =
      elim [
        | Some reason ↦ λ e v. absurd (void_not_valid reason k v)
        | None ↦ λ e v.
            let fresh : list_any (same_row gone) did.deleted ≡ false = (or_parts _ _ (no_first _ _ _ e)).1 in
            let more = count_cons (same_row name) gone did.deleted in
            let few : count_by (same_row name) (gone ∷ did.deleted) ≤ 1 =
            elim (cases_Bool (same_row name gone)) [
              | inl y ↦
                  let none = none_of (same_row name) did.deleted (subst (λ (n : RowName). list_any (same_row n) did.deleted ≡ false) (sym (row_from_same name gone y)) fresh) in
                  let one : unit (same_row name gone) ≡ 1 = ap unit y in
                  omega (arith, more, none, one)
              | inr n ↦ let zero_is : unit (same_row name gone) ≡ 0 = ap unit n in omega (arith, more, so, zero_is)
            ] in
            once_after (k + 1) (record did { deleted = gone ∷ did.deleted }) ops few v
      ] in
      step (delete_reason rules rows did.deleted node.author gone) refl h

at_most_one : (f : RowName → Bool) (xs : List RowName) → count_by f xs ≤ 1 → count_by f xs ≡ unit (list_any f xs)
at_most_one f xs few = elim (cases_Bool (list_any f xs)) [
  | inl y ↦
      let some : (count_by f xs == 0) ≡ false = none_counted f xs ∙ ap not y in
      let one : unit (list_any f xs) ≡ 1 = ap unit y in
      let more : count_by f xs ≡ 0 → ⊥ = λ e. both_ways _ some (eq-eqb _ _ e) in
      omega (arith, few, one, more)
  | inr n ↦ none_of f xs n ∙ sym (ap unit n)
]

-- deletions counted by updates
pub deletes_counted : (rules : Rules) (nodes : List NodeData) (name : RowName)
    → count_by (same_row name) (effects (judged rules nodes)).deleted ≡ count_by (λ j. is_valid j.verdict && is_deleted (effects_of j.node) name) (judged rules nodes)
unfolding verdict_on effects judge_next judged
deletes_counted rules [] name = refl
deletes_counted rules (n ∷ nodes) name =
    let js = judged rules nodes in
    let rest = deletes_counted rules nodes name in
    let past = effects (filter (λ j. ancestor_of js n j.node.id) js) in
    let step : (b : Bool) → is_valid (judge_next rules js n).verdict ≡ b
    → count_by (same_row name) (cond b (joined (effects_of n) (effects js)) (effects js)).deleted ≡ unit (b && is_deleted (effects_of n) name) + count_by (λ j. is_valid j.verdict && is_deleted (effects_of j.node) name) js =
    elim [
      | true ↦ λ e.
          count_append (same_row name) (effects_of n).deleted (effects js).deleted
          ∙ (λ i. at_most_one (same_row name) (effects_of n).deleted (once_after rules past (visible_rows rules past) n name 0 nothing n.ops (omega arith) e) i + rest i)
      | false ↦ λ e. omega (arith, rest)
    ] in
    step (is_valid (judge_next rules js n).verdict) refl ∙ sym (count_cons (λ j. is_valid j.verdict && is_deleted (effects_of j.node) name) (judge_next rules js n) js)

module _ (rules : Rules) (nodes : List NodeData) (state : State) (held : IsStateOf rules nodes state) where
  dropped_counted : (name : RowName) → count_by (λ (d : Dropped). same_row name d.name) state.dropped ≡ count_by (λ j. is_valid j.verdict && is_deleted (effects_of j.node) name) (judged rules nodes)
  dropped_counted name =
      sym (count_mapped (λ (d : Dropped). d.name) (same_row name) state.dropped) ∙ sym (count_reversed (same_row name) (map (λ (d : Dropped). d.name) state.dropped))
      ∙ ap (λ (g : Effects). count_by (same_row name) g.deleted) (did_same rules nodes state held) ∙ deletes_counted rules nodes name

  -- the row that is found is the one with its name
  same_found : (k : ℕ) (it : Inserted) (row : TableRow) → slice_get state.inserted k ≡ Some it → Contains (effects_in rules nodes).inserted row → row.name ≡ it.name → row ≡ row_of it
  same_found k it row at inside named =
      let there : Contains (done_in state).inserted (row_of it) =
      contains_turned (row_of it) (map row_of state.inserted) (contains_mapped row_of it state.inserted (k, slice_get_below state.inserted k it at, get_or_from state.inserted k it it at)) in
      let rows = (effects_in rules nodes).inserted in
      let also : Contains rows (row_of it) = subst (λ (g : Effects). Contains g.inserted (row_of it)) (did_same rules nodes state held) there in
      let each = once_each rules rows (layered_founded rules rows (founded_closed rules nodes held.closed).founded) in
      at_member (λ y. same_row row.name y.name ≡ true → row ≡ y) rows (row_of it)
      (at_member (λ x. AllByRecursion (λ y. same_row x.name y.name ≡ true → x ≡ y) rows) rows row each inside) also
      (subst (λ (n : RowName). same_row row.name n ≡ true) named (same_row-refl row.name))

  pub causes_now : (places : BTreeMap RowName ℕ) (causes : List ℕ) (children deleters : Linked) (ends : List ℕ) (groups : Groups) → IsKept state places causes children deleters ends groups → (name : RowName) (k n : ℕ) → place_of state.inserted name ≡ Some k
      → n ≡ get_or causes k n → (row : TableRow) → Contains (effects_in rules nodes).inserted row → row.name ≡ name → n ≡ causes_of rules nodes row
  causes_now places causes children deleters ends groups kept name k n found is row inside named =
      let at = row_found state.inserted name k found in
      let same = same_found k at.it row at.at inside (named ∙ sym at.name_is) in
      is ∙ default_free causes k n 0 (omega (arith, at.below, kept.each)) ∙ causes_kept state places causes children deleters ends groups kept k at.it at.at
      ∙ (λ i. (dropped_counted at.it.name i + count_by (λ (r : RowRef). not (visible_now rules nodes state held r.name i)) (same_cascade (shapes_same rules nodes state held) (row_of at.it) i))
      + one_where (not ((same_least (shapes_same rules nodes state held) (done_in state) (is_visible (rules_of_state state) (done_in state)) (is_visible rules (effects_in rules nodes)) (visible_now rules nodes state held) (row_of at.it)
      ∙ ap (λ (g : Effects). is_least rules g (is_visible rules (effects_in rules nodes)) (row_of at.it)) (did_same rules nodes state held)) i)))
      ∙ ap (λ (x : TableRow). causes_of rules nodes x) (sym same)
