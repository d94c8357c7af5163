-- What is answered of the rows visible after an update's ancestors.
use Rattle.std.proofs.Common.{◌≡◌, ℕ, ◌+◌, ◌≤◌, Bool, true, false, cond, not, arith, List, [], ◌∷◌, map, refl, sym, ap, ◌∙◌, subst, Some, is_none}
use Rattle.std.specs.Prelude.{count_by, filter, slice_get, Contains}
use Rattle.std.specs.List.{AllByRecursion}
use Rattle.std.proofs.lemmas.Bool.{both_ways, eqb-true, or_parts}
use Rattle.std.proofs.lemmas.List.Elements.{All-contains, All-from_recursion}
use Rattle.update_model.specs.declared.row_name.RowName.{RowName}
use Rattle.update_model.specs.Node.{NodeData}
use Rattle.table_model.specs.Verdicts.{ancestor_of, effects, in_table, judged}
use Rattle.table_model.specs.Visible.{Effects, Rules, TableRow, is_visible, same_row, visible_rows}
use Rattle.table_model.proofs.Settled.{are_resting}
use Rattle.table_model.proofs.Standing.{row_from_same, same_row-refl, each-map}
use Rattle.table_model.specs.Answers.{AreAnswers, entry_in, equal_in, has_child_in}
use Rattle.tuple_state.specs.Kept.{are_layered, is_named}
use Rattle.tuple_state.specs.declared.inserted.Inserted.{Inserted}
use Rattle.tuple_state.specs.Past.{IsPastOf, child_then, count_then, done_then, equal_then, row_then, visible_then}
use Rattle.tuple_state.specs.State.{IsStateOf, State, done_in, keep_any, row_of, rules_of_state}
use Rattle.tuple_state.proofs.Lasting.{visible_before}
use Rattle.tuple_state.proofs.Layers.{Stands, each_stands, layer_parts, plain_shapes, same_child, same_layered, same_resting, same_rows, same_visible}
use Rattle.tuple_state.proofs.Lookups.{shapes_same, visible_now}
use Rattle.tuple_state.proofs.Raising.{unit}
use Rattle.tuple_state.proofs.Reaching.{filtered_at}
use Rattle.tuple_state.proofs.Regrowth.{each_back}
use Rattle.tuple_state.proofs.Meaning.{count_cons, none_counted}
use Rattle.tuple_state.proofs.Pasts.{done_past, layered_past, resting_past}

none_named : (older : List TableRow) (name : RowName) → is_named older name ≡ false → AllByRecursion (λ b. same_row b.name name ≡ false) older
none_named [] name h = tt
none_named (row ∷ older) name h = let parts = or_parts (same_row row.name name) _ h in (parts.0, none_named older name parts.1)

pub same_turned : (a b : RowName) → same_row a b ≡ true → same_row b a ≡ true
same_turned a b h = subst (λ (n : RowName). same_row n a ≡ true) (row_from_same a b h) (same_row-refl a)

joined_with : (row : TableRow) (older xs : List TableRow) → AllByRecursion (λ b. same_row b.name row.name ≡ false) xs → AllByRecursion (λ a. AllByRecursion (λ b. same_row a.name b.name ≡ true → a ≡ b) older) xs
    → AllByRecursion (λ a. AllByRecursion (λ b. same_row a.name b.name ≡ true → a ≡ b) (row ∷ older)) xs
joined_with row older [] n s = tt
joined_with row older (x ∷ xs) n s = (((λ same. absurd (both_ways _ n.0 same)), s.0), joined_with row older xs n.1 s.1)

-- two layered rows of one name are one
pub once_each : (rules : Rules) (rows : List TableRow) → are_layered rules rows ≡ true → AllByRecursion (λ a. AllByRecursion (λ b. same_row a.name b.name ≡ true → a ≡ b) rows) rows
once_each rules [] h = tt
once_each rules (row ∷ older) h =
    let it = layer_parts rules older row h in
    let apart = none_named older row.name it.new in
    let rest = once_each rules older it.rest in (
      ((λ _. refl), each-map (λ (b : TableRow). same_row b.name row.name ≡ false) (λ (b : TableRow). same_row row.name b.name ≡ true → row ≡ b) (λ b n same. absurd (both_ways _ n (same_turned row.name b.name same))) older apart),
      joined_with row older older apart rest,
    )

each_filtered : {X : Type 0} (P : X → Type 0) (p : X → Bool) (xs : List X) → AllByRecursion P xs → AllByRecursion P (filter p xs)
each_filtered P p [] h = tt
each_filtered P p (x ∷ xs) h =
    let rest = each_filtered P p xs h.1 in
    elim (p x) as (λ b. AllByRecursion P (cond b (x ∷ filter p xs) (filter p xs))) [ true ↦ (h.0, rest) | false ↦ rest ]

pub at_member : {X : Type 0} (P : X → Type 0) (xs : List X) (x : X) → AllByRecursion P xs → Contains xs x → P x
at_member P xs x h m = All-contains P xs x (All-from_recursion P xs h) m

pub visible_once : (rules : Rules) (g : Effects) → are_layered rules g.inserted ≡ true → (a b : TableRow) → Contains (visible_rows rules g) a → Contains (visible_rows rules g) b
    → same_row a.name b.name ≡ true → a ≡ b
visible_once rules g h a b in_a in_b same =
    let each = once_each rules g.inserted h in
    let some = each-map (λ x. AllByRecursion (λ y. same_row x.name y.name ≡ true → x ≡ y) g.inserted) (λ x. AllByRecursion (λ y. same_row x.name y.name ≡ true → x ≡ y) (visible_rows rules g)) (λ x s. each_filtered (λ y. same_row x.name y.name ≡ true → x ≡ y) (λ row. is_visible rules g row.name) g.inserted s) g.inserted each in
    at_member (λ y. same_row a.name y.name ≡ true → a ≡ y) (visible_rows rules g) b
    (at_member (λ x. AllByRecursion (λ y. same_row x.name y.name ≡ true → x ≡ y) (visible_rows rules g)) (visible_rows rules g) a
    (each_filtered (λ x. AllByRecursion (λ y. same_row x.name y.name ≡ true → x ≡ y) (visible_rows rules g)) (λ row. is_visible rules g row.name) g.inserted some) in_a) in_b same

-- no two layered rows have one name
one_named : (rules : Rules) (rows : List TableRow) → are_layered rules rows ≡ true → (name : RowName) → count_by (λ row. same_row row.name name) rows ≤ 1
one_named rules [] h name = omega arith
one_named rules (row ∷ older) h name =
    let it = layer_parts rules older row h in
    let rest = one_named rules older it.rest name in
    let more = count_cons (λ (x : TableRow). same_row x.name name) row older in
    let step : (b : Bool) → same_row row.name name ≡ b → count_by (λ (x : TableRow). same_row x.name name) (row ∷ older) ≤ 1 = elim [
      | true ↦ λ e.
          let none : count_by (λ (x : TableRow). same_row x.name name) older ≡ 0 =
          eqb-true _ _ (none_counted (λ (x : TableRow). same_row x.name name) older ∙ ap not (subst (λ (n : RowName). is_named older n ≡ false) (row_from_same row.name name e) it.new)) in
          let one : unit (same_row row.name name) ≡ 1 = ap unit e in
          omega (arith, more, none, one)
      | false ↦ λ e. let zero_is : unit (same_row row.name name) ≡ 0 = ap unit e in omega (arith, more, zero_is, rest)
    ] in
    step (same_row row.name name) refl

few_kept : {X : Type 0} (t k : X → Bool) (xs : List X) → count_by t (filter k xs) ≤ count_by t xs
few_kept t k [] = omega arith
few_kept t k (x ∷ xs) =
    let rest = few_kept t k xs in
    let more = count_cons t x xs in
    let step : (b : Bool) → count_by t (cond b (x ∷ filter k xs) (filter k xs)) ≤ count_by t (x ∷ xs) = elim [
      | true ↦ let also = count_cons t x (filter k xs) in omega (arith, more, also, rest)
      | false ↦ omega (arith, more, rest)
    ] in
    step (k x)

single_visible : (rules : Rules) (g : Effects) → are_layered rules g.inserted ≡ true → (name : RowName) → count_by (λ row. same_row row.name name) (visible_rows rules g) ≤ 1
single_visible rules g h name =
    let few = few_kept (λ (row : TableRow). same_row row.name name) (λ row. is_visible rules g row.name) g.inserted in
    let one = one_named rules g.inserted h name in
    omega (arith, few, one)

module _ (rules : Rules) (nodes : List NodeData) (node : NodeData) (state : State) (past : ℕ → Bool) (held : IsStateOf rules nodes state) (of : IsPastOf rules nodes node past) where
  abbrev ancestors_did : Effects
  ancestors_did = effects (filter (λ j. ancestor_of (judged rules nodes) node j.node.id) (judged rules nodes))

  done_is : done_then state past ≡ ancestors_did
  done_is = ap (λ (s : State). done_then s past) held.is ∙ done_past rules nodes node past of

  pub layered_then : are_layered (rules_of_state state) (done_then state past).inserted ≡ true
  layered_then =
      same_layered (shapes_same rules nodes state held) (done_then state past).inserted ∙ ap (λ (g : Effects). are_layered rules g.inserted) done_is
      ∙ layered_past rules nodes node held.closed

  rows_is : visible_then state past ≡ visible_rows rules ancestors_did
  rows_is = same_rows (shapes_same rules nodes state held) (done_then state past) ∙ ap (visible_rows rules) done_is

  pub resting_then : are_resting (rules_of_state state) (done_then state past).inserted ≡ true
  resting_then =
      same_resting (shapes_same rules nodes state held) (done_then state past).inserted ∙ ap (λ (g : Effects). are_resting rules g.inserted) done_is
      ∙ resting_past rules nodes node held.tables held.closed

  -- where no table keeps the least row, what is visible now is visible then, where an ancestor inserted it
  pub lasts_then : keep_any state.shapes ≡ false → (place : ℕ) (it : Inserted) → slice_get state.inserted place ≡ Some it → past it.position ≡ true → is_visible (rules_of_state state) (done_in state) it.name ≡ true
      → is_visible (rules_of_state state) (done_then state past) it.name ≡ true
  lasts_then plain place it at here seen =
      let same = shapes_same rules nodes state held in
      let stands = filtered_at (Stands (done_then state past).inserted) (λ (x : Inserted). past x.position) state.inserted place it
      (each_back (Stands (done_then state past).inserted) (map row_of (filter (λ (x : Inserted). past x.position) state.inserted)) (each_stands (rules_of_state state) (done_then state past).inserted layered_then)) at here in
      same_visible same (done_then state past) it.name ∙ ap (λ (g : Effects). is_visible rules g it.name) done_is
      ∙ visible_before rules nodes node held.tables (λ number. ap is_none (sym (same.kept number)) ∙ plain_shapes state.shapes plain number) held.closed it.name (sym (visible_now rules nodes state held it.name) ∙ seen)
      (ap (λ (g : Effects). is_named g.inserted it.name) (sym done_is) ∙ stands.here (λ row. same_row row.name it.name) (same_row-refl it.name))

  pub answers_then : AreAnswers rules ancestors_did (row_then state past) (child_then state past) (equal_then state past) (count_then state past)
  answers_then = record {
    once = visible_once rules ancestors_did (layered_past rules nodes node held.closed);
    single = single_visible rules ancestors_did (layered_past rules nodes node held.closed);
    row = λ name. ap (λ rows. entry_in rows name) rows_is;
    equal = λ table column value. ap (λ rows. equal_in rows table column value) rows_is;
    number = λ table. ap (count_by (in_table table)) rows_is;
    child = λ name. same_child (shapes_same rules nodes state held) (visible_then state past) name ∙ ap (λ rows. has_child_in rules rows name) rows_is;
  }
