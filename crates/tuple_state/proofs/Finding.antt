-- The visible row with a name.
use Rattle.std.proofs.Common.{◌≡◌, ℕ, Bool, true, false, cond, not, ◌&&◌, ◌||◌, List, [], ◌∷◌, length, map, refl, sym, ap, ◌∙◌, subst, Some, None}
use Rattle.std.specs.Prelude.{slice_get, filter, find, option_map}
use Rattle.std.specs.List.{list_any, AllByRecursion}
use Rattle.std.proofs.lemmas.Bool.{both_ways, and_from}
use Rattle.update_model.specs.declared.row_name.RowName.{RowName}
use Rattle.table_model.specs.Visible.{TableRow, is_deleted, is_visible, same_row}
use Rattle.table_model.proofs.Settled.{are_resting}
use Rattle.table_model.proofs.Standing.{row_from_same, same_row-refl, each-map}
use Rattle.table_model.specs.Answers.{entry_of_row}
use Rattle.tuple_state.specs.declared.inserted.Inserted.{Inserted}
use Rattle.tuple_state.specs.Kept.{are_layered, place_of}
use Rattle.tuple_state.specs.Past.{done_then, row_then}
use Rattle.tuple_state.specs.State.{State, done_in, row_of, rules_of_state}
use Rattle.tuple_state.proofs.Answering.{once_each, same_turned}
use Rattle.tuple_state.proofs.Layers.{Stands, each_stands, unnamed_hidden}
use Rattle.tuple_state.proofs.Lookups.{named_reversed, unnamed_from_none}
use Rattle.tuple_state.proofs.Pasts.{fewer_any}
use Rattle.tuple_state.proofs.Reaching.{filtered_at, hidden_row}
use Rattle.tuple_state.proofs.Regrowth.{each_back}

pub same_some : {X : Type 0} (a b : X) → Some a ≡ Some b → a ≡ b
same_some a b h = cc

-- where a name is not visible, no visible row has it
find_none : (vis : RowName → Bool) (name : RowName) → vis name ≡ false → (xs : List TableRow) → find (λ (row : TableRow). same_row row.name name) (filter (λ (row : TableRow). vis row.name) xs) ≡ None
find_none vis name hidden [] = refl
find_none vis name hidden (x ∷ xs) =
    let rest = find_none vis name hidden xs in
    let step : (b c : Bool) → vis x.name ≡ b → same_row x.name name ≡ c
    → find (λ (row : TableRow). same_row row.name name) (cond b (x ∷ filter (λ (row : TableRow). vis row.name) xs) (filter (λ (row : TableRow). vis row.name) xs)) ≡ None =
    elim [
      | true ↦ elim [
        | true ↦ λ e g. absurd (both_ways _ hidden (ap vis (sym (row_from_same x.name name g)) ∙ e))
        | false ↦ λ e g. ap (λ b. cond b (Some x) (find (λ (row : TableRow). same_row row.name name) (filter (λ (row : TableRow). vis row.name) xs))) g ∙ rest
      ]
      | false ↦ λ c e g. rest
    ] in
    step (vis x.name) (same_row x.name name) refl refl

pub find_one : (t v : TableRow → Bool) (r : TableRow) (xs : List TableRow) → AllByRecursion (λ x. t x ≡ true → x ≡ r) xs → list_any (λ x. t x && v x) xs ≡ true → find t (filter v xs) ≡ Some r
find_one t v r [] a h = absurd (cc)
find_one t v r (x ∷ xs) a h =
    let step : (b c : Bool) → v x ≡ b → t x ≡ c → ((c && b) || list_any (λ y. t y && v y) xs) ≡ true → find t (cond b (x ∷ filter v xs) (filter v xs)) ≡ Some r =
    elim [
      | true ↦ elim [
        | true ↦ λ e g k. ap (λ b. cond b (Some x) (find t (filter v xs))) g ∙ ap Some (a.0 g)
        | false ↦ λ e g k. ap (λ b. cond b (Some x) (find t (filter v xs))) g ∙ find_one t v r xs a.1 k
      ]
      | false ↦ elim [ true ↦ λ e g k. find_one t v r xs a.1 k | false ↦ λ e g k. find_one t v r xs a.1 k ]
    ] in
    step (v x) (t x) refl refl h

module _ (state : State) (past : ℕ → Bool) where
  pub row_hidden : (name : RowName) → is_visible (rules_of_state state) (done_then state past) name ≡ false → None ≡ row_then state past name
  row_hidden name hidden = sym (ap (option_map entry_of_row) (find_none (is_visible (rules_of_state state) (done_then state past)) name hidden (done_then state past).inserted))

  pub row_absent : (name : RowName) → place_of state.inserted name ≡ None → None ≡ row_then state past name
  row_absent name none =
      row_hidden name (unnamed_hidden (rules_of_state state) (done_then state past) name
      (named_reversed (filter (λ (it : Inserted). past it.position) state.inserted) name
      ∙ fewer_any (λ (it : Inserted). same_row it.name name) (λ (it : Inserted). past it.position) state.inserted (sym (named_reversed state.inserted name) ∙ unnamed_from_none state.inserted name none))
      (length (done_then state past).inserted))

  pub row_shown : are_layered (rules_of_state state) (done_in state).inserted ≡ true → are_layered (rules_of_state state) (done_then state past).inserted ≡ true → are_resting (rules_of_state state) (done_then state past).inserted ≡ true → (place : ℕ) (it : Inserted) (name : RowName)
      → slice_get state.inserted place ≡ Some it → it.name ≡ name → is_visible (rules_of_state state) (done_then state past) it.name ≡ true → Some it.entry ≡ row_then state past name
  row_shown all some rest place it name at named seen =
      let g = done_then state past in
      let v : TableRow → Bool = λ row. is_visible (rules_of_state state) g row.name in
      let t : TableRow → Bool = λ row. same_row row.name name in
      let there : past it.position ≡ true =
      (let step : (b : Bool) → past it.position ≡ b → b ≡ true =
      elim [ true ↦ λ e. refl | false ↦ λ e. absurd (both_ways _ (hidden_row state.shapes state.inserted past g.deleted all some rest place it at (ap (λ b. b && not (is_deleted g it.name)) e)) seen) ] in
      step (past it.position) refl) in
      let inside : (P : TableRow → Type 0) → AllByRecursion P g.inserted → P (row_of it) =
      λ P h. filtered_at P (λ (x : Inserted). past x.position) state.inserted place it (each_back P (map row_of (filter (λ (x : Inserted). past x.position) state.inserted)) h) at there in
      let stands = inside (Stands g.inserted) (each_stands (rules_of_state state) g.inserted some) in
      let once = inside (λ a. AllByRecursion (λ b. same_row a.name b.name ≡ true → a ≡ b) g.inserted) (once_each (rules_of_state state) g.inserted some) in
      let only = each-map (λ b. same_row it.name b.name ≡ true → row_of it ≡ b) (λ b. t b ≡ true → b ≡ row_of it)
      (λ b h same. sym (h (subst (λ (n : RowName). same_row n b.name ≡ true) (sym named) (same_turned b.name name same)))) g.inserted once in
      let any = stands.here (λ x. t x && v x) (and_from _ _ (subst (λ (n : RowName). same_row it.name n ≡ true) named (same_row-refl it.name)) seen) in
      sym (ap (option_map entry_of_row) (find_one t v (row_of it) g.inserted only any))
