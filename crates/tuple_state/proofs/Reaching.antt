-- A row is visible after an update's ancestors exactly where no row to which CASCADE references lead from it is missing or deleted then.
use Rattle.std.proofs.Common.{◌≡◌, ℕ, zero, suc, ◌<◌, Bool, true, false, cond, not, ◌&&◌, ◌||◌, List, [], ◌∷◌, ◌++◌, length, map, reverse, refl, sym, ap, ◌∙◌, subst, Option, Some, None, nat_lt, inl, inr, arith, is_none}
use Rattle.std.specs.Prelude.{slice_get, filter, option_to_list}
use Rattle.std.specs.List.{list_all, list_any, AllByRecursion}
use Rattle.std.proofs.lemmas.Bool.{and_parts, both_ways, or_cases, or_right, false_from_ne_true}
use Rattle.std.proofs.lemmas.Bool.Decides.{nat_tests}
use Rattle.update_model.specs.declared.row_name.RowName.{RowName}
use Rattle.tuple_state.specs.declared.shape.Shape.{Shape}
use Rattle.table_model.specs.Visible.{Effects, Rules, TableRow, cascade_refs, is_deleted, is_visible, kept_of, same_row}
use Rattle.table_model.proofs.Founded.{all_weaker}
use Rattle.table_model.proofs.Settled.{are_resting, gone_hidden}
use Rattle.table_model.proofs.Standing.{each-map, row_from_same}
use Rattle.tuple_state.specs.declared.inserted.Inserted.{Inserted}
use Rattle.tuple_state.specs.Kept.{are_layered, is_named, place_of}
use Rattle.tuple_state.specs.Parents.{passes_place, passes_row}
use Rattle.tuple_state.specs.State.{row_of, rules_over}
use Rattle.tuple_state.proofs.Layers.{Stands, each_stands, layer_parts, plain_visible, unnamed_hidden}
use Rattle.tuple_state.proofs.Linking.{size_of}
use Rattle.tuple_state.proofs.Lookups.{named_reversed, row_found}
use Rattle.tuple_state.proofs.Marks.{found_layered, named_before}
use Rattle.tuple_state.proofs.Regrowth.{each_back}

pub filtered_at : (P : TableRow → Type 0) (keep : Inserted → Bool) (rows : List Inserted) (k : ℕ) (it : Inserted) → AllByRecursion P (map row_of (filter keep rows)) → slice_get rows k ≡ Some it → keep it ≡ true → P (row_of it)
filtered_at P keep [] k it h at kept = absurd (cc)
filtered_at P keep (row ∷ rows) zero it h at kept =
    let same : row ≡ it = cc in
    let here : keep row ≡ true = ap keep same ∙ kept in
    subst (λ (r : Inserted). P (row_of r)) same (subst (λ b. AllByRecursion P (map row_of (cond b (row ∷ filter keep rows) (filter keep rows)))) here h).0
filtered_at P keep (row ∷ rows) (suc k) it h at kept =
    let tail : (b : Bool) → AllByRecursion P (map row_of (cond b (row ∷ filter keep rows) (filter keep rows))) → AllByRecursion P (map row_of (filter keep rows)) = elim [ true ↦ λ g. g.1 | false ↦ λ g. g ] in
    filtered_at P keep rows k it (tail (keep row) h) at kept

record Passing (t keep : Inserted → Bool) (rows : List Inserted) : Type 0 where
  place : ℕ
  it : Inserted
  at : slice_get rows place ≡ Some it
  passes : t it ≡ true
  kept : keep it ≡ true

any_filtered_at : (t keep : Inserted → Bool) (rows : List Inserted) → list_any t (filter keep rows) ≡ true → Passing t keep rows
any_filtered_at t keep [] h = absurd (cc)
any_filtered_at t keep (row ∷ rows) h =
    let later : Passing t keep rows → Passing t keep (row ∷ rows) = λ p. record { place = suc p.place; it = p.it; at = p.at; passes = p.passes; kept = p.kept } in
    let step : (b : Bool) → keep row ≡ b → list_any t (cond b (row ∷ filter keep rows) (filter keep rows)) ≡ true → Passing t keep (row ∷ rows) =
    elim [
      | true ↦ λ e g. elim (or_cases (t row) _ g) [ inl here ↦ record { place = 0; it = row; at = refl; passes = here; kept = e } | inr there ↦ later (any_filtered_at t keep rows there) ]
      | false ↦ λ e g. later (any_filtered_at t keep rows g)
    ] in
    step (keep row) refl h

pub and_true : (b : Bool) → (b && true) ≡ b
and_true true = refl
and_true false = refl

always : {X : Type 0} (xs : List X) → list_all (λ x. true) xs ≡ true
always [] = refl
always (x ∷ xs) = always xs

kept_from_not : (b : Bool) → not b ≡ false → b ≡ true
kept_from_not true h = refl
kept_from_not false h = sym h

-- whether an update of the past inserted a row, where there is one
abbrev pub is_past : (ℕ → Bool) → Option Inserted → Bool
is_past past None = false
is_past past (Some it) = past it.position

-- each row of layered rows names by CASCADE only rows among them
refs_named : (rules : Rules) (rows : List TableRow) → are_layered rules rows ≡ true → AllByRecursion (λ row. list_all (λ r. is_named rows r.name) (cascade_refs rules row) ≡ true) rows
refs_named rules [] h = tt
refs_named rules (row ∷ older) h =
    let layer = layer_parts rules older row h in
    let more : (e : TableRow) → list_all (λ r. is_named older r.name) (cascade_refs rules e) ≡ true → list_all (λ r. is_named (row ∷ older) r.name) (cascade_refs rules e) ≡ true =
    λ e. all_weaker (λ r. is_named older r.name) (λ r. is_named (row ∷ older) r.name) (λ r. or_right (same_row row.name r.name) (is_named older r.name)) (cascade_refs rules e) in
    (more row layer.refers, each-map _ _ more older (refs_named rules older layer.rest))

module _ (shapes : List Shape) (rows : List Inserted) (past : ℕ → Bool) (gone : List RowName) where
  abbrev then : Effects
  then = record { inserted = reverse (map row_of (filter (λ (it : Inserted). past it.position) rows)); deleted = gone }

  abbrev vis : RowName → Bool
  vis = is_visible (rules_over shapes) then

  abbrev at_place : ℕ → Bool
  at_place place = passes_row vis (slice_get rows place)

  module _ (all : are_layered (rules_over shapes) (reverse (map row_of rows)) ≡ true) (some : are_layered (rules_over shapes) then.inserted ≡ true) (rest : are_resting (rules_over shapes) then.inserted ≡ true) (place : ℕ) (it : Inserted) (at : slice_get rows place ≡ Some it) where
    -- a row that no update of the past inserted is not among those that they did
    pub left_out : past it.position ≡ false → list_any (λ row. same_row row.name it.name) then.inserted ≡ false
    left_out e =
        named_reversed (filter (λ (x : Inserted). past x.position) rows) it.name
        ∙ false_from_ne_true _ (λ found.
        let p = any_filtered_at (λ (x : Inserted). same_row x.name it.name) (λ (x : Inserted). past x.position) rows found in
        let one : Some p.place ≡ Some place = sym (found_layered (rules_over shapes) rows all p.place p.it p.at) ∙ ap (place_of rows) (row_from_same p.it.name it.name p.passes) ∙ found_layered (rules_over shapes) rows all place it at in
        let here : p.place ≡ place = cc in
        let same : Some p.it ≡ Some it = sym p.at ∙ ap (slice_get rows) here ∙ at in
        let item : p.it ≡ it = cc in
        both_ways _ e (ap (λ (x : Inserted). past x.position) (sym item) ∙ p.kept))

    -- and one that they inserted is one of them
    pub left_in : past it.position ≡ true → Stands then.inserted (row_of it)
    left_in e =
        filtered_at (Stands then.inserted) (λ (x : Inserted). past x.position) rows place it
        (each_back (Stands then.inserted) (map row_of (filter (λ (x : Inserted). past x.position) rows)) (each_stands (rules_over shapes) then.inserted some)) at e

    pub hidden_row : (past it.position && not (is_deleted then it.name)) ≡ false → vis it.name ≡ false
    hidden_row h =
        let step : (b : Bool) → past it.position ≡ b → vis it.name ≡ false =
        elim [
          | true ↦ λ e.
              let gone_is : not (is_deleted then it.name) ≡ false = ap (λ b. b && not (is_deleted then it.name)) (sym e) ∙ h in
              gone_hidden (rules_over shapes) then (each_stands (rules_over shapes) then.inserted some) rest it.name (kept_from_not _ gone_is)
          | false ↦ λ e. unnamed_hidden (rules_over shapes) then it.name (left_out e) (length then.inserted)
        ] in
        step (past it.position) refl

    pub kept_row : is_none (kept_of (rules_over shapes) it.entry.table) ≡ true → (past it.position && not (is_deleted then it.name)) ≡ true → vis it.name ≡ list_all (λ r. passes_place at_place (place_of rows r.name)) (cascade_refs (rules_over shapes) (row_of it))
    kept_row plain h =
        let parts = and_parts (past it.position) _ h in
        plain_visible (rules_over shapes) then some rest (row_of it) (left_in parts.0) plain
        ∙ ap (λ b. list_all (λ r. vis r.name) (cascade_refs (rules_over shapes) (row_of it)) && b) parts.1 ∙ and_true _
        ∙ sym (named_before shapes rows all (λ name. passes_place at_place (place_of rows name)) vis place it at
        (λ j name found below. let row = row_found rows name j found in ap (passes_place at_place) found ∙ ap (passes_row vis) row.at ∙ ap vis row.name_is))

    pub parents_below : list_all (λ r. passes_place (λ k. nat_lt k place) (place_of rows r.name)) (cascade_refs (rules_over shapes) (row_of it)) ≡ true
    parents_below =
        named_before shapes rows all (λ name. passes_place (λ k. nat_lt k place) (place_of rows name)) (λ name. true) place it at
        (λ j name found below. ap (passes_place (λ k. nat_lt k place)) found ∙ (grind (arith, nat_tests)))
        ∙ always (cascade_refs (rules_over shapes) (row_of it))

    -- what a row names by CASCADE that an update of the past inserted, updates of the past inserted
    pub parents_past : past it.position ≡ true → list_all (λ r. passes_place (λ k. is_past past (slice_get rows k)) (place_of rows r.name)) (cascade_refs (rules_over shapes) (row_of it)) ≡ true
    parents_past inside =
        let kept : Inserted → Bool = λ (x : Inserted). past x.position in
        let named = filtered_at (λ row. list_all (λ r. is_named then.inserted r.name) (cascade_refs (rules_over shapes) row) ≡ true) kept rows place it
        (each_back _ (map row_of (filter kept rows)) (refs_named (rules_over shapes) then.inserted some)) at inside in
        all_weaker (λ r. is_named then.inserted r.name) (λ r. passes_place (λ k. is_past past (slice_get rows k)) (place_of rows r.name))
        (λ r there.
        let p = any_filtered_at (λ (x : Inserted). same_row x.name r.name) kept rows (sym (named_reversed (filter kept rows) r.name) ∙ there) in
        ap (λ n. passes_place (λ k. is_past past (slice_get rows k)) (place_of rows n)) (sym (row_from_same p.it.name r.name p.passes))
        ∙ ap (passes_place (λ k. is_past past (slice_get rows k))) (found_layered (rules_over shapes) rows all p.place p.it p.at)
        ∙ ap (is_past past) p.at ∙ p.kept)
        (cascade_refs (rules_over shapes) (row_of it)) named

-- what was visible before, where it is visible now, and exactly where others were
pub either : (now before others : Bool) → (now ≡ true → before ≡ true) → before ≡ others → before ≡ (now || others)
either true before others lasts is = lasts refl
either false before others lasts is = is

-- all below a place is left where one below it is next
pub next_lower : (next : Option ℕ) (keys : List ℕ) (place : ℕ) → list_all (λ k. nat_lt k place) (option_to_list next ++ keys) ≡ true → size_of next < suc place
next_lower None keys place h = omega arith
next_lower (Some k) keys place h =
    let here = (and_parts (nat_lt k place) _ h).0 in
    let below : k < place = grind (arith, nat_tests) in
    omega (arith, below)
