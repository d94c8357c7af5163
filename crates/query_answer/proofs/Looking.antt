-- Looking for the row with a name where names rise.
use Rattle.std.proofs.Common.{◌≡◌, ◌∙◌, ℕ, zero, suc, ◌+◌, ◌<◌, Bool, false, cond, List, [], ◌∷◌, length, get_or, map, Some, None, inl, inr, refl, sym, ap, arith}
use Rattle.std.specs.List.{AllByRecursion}
use Rattle.std.specs.List.Sorted.{IsNonDecreasingBy, IsPartitionPoint, IsStrictlySortedBy}
use Rattle.std.specs.declared.cmp.Ordering.{Ordering}
use Rattle.std.specs.declared.cmp.Ordering.TheVariants.{Less, Equal, Greater}
use Rattle.std.specs.Ordering.{is_eq, is_lt, ordering_index, ordering_reverse}
use Rattle.std.proofs.lemmas.Bool.{cases_lt}
use Rattle.std.proofs.lemmas.List.Sorted.{searchable_from_sorted}
use Rattle.std.proofs.lemmas.Cmp.{alike_right}
use Rattle.update_model.specs.declared.row_name.RowName.{RowName}
use Rattle.table_model.specs.declared.shown_row.ShownRow.{ShownRow}
use Rattle.table_model.specs.Tables.{name_cmp}
use Rattle.table_model.specs.Visible.{same_row}
use Rattle.table_model.proofs.Rising.{name_cmp_total, same_name}
use Rattle.query_answer.specs.Values.{IsRising, row_named}

-- names rise from the first on
abbrev pub Rises : List ShownRow → Type 0
Rises [] = Unit {0}
Rises (row ∷ rows) = AllByRecursion (λ other. name_cmp row.name other.name ≡ Less) rows × Rises rows

above : (name : RowName) (rows : List ShownRow) → AllByRecursion (λ other. name_cmp name other ≡ Less) (map (λ row. row.name) rows) → AllByRecursion (λ other. name_cmp name other.name ≡ Less) rows
above name [] h = tt
above name (row ∷ rows) h = (h.0, above name rows h.1)

pub rises : (rows : List ShownRow) → IsRising rows → Rises rows
unfolding IsStrictlySortedBy
rises [] h = tt
rises (row ∷ rows) h = (above row.name rows h.0, rises rows h.1)

at_place : (P : ShownRow → Type 0) (rows : List ShownRow) (k : ℕ) (d : ShownRow) → AllByRecursion P rows → k < length rows → P (get_or rows k d)
at_place P [] k d h low = absurd (omega arith)
at_place P (row ∷ rows) zero d h low = h.0
at_place P (row ∷ rows) (suc k) d h low = at_place P rows k d h.1 (omega arith)

-- whether a name is the one
told : (a b : RowName) (o : Ordering) → name_cmp a b ≡ o → same_row a b ≡ is_eq o
told a b o e = sym (same_name a b) ∙ ap is_eq e

pub found_there : (rows : List ShownRow) (name : RowName) (k : ℕ) (d : ShownRow) → Rises rows → k < length rows → name_cmp (get_or rows k d).name name ≡ Equal
    → row_named rows name ≡ Some (get_or rows k d)
found_there [] name k d h low e = absurd (omega arith)
found_there (row ∷ rows) name zero d h low e = ap (λ (b : Bool). cond b (Some row) (row_named rows name)) (told row.name name Equal e)
found_there (row ∷ rows) name (suc k) d h low e =
    let below : k < length rows = omega arith in
    let it = get_or rows k d in
    let less : name_cmp row.name it.name ≡ Less = at_place (λ (other : ShownRow). name_cmp row.name other.name ≡ Less) rows k d h.0 below in
    let other : name_cmp row.name name ≡ Less = sym (alike_right name_cmp_total it.name name row.name e) ∙ less in
    ap (λ (b : Bool). cond b (Some row) (row_named rows name)) (told row.name name Less other) ∙ found_there rows name k d h.1 below e

pub found_nowhere : (rows : List ShownRow) (name : RowName) → ((k : ℕ) (d : ShownRow) → k < length rows → is_eq (name_cmp (get_or rows k d).name name) ≡ false) → row_named rows name ≡ None
found_nowhere [] name h = refl
found_nowhere (row ∷ rows) name h =
    let first : same_row row.name name ≡ false = sym (same_name row.name name) ∙ h zero row (omega arith) in
    ap (λ (b : Bool). cond b (Some row) (row_named rows name)) first ∙ found_nowhere rows name (λ k d low. h (suc k) d (omega arith))

-- ---- where a search ends

pub sorted_names : (rows : List ShownRow) → Rises rows → (k : ℕ) (d : ShownRow) → k + 1 < length rows → is_lt (name_cmp (get_or rows (k + 1) d).name (get_or rows k d).name) ≡ false
sorted_names [] h k d low = absurd (omega arith)
sorted_names (row ∷ rows) h zero d low =
    let next = get_or rows 0 d in
    let less : name_cmp row.name next.name ≡ Less = at_place (λ (other : ShownRow). name_cmp row.name other.name ≡ Less) rows 0 d h.0 (omega arith) in
    ap is_lt (name_cmp_total.antisymm next.name row.name ∙ ap ordering_reverse less)
sorted_names (row ∷ rows) h (suc k) d low =
    let more : suc k + 1 ≡ suc (k + 1) = omega arith in
    let inner : k + 1 < length rows = omega arith in
    rw more (sorted_names rows h.1 k d inner)

-- no name before the place, and none from it on, is the one
pub found_between : (rows : List ShownRow) (name : RowName) (i : ℕ) → Rises rows
    → (IsNonDecreasingBy (λ (row : ShownRow). ordering_index (name_cmp row.name name)) rows → IsPartitionPoint (λ row. name_cmp row.name name ≡ Less) (λ row. name_cmp row.name name ≡ Greater) rows i)
    → row_named rows name ≡ None
found_between rows name i h point =
    let parts = point (searchable_from_sorted name_cmp_total (λ (row : ShownRow). row.name) rows name (λ k d low high. sorted_names rows h k d high)) in
    found_nowhere rows name (λ k d low. elim (cases_lt k i) [
      | inl before ↦ ap is_eq (parts.0 k d (omega arith) before)
      | inr behind ↦ ap is_eq (parts.1 k d (omega arith) low)
    ])
