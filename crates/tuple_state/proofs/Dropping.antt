-- What deletes a name after an update's ancestors.
use Rattle.tuple_state.specs.declared.shape.Shape.{Shape}
use Rattle.std.proofs.Common.{◌≡◌, ℕ, zero, suc, ◌<◌, ◌==◌, Bool, true, false, cond, ◌&&◌, ◌||◌, List, [], ◌∷◌, length, get_or, map, refl, sym, ap, ap₂, ◌∙◌, Some, arith}
use Rattle.std.specs.Prelude.{slice_get, filter, bytes_eq}
use Rattle.std.specs.List.{list_any}
use Rattle.std.proofs.lemmas.Map.Text.{is_eq-slice_cmp}
use Rattle.tuple_state.proofs.Growth.{same_row-symm}
use Rattle.update_model.specs.declared.row_name.RowName.{RowName}
use Rattle.table_model.specs.Visible.{is_deleted, same_row}
use Rattle.tuple_state.specs.declared.dropped.Dropped.{Dropped}
use Rattle.tuple_state.specs.declared.inserted.Inserted.{Inserted}
use Rattle.tuple_state.specs.Parents.{columns_at, columns_in}
use Rattle.tuple_state.specs.Past.{done_then}
use Rattle.tuple_state.specs.State.{State}
use Rattle.table_model.proofs.Members.{any_mapped, any_reversed}
use Rattle.tuple_state.proofs.Lookups.{get_or_from}
use Rattle.tuple_state.proofs.Marking.{slice_get_from}

any_kept : (t k : Dropped → Bool) (xs : List Dropped) → list_any t (filter k xs) ≡ list_any (λ x. k x && t x) xs
any_kept t k [] = refl
any_kept t k (x ∷ xs) =
    let rest = any_kept t k xs in
    elim (k x) as (λ b. list_any t (cond b (x ∷ filter k xs) (filter k xs)) ≡ ((b && t x) || list_any (λ x. k x && t x) xs)) [ true ↦ ap (λ b. t x || b) rest | false ↦ rest ]

pub deleted_then : (state : State) (past : ℕ → Bool) (name : RowName) → is_deleted (done_then state past) name ≡ list_any (λ (d : Dropped). past d.position && same_row name d.name) state.dropped
deleted_then state past name =
    any_reversed (same_row name) (map (λ (d : Dropped). d.name) (filter (λ (d : Dropped). past d.position) state.dropped))
    ∙ any_mapped (λ (d : Dropped). d.name) (same_row name) (filter (λ (d : Dropped). past d.position) state.dropped)
    ∙ any_kept (λ (d : Dropped). same_row name d.name) (λ (d : Dropped). past d.position) state.dropped

-- two names as the code compares them
pub names_equal : (a b : RowName) → same_row b a ≡ (bytes_eq a.update.0 b.update.0 && (a.index == b.index))
names_equal a b = same_row-symm b a ∙ ap (λ x. x && (a.index == b.index)) (is_eq-slice_cmp a.update.0 b.update.0)

pub row_there : (rows : List Inserted) (k : ℕ) → k < length rows → (it : Inserted) × (slice_get rows k ≡ Some it)
row_there [] k below = absurd (omega (arith, below))
row_there (row ∷ rows) zero below = (row, refl)
row_there (row ∷ rows) (suc k) below = row_there rows k (omega (arith, below))

-- an element by its index, found twice
pub same_found : (rows : List Inserted) (k : ℕ) (row it : Inserted) → row ≡ get_or rows k row → slice_get rows k ≡ Some it → row ≡ it
same_found rows k row it is at = is ∙ get_or_from rows k row it at

pub columns_found : (shapes lent : List Shape) (n number : ℕ) (shape : Shape) → lent ≡ shapes → n ≡ number → n < length lent → shape ≡ get_or lent n shape → columns_at shapes number ≡ shape.columns
columns_found shapes lent n number shape same is below found =
    ap₂ (λ (l : List Shape) m. columns_at l m) (sym same) (sym is) ∙ ap columns_in (slice_get_from lent n shape below found)
