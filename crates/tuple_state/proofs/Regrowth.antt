-- Rows in order of arrival, place by place.
use Rattle.std.proofs.Common.{◌≡◌, ℕ, zero, suc, Bool, true, false, ◌&&◌, List, [], ◌∷◌, map, reverse, refl, subst, Some}
use Rattle.std.specs.Prelude.{slice_get}
use Rattle.std.specs.List.{AllByRecursion}
use Rattle.table_model.specs.Visible.{TableRow}
use Rattle.table_model.proofs.Each.{each-left, each-right}
use Rattle.tuple_state.specs.declared.inserted.Inserted.{Inserted}
use Rattle.tuple_state.specs.State.{row_of}
use Rattle.tuple_state.proofs.Lookups.{reverse_cons}

pub each_back : {X : Type 0} (P : X → Type 0) (xs : List X) → AllByRecursion P (reverse xs) → AllByRecursion P xs
each_back P [] h = tt
each_back P (x ∷ xs) h =
    let both = subst (λ l. AllByRecursion P l) (reverse_cons x xs) h in
    ((each-right P (reverse xs) (x ∷ []) both).0, each_back P xs (each-left P (reverse xs) (x ∷ []) both))

each_at : (P : TableRow → Type 0) (rows : List Inserted) (k : ℕ) (it : Inserted) → AllByRecursion P (map row_of rows) → slice_get rows k ≡ Some it → P (row_of it)
each_at P [] k it h at = absurd (cc)
each_at P (row ∷ rows) zero it h at = let same : row ≡ it = cc in subst (λ (r : Inserted). P (row_of r)) same h.0
each_at P (row ∷ rows) (suc k) it h at = each_at P rows k it h.1 at

pub row_has : (P : TableRow → Type 0) (rows : List Inserted) (k : ℕ) (it : Inserted) → AllByRecursion P (reverse (map row_of rows)) → slice_get rows k ≡ Some it → P (row_of it)
row_has P rows k it h at = each_at P rows k it (each_back P (map row_of rows) h) at

pub and_true : (b : Bool) → (b && true) ≡ b
and_true true = refl
and_true false = refl
