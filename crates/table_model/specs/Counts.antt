-- Why a row is absent, by a number.
use Rattle.std.specs.Prelude.{◌≡◌, ℕ, ◌+◌, ◌==◌, Bool, true, false, not, ◌&&◌, List, [], ◌∷◌}
use Rattle.std.specs.List.{list_any, AllByRecursion}
use Rattle.update_model.specs.declared.row_name.RowName.{RowName}
use Rattle.table_model.specs.Visible.{Rules, TableRow, RowRef, Effects, same_row, cascade_refs, is_least}

abbrev pub one_where : Bool → ℕ
one_where true = 1
one_where false = 0

-- how often a test is true
abbrev pub times : {X : Type 0} → (X → Bool) → List X → ℕ
times p [] = 0
times p (x ∷ xs) = one_where (p x) + times p xs

-- The causes of a row to be absent, where these rows are seen: what deletes it, its CASCADE columns that name a row which is not
-- seen, and 1 where a lesser candidate of its table has an equal value in the column of which the table keeps the least row.
abbrev pub causes_where : Rules → Effects → (RowName → Bool) → TableRow → ℕ
causes_where rules did seen row =
    times (same_row row.name) did.deleted + times (λ (r : RowRef). not (seen r.name)) (cascade_refs rules row) + one_where (not (is_least rules did seen row))

-- whether a row has a name, and its number is 0
abbrev pub is_counted : Effects → (RowName → ℕ) → RowName → Bool
is_counted did count name = list_any (λ row. same_row row.name name) did.inserted && (count name == 0)

-- The number of each row is that of its causes, where those are seen whose number is 0.
abbrev pub AreCounted : Rules → Effects → (RowName → ℕ) → Type 0
AreCounted rules did count = AllByRecursion (λ row. count row.name ≡ causes_where rules did (is_counted did count) row) did.inserted
