-- References one column at a time, and rows that are newer or older.
use Rattle.std.proofs.Common.{◌≡◌, Bool, true, false, not, ◌&&◌, ◌||◌, List, ◌++◌, filter, refl, ap, ◌∙◌}
use Rattle.std.specs.List.{list_any, list_all}
use Rattle.std.proofs.lemmas.List.Folds.{list_any-append, list_all-append}
use Rattle.table_model.specs.Visible.{TableRow, RowRef}
use Rattle.confluence_checker.proofs.Lists.{filter_append}

-- every reference that passes a first test passes a second one
pub cascades_next : (q p : RowRef → Bool) (xs ys : List RowRef) → list_all q (filter p (xs ++ ys)) ≡ (list_all q (filter p xs) && list_all q (filter p ys))
cascades_next q p xs ys = ap (list_all q) (filter_append p xs ys) ∙ list_all-append q (filter p xs) (filter p ys)

pub all_next : (q : RowRef → Bool) (xs ys : List RowRef) → list_all q (xs ++ ys) ≡ (list_all q xs && list_all q ys)
all_next q xs ys = list_all-append q xs ys

pub any_next : (q : RowRef → Bool) (xs ys : List RowRef) → list_any q (xs ++ ys) ≡ (list_any q xs || list_any q ys)
any_next q xs ys = list_any-append q xs ys

-- no row of two lists
pub neither : (p : TableRow → Bool) (xs ys : List TableRow) → not (list_any p (xs ++ ys)) ≡ (not (list_any p xs) && not (list_any p ys))
neither p xs ys = ap not (list_any-append p xs ys) ∙ nor (list_any p xs) (list_any p ys)
  where
    nor : (a b : Bool) → not (a || b) ≡ (not a && not b)
    nor true b = refl
    nor false b = refl

pub rows_either : (p : TableRow → Bool) (xs ys : List TableRow) → list_any p (xs ++ ys) ≡ (list_any p xs || list_any p ys)
rows_either p xs ys = list_any-append p xs ys
