-- Where no table keeps the least row, rows are shown as if there was no KEEP LEAST.
use Rattle.std.proofs.Common.{◌≡◌, ℕ, Bool, true, not, ◌&&◌, List, [], ◌∷◌, sym, ap, subst, None}
use Rattle.std.specs.List.{list_any, list_all, AllByRecursion}
use Rattle.std.proofs.lemmas.Bool.{and_parts, and_from}
use Rattle.update_model.specs.declared.row_name.RowName.{RowName}
use Rattle.table_model.specs.Visible.{Rules, TableRow, Effects, same_row, kept_of, cascade_refs, is_candidate, is_least_in, is_least, shows, is_deleted}
use Rattle.table_model.proofs.Order.{any_weaker}
use Rattle.table_model.proofs.Standing.{row_from_same, bool_same}
use Rattle.table_model.proofs.Settled.{any_gives}

each_unit : (rows : List TableRow) → AllByRecursion (λ row. Unit {0}) rows
each_unit [] = tt
each_unit (row ∷ rows) = (tt, each_unit rows)

pub plain_shows : (rules : Rules) (did : Effects) (seen : RowName → Bool) (name : RowName) → ((number : ℕ) → kept_of rules number ≡ None)
    → shows rules did seen name ≡ (list_any (λ row. same_row row.name name && list_all (λ r. seen r.name) (cascade_refs rules row)) did.inserted && not (is_deleted did name))
plain_shows rules did seen name none =
    let led = λ (row : TableRow). list_all (λ r. seen r.name) (cascade_refs rules row) in
    let first = λ (row : TableRow). same_row row.name name && (is_candidate rules did seen row && is_least rules did seen row) in
    let second = λ (row : TableRow). same_row row.name name && led row in
    bool_same (shows rules did seen name) (list_any second did.inserted && not (is_deleted did name))
    (λ h. and_from _ _
    (any_weaker first second (λ row k.
    let two = and_parts (same_row row.name name) _ k in
    and_from _ _ two.0 (and_parts (led row) _ (and_parts (is_candidate rules did seen row) _ two.1).0).0) did.inserted h)
    (any_gives (not (is_deleted did name) ≡ true) (λ row. Unit {0}) first (λ row u k.
    let two = and_parts (same_row row.name name) _ k in
    subst (λ (n : RowName). not (is_deleted did n) ≡ true) (row_from_same row.name name two.0) (and_parts (led row) _ (and_parts (is_candidate rules did seen row) _ two.1).0).1)
    did.inserted (each_unit did.inserted) h))
    (λ h.
    let parts = and_parts (list_any second did.inserted) _ h in
    any_weaker second first (λ row k.
    let two = and_parts (same_row row.name name) _ k in
    and_from _ _ two.0 (and_from _ _
    (and_from _ _ two.1 (subst (λ (n : RowName). not (is_deleted did n) ≡ true) (sym (row_from_same row.name name two.0)) parts.1))
    (ap (is_least_in rules did seen row) (none row.table)))) did.inserted parts.0)
