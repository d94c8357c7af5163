-- Where no two rows have one name, what is said of those with a name is said of the one that is found.
use Rattle.std.proofs.Common.{◌≡◌, suc, Bool, true, false, cond, ◌&&◌, ◌||◌, List, [], ◌∷◌, refl, sym, ◌∙◌, ap, subst, arith, Option, Some, None}
use Rattle.std.specs.Prelude.{Contains, find, option_map}
use Rattle.std.specs.List.{list_any}
use Rattle.std.proofs.lemmas.Bool.{or_from}
use Rattle.update_model.specs.declared.row_entry.RowEntry.{RowEntry}
use Rattle.update_model.specs.declared.row_name.RowName.{RowName}
use Rattle.table_model.specs.Visible.{TableRow, same_row}
use Rattle.table_model.proofs.Standing.{row_from_same}
use Rattle.table_model.specs.Answers.{entry_of_row, entry_in}

-- rows with one name are one
pub record Once (rows : List TableRow) : Type 0 where
  pub once : (a b : TableRow) → Contains rows a → Contains rows b → same_row a.name b.name ≡ true → a ≡ b

contains_first : (r : TableRow) (rs : List TableRow) → Contains (r ∷ rs) r
contains_first r rs = (0, omega arith, refl)

contains_later : (r x : TableRow) (rs : List TableRow) → Contains rs x → Contains (r ∷ rs) x
contains_later r x rs c = (suc c.0, omega arith, c.2)

once_later : (r : TableRow) (rs : List TableRow) → Once (r ∷ rs) → Once rs
once_later r rs o = record { once = λ a b ca cb e. o.once a b (contains_later r a rs ca) (contains_later r b rs cb) e }

-- what is false of each row with a name is true of none
none_named : (rows : List TableRow) (name : RowName) (p : TableRow → Bool) → ((x : TableRow) → Contains rows x → same_row x.name name ≡ true → p x ≡ false)
    → list_any (λ x. same_row x.name name && p x) rows ≡ false
none_named [] name p h = refl
none_named (r ∷ rs) name p h =
    let later : list_any (λ x. same_row x.name name && p x) rs ≡ false = none_named rs name p (λ x c e. h x (contains_later r x rs c) e) in
    let step : (b : Bool) → same_row r.name name ≡ b → (b && p r) ≡ false =
    elim [ true ↦ λ e. h r (contains_first r rs) e | false ↦ λ e. refl ] in
    or_from _ _ (step (same_row r.name name) refl) later

-- what is true of a row that is found
abbrev pub is_of : (TableRow → Bool) → Option TableRow → Bool
is_of p None = false
is_of p (Some row) = p row

pub found_any : (rows : List TableRow) (name : RowName) (p : TableRow → Bool) → Once rows
    → list_any (λ x. same_row x.name name && p x) rows ≡ is_of p (find (λ x. same_row x.name name) rows)
found_any [] name p o = refl
found_any (r ∷ rs) name p o =
    let rest : Bool = list_any (λ x. same_row x.name name && p x) rs in
    let first : (c : Bool) → same_row r.name name ≡ true → p r ≡ c → (c || rest) ≡ c =
    elim [
      | true ↦ λ e f. refl
      | false ↦ λ e f. none_named rs name p (λ x c g.
          let same : r ≡ x = o.once r x (contains_first r rs) (contains_later r x rs c)
          (subst (λ (n : RowName). same_row r.name n ≡ true) (sym (row_from_same x.name name g)) e) in
          sym (ap p same) ∙ f)
    ] in
    let step : (b : Bool) → same_row r.name name ≡ b → ((b && p r) || rest) ≡ is_of p (cond b (Some r) (find (λ x. same_row x.name name) rs)) =
    elim [ true ↦ λ e. first (p r) e refl | false ↦ λ e. found_any rs name p (once_later r rs o) ] in
    step (same_row r.name name) refl

-- the same of the entry that is found
pub entry_any : (rows : List TableRow) (name : RowName) (p : TableRow → Bool) (q : Option RowEntry → Bool) → Once rows
    → q None ≡ false → ((x : TableRow) → q (Some (entry_of_row x)) ≡ p x) → q (entry_in rows name) ≡ list_any (λ x. same_row x.name name && p x) rows
entry_any rows name p q o none some = step (find (λ x. same_row x.name name) rows) ∙ sym (found_any rows name p o)
  where
    step : (found : Option TableRow) → q (option_map entry_of_row found) ≡ is_of p found
    step None = none
    step (Some row) = some row
