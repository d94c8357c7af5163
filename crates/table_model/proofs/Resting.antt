-- In a closed list each row rests on earlier ones.
use Rattle.std.proofs.Common.{◌≡◌, ℕ, ◌==◌, Bool, true, false, cond, not, ◌&&◌, ◌||◌, nat_lt, nat_le, List, [], ◌∷◌, ◌++◌, filter, refl, subst, arith, inl, inr, Option, Some, None, is_none}
use Rattle.std.specs.List.{list_any, list_all, AllByRecursion}
use Rattle.std.proofs.lemmas.Bool.{and_parts, or_cases, or_right, or_left, and_from, both_ways, eqb-true, eq-eqb, lt-ltb, leb-true, le-leb, not-true}
use Rattle.update_model.specs.declared.row_name.RowName.{RowName}
use Rattle.update_model.specs.declared.value.Value.{Value}
use Rattle.update_model.specs.declared.value.Value.TheVariants as value
use Rattle.schema.specs.declared.action.Action.{Action}
use Rattle.schema.specs.declared.column.Column.{Column}
use Rattle.schema.specs.declared.column.ColumnKind.{ColumnKind}
use Rattle.schema.specs.Columns.{target_of}
use Rattle.schema.specs.Sound.{IsSoundKind, IsSoundColumn}
use Rattle.schema.proofs.Soundness.{IsSound, kind_of_target}
use Rattle.table_model.specs.Visible.{Rules, TableRow, RowRef, same_row, table_of, kept_of, ref_to, ref_in, refs_in, refs, is_cascade, cascade_refs, cascade_target, cascade_targets}
use Rattle.table_model.specs.Verdicts.{stands_among}
use Rattle.table_model.proofs.KeptTables.{KeepsSoundly, keeps_soundly}
use Rattle.table_model.proofs.Order.{any_weaker}
use Rattle.table_model.proofs.Founded.{IsFounded, Founded, all_weaker, all-append}
use Rattle.table_model.proofs.Standing.{Stands, each-map, each_stands, all_both, all_filtered}
use Rattle.table_model.proofs.Settled.{IsOne, rests_on, are_resting}

pub ones_from : (rules : Rules) (rows : List TableRow) → Founded rules rows → AllByRecursion (IsOne rows) rows
ones_from rules rows f = each-map (Stands rules rows) (IsOne rows) (λ e s. record { here = s.here; only = s.only }) rows (each_stands rules rows f)

-- the targets that a row names by CASCADE are those of its table's columns
targets_to : (q : ℕ → Bool) (rest : List RowRef) (name : RowName) (o : Option (ℕ × Action)) → list_all q (cascade_target o) ≡ true → list_all (λ r. q r.target) (filter (λ r. is_cascade r.action) rest) ≡ true
    → list_all (λ r. q r.target) (filter (λ r. is_cascade r.action) (ref_to name o ++ rest)) ≡ true
targets_to q rest name None a b = b
targets_to q rest name (Some target) a b =
    let step : (c : Bool) → list_all q (cond c (target.0 ∷ []) []) ≡ true
    → list_all (λ r. q r.target) (cond c (record { target = target.0; action = target.1; name = name } ∷ filter (λ r. is_cascade r.action) rest) (filter (λ r. is_cascade r.action) rest)) ≡ true =
    elim [ true ↦ λ e. and_from _ _ (and_parts _ _ e).0 b | false ↦ λ e. b ] in
    step (is_cascade target.1) a

targets_first : (q : ℕ → Bool) (rest : List RowRef) (k : ColumnKind) (x : Value) → list_all q (cascade_target (target_of k)) ≡ true → list_all (λ r. q r.target) (filter (λ r. is_cascade r.action) rest) ≡ true
    → list_all (λ r. q r.target) (filter (λ r. is_cascade r.action) (ref_in k x ++ rest)) ≡ true
targets_first q rest k (value.Row name) a b = targets_to q rest name (target_of k) a b
targets_first q rest k value.Null a b = b
targets_first q rest k (value.Int n) a b = b
targets_first q rest k (value.Text bytes) a b = b
targets_first q rest k (value.Flag flag) a b = b
targets_first q rest k (value.Own index) a b = b

all_left : {X : Type 0} (q : X → Bool) (xs ys : List X) → list_all q (xs ++ ys) ≡ true → list_all q xs ≡ true
all_left q [] ys h = refl
all_left q (x ∷ xs) ys h = let parts = and_parts (q x) _ h in and_from _ _ parts.0 (all_left q xs ys parts.1)

all_right : {X : Type 0} (q : X → Bool) (xs ys : List X) → list_all q (xs ++ ys) ≡ true → list_all q ys ≡ true
all_right q [] ys h = h
all_right q (x ∷ xs) ys h = all_right q xs ys (and_parts (q x) _ h).1

pub targets_refs : (q : ℕ → Bool) (columns : List Column) (values : List Value) → list_all q (cascade_targets columns) ≡ true → list_all (λ r. q r.target) (filter (λ r. is_cascade r.action) (refs_in columns values)) ≡ true
targets_refs q [] values h = refl
targets_refs q (c ∷ columns) [] h = refl
targets_refs q (c ∷ columns) (v ∷ values) h =
    let rest = targets_refs q columns values (all_right q (cascade_target (target_of c.kind)) (cascade_targets columns) h) in
    targets_first q (refs_in columns values) c.kind v (all_left q (cascade_target (target_of c.kind)) (cascade_targets columns) h) rest

-- no table refers to a later one
target_low : (number : ℕ) (c : Column) → IsSoundColumn number c → (o : Option (ℕ × Action)) → target_of c.kind ≡ o → list_all (λ target. nat_le target number) (cascade_target o) ≡ true
target_low number c s None e = refl
target_low number c s (Some r) e =
    let low = (subst (λ (k : ColumnKind). IsSoundKind number c.null k) (kind_of_target c.kind r.0 r.1 e) s).0 in
    let step : (b : Bool) → list_all (λ target. nat_le target number) (cond b (r.0 ∷ []) []) ≡ true = elim [ true ↦ and_from _ _ (le-leb r.0 number low) refl | false ↦ refl ] in
    step (is_cascade r.1)

targets_low : (number : ℕ) (columns : List Column) → AllByRecursion (IsSoundColumn number) columns → list_all (λ target. nat_le target number) (cascade_targets columns) ≡ true
targets_low number [] s = refl
targets_low number (c ∷ columns) s = all-append (λ target. nat_le target number) (cascade_target (target_of c.kind)) (cascade_targets columns) (target_low number c s.0 (target_of c.kind) refl) (targets_low number columns s.1)

pub all_true : {X : Type 0} (p : X → Bool) → ((x : X) → p x ≡ true) → (xs : List X) → list_all p xs ≡ true
all_true p h [] = refl
all_true p h (x ∷ xs) = and_from _ _ (h x) (all_true p h xs)

-- whether a reference is to an earlier table, or to one that keeps no least row
abbrev goes_down : Rules → ℕ → ℕ → Bool
goes_down rules number target = not (target == number) || is_none (kept_of rules number)

targets_down : (rules : Rules) → KeepsSoundly rules → (number : ℕ) → list_all (goes_down rules number) (cascade_targets (table_of rules number).columns) ≡ true
targets_down rules keeps number =
    let step : (o : Option ℕ) → kept_of rules number ≡ o → list_all (λ target. not (target == number) || is_none o) (cascade_targets (table_of rules number).columns) ≡ true = elim [
      | None ↦ λ e. all_true (λ (target : ℕ). not (target == number) || true) (λ target. or_right (not (target == number)) true refl) (cascade_targets (table_of rules number).columns)
      | Some column ↦ λ e. all_weaker (λ (target : ℕ). not (target == number)) (λ target. not (target == number) || false) (λ target h. or_left _ _ h) (cascade_targets (table_of rules number).columns) (keeps number column e).leaves
    ] in
    step (kept_of rules number) refl

pub resting : (rules : Rules) → IsSound rules.tables → (rows : List TableRow) → Founded rules rows → are_resting rules rows ≡ true
resting rules sound [] f = refl
resting rules sound (row ∷ older) f =
    let it : IsFounded rules older row = f.0 in
    let columns = (table_of rules row.table).columns in
    let referred = all_filtered (λ r. is_cascade r.action) (stands_among older) (refs rules row) it.referred in
    let low = targets_refs (λ target. nat_le target row.table) columns row.values (targets_low row.table columns (sound row.table).columns) in
    let down = targets_refs (goes_down rules row.table) columns row.values (targets_down rules (keeps_soundly rules sound) row.table) in
    and_from _ _
    (all_both (stands_among older) (λ r. nat_le r.target row.table && goes_down rules row.table r.target) (λ r. list_any (λ x. same_row x.name r.name && rests_on rules row x) older)
    (λ r there both.
    let two = and_parts (nat_le r.target row.table) (goes_down rules row.table r.target) both in
    any_weaker (λ x. same_row x.name r.name && (x.table == r.target)) (λ x. same_row x.name r.name && rests_on rules row x)
    (λ x h.
    let parts = and_parts (same_row x.name r.name) (x.table == r.target) h in
    let is : x.table ≡ r.target = eqb-true x.table r.target parts.1 in
    let le = leb-true r.target row.table two.0 in
    and_from _ _ parts.0 (elim (or_cases (not (r.target == row.table)) _ two.1) [
      | inl apart ↦ or_left _ _ (lt-ltb x.table row.table (let ne : (r.target ≡ row.table) → ⊥ = λ same. both_ways _ (not-true _ apart) (eq-eqb r.target row.table same) in omega arith))
      | inr plain ↦
          let step : (b : Bool) → (x.table == row.table) ≡ b → (nat_lt x.table row.table || (b && is_none (kept_of rules row.table))) ≡ true = elim [
            | true ↦ λ e. or_right (nat_lt x.table row.table) _ plain
            | false ↦ λ e. or_left _ _ (lt-ltb x.table row.table (let ne : (x.table ≡ row.table) → ⊥ = λ same. both_ways _ e (eq-eqb x.table row.table same) in omega arith))
          ] in
          step (x.table == row.table) refl
    ]))
    older there)
    (cascade_refs rules row) referred
    (all_both (λ r. nat_le r.target row.table) (λ r. goes_down rules row.table r.target) (λ r. nat_le r.target row.table && goes_down rules row.table r.target) (λ r a b. and_from _ _ a b) (cascade_refs rules row) low down))
    (resting rules sound older f.1)
