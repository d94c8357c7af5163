-- Which tables of a schema are steady, by their numbers.
use Rattle.std.proofs.Common.{◌≡◌, ℕ, zero, suc, ◌+◌, ◌<◌, ◌≤◌, ◌==◌, Bool, true, false, ◌||◌, List, [], ◌∷◌, ◌++◌, length, refl, sym, ap, ◌∙◌, subst, arith, length-append, inl, inr, Option, Some, is_none}
use Rattle.std.specs.Prelude.{IsTrue, slice_index_or}
use Rattle.std.specs.List.{list_all}
use Rattle.std.proofs.lemmas.Bool.{and_parts, eq-eqb, eqb-true, or_cases, or_left, or_right}
use Rattle.schema.specs.declared.action.Action.{Action}
use Rattle.schema.specs.declared.action.Action.TheVariants as action
use Rattle.schema.specs.declared.column.Column.{Column}
use Rattle.schema.specs.declared.table_def.TableDef.{TableDef}
use Rattle.schema.specs.Columns.{reference_at, target_of}
use Rattle.schema.specs.Least.{holds_steady, is_held_steady, is_led_steady, is_steady, is_steady_behind, steady_behind, steady_tables, targets_of}

-- tables behind others go on from what is known of those
steady_append : (known : List Bool) (xs ys : List TableDef) → steady_behind known (xs ++ ys) ≡ steady_behind (steady_behind known xs) ys
steady_append known [] ys = refl
steady_append known (x ∷ xs) ys = steady_append (known ++ is_steady_behind known x.kept (targets_of x.columns) ∷ []) xs ys

steady_length : (known : List Bool) (xs : List TableDef) → length (steady_behind known xs) ≡ length known + length xs
steady_length known [] = omega arith
steady_length known (x ∷ xs) =
    let more = steady_length (known ++ is_steady_behind known x.kept (targets_of x.columns) ∷ []) xs in
    let one = length-append known (is_steady_behind known x.kept (targets_of x.columns) ∷ []) in
    omega arith

index_before : (xs ys : List Bool) (n : ℕ) → n < length xs → slice_index_or (xs ++ ys) n false ≡ slice_index_or xs n false
index_before [] ys n h = absurd (omega arith)
index_before (x ∷ xs) ys zero h = refl
index_before (x ∷ xs) ys (suc n) h = index_before xs ys n (omega arith)

index_last : (xs : List Bool) (y : Bool) → slice_index_or (xs ++ y ∷ []) (length xs) false ≡ y
index_last [] y = refl
index_last (x ∷ xs) y = index_last xs y

-- what is known of a table stays
steady_stays : (known : List Bool) (xs : List TableDef) (n : ℕ) → n < length known → slice_index_or (steady_behind known xs) n false ≡ slice_index_or known n false
steady_stays known [] n h = refl
steady_stays known (x ∷ xs) n h =
    let own = is_steady_behind known x.kept (targets_of x.columns) in
    let one = length-append known (own ∷ []) in
    steady_stays (known ++ own ∷ []) xs n (omega arith) ∙ index_before known (own ∷ []) n h

-- what each of the references of columns keeps
pub each_target : (P : Option (ℕ × Action) → Bool) (columns : List Column) → list_all P (targets_of columns) ≡ true → (place : ℕ) (r : ℕ × Action) → reference_at columns place ≡ Some r → P (Some r) ≡ true
each_target P [] h place r e = absurd cc
each_target P (c ∷ cs) h zero r e = subst (λ (o : Option (ℕ × Action)). P o ≡ true) e (and_parts (P (target_of c.kind)) (list_all P (targets_of cs)) h).0
each_target P (c ∷ cs) h (suc place) r e = each_target P cs (and_parts (P (target_of c.kind)) (list_all P (targets_of cs)) h).1 place r e

-- what is known of some table is known of one that there is
index_within : (xs : List Bool) (n : ℕ) → slice_index_or xs n false ≡ true → n < length xs
index_within [] n h = absurd cc
index_within (x ∷ xs) zero h = omega arith
index_within (x ∷ xs) (suc n) h = let k = index_within xs n h in omega arith

-- what is known of a table up to the one behind these, in all tables
steady_in : (before : List TableDef) (table : TableDef) (rest : List TableDef) (number : ℕ) → number ≤ length before
    → is_steady (before ++ table ∷ rest) number ≡ slice_index_or (steady_tables before ++ is_steady_behind (steady_tables before) table.kept (targets_of table.columns) ∷ []) number false
steady_in before table rest number low =
    let own = is_steady_behind (steady_tables before) table.kept (targets_of table.columns) in
    let one = length-append (steady_tables before) (own ∷ []) in
    let many = steady_length [] before in
    ap (λ (known : List Bool). slice_index_or known number false) (steady_append [] before (table ∷ rest))
    ∙ steady_stays (steady_tables before ++ own ∷ []) rest number (omega arith)

-- a table that holds on to rows of steady ones alone, among all
pub held_in : (before : List TableDef) (table : TableDef) (rest : List TableDef) → IsTrue (holds_steady (steady_tables before) table.kept (targets_of table.columns))
    → (place target : ℕ) → target ≤ length before → reference_at table.columns place ≡ Some (target, action.Restrict) → IsTrue (is_steady (before ++ table ∷ rest) target)
held_in before table rest h place target low is =
    let own = is_steady_behind (steady_tables before) table.kept (targets_of table.columns) in
    steady_in before table rest target low
    ∙ each_target (is_held_steady (steady_tables before ++ own ∷ [])) table.columns h place (target, action.Restrict) is

-- a steady table keeps no least row
own_in : (before : List TableDef) (table : TableDef) (rest : List TableDef) → IsTrue (is_steady (before ++ table ∷ rest) (length before))
    → IsTrue (is_steady_behind (steady_tables before) table.kept (targets_of table.columns))
own_in before table rest h =
    let own = is_steady_behind (steady_tables before) table.kept (targets_of table.columns) in
    let sum = steady_length [] before in
    let many : length (steady_tables before) ≡ length before = omega arith in
    sym (steady_in before table rest (length before) (omega arith)
    ∙ ap (λ (n : ℕ). slice_index_or (steady_tables before ++ own ∷ []) n false) (sym many)
    ∙ index_last (steady_tables before) own) ∙ h

pub plain_in : (before : List TableDef) (table : TableDef) (rest : List TableDef) → IsTrue (is_steady (before ++ table ∷ rest) (length before)) → IsTrue (is_none table.kept)
plain_in before table rest h = (and_parts (is_none table.kept) (list_all (is_led_steady (steady_tables before)) (targets_of table.columns)) (own_in before table rest h)).0

-- a steady table refers by CASCADE to itself and to steady ones alone
pub led_in : (before : List TableDef) (table : TableDef) (rest : List TableDef) → IsTrue (is_steady (before ++ table ∷ rest) (length before))
    → (place target : ℕ) → target ≤ length before → reference_at table.columns place ≡ Some (target, action.Cascade)
    → IsTrue ((target == length before) || is_steady (before ++ table ∷ rest) target)
led_in before table rest h place target low is =
    let known = steady_tables before in
    let sum = steady_length [] before in
    let many : length known ≡ length before = omega arith in
    let all = (and_parts (is_none table.kept) (list_all (is_led_steady known) (targets_of table.columns)) (own_in before table rest h)).1 in
    let either = each_target (is_led_steady known) table.columns all place (target, action.Cascade) is in
    elim (or_cases (target == length known) (slice_index_or known target false) either) [
      | inl itself ↦ or_left _ _ (eq-eqb target (length before) (eqb-true target (length known) itself ∙ many))
      | inr led ↦ or_right (target == length before) _
          (steady_in before table rest target low ∙ index_before known (is_steady_behind known table.kept (targets_of table.columns) ∷ []) target (index_within known target led) ∙ led)
    ]
