-- What the tables of a schema keep, by their numbers.
use Rattle.std.proofs.Common.{◌≡◌, ℕ, ◌+◌, ◌≤◌, zero, suc, ◌==◌, ◌||◌, not, List, [], ◌∷◌, ◌++◌, length, refl, ap, subst, arith, append_assoc, length-append, Option, Some, None, is_none, unwrap_or, slice_get}
use Rattle.std.specs.Prelude.{IsTrue, MatchOption}
use Rattle.std.specs.List.{AllByRecursion}
use Rattle.schema.specs.declared.action.Action.{Action}
use Rattle.schema.specs.declared.action.Action.TheVariants as action
use Rattle.schema.specs.declared.column.Column.{Column}
use Rattle.schema.specs.declared.column.ColumnKind.{ColumnKind}
use Rattle.schema.specs.declared.column.ColumnKind.TheVariants as kind
use Rattle.schema.specs.declared.rules.MatchRule.{MatchRule}
use Rattle.schema.specs.declared.table_def.TableDef.{TableDef}
use Rattle.schema.specs.Columns.{target_of, reference_at, is_restrict, are_comparable}
use Rattle.schema.specs.Least.{IsKeptAlone, is_steady, leaves_itself, targets_of}
use Rattle.schema.specs.Rows.{fits_sample}
use Rattle.schema.specs.Sound.{IsSoundKind, IsSoundColumn, columns_or, IsSoundMatch, IsSoundCheck, IsSoundUnique, IsTable, AreTables}
use Rattle.schema.specs.Numbers.{no_table, table_number}
use Rattle.schema.proofs.SteadyTables.{held_in, led_in, plain_in}

-- A MATCH compares two plain columns of one kind, along a reference that is not RESTRICT.
abbrev pub ComparesPlain : List TableDef → TableDef → MatchRule → Type 0
ComparesPlain tables table rule = MatchOption (reference_at table.columns rule.reference) ⊥
    (λ r. IsTrue (not (is_restrict r.1)) × IsTrue (are_comparable (slice_get table.columns rule.column) (slice_get (table_number tables r.0).columns rule.target_column)))

pub record IsSoundAt (tables : List TableDef) (number : ℕ) (table : TableDef) : Type 0 where
  pub columns : AllByRecursion (IsSoundColumn number) table.columns
  pub checks : AllByRecursion (IsSoundCheck table.columns) table.checks
  pub matches : AllByRecursion (ComparesPlain tables table) table.matches
  pub uniques : AllByRecursion (IsSoundUnique table.columns) table.uniques
  pub kept : IsKeptAlone table.uniques table.at_most table.kept
  pub leaves : IsTrue (leaves_itself number table.kept (targets_of table.columns))
  pub held : (place target : ℕ) → reference_at table.columns place ≡ Some (target, action.Restrict) → IsTrue (is_steady tables target)
  pub plain : IsTrue (is_steady tables number) → IsTrue (is_none table.kept)
  pub led : IsTrue (is_steady tables number) → (place target : ℕ) → reference_at table.columns place ≡ Some (target, action.Cascade) → IsTrue ((target == number) || is_steady tables target)
  pub sample : IsTrue (fits_sample table.columns table.sample)

abbrev pub IsSound : List TableDef → Type 0
IsSound tables = (number : ℕ) → IsSoundAt tables number (table_number tables number)

-- what holds of each element holds of the one at this place
pub each_at : {X : Type 0} (P : X → Type 0) (xs : List X) (i : ℕ) (x : X) → AllByRecursion P xs → slice_get xs i ≡ Some x → P x
each_at P [] i x h e = absurd (cc)
each_at P (y ∷ ys) zero x h e = let same : y ≡ x = cc in subst (λ z. P z) same h.0
each_at P (y ∷ ys) (suc i) x h e = each_at P ys i x h.1 e

pub kind_of_target : (k : ColumnKind) (target : ℕ) (act : Action) → target_of k ≡ Some (target, act) → k ≡ kind.Reference target act
kind_of_target (kind.Int lo hi) target act e = absurd (cc)
kind_of_target (kind.Text lo hi) target act e = absurd (cc)
kind_of_target kind.Flag target act e = absurd (cc)
kind_of_target (kind.Reference t a) target act e = let here : ℕ × Action = (t, a) in let there : ℕ × Action = (target, act) in let p : here ≡ there = cc in λ i. kind.Reference (p i).0 (p i).1

-- references of a sound table are to no later one
pub target_below : (number : ℕ) (columns : List Column) → AllByRecursion (IsSoundColumn number) columns → (place target : ℕ) (act : Action)
    → reference_at columns place ≡ Some (target, act) → target ≤ number
target_below number [] h place target act e = absurd (cc)
target_below number (column ∷ columns) h zero target act e =
    (subst (λ (k : ColumnKind). IsSoundKind number column.null k) (kind_of_target column.kind target act e) h.0).0
target_below number (column ∷ columns) h (suc place) target act e = target_below number columns h.1 place target act e

-- the columns of a table that was declared before or is this one are found by its number
found_in : (before : List TableDef) (table : TableDef) (rest : List TableDef) (number : ℕ) → number ≤ length before
    → columns_or (slice_get before number) table.columns ≡ (table_number (before ++ table ∷ rest) number).columns
found_in [] table rest zero h = refl
found_in [] table rest (suc number) h = absurd (omega arith)
found_in (t ∷ before) table rest zero h = refl
found_in (t ∷ before) table rest (suc number) h = found_in before table rest number (omega arith)

match_in : (before : List TableDef) (table : TableDef) (rest : List TableDef) (number : ℕ) → number ≡ length before → AllByRecursion (IsSoundColumn number) table.columns
    → (rules : List MatchRule) → AllByRecursion (IsSoundMatch before table.columns) rules → AllByRecursion (ComparesPlain (before ++ table ∷ rest) table) rules
match_in before table rest number n sound [] h = tt
match_in before table rest number n sound (rule ∷ rules) h =
    let columns = table.columns in
    let step : (o : Option (ℕ × Action)) → reference_at columns rule.reference ≡ o
    → MatchOption o ⊥ (λ r. IsTrue (not (is_restrict r.1)) × IsTrue (are_comparable (slice_get columns rule.column) (slice_get (columns_or (slice_get before r.0) columns) rule.target_column)))
    → MatchOption o ⊥ (λ r. IsTrue (not (is_restrict r.1)) × IsTrue (are_comparable (slice_get columns rule.column) (slice_get (table_number (before ++ table ∷ rest) r.0).columns rule.target_column))) =
    elim [
      | None ↦ λ e m. m
      | Some r ↦ λ e m.
          let low = target_below number columns sound rule.reference r.0 r.1 e in
          (m.0, subst (λ (cs : List Column). IsTrue (are_comparable (slice_get columns rule.column) (slice_get cs rule.target_column))) (found_in before table rest r.0 (omega arith)) m.1)
    ] in
    (step (reference_at columns rule.reference) refl h.0, match_in before table rest number n sound rules h.1)

sound_each : (before tables : List TableDef) → AreTables before tables → (place : ℕ) → IsSoundAt (before ++ tables) (length before + place) (table_number tables place)
sound_each before [] h place = record { columns = tt; checks = tt; matches = tt; uniques = tt; kept = tt; leaves = refl; held = λ p t e. absurd cc; plain = λ h. refl; led = λ h p t e. absurd cc; sample = refl }
sound_each before (table ∷ tables) h zero =
    let is : IsTable before table = h.0 in
    let n : length before ≡ length before + 0 = omega arith in
    subst (λ (number : ℕ). IsSoundAt (before ++ table ∷ tables) number table) n
    (record {
      columns = is.sound.columns;
      checks = is.sound.checks;
      matches = match_in before table tables (length before) refl is.sound.columns table.matches is.sound.matches;
      uniques = is.sound.uniques;
      kept = is.sound.kept;
      leaves = is.sound.leaves;
      held = λ place target e. held_in before table tables is.sound.steady place target (target_below (length before) table.columns is.sound.columns place target action.Restrict e) e;
      plain = plain_in before table tables;
      led = λ h place target e. led_in before table tables h place target (target_below (length before) table.columns is.sound.columns place target action.Cascade e) e;
      sample = is.sample;
    })
sound_each before (table ∷ tables) h (suc place) =
    let rest = sound_each (before ++ table ∷ []) tables h.1 place in
    let n : length (before ++ table ∷ []) + place ≡ length before + suc place = (let e = length-append before (table ∷ []) in omega arith) in
    subst (λ (l : List TableDef). IsSoundAt l (length before + suc place) (table_number tables place)) (append_assoc before (table ∷ []) tables)
    (subst (λ (number : ℕ). IsSoundAt ((before ++ table ∷ []) ++ tables) number (table_number tables place)) n rest)

-- the tables of every schema are sound
pub sound_tables : (tables : List TableDef) → AreTables [] tables → IsSound tables
sound_tables tables h number =
    let n : 0 + number ≡ number = omega arith in subst (λ (k : ℕ). IsSoundAt tables k (table_number tables number)) n (sound_each [] tables h number)

-- the CHECKs of each table of a schema are sound
pub checks_sound : (tables : List TableDef) → AreTables [] tables → (number : ℕ) (table : TableDef) → slice_get tables number ≡ Some table → AllByRecursion (IsSoundCheck table.columns) table.checks
checks_sound tables all number table at =
    subst (λ (t : TableDef). AllByRecursion (IsSoundCheck t.columns) t.checks) (ap (λ (o : Option TableDef). unwrap_or o no_table) at) (sound_tables tables all number).checks
