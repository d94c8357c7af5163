-- What the tables of a schema keep, by their numbers.
use Rattle.std.proofs.Common.{◌≡◌, ℕ, ◌+◌, ◌<◌, ◌≤◌, zero, suc, Bool, true, false, cond, List, [], ◌∷◌, ◌++◌, length, refl, subst, arith, length-append, Option, Some, None, unwrap_or, slice_get, IfSome}
use Rattle.std.proofs.lemmas.Bool.{ltb-true}
use Rattle.std.specs.List.{AllByRecursion}
use Rattle.schema.specs.declared.column.Column.{Column}
use Rattle.schema.specs.declared.column.ColumnKind.{ColumnKind}
use Rattle.schema.specs.declared.column.ColumnKind.TheVariants as kind
use Rattle.schema.specs.declared.table_def.TableDef.{TableDef}
use Rattle.schema.specs.Columns.{target_of}
use Rattle.confluence_laws.specs.Examples.{needed_by, needed_but, is_skipped}
use Rattle.schema.specs.Least.{IsKeptAlone}
use Rattle.schema.specs.Sound.{IsSoundKind, IsSoundColumn, AreTables}
use Rattle.schema.specs.Numbers.{no_table}
use Rattle.table_model.specs.Visible.{table_of, bare_rules}
use Rattle.confluence_test.specs.Plans.{needed_at}
use Rattle.confluence_test.proofs.Listing.{each_append}

pub record IsSoundAt (number : ℕ) (table : TableDef) : Type 0 where
  pub columns : AllByRecursion (IsSoundColumn number) table.columns
  pub few_columns : length table.columns ≤ 16
  pub few_rows : table.at_most ≤ 64
  pub kept : IsKeptAlone table.uniques table.at_most table.kept

sound_from : (before tables : List TableDef) → AreTables before tables → (i : ℕ) (table : TableDef) → slice_get tables i ≡ Some table → IsSoundAt (length before + i) table
sound_from before [] h i table at = absurd (cc)
sound_from before (t ∷ tables) h zero table at =
    let same : t ≡ table = cc in
    let n : length before ≡ length before + 0 = omega arith in
    subst (λ (m : ℕ). IsSoundAt m table) n
    (subst (λ (x : TableDef). IsSoundAt (length before) x) same (record { columns = h.0.sound.columns; few_columns = h.0.sound.few_columns; few_rows = h.0.sound.at_most; kept = h.0.sound.kept }))
sound_from before (t ∷ tables) h (suc i) table at =
    let n : length (before ++ t ∷ []) + i ≡ length before + suc i = (let e = length-append before (t ∷ []) in omega arith) in
    subst (λ (m : ℕ). IsSoundAt m table) n (sound_from (before ++ t ∷ []) tables h.1 i table at)

-- each table by its number
pub sound_at : (tables : List TableDef) → AreTables [] tables → (number : ℕ) (table : TableDef) → slice_get tables number ≡ Some table → IsSoundAt number table
sound_at tables h number table at = let n : 0 + number ≡ number = omega arith in subst (λ (m : ℕ). IsSoundAt m table) n (sound_from [] tables h number table at)

-- the columns of each table, and of none
pub sound_columns : (tables : List TableDef) → AreTables [] tables → (number : ℕ) → AllByRecursion (IsSoundColumn number) (table_of (bare_rules tables) number).columns
sound_columns tables h number =
    let step : (o : Option TableDef) → slice_get tables number ≡ o → AllByRecursion (IsSoundColumn number) (unwrap_or o no_table).columns =
    elim [ None ↦ λ e. tt | Some table ↦ λ e. (sound_at tables h number table e).columns ] in
    step (slice_get tables number) refl

-- references are to no later table
pub low_target : (number : ℕ) (null : Bool) (k : ColumnKind) → IsSoundKind number null k → IfSome (target_of k) (λ r. r.0 ≤ number)
low_target number null (kind.Int lo hi) h = tt
low_target number null (kind.Text lo hi) h = tt
low_target number null kind.Flag h = tt
low_target number null (kind.Reference target act) h = h.0

-- rows are needed of earlier tables alone
pub low_needed : (number : ℕ) (null : Bool) (k : ColumnKind) → IsSoundKind number null k → AllByRecursion (λ (u : ℕ). u < number) (needed_by null (target_of k))
low_needed number null (kind.Int lo hi) h = tt
low_needed number null (kind.Text lo hi) h = tt
low_needed number null kind.Flag h = tt
low_needed number true (kind.Reference target act) h = tt
low_needed number false (kind.Reference target act) h = (ltb-true target number h.1, tt)

pub low_at : (number : ℕ) (skip : Option ℕ) (place : ℕ) (column : Column) → IsSoundColumn number column → AllByRecursion (λ (u : ℕ). u < number) (needed_at skip place column)
low_at number skip place column h =
    let step : (b : Bool) → AllByRecursion (λ (u : ℕ). u < number) (cond b [] (needed_by column.null (target_of column.kind))) = elim [ true ↦ tt | false ↦ low_needed number column.null column.kind h ] in
    step (is_skipped skip place)

pub low_but : (number : ℕ) (skip : Option ℕ) (place : ℕ) (columns : List Column) → AllByRecursion (IsSoundColumn number) columns → AllByRecursion (λ (u : ℕ). u < number) (needed_but skip place columns)
low_but number skip place [] h = tt
low_but number skip place (column ∷ columns) h =
    each_append (λ (u : ℕ). u < number) (needed_at skip place column) (needed_but skip (place + 1) columns) (low_at number skip place column h.0) (low_but number skip (place + 1) columns h.1)
