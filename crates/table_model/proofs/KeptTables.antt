-- What the tables of a schema keep that have to do with the least row of each value.
use Rattle.std.proofs.Common.{◌≡◌, ℕ, ◌<◌, ◌==◌, zero, suc, Bool, true, false, cond, not, ◌&&◌, ◌||◌, List, [], ◌∷◌, refl, ap, subst, arith, inl, inr, Option, Some, None, is_none}
use Rattle.std.specs.Prelude.{IsTrue}
use Rattle.std.specs.List.{list_all}
use Rattle.std.proofs.lemmas.Bool.{and_from, both_ways, eq-eqb, or_cases, or_left}
use Rattle.schema.specs.declared.action.Action.{Action}
use Rattle.schema.specs.declared.action.Action.TheVariants as action
use Rattle.schema.specs.declared.column.Column.{Column}
use Rattle.schema.specs.declared.rules.UniqueRule.{UniqueRule}
use Rattle.schema.specs.declared.table_def.TableDef.{TableDef}
use Rattle.schema.specs.Columns.{is_cascade, reference_at, target_of}
use Rattle.schema.specs.Least.{IsKeptAlone, is_led_away, is_steady, leaves_itself, targets_of}
use Rattle.schema.proofs.Soundness.{IsSound, target_below}
use Rattle.schema.proofs.SteadyTables.{each_target}
use Rattle.table_model.specs.Visible.{Rules, cascade_target, cascade_targets, kept_of, table_of}
use Rattle.table_model.proofs.Founded.{all-append}

-- A table with this number that keeps the least row of a column has one UNIQUE, of this column, and no ATMOST, and does not refer
-- to itself by CASCADE.
pub record KeepsAt (table : TableDef) (number column : ℕ) : Type 0 where
  pub unique : (rule : UniqueRule) × (table.uniques ≡ rule ∷ []) × (rule.column ≡ column)
  pub no_limit : table.at_most ≡ 0
  pub leaves : IsTrue (list_all (λ target. not (target == number)) (cascade_targets table.columns))

-- Each table that does is one.
abbrev pub KeepsSoundly : Rules → Type 0
KeepsSoundly rules = (number column : ℕ) → kept_of rules number ≡ Some column → KeepsAt (table_of rules number) number column

-- A table is steady where it keeps no least row, and each other table that it refers to by CASCADE is steady. Here references are
-- followed this deep.
unfoldable pub steady_to : Rules → ℕ → ℕ → Bool
steady_to rules zero table = false
steady_to rules (suc depth) table =
    is_none (kept_of rules table) && list_all (λ target. (target == table) || steady_to rules depth target) (cascade_targets (table_of rules table).columns)

-- Each RESTRICT reference is to a table whose rows are hidden for no lesser one.
abbrev pub HoldsSteady : Rules → Type 0
HoldsSteady rules = (number column target : ℕ) → reference_at (table_of rules number).columns column ≡ Some (target, action.Restrict) → IsTrue (steady_to rules (suc target) target)

is_by_cascade : (act : Action) → is_cascade act ≡ true → act ≡ action.Cascade
is_by_cascade action.Restrict h = absurd cc
is_by_cascade action.Cascade h = refl
is_by_cascade action.SetNull h = absurd cc

first_target : (p : ℕ → Bool) (o : Option (ℕ × Action)) → ((u : ℕ) → o ≡ Some (u, action.Cascade) → p u ≡ true) → list_all p (cascade_target o) ≡ true
first_target p None h = refl
first_target p (Some r) h =
    let step : (b : Bool) → is_cascade r.1 ≡ b → list_all p (cond b (r.0 ∷ []) []) ≡ true = elim [
      | true ↦ λ e. and_from _ _ (h r.0 (ap (λ (act : Action). Some (r.0, act)) (is_by_cascade r.1 e))) refl
      | false ↦ λ e. refl
    ] in
    step (is_cascade r.1) refl

-- what holds of each CASCADE reference of columns holds of the tables that they refer to so
pub all_targets : (p : ℕ → Bool) (columns : List Column) → ((place u : ℕ) → reference_at columns place ≡ Some (u, action.Cascade) → p u ≡ true) → list_all p (cascade_targets columns) ≡ true
all_targets p [] h = refl
all_targets p (c ∷ cs) h =
    all-append p (cascade_target (target_of c.kind)) (cascade_targets cs) (first_target p (target_of c.kind) (h zero)) (all_targets p cs (λ place u e. h (suc place) u e))

pub keeps_soundly : (rules : Rules) → IsSound rules.tables → KeepsSoundly rules
keeps_soundly rules sound number column is =
    let table = table_of rules number in
    let alone = subst (IsKeptAlone table.uniques table.at_most) is (sound number).kept in
    let leaves = subst (λ (o : Option ℕ). IsTrue (leaves_itself number o (targets_of table.columns))) is (sound number).leaves in
    record {
      unique = (alone.0, alone.1, alone.2);
      no_limit = alone.3;
      leaves = all_targets (λ target. not (target == number)) table.columns (λ place u e. each_target (is_led_away number) table.columns leaves place (u, action.Cascade) e);
    }

-- a steady table is one however it is followed, as long as that is far enough
pub steady_deep : (rules : Rules) → IsSound rules.tables → (depth number : ℕ) → number < depth → is_steady rules.tables number ≡ true → steady_to rules depth number ≡ true
unfolding steady_to
steady_deep rules sound zero number low h = absurd (omega arith)
steady_deep rules sound (suc depth) number low h =
    let columns = (table_of rules number).columns in
    and_from _ _ ((sound number).plain h) (all_targets (λ target. (target == number) || steady_to rules depth target) columns
    (λ place u e.
    let below = target_below number columns (sound number).columns place u action.Cascade e in
    elim (or_cases (u == number) (is_steady rules.tables u) ((sound number).led h place u e)) [
      | inl own ↦ or_left _ _ own
      | inr far ↦
          let step : (b : Bool) → (u == number) ≡ b → (b || steady_to rules depth u) ≡ true = elim [
            | true ↦ λ same. refl
            | false ↦ λ apart. steady_deep rules sound depth u (let ne : (u ≡ number) → ⊥ = λ same. both_ways _ apart (eq-eqb u number same) in omega arith) far
          ] in
          step (u == number) refl
    ]))

pub holds_steady : (rules : Rules) → IsSound rules.tables → HoldsSteady rules
holds_steady rules sound number column target e = steady_deep rules sound (suc target) target (omega arith) ((sound number).held column target e)
