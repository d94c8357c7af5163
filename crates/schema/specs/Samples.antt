-- What holds of the samples of a schema's tables.
use Rattle.std.specs.Prelude.{ℕ, ◌==◌, Bool, false, ◌||◌, List, Option, None, Some, IsTrue}
use Rattle.std.specs.List.{list_all}
use Rattle.update_model.specs.declared.value.Value.{Value}
use Rattle.row_check.specs.Comparisons.{compares}
use Rattle.row_check.specs.Meaning.{value_at}
use Rattle.schema.specs.declared.action.Action.{Action}
use Rattle.schema.specs.declared.rules.MatchRule.{MatchRule}
use Rattle.schema.specs.declared.table_def.TableDef.{TableDef}
use Rattle.schema.specs.Checks.{checks_hold}
use Rattle.schema.specs.Columns.{reference_at}
use Rattle.schema.specs.Numbers.{table_number}

-- whether a MATCH along a reference of a table to another one is true of the samples
abbrev pub sample_matches : List TableDef → ℕ → MatchRule → Option (ℕ × Action) → Bool
sample_matches tables number rule None = false
sample_matches tables number rule (Some target) =
    (target.0 == number)
    || compares rule.cmp (value_at (table_number tables number).sample rule.column) (value_at (table_number tables target.0).sample rule.target_column)

-- The samples pass the CHECKs, and the MATCHes along references to other tables.
pub record SamplesPass (ask : ℕ → List Value → Bool) (tables : List TableDef) : Type 0 where
  pub checks : (number : ℕ) → IsTrue (checks_hold ask (table_number tables number).sample (table_number tables number).checks)
  pub matches : (number : ℕ)
      → IsTrue (list_all (λ rule. sample_matches tables number rule (reference_at (table_number tables number).columns rule.reference)) (table_number tables number).matches)
