-- A schema as contracts see it.
use Rattle.std.specs.Prelude.{ℕ, Bool, List}
use Rattle.update_model.specs.declared.value.Value.{Value}
use Rattle.update_model.specs.Rule.{RuleData}
use Rattle.schema.specs.declared.table_def.TableDef.{TableDef}

-- what native checks mean
abbrev pub Meaning : Type 0
Meaning = ℕ → List Value → Bool

-- a schema: its tables, which updates its database takes, and its text
pub record SchemaData : Type 0 where
  pub tables : List TableDef
  pub rule : RuleData
  pub text : List ℕ
