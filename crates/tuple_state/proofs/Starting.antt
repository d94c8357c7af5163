-- What can be shown of tables before any update.
use Rattle.std.proofs.Common.{false, List}
use Rattle.schema.specs.declared.table_def.TableDef.{TableDef}
use Rattle.table_model.specs.Visible.{Rules}

-- rules of these tables, of which no native check holds
abbrev pub plain : List TableDef → Rules
plain tables = record { tables = tables; ask = λ number values. false }
