-- What the lines so far keep, and what a line has to be for a draft to take it.
use Rattle.std.specs.Prelude.{◌≡◌, pos, ◌<◌, ◌≤◌, ◌≤ℤ◌, [], None, length, IsTrue, All}
use Rattle.update_model.specs.Text.{IsText}
use Rattle.text_words.specs.declared.literal.Literal.TheVariants as literal
use Rattle.text_words.specs.Names.{is_a_name}
use Rattle.expression_text.specs.Columns.{IsKnown, HasRowText}
use Rattle.expression_text.specs.Grammar.{IsExpression}
use Rattle.schema_text.specs.declared.draft.Draft.{Draft}
use Rattle.schema_text.specs.declared.form.Form.{Form}
use Rattle.schema_text.specs.declared.form.Form.TheVariants as form
use Rattle.schema_text.specs.declared.form.SampleValue.{SampleValue}
use Rattle.schema_text.specs.declared.form.SampleValue.TheVariants as sample
use Rattle.schema.specs.declared.limits.TheConstants.{MAX_COLUMNS, MAX_TABLES}
use Rattle.schema_text.specs.declared.limits.TheConstants.{MAX_ROWS, MAX_TOKENS}
use Rattle.schema.specs.Columns.{names_of}
use Rattle.schema_text.specs.Drafts.{is_columns, is_in_table, is_between}
use Rattle.schema_text.specs.Faults.{AreBounds}
use Rattle.schema.specs.Sound.{AreTables, IsSoundTable}

-- What the lines so far keep: tables that have ended are whole, the one that has begun is sound and has room among them,
-- and it has no rules while columns come.
pub record IsDraft (draft : Draft) : Type 0 where
  pub few_tables : length draft.tables ≤ MAX_TABLES
  pub tables : AreTables [] draft.tables
  pub table : IsSoundTable draft.tables draft.table
  pub some_tables : IsTrue (is_between draft.phase) → 1 ≤ length draft.tables
  pub room : IsTrue (is_in_table draft.phase) → length draft.tables < MAX_TABLES
  pub no_checks : IsTrue (is_columns draft.phase) → draft.table.checks ≡ []
  pub no_matches : IsTrue (is_columns draft.phase) → draft.table.matches ≡ []
  pub no_uniques : IsTrue (is_columns draft.phase) → draft.table.uniques ≡ []
  pub no_kept : IsTrue (is_columns draft.phase) → draft.table.kept ≡ None

-- What an expression needs to be built over the columns of a table.
abbrev pub CanBuild : Draft → Form → Type 0
CanBuild draft (form.Check tokens) =
    (length draft.table.columns ≤ MAX_COLUMNS) × (length tokens ≤ MAX_TOKENS) × IsExpression tokens × All (IsKnown (names_of draft.table.columns)) tokens × All HasRowText tokens
CanBuild draft other = Unit {0}

-- what a sample writes is a value that a row may have
abbrev pub IsRowValue : SampleValue → Type 0
IsRowValue (sample.Literal (literal.Text bytes)) = IsText bytes
IsRowValue other = Unit {0}

-- all that a sample writes are such values
abbrev pub HasRowValues : Form → Type 0
HasRowValues (form.Sample values) = All IsRowValue values
HasRowValues other = Unit {0}

-- What a line has to be for a draft to take it.
abbrev pub CanAdd : Draft → Form → Type 0
CanAdd draft (form.Database name) = Unit {0}
CanAdd draft (form.Author key) = Unit {0}
CanAdd draft (form.Table name deletable owned) = IsTrue (is_a_name name)
CanAdd draft (form.Column name kind null) = IsTrue (is_a_name name) × AreBounds kind
CanAdd draft (form.Ref name table act null) = IsTrue (is_a_name name)
CanAdd draft (form.Check tokens) = CanBuild draft (form.Check tokens)
CanAdd draft (form.Match column cmp reference target) = Unit {0}
CanAdd draft (form.Unique column keeps) = Unit {0}
CanAdd draft (form.AtMost count) = (pos 1 ≤ℤ count) × (count ≤ℤ MAX_ROWS)
CanAdd draft (form.Sample values) = All IsRowValue values
