-- What the lines so far declare, whose turn is next, and what a line adds.
use Rattle.std.specs.Prelude.{ℕ, nat_abs, Bool, true, false, ◌&&◌, ◌||◌, List, [], ◌∷◌, ◌++◌, length, nat_lt, unwrap_or, slice_get, Option, Some, None, if◌then◌else◌, bytes_eq, position}
use Rattle.schema.specs.declared.column.Column.{Column}
use Rattle.schema.specs.declared.column.ColumnKind.{ColumnKind}
use Rattle.schema.specs.declared.column.ColumnKind.TheVariants as kind
use Rattle.schema_text.specs.declared.draft.Draft.{Draft}
use Rattle.schema_text.specs.declared.draft.Phase.{Phase}
use Rattle.schema_text.specs.declared.draft.Phase.TheVariants as phase
use Rattle.schema_text.specs.declared.form.Form.{Form}
use Rattle.schema_text.specs.declared.form.Form.TheVariants as form
use Rattle.schema_text.specs.declared.form.PlainKind.{PlainKind}
use Rattle.schema_text.specs.declared.form.PlainKind.TheVariants as plain
use Rattle.schema.specs.declared.table_def.TableDef.{TableDef}
use Rattle.schema.specs.Numbers.{no_table}

-- what no line declares
abbrev pub start : Draft
start = record { phase = phase.Start; authors = []; tables = []; table = no_table }

-- the table with this number: one that has ended, or the one that has begun
abbrev pub table_at : Draft → ℕ → TableDef
table_at draft number = unwrap_or (slice_get draft.tables number) draft.table

abbrev pub first_some : Option ℕ → Option ℕ → Option ℕ
first_some None second = second
first_some (Some first) second = Some first

-- the number of the table with this name, the one that has begun included
abbrev pub table_named : Draft → List ℕ → Option ℕ
table_named draft name =
    first_some (position (λ table. bytes_eq table.name name) draft.tables) (if bytes_eq draft.table.name name then Some (length draft.tables) else None)

-- no line has said anything
abbrev pub is_start : Phase → Bool
is_start phase.Start = true
is_start other = false

-- the turn of authors
abbrev pub is_authors : Phase → Bool
is_authors phase.Authors = true
is_authors other = false

-- the turn of columns
abbrev pub is_columns : Phase → Bool
is_columns phase.Columns = true
is_columns other = false

-- a table has begun
abbrev pub is_in_table : Phase → Bool
is_in_table phase.Columns = true
is_in_table phase.Rules = true
is_in_table other = false

-- a table has ended, and no other has begun
abbrev pub is_between : Phase → Bool
is_between phase.Between = true
is_between other = false

-- a table has begun, and has a column
abbrev pub has_columns : Draft → Bool
has_columns draft = is_in_table draft.phase && nat_lt 0 (length draft.table.columns)

-- whether it is the turn of a line of this form
abbrev pub is_turn : Draft → Form → Bool
is_turn draft (form.Database name) = is_start draft.phase
is_turn draft (form.Author key) = is_authors draft.phase
is_turn draft (form.Table name deletable owned) = is_authors draft.phase || is_between draft.phase
is_turn draft (form.Column name kind null) = is_columns draft.phase
is_turn draft (form.Ref name table act null) = is_columns draft.phase
is_turn draft (form.Check tokens) = has_columns draft
is_turn draft (form.Match column cmp reference target) = has_columns draft
is_turn draft (form.Unique column keeps) = has_columns draft
is_turn draft (form.AtMost count) = has_columns draft
is_turn draft (form.Sample values) = has_columns draft

-- the kind of a column of values
abbrev pub kind_declared : PlainKind → ColumnKind
kind_declared (plain.Int lo hi) = kind.Int lo hi
kind_declared (plain.Text lo hi) = kind.Text (nat_abs lo) (nat_abs hi)
kind_declared plain.Flag = kind.Flag

-- the draft with one more column in the table that has begun
abbrev pub with_column : Draft → Column → Draft
with_column draft column = record draft { table = record draft.table { columns = draft.table.columns ++ column ∷ [] } }

-- the draft with this table as the one that has begun, which has rules
abbrev pub with_rules : Draft → TableDef → Draft
with_rules draft table = record draft { phase = phase.Rules; table = table }
