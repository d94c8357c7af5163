-- What a line of each form adds to a draft.
use Rattle.std.specs.Prelude.{◌≡◌, ℕ, nat_abs, Bool, true, false, List, [], ◌∷◌, ◌++◌, Option, Some, None, unwrap_or}
use Rattle.row_check.specs.declared.cmp.Cmp.{Cmp}
use Rattle.expression_text.specs.declared.token.Token.{Token}
use Rattle.row_check.specs.Trees.{Tree}
use Rattle.schema.specs.declared.action.Action.{Action}
use Rattle.schema.specs.declared.column.Column.{Column}
use Rattle.schema.specs.declared.column.ColumnKind.TheVariants as kind
use Rattle.schema_text.specs.declared.draft.Draft.{Draft}
use Rattle.schema_text.specs.declared.draft.Phase.TheVariants as phase
use Rattle.schema_text.specs.declared.form.SampleValue.{SampleValue}
use Rattle.schema_text.specs.declared.form.Form.{Form}
use Rattle.schema_text.specs.declared.form.Form.TheVariants as form
use Rattle.schema.specs.declared.rules.MatchRule.{MatchRule}
use Rattle.schema.specs.Columns.{names_of, number_named, reference_named}
use Rattle.schema_text.specs.Faults.{Means}
use Rattle.schema_text.specs.Drafts.{table_at, table_named, kind_declared, with_column, with_rules}
use Rattle.schema.specs.Numbers.{no_table}
use Rattle.schema_text.specs.Written.{sample_row}

-- the number of the column with this name, which is there
abbrev pub number_of : List Column → List ℕ → ℕ
number_of columns name = unwrap_or (number_named columns name) 0

-- the columns of the table that a reference names
abbrev pub target_columns : Draft → Option (ℕ × Action) → List Column
target_columns draft None = []
target_columns draft (Some target) = (table_at draft target.0).columns

abbrev pub with_check : ℕ → Draft → Tree → Draft
with_check line draft tree = with_rules draft (record draft.table { checks = draft.table.checks ++ record { tree = tree; line = line } ∷ [] })

-- the number of a column of the table that a reference names
abbrev pub target_number : Draft → List ℕ → List ℕ → ℕ
target_number draft reference target = number_of (target_columns draft (reference_named draft.table.columns reference)) target

-- a MATCH by the numbers of its columns
abbrev pub match_rule : ℕ → Draft → List ℕ → Cmp → List ℕ → List ℕ → MatchRule
match_rule line draft column cmp reference target = record {
  column = number_of draft.table.columns column;
  cmp = cmp;
  reference = number_of draft.table.columns reference;
  target_column = target_number draft reference target;
  line = line;
}

abbrev pub with_match : ℕ → Draft → List ℕ → Cmp → List ℕ → List ℕ → Draft
with_match line draft column cmp reference target =
    with_rules draft (record draft.table { matches = draft.table.matches ++ match_rule line draft column cmp reference target ∷ [] })

-- the column of a UNIQUE with KEEP LEAST, where a line is one, and else what there was before
abbrev pub kept_after : Option ℕ → Bool → ℕ → Option ℕ
kept_after before true column = Some column
kept_after before false column = before

abbrev pub with_unique : ℕ → Draft → List ℕ → Bool → Draft
with_unique line draft column keeps = with_rules draft (record draft.table {
  uniques = draft.table.uniques ++ record { column = number_of draft.table.columns column; line = line } ∷ [];
  kept = kept_after draft.table.kept keeps (number_of draft.table.columns column);
})

-- the table that has begun ends with this sample
abbrev pub with_sample : Draft → List SampleValue → Draft
with_sample draft values = record draft {
  phase = phase.Between;
  tables = draft.tables ++ record draft.table { sample = sample_row draft.table.columns values } ∷ [];
  table = no_table;
}

-- a table begins
abbrev pub with_table : Draft → List ℕ → Bool → Bool → Draft
with_table draft name deletable owned = record draft { phase = phase.Columns; table = record no_table { name = name; deletable = deletable; owned = owned } }

-- The draft after a CHECK.
abbrev pub IsCheckAdded : ℕ → Draft → List Token → Draft → Type 0
IsCheckAdded line draft tokens next = (tree : Tree) × Means (names_of draft.table.columns) tokens tree × (next ≡ with_check line draft tree)

-- The draft after a line with this number and form.
abbrev pub IsAfter : ℕ → Draft → Form → Draft → Type 0
IsAfter line draft (form.Database name) next = next ≡ record draft { phase = phase.Authors }
IsAfter line draft (form.Author key) next = next ≡ record draft { authors = draft.authors ++ key ∷ [] }
IsAfter line draft (form.Table name deletable owned) next = next ≡ with_table draft name deletable owned
IsAfter line draft (form.Column name k null) next = next ≡ with_column draft (record { name = name; kind = kind_declared k; null = null; line = line })
IsAfter line draft (form.Ref name table act null) next =
    next ≡ with_column draft (record { name = name; kind = kind.Reference (unwrap_or (table_named draft table) 0) act; null = null; line = line })
IsAfter line draft (form.Check tokens) next = IsCheckAdded line draft tokens next
IsAfter line draft (form.Match column cmp reference target) next = next ≡ with_match line draft column cmp reference target
IsAfter line draft (form.Unique column keeps) next = next ≡ with_unique line draft column keeps
IsAfter line draft (form.AtMost count) next = next ≡ with_rules draft (record draft.table { at_most = nat_abs count; at_most_line = line })
IsAfter line draft (form.Sample values) next = next ≡ with_sample draft values
