-- Samples as lines write them: the rows that they are.
use Rattle.std.specs.Prelude.{ℕ, ◌+◌, List, [], ◌∷◌, if◌then◌else◌}
use Rattle.update_model.specs.declared.value.Value.{Value}
use Rattle.update_model.specs.declared.value.Value.TheVariants as value
use Rattle.text_words.specs.declared.literal.Literal.TheVariants as literal
use Rattle.schema.specs.declared.column.Column.{Column}
use Rattle.schema_text.specs.declared.form.SampleValue.{SampleValue}
use Rattle.schema_text.specs.declared.form.SampleValue.TheVariants as sample
use Rattle.schema.specs.Columns.{is_reference}

-- the value that a sample writes
abbrev pub value_written : SampleValue → Value
value_written (sample.Literal literal.Null) = value.Null
value_written (sample.Literal (literal.Integer n)) = value.Int n
value_written (sample.Literal (literal.Text bytes)) = value.Text bytes
value_written (sample.Literal (literal.Flag flag)) = value.Flag flag
value_written (sample.Row name) = value.Row name

abbrev pub first_written : List SampleValue → Value
first_written [] = value.Null
first_written (l ∷ ls) = value_written l

abbrev pub after_first : List SampleValue → List SampleValue
after_first [] = []
after_first (l ∷ ls) = ls

-- what a column has of a sample's values: null in a reference, else the first one
abbrev pub value_at_column : Column → List SampleValue → Value
value_at_column column ls = if is_reference column.kind then value.Null else first_written ls

-- the values that are left for the columns after it
abbrev pub values_after : Column → List SampleValue → List SampleValue
values_after column ls = if is_reference column.kind then ls else after_first ls

-- The row that a sample's values are: null in each reference, and one of them for each other column in order.
abbrev pub sample_row : List Column → List SampleValue → List Value
sample_row [] ls = []
sample_row (c ∷ cs) ls = value_at_column c ls ∷ sample_row cs (values_after c ls)

-- how many columns are no references
abbrev pub plain_count : List Column → ℕ
plain_count [] = 0
plain_count (c ∷ cs) = if is_reference c.kind then plain_count cs else plain_count cs + 1
