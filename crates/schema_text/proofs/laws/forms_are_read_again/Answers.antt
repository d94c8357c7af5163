use Rattle.std.proofs.Common.{true, false}
use Rattle.schema_text.specs.declared.form.Form.{Form}
use Rattle.schema_text.specs.declared.form.Form.TheVariants as form
use Rattle.schema_text.specs.Printing.{HasLine}
use Rattle.schema_text.proofs.LinesAgain.{AreByRule}
use Rattle.schema_text.proofs.FormsAgain.{AreReadAgain, IsReadAgain, at_most_again, column_again, database_again, ref_again, table_again, unique_again}
use Rattle.schema_text.proofs.KeysAgain.{author_again, match_again}
use Rattle.schema_text.proofs.SamplesAgain.{AreAsPrinted, sample_again}
use Rattle.schema_text.proofs.ChecksAgain.{check_again}
use Rattle.schema_text.proofs.laws.forms_are_read_again.Goals as goal

read_again : AreByRule → AreAsPrinted → AreReadAgain → (f : Form) → HasLine f → IsReadAgain f
read_again rule printed again (form.Database name) has = database_again rule name has
read_again rule printed again (form.Author key) has = author_again rule key has
read_again rule printed again (form.Table name true owned) has = table_again rule name true owned has (λ e. absurd cc)
read_again rule printed again (form.Table name false owned) has = table_again rule name false owned has.0 (λ e. has.1)
read_again rule printed again (form.Column name kind null) has = column_again rule again name kind null has.0 has.1
read_again rule printed again (form.Ref name table act null) has = ref_again rule name table act null has.0 has.1
read_again rule printed again (form.Check tokens) has = check_again rule again tokens has
read_again rule printed again (form.Match column sign reference target) has = match_again rule column sign reference target has.0 has.1 has.2
read_again rule printed again (form.Unique column keeps) has = unique_again rule column keeps has
read_again rule printed again (form.AtMost count) has = at_most_again rule again count has
read_again rule printed again (form.Sample values) has = sample_again rule printed again values has

pub returns-clause-words : goal.returns-clause-words
returns-clause-words c = read_again c.words_are_by_rule.ensures c.integers_are_as_printed.ensures c.values_are_read_again.ensures

pub returns-clause-form : goal.returns-clause-form
returns-clause-form c = λ f has utf8 whole. record { utf8 = utf8; words = read_again c.words_are_by_rule.ensures c.integers_are_as_printed.ensures c.values_are_read_again.ensures f has; whole = whole }
