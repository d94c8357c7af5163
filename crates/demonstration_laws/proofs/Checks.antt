-- The CHECK lines as expressions.
use Rattle.std.proofs.Common.{ℕ, List, [], ◌∷◌, pos, lit<}
use Rattle.std.specs.Prelude.{codes}
use Rattle.update_model.specs.declared.value.Value.TheVariants.{Int}
use Rattle.row_check.specs.Trees.{Tree, Either, Comparison, Absence, Check}
use Rattle.row_check.specs.declared.cmp.Cmp.TheVariants.{Lt, Gt}
use Rattle.row_check.specs.declared.term.Term.TheVariants as term
use Rattle.expression_text.specs.Columns.{column_in}
use Rattle.expression_text.specs.Grammar.{Parses, Disjunction, a_column, an_integer, a_length, either, conjunction, operand, comparison, absence, check_one}
use Rattle.expression_text.specs.declared.token.Token.{Token}
use Rattle.expression_text.specs.declared.token.Token.TheVariants as token
use Rattle.schema.specs.Columns.{names_of}
use Rattle.demonstration_laws.specs.Tables.{task_columns}

-- the number of a column of the table of tasks
abbrev pub task_column : List ℕ → ℕ
task_column = column_in (names_of task_columns)

abbrev pub urgent_tokens : List Token
urgent_tokens =
    token.Column (codes "prio") ∷ token.Sign Lt ∷ token.Integer (pos 9) ∷ token.Or ∷ token.Len ∷ token.Column (codes "title") ∷ token.Sign Gt ∷ token.Integer (pos 3) ∷ []

abbrev pub urgent_by : (List ℕ → ℕ) → Tree
urgent_by column_of =
    Either (Comparison (term.Column (column_of (codes "prio"))) Lt (term.Literal (Int (pos 9)))) (Comparison (term.Length (column_of (codes "title"))) Gt (term.Literal (Int (pos 3))))

pub urgent_parses : (column_of : List ℕ → ℕ) → Parses column_of Disjunction urgent_tokens (urgent_by column_of)
urgent_parses column_of =
    either (conjunction (operand (comparison (a_column (codes "prio")) Lt (an_integer (pos 9))))) (operand (comparison (a_length (codes "title")) Gt (an_integer (pos 3))))

abbrev pub card_tokens : List Token
card_tokens =
    token.Column (codes "card") ∷ token.Is ∷ token.Null ∷ token.Or ∷ token.Native ∷ token.Integer (pos 1) ∷ token.Column (codes "card") ∷ []

abbrev pub card_by : (List ℕ → ℕ) → Tree
card_by column_of = Either (Absence (column_of (codes "card"))) (Check 1 (column_of (codes "card") ∷ []))

pub card_parses : (column_of : List ℕ → ℕ) → Parses column_of Disjunction card_tokens (card_by column_of)
card_parses column_of = either (conjunction (operand (absence (codes "card")))) (operand (check_one 1 (lit< tt) (codes "card")))
