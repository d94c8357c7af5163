-- The grammar of expressions, over lists of tokens, with what is meant.
--
-- OR joins what AND joins, AND joins operands, and NOT is before an operand. Both join from the left.
use Rattle.std.specs.Prelude.{ℕ, ◌<◌, ◌^◌, ℤ, pos, Bool, List, [], ◌∷◌, ◌++◌}
use Rattle.update_model.specs.declared.value.Value.TheVariants as value
use Rattle.row_check.specs.declared.cmp.Cmp.{Cmp}
use Rattle.row_check.specs.declared.term.Term.{Term}
use Rattle.row_check.specs.declared.term.Term.TheVariants as term
use Rattle.row_check.specs.declared.expr.Expr.{Expr}
use Rattle.expression_text.specs.declared.token.Token.{Token}
use Rattle.expression_text.specs.declared.token.Token.TheVariants as token
use Rattle.row_check.specs.Trees.{Tree, Both, Either, Negation, Comparison, Absence, Check, tree_of}
use Rattle.expression_text.specs.Columns.{column_in}

-- how tightly an expression is bound
pub data Level : Type 0 where
  -- conjunctions with OR between them
  Disjunction : Level
  -- operands with AND between them
  Conjunction : Level
  Operand : Level

-- a side of a comparison: a column, a literal, or LEN of a column
pub data IsTerm (column_of : List ℕ → ℕ) : List Token → Term → Type 0 where
  a_column : (name : List ℕ) → IsTerm column_of (token.Column name ∷ []) (term.Column (column_of name))
  an_integer : (n : ℤ) → IsTerm column_of (token.Integer n ∷ []) (term.Literal (value.Int n))
  a_text : (bytes : List ℕ) → IsTerm column_of (token.Text bytes ∷ []) (term.Literal (value.Text bytes))
  a_flag : (flag : Bool) → IsTerm column_of (token.Flag flag ∷ []) (term.Literal (value.Flag flag))
  a_length : (name : List ℕ) → IsTerm column_of (token.Len ∷ token.Column name ∷ []) (term.Length (column_of name))

-- at least one column, with commas between them
pub data AreColumns (column_of : List ℕ → ℕ) : List Token → List ℕ → Type 0 where
  one_column : (name : List ℕ) → AreColumns column_of (token.Column name ∷ []) (column_of name ∷ [])
  column_more : {tokens : List Token} {columns : List ℕ} → AreColumns column_of tokens columns → (name : List ℕ)
      → AreColumns column_of (tokens ++ token.Comma ∷ token.Column name ∷ []) (columns ++ column_of name ∷ [])

-- The tokens are an expression of this level and mean this question, where a name means this column.
pub data Parses (column_of : List ℕ → ℕ) : Level → List Token → Tree → Type 0 where
  -- a OR b
  either : {left right : List Token} {a b : Tree} → Parses column_of Disjunction left a → Parses column_of Conjunction right b
      → Parses column_of Disjunction (left ++ token.Or ∷ right) (Either a b)
  conjunction : {tokens : List Token} {a : Tree} → Parses column_of Conjunction tokens a → Parses column_of Disjunction tokens a
  -- a AND b
  both : {left right : List Token} {a b : Tree} → Parses column_of Conjunction left a → Parses column_of Operand right b
      → Parses column_of Conjunction (left ++ token.And ∷ right) (Both a b)
  operand : {tokens : List Token} {a : Tree} → Parses column_of Operand tokens a → Parses column_of Conjunction tokens a
  -- NOT a
  negation : {tokens : List Token} {a : Tree} → Parses column_of Operand tokens a → Parses column_of Operand (token.Not ∷ tokens) (Negation a)
  -- ( a )
  brackets : {tokens : List Token} {a : Tree} → Parses column_of Disjunction tokens a
      → Parses column_of Operand (token.Open ∷ (tokens ++ token.Close ∷ [])) a
  -- term cmp term
  comparison : {left right : List Token} {a b : Term} → IsTerm column_of left a → (cmp : Cmp) → IsTerm column_of right b
      → Parses column_of Operand (left ++ token.Sign cmp ∷ right) (Comparison a cmp b)
  -- column IS NULL
  absence : (name : List ℕ) → Parses column_of Operand (token.Column name ∷ token.Is ∷ token.Null ∷ []) (Absence (column_of name))
  -- NATIVE number column
  check_one : (number : ℕ) → number < 2 ^ 16 → (name : List ℕ)
      → Parses column_of Operand (token.Native ∷ token.Integer (pos number) ∷ token.Column name ∷ []) (Check number (column_of name ∷ []))
  -- NATIVE number ( column , column )
  check_all : (number : ℕ) → number < 2 ^ 16 → {tokens : List Token} {columns : List ℕ} → AreColumns column_of tokens columns
      → Parses column_of Operand (token.Native ∷ token.Integer (pos number) ∷ token.Open ∷ (tokens ++ token.Close ∷ [])) (Check number columns)

-- The tokens are a whole expression, whatever its columns are.
abbrev pub IsExpression : List Token → Type 0
IsExpression tokens = (tree : Tree) × Parses (λ name. 0) Disjunction tokens tree

-- The tokens are this expression over the columns with these names.
abbrev pub IsReading : List (List ℕ) → List Token → Expr → Type 0
IsReading names tokens expr = Parses (column_in names) Disjunction tokens (tree_of expr)
