-- Expressions without where they lie in memory.
use Rattle.std.specs.Prelude.{ℕ, List, map, Bool, not, ◌&&◌, ◌||◌}
use Rattle.update_model.specs.declared.value.Value.{Value}
use Rattle.row_check.specs.declared.cmp.Cmp.{Cmp}
use Rattle.row_check.specs.declared.term.Term.{Term}
use Rattle.row_check.specs.declared.expr.Expr.{Expr, And', Or', Not', Compare, IsNull, Native}
use Rattle.row_check.specs.Comparisons.{compares}
use Rattle.row_check.specs.Meaning.{value_at, is_null, term_value}

-- a question about a row
pub data Tree : Type 0 where
  -- both hold
  Both : (left right : Tree) → Tree
  -- one or both hold
  Either : (left right : Tree) → Tree
  -- it does not hold
  Negation : (inner : Tree) → Tree
  -- two values compare so
  Comparison : (left : Term) (cmp : Cmp) (right : Term) → Tree
  -- a column has no value
  Absence : (column : ℕ) → Tree
  -- a native check of the values in columns
  Check : (number : ℕ) (columns : List ℕ) → Tree

-- the question that an expression is
abbrev pub tree_of : Expr → Tree
tree_of (And' _ a _ b) = Both (tree_of a) (tree_of b)
tree_of (Or' _ a _ b) = Either (tree_of a) (tree_of b)
tree_of (Not' _ a) = Negation (tree_of a)
tree_of (Compare left cmp right) = Comparison left cmp right
tree_of (IsNull column) = Absence column
tree_of (Native number columns) = Check number columns

-- whether it holds of a row, where native checks mean this relation
abbrev pub holds_tree : (ℕ → List Value → Bool) → List Value → Tree → Bool
holds_tree relation row (Both a b) = holds_tree relation row a && holds_tree relation row b
holds_tree relation row (Either a b) = holds_tree relation row a || holds_tree relation row b
holds_tree relation row (Negation a) = not (holds_tree relation row a)
holds_tree relation row (Comparison left cmp right) = compares cmp (term_value row left) (term_value row right)
holds_tree relation row (Absence column) = is_null (value_at row column)
holds_tree relation row (Check number columns) = relation number (map (value_at row) columns)
