-- What is read when no token is left.
use Rattle.std.proofs.Common.{◌≡◌, ℕ, ◌≤◌, List, [], length, drop, ap, ◌∙◌, sym}
use Rattle.std.specs.Prelude.{Some, IsSome, is_some}
use Rattle.std.proofs.lemmas.List.{drop_all}
use Rattle.row_check.specs.declared.expr.Expr.{Expr}
use Rattle.expression_text.specs.declared.token.Token.{Token}
use Rattle.expression_text.specs.Columns.{column_in}
use Rattle.expression_text.specs.Grammar.{IsExpression, IsReading}
use Rattle.expression_text.specs.Machine.{Reading, Begun, Frame, State, run, outcome, parsed}
use Rattle.row_check.specs.Trees.{tree_of}
use Rattle.expression_text.proofs.Soundness.{Parses-parsed}
use Rattle.expression_text.proofs.Places.{parsed_again}

module _ (names : List (List ℕ)) (ts : List Token) (i : ℕ) (r : Reading) (frames : List Frame) (past : length ts ≤ i)
    (same : run (column_in names) (r, frames) (drop i ts) ≡ run (column_in names) (Begun, []) ts) where
  last_outcome : outcome r frames ≡ parsed (column_in names) ts
  last_outcome =
      let last : run (column_in names) (r, frames) (drop i ts) ≡ (r, frames) = ap (λ rest. run (column_in names) (r, frames) rest) (drop_all i ts past) in
      ap (λ (state : State). outcome state.0 state.1) (sym last ∙ same)

  -- an expression is whole then
  pub last_some : IsExpression ts → IsSome (outcome r frames)
  last_some x = ap is_some (last_outcome ∙ (parsed_again (column_in names) ts x).1)

  -- and is what the tokens are
  pub last_reads : (expr : Expr) → outcome r frames ≡ Some (tree_of expr) → IsReading names ts expr
  last_reads expr is = Parses-parsed (column_in names) ts (tree_of expr) (sym last_outcome ∙ is)
