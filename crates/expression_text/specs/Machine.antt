-- Expressions read from the left, token by token, with what stands open on a stack.
use Rattle.std.specs.Prelude.{ℕ, List, [], ◌∷◌, ◌++◌, Option, Some, None}
use Rattle.update_model.specs.declared.value.Value.TheVariants as value
use Rattle.row_check.specs.declared.cmp.Cmp.{Cmp}
use Rattle.row_check.specs.declared.term.Term.{Term}
use Rattle.row_check.specs.declared.term.Term.TheVariants as term
use Rattle.expression_text.specs.declared.token.Token.{Token}
use Rattle.expression_text.specs.declared.token.Token.TheVariants as token
use Rattle.expression_text.specs.Numbers.{small_number}
use Rattle.row_check.specs.Trees.{Tree, Both, Either, Negation, Comparison, Absence, Check}

-- what has been read of an operand
pub data Reading : Type 0 where
  Begun : Reading
  After_len : Reading
  After_column : (column : ℕ) → Reading
  After_term : (left : Term) → Reading
  After_sign : (left : Term) (cmp : Cmp) → Reading
  After_sign_len : (left : Term) (cmp : Cmp) → Reading
  After_is : (column : ℕ) → Reading
  After_native : Reading
  After_number : (number : ℕ) → Reading
  After_comma : (number : ℕ) (columns : List ℕ) → Reading
  After_argument : (number : ℕ) (columns : List ℕ) → Reading
  -- a whole one, which is joined with operands before it by AND
  Finished : (tree : Tree) → Reading
  -- what no expression begins with
  Refused : Reading

-- what stands open before an operand
pub data Frame : Type 0 where
  Bracket : Frame
  Before_not : Frame
  Before_and : (left : Tree) → Frame
  Before_or : (left : Tree) → Frame

-- what has been read: an operand, and what stands open before it, the nearest first
abbrev pub State : Type 0
State = Reading × List Frame

-- a side of a comparison that is one token
abbrev pub side_of : (List ℕ → ℕ) → Token → Option Term
side_of column_of (token.Column name) = Some (term.Column (column_of name))
side_of column_of (token.Integer n) = Some (term.Literal (value.Int n))
side_of column_of (token.Text bytes) = Some (term.Literal (value.Text bytes))
side_of column_of (token.Flag flag) = Some (term.Literal (value.Flag flag))
side_of column_of other = None

abbrev pub left_side : Option Term → Reading
left_side (Some left) = After_term left
left_side None = Refused

abbrev pub right_side : Term → Cmp → Option Term → Reading
right_side left cmp (Some right) = Finished (Comparison left cmp right)
right_side left cmp None = Refused

abbrev pub read_begun : (List ℕ → ℕ) → Token → Reading
read_begun column_of (token.Column name) = After_column (column_of name)
read_begun column_of token.Len = After_len
read_begun column_of token.Native = After_native
read_begun column_of other = left_side (side_of column_of other)

abbrev pub read_after_len : (List ℕ → ℕ) → Token → Reading
read_after_len column_of (token.Column name) = After_term (term.Length (column_of name))
read_after_len column_of other = Refused

abbrev pub read_after_column : ℕ → Token → Reading
read_after_column column (token.Sign cmp) = After_sign (term.Column column) cmp
read_after_column column token.Is = After_is column
read_after_column column other = Refused

abbrev pub read_after_term : Term → Token → Reading
read_after_term left (token.Sign cmp) = After_sign left cmp
read_after_term left other = Refused

abbrev pub read_after_sign : (List ℕ → ℕ) → Term → Cmp → Token → Reading
read_after_sign column_of left cmp token.Len = After_sign_len left cmp
read_after_sign column_of left cmp other = right_side left cmp (side_of column_of other)

abbrev pub read_after_sign_len : (List ℕ → ℕ) → Term → Cmp → Token → Reading
read_after_sign_len column_of left cmp (token.Column name) = Finished (Comparison left cmp (term.Length (column_of name)))
read_after_sign_len column_of left cmp other = Refused

abbrev pub read_after_is : ℕ → Token → Reading
read_after_is column token.Null = Finished (Absence column)
read_after_is column other = Refused

-- the number of a native check, where it is one
abbrev pub number_read : Option ℕ → Reading
number_read (Some n) = After_number n
number_read None = Refused

abbrev pub read_after_native : Token → Reading
read_after_native (token.Integer n) = number_read (small_number n)
read_after_native other = Refused

abbrev pub read_after_number : (List ℕ → ℕ) → ℕ → Token → Reading
read_after_number column_of number (token.Column name) = Finished (Check number (column_of name ∷ []))
read_after_number column_of number token.Open = After_comma number []
read_after_number column_of number other = Refused

abbrev pub read_after_comma : (List ℕ → ℕ) → ℕ → List ℕ → Token → Reading
read_after_comma column_of number columns (token.Column name) = After_argument number (columns ++ column_of name ∷ [])
read_after_comma column_of number columns other = Refused

abbrev pub read_after_argument : ℕ → List ℕ → Token → Reading
read_after_argument number columns token.Comma = After_comma number columns
read_after_argument number columns token.Close = Finished (Check number columns)
read_after_argument number columns other = Refused

-- what has been read of an operand after a token more
abbrev pub read_more : (List ℕ → ℕ) → Reading → Token → Reading
read_more column_of Begun token = read_begun column_of token
read_more column_of After_len token = read_after_len column_of token
read_more column_of (After_column column) token = read_after_column column token
read_more column_of (After_term left) token = read_after_term left token
read_more column_of (After_sign left cmp) token = read_after_sign column_of left cmp token
read_more column_of (After_sign_len left cmp) token = read_after_sign_len column_of left cmp token
read_more column_of (After_is column) token = read_after_is column token
read_more column_of After_native token = read_after_native token
read_more column_of (After_number number) token = read_after_number column_of number token
read_more column_of (After_comma number columns) token = read_after_comma column_of number columns token
read_more column_of (After_argument number columns) token = read_after_argument number columns token
read_more column_of (Finished tree) token = Refused
read_more column_of Refused token = Refused

-- A whole operand: each NOT directly before it is about it, and an AND before these joins it with what stands there.
abbrev pub complete : Tree → List Frame → State
complete tree [] = (Finished tree, [])
complete tree (Bracket ∷ frames) = (Finished tree, Bracket ∷ frames)
complete tree (Before_not ∷ frames) = complete (Negation tree) frames
complete tree (Before_and left ∷ frames) = (Finished (Both left tree), frames)
complete tree (Before_or left ∷ frames) = (Finished tree, Before_or left ∷ frames)

-- completed where it is a whole operand
abbrev pub settled : Reading → List Frame → State
settled (Finished tree) frames = complete tree frames
settled reading frames = (reading, frames)

-- joined with what stands before an OR
abbrev pub join : Tree → List Frame → Tree × List Frame
join tree (Before_or left ∷ frames) = (Either left tree, frames)
join tree frames = (tree, frames)

abbrev pub before_or : Tree × List Frame → State
before_or joined = (Begun, Before_or joined.0 ∷ joined.1)

-- a parenthesis closes what was opened last
abbrev pub close : Tree → List Frame → State
close tree (Bracket ∷ frames) = complete tree frames
close tree frames = (Refused, frames)

abbrev pub close_joined : Tree × List Frame → State
close_joined joined = close joined.0 joined.1

abbrev pub step_begun : (List ℕ → ℕ) → List Frame → Token → State
step_begun column_of frames token.Not = (Begun, Before_not ∷ frames)
step_begun column_of frames token.Open = (Begun, Bracket ∷ frames)
step_begun column_of frames other = (read_begun column_of other, frames)

abbrev pub step_finished : Tree → List Frame → Token → State
step_finished tree frames token.And = (Begun, Before_and tree ∷ frames)
step_finished tree frames token.Or = before_or (join tree frames)
step_finished tree frames token.Close = close_joined (join tree frames)
step_finished tree frames other = (Refused, frames)

-- the state after a token
abbrev pub step : (List ℕ → ℕ) → Reading → List Frame → Token → State
step column_of Begun frames token = step_begun column_of frames token
step column_of (Finished tree) frames token = step_finished tree frames token
step column_of reading frames token = settled (read_more column_of reading token) frames

-- the state after tokens
abbrev pub run : (List ℕ → ℕ) → State → List Token → State
run column_of state [] = state
run column_of state (token ∷ tokens) = run column_of (step column_of state.0 state.1 token) tokens

abbrev pub whole : Tree × List Frame → Option Tree
whole (tree, []) = Some tree
whole (tree, frame ∷ frames) = None

-- a whole expression: a whole operand, joined, and nothing stands open
abbrev pub outcome : Reading → List Frame → Option Tree
outcome (Finished tree) frames = whole (join tree frames)
outcome reading frames = None

-- the expression that the tokens are
abbrev pub parsed : (List ℕ → ℕ) → List Token → Option Tree
parsed column_of tokens = let last = run column_of (Begun, []) tokens in outcome last.0 last.1
