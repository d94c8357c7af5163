-- Where the words of a condition are at fault: they are no expression, or read columns that are not there or not of the
-- kind that is wanted, or too many of them.
use Rattle.std.specs.Prelude.{ℕ, zero, suc, ◌+◌, ◌-◌, ◌≤◌, Bool, true, false, not, nat_le, List, [], ◌∷◌, length, Option, Some, None, is_some, unwrap_or, nat_lt, if◌then◌else◌, All}
use Rattle.row_check.specs.declared.kind.Kind.{Kind}
use Rattle.row_check.specs.declared.kind.Kind.TheVariants as kind
use Rattle.expression_text.specs.declared.token.Token.{Token}
use Rattle.expression_text.specs.declared.token.Token.TheVariants as token
use Rattle.expression_text.specs.Columns.{HasRowText}
use Rattle.expression_text.specs.Grammar.{IsExpression}
use Rattle.expression_text.specs.Numbers.{small_number}
use Rattle.query.specs.declared.fault.QueryKind.{QueryKind}
use Rattle.query.specs.declared.fault.QueryKind.TheVariants as fault
use Rattle.query.specs.declared.limits.TheConstants.{MAX_CONDITION_COLUMNS, MAX_CONDITION_WORDS}
use Rattle.query.specs.declared.stop.Wrong.{Wrong}
use Rattle.query.specs.declared.turn.Expected.{Expected}
use Rattle.query.specs.declared.turn.Expected.TheVariants as turn
use Rattle.query.specs.declared.turn.Stand.{Stand}
use Rattle.query.specs.Columns.{names_of}
use Rattle.query.specs.Grammar.{wrong_at}

-- A condition: an expression of not too many words, whose texts may stand in rows.
pub record IsCondition (words : List Token) : Type 0 where
  pub short : length words ≤ MAX_CONDITION_WORDS
  pub expression : IsExpression words
  pub texts : All HasRowText words

-- ---- what may follow what

abbrev pub after_operand : Token → Option Expected
after_operand (token.Column name) = Some turn.Named
after_operand (token.Integer n) = Some turn.Sided
after_operand (token.Text bytes) = Some turn.Sided
after_operand (token.Flag flag) = Some turn.Sided
after_operand token.Len = Some turn.Length
after_operand token.Native = Some turn.Number
after_operand token.Not = Some turn.Operand
after_operand _ = None

-- a column, and this behind it
abbrev pub column_then : Expected → Token → Option Expected
column_then next (token.Column name) = Some next
column_then next _ = None

abbrev pub after_named : Token → Option Expected
after_named (token.Sign cmp) = Some turn.Right
after_named token.Is = Some turn.Null
after_named _ = None

abbrev pub after_sided : Token → Option Expected
after_sided (token.Sign cmp) = Some turn.Right
after_sided _ = None

abbrev pub after_right : Token → Option Expected
after_right (token.Column name) = Some turn.Joint
after_right (token.Integer n) = Some turn.Joint
after_right (token.Text bytes) = Some turn.Joint
after_right (token.Flag flag) = Some turn.Joint
after_right token.Len = Some turn.RightLength
after_right _ = None

abbrev pub after_is : Token → Option Expected
after_is token.Null = Some turn.Joint
after_is _ = None

abbrev pub after_native : Token → Option Expected
after_native (token.Integer n) = if is_some (small_number n) then Some turn.Argument else None
after_native _ = None

abbrev pub after_number : Token → Option Expected
after_number (token.Column name) = Some turn.Joint
after_number token.Open = Some turn.Arguments
after_number _ = None

abbrev pub after_argument : Token → Option Expected
after_argument token.Comma = Some turn.Arguments
after_argument token.Close = Some turn.Joint
after_argument _ = None

abbrev pub after_joint : Token → Option Expected
after_joint token.And = Some turn.Operand
after_joint token.Or = Some turn.Operand
after_joint _ = None

-- what comes behind a word that is no parenthesis about an expression
abbrev pub next_turn : Expected → Token → Option Expected
next_turn turn.Operand word = after_operand word
next_turn turn.Length word = column_then turn.Sided word
next_turn turn.Named word = after_named word
next_turn turn.Sided word = after_sided word
next_turn turn.Right word = after_right word
next_turn turn.RightLength word = column_then turn.Joint word
next_turn turn.Null word = after_is word
next_turn turn.Number word = after_native word
next_turn turn.Argument word = after_number word
next_turn turn.Arguments word = column_then turn.More word
next_turn turn.More word = after_argument word
next_turn turn.Joint word = after_joint word

-- the same with so many parentheses open
abbrev pub standing : ℕ → Option Expected → Option Stand
standing depth None = None
standing depth (Some next) = Some (record { turn = next; depth = depth })

-- one parenthesis less
abbrev pub closed : ℕ → Option Stand
closed zero = None
closed (suc depth) = Some (record { turn = turn.Joint; depth = depth })

abbrev pub next_at : Expected → ℕ → Token → Option Stand
next_at turn.Operand depth token.Open = Some (record { turn = turn.Operand; depth = depth + 1 })
next_at turn.Joint depth token.Close = closed depth
next_at now depth word = standing depth (next_turn now word)

-- where a condition stands after a word more, if an expression may have it
abbrev pub next_stand : Stand → Token → Option Stand
next_stand stand word = next_at stand.turn stand.depth word

-- before its first word
abbrev pub begun : Stand
begun = record { turn = turn.Operand; depth = 0 }

-- ---- words that are no condition

-- why a word may not stand here
abbrev pub refused : Token → QueryKind
refused token.Bad = fault.NotAValue
refused _ = fault.UnknownWord

-- The first of these words, which number from here, of which there are too many or that does not go on; the end where
-- there is none.
abbrev pub stuck_from : Stand → ℕ → ℕ → List Token → Wrong
stuck_from stand at read [] = wrong_at fault.UnknownWord at
stuck_from stand at read (word ∷ words) =
    if nat_le MAX_CONDITION_WORDS read then wrong_at fault.TooLong at
    else elim (next_stand stand word) [
      | None ↦ wrong_at (refused word) at
      | Some next ↦ stuck_from next (at + 1) (read + 1) words
    ]

-- what is wrong with words, which number from here, that are no condition
abbrev pub stuck_at : ℕ → List Token → Wrong
stuck_at at words = stuck_from begun at 0 words

-- ---- kinds

abbrev pub is_reference : Option Kind → Bool
is_reference (Some kind.Reference) = true
is_reference _ = false

abbrev pub is_of_text : Option Kind → Bool
is_of_text (Some kind.Text) = true
is_of_text _ = false

-- whether both are one kind, and none of references
abbrev pub are_alike : Option Kind → Option Kind → Bool
are_alike (Some kind.Int) (Some kind.Int) = true
are_alike (Some kind.Text) (Some kind.Text) = true
are_alike (Some kind.Flag) (Some kind.Flag) = true
are_alike left right = false

-- the kind of what a word begins, where a name has this kind. LEN is a number
abbrev pub kind_of : (List ℕ → Option Kind) → Token → Option Kind
kind_of kinds (token.Column name) = kinds name
kind_of kinds (token.Integer n) = Some kind.Int
kind_of kinds (token.Text bytes) = Some kind.Text
kind_of kinds (token.Flag flag) = Some kind.Flag
kind_of kinds token.Len = Some kind.Int
kind_of kinds _ = None

-- whether a word names a column that is not there
abbrev pub is_unknown : (List ℕ → Option Kind) → Token → Bool
is_unknown kinds (token.Column name) = not (is_some (kinds name))
is_unknown kinds _ = false

-- whether a word may not follow a column of this kind: a sign does not follow a reference
abbrev pub misfits_named : Option Kind → Token → Bool
misfits_named left (token.Sign cmp) = is_reference left
misfits_named left _ = false

-- whether a word of this kind may not stand here, behind a left side of this kind
abbrev pub misfits : Expected → Option Kind → Option Kind → Token → Bool
misfits turn.Length left found word = not (is_of_text found)
misfits turn.RightLength left found word = not (is_of_text found)
misfits turn.Right left found word = not (are_alike left found)
misfits turn.Argument left found word = is_reference found
misfits turn.Arguments left found word = is_reference found
misfits turn.Named left found word = misfits_named left word
misfits other left found word = false

-- where what is seen at this word stands: a reference that may not stand on a side is the word before
abbrev pub place_seen : Expected → ℕ → ℕ
place_seen turn.Named at = at - 1
place_seen other at = at

-- what is wrong with a word, if anything
abbrev pub misfit : (List ℕ → Option Kind) → Expected → Option Kind → ℕ → Token → Option Wrong
misfit kinds now left at word =
    if is_unknown kinds word then Some (wrong_at fault.UnknownColumn at)
    else if misfits now left (kind_of kinds word) word then Some (wrong_at fault.TypesDiffer (place_seen now at))
    else None

-- the kind of the left side after a word more
abbrev pub left_after : Expected → Option Kind → Option Kind → Option Kind
left_after turn.Operand left found = found
left_after turn.Length left found = Some kind.Int
left_after other left found = left

-- the first of the two
abbrev pub or_else : Option Wrong → Option Wrong → Option Wrong
or_else (Some wrong) more = Some wrong
or_else None more = more

-- The first of these words, which number from here, that is not there or of another kind than is wanted.
abbrev pub misfit_from : (List ℕ → Option Kind) → Stand → Option Kind → ℕ → List Token → Option Wrong
misfit_from kinds stand left at [] = None
misfit_from kinds stand left at (word ∷ words) =
    or_else (misfit kinds stand.turn left at word)
    (misfit_from kinds (unwrap_or (next_stand stand word) stand) (left_after stand.turn left (kind_of kinds word)) (at + 1) words)

abbrev pub misfit_in : (List ℕ → Option Kind) → ℕ → List Token → Option Wrong
misfit_in kinds at words = misfit_from kinds begun None at words

-- ---- how many columns there are

-- A condition that names too many different columns is too long, at its end.
abbrev pub crowded_at : ℕ → List Token → Option Wrong
crowded_at at words = if nat_lt MAX_CONDITION_COLUMNS (length (names_of words)) then Some (wrong_at fault.TooLong (at + length words)) else None

-- what is wrong with the words of an expression, which number from here: a word of them, or they name too many columns
abbrev pub wrong_in : (List ℕ → Option Kind) → ℕ → List Token → Option Wrong
wrong_in kinds at words = or_else (misfit_in kinds at words) (crowded_at at words)
