-- Whether tokens are an expression, told with a place in an operand and a count of open parentheses.
use Rattle.std.specs.Prelude.{ℕ, zero, suc, ◌+◌, Bool, true, false, List, [], ◌∷◌, Option, Some, None}
use Rattle.expression_text.specs.declared.place.Place.{Place}
use Rattle.expression_text.specs.declared.place.Place.TheVariants.{Begun, AfterLen, AfterColumn, AfterTerm, AfterSign, AfterSignLen, AfterIs, AfterNative, AfterNumber, AfterComma, AfterArgument, Finished, Refused}
use Rattle.expression_text.specs.declared.place.Position.{Position}
use Rattle.expression_text.specs.declared.token.Token.{Token}
use Rattle.expression_text.specs.declared.token.Token.TheVariants as token
use Rattle.expression_text.specs.Numbers.{small_number}

abbrev pub next_begun : Token → Place
next_begun (token.Column name) = AfterColumn
next_begun (token.Integer n) = AfterTerm
next_begun (token.Text bytes) = AfterTerm
next_begun (token.Flag flag) = AfterTerm
next_begun token.Len = AfterLen
next_begun token.Native = AfterNative
next_begun token.Not = Begun
next_begun other = Refused

-- a column has to come, and this is the place after it
abbrev pub next_column : Place → Token → Place
next_column place (token.Column name) = place
next_column place other = Refused

abbrev pub next_after_column : Token → Place
next_after_column (token.Sign cmp) = AfterSign
next_after_column token.Is = AfterIs
next_after_column other = Refused

abbrev pub next_after_term : Token → Place
next_after_term (token.Sign cmp) = AfterSign
next_after_term other = Refused

abbrev pub next_after_sign : Token → Place
next_after_sign (token.Column name) = Finished
next_after_sign (token.Integer n) = Finished
next_after_sign (token.Text bytes) = Finished
next_after_sign (token.Flag flag) = Finished
next_after_sign token.Len = AfterSignLen
next_after_sign other = Refused

abbrev pub next_after_is : Token → Place
next_after_is token.Null = Finished
next_after_is other = Refused

-- the number of a native check, where it is one
abbrev pub number_place : Option ℕ → Place
number_place (Some n) = AfterNumber
number_place None = Refused

abbrev pub next_after_native : Token → Place
next_after_native (token.Integer n) = number_place (small_number n)
next_after_native other = Refused

abbrev pub next_after_number : Token → Place
next_after_number (token.Column name) = Finished
next_after_number token.Open = AfterComma
next_after_number other = Refused

abbrev pub next_after_argument : Token → Place
next_after_argument token.Comma = AfterComma
next_after_argument token.Close = Finished
next_after_argument other = Refused

abbrev pub next_finished : Token → Place
next_finished token.And = Begun
next_finished token.Or = Begun
next_finished other = Refused

-- the place after a token that is no parenthesis about an expression
abbrev pub next_place : Place → Token → Place
next_place Begun token = next_begun token
next_place AfterLen token = next_column AfterTerm token
next_place AfterColumn token = next_after_column token
next_place AfterTerm token = next_after_term token
next_place AfterSign token = next_after_sign token
next_place AfterSignLen token = next_column Finished token
next_place AfterIs token = next_after_is token
next_place AfterNative token = next_after_native token
next_place AfterNumber token = next_after_number token
next_place AfterComma token = next_column AfterArgument token
next_place AfterArgument token = next_after_argument token
next_place Finished token = next_finished token
next_place Refused token = Refused

-- one parenthesis less
abbrev pub closed : ℕ → Position
closed zero = record { place = Refused; depth = 0 }
closed (suc depth) = record { place = Finished; depth = depth }

-- the position after a token
abbrev pub after : Place → ℕ → Token → Position
after Begun depth token.Open = record { place = Begun; depth = depth + 1 }
after Finished depth token.Close = closed depth
after place depth token = record { place = next_place place token; depth = depth }

-- the position after tokens
abbrev pub after_all : Position → List Token → Position
after_all position [] = position
after_all position (token ∷ tokens) = after_all (after position.place position.depth token) tokens

-- a whole expression: a whole operand, and no parenthesis is open
abbrev pub is_end : Place → ℕ → Bool
is_end Finished zero = true
is_end place depth = false

-- whether the tokens are an expression
abbrev pub is_read : List Token → Bool
is_read tokens = let last = after_all (record { place = Begun; depth = 0 }) tokens in is_end last.place last.depth
