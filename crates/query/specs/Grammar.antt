-- Which words a query is of, apart from its condition: what may follow what.
--
-- query = SELECT columns FROM table [WHERE condition] [ORDER BY key {, key}] [LIMIT number]
-- columns = * or column {, column}, key = column [DESC]
use Rattle.std.specs.Prelude.{ℕ, ◌+◌, ◌^◌, ℤ, pos, negsuc, Bool, true, false, nat_lt, List, [], ◌∷◌, length, take, drop, position, unwrap_or, Option, Some, None, if◌then◌else◌, bytes_eq, codes}
use Rattle.expression_text.specs.declared.token.Token.{Token}
use Rattle.expression_text.specs.declared.token.Token.TheVariants as token
use Rattle.query.specs.declared.fault.QueryKind.{QueryKind}
use Rattle.query.specs.declared.fault.QueryKind.TheVariants as fault
use Rattle.query.specs.declared.mark.Mark.{Mark}
use Rattle.query.specs.declared.mark.Mark.TheVariants as mark
use Rattle.query.specs.declared.parts.Part.{Part}
use Rattle.query.specs.declared.parts.Part.TheVariants as part
use Rattle.query.specs.declared.phase.Phase.{Phase}
use Rattle.query.specs.declared.phase.Phase.TheVariants as phase
use Rattle.query.specs.declared.stop.Wrong.{Wrong}

-- a word that is not of an expression alone: a keyword, or the name of a column or a table
abbrev pub word_mark : List ℕ → Mark
word_mark bytes =
    if bytes_eq bytes (codes "SELECT") then mark.Select
    else if bytes_eq bytes (codes "FROM") then mark.From
    else if bytes_eq bytes (codes "WHERE") then mark.Where
    else if bytes_eq bytes (codes "ORDER") then mark.Order
    else if bytes_eq bytes (codes "BY") then mark.By
    else if bytes_eq bytes (codes "LIMIT") then mark.Limit
    else if bytes_eq bytes (codes "DESC") then mark.Desc
    else if bytes_eq bytes (codes "ROW") then mark.Row
    else if bytes_eq bytes (codes "*") then mark.Star
    else mark.Name

-- a number of 32 bits
abbrev pub limit_of : ℤ → Option ℕ
limit_of (pos n) = if nat_lt n (2 ^ 32) then Some n else None
limit_of (negsuc n) = None

abbrev pub number_mark : Option ℕ → Mark
number_mark (Some n) = mark.Number
number_mark None = mark.Other

-- what a word is to a query
abbrev pub mark_of : Token → Mark
mark_of (token.Column bytes) = word_mark bytes
mark_of (token.Integer n) = number_mark (limit_of n)
mark_of token.Comma = mark.Comma
mark_of token.Bad = mark.Bad
mark_of _ = mark.Other

-- ---- what may follow what

abbrev pub after_start : Mark → Option Phase
after_start mark.Select = Some phase.Columns
after_start _ = None

abbrev pub after_select : Mark → Option Phase
after_select mark.Star = Some phase.AfterStar
after_select mark.Row = Some phase.AfterColumn
after_select mark.Name = Some phase.AfterColumn
after_select _ = None

abbrev pub after_star : Mark → Option Phase
after_star mark.From = Some phase.Table
after_star _ = None

abbrev pub after_column : Mark → Option Phase
after_column mark.Comma = Some phase.Column
after_column mark.From = Some phase.Table
after_column _ = None

abbrev pub after_comma : Mark → Option Phase
after_comma mark.Row = Some phase.AfterColumn
after_comma mark.Name = Some phase.AfterColumn
after_comma _ = None

abbrev pub after_from : Mark → Option Phase
after_from mark.Name = Some phase.AfterTable
after_from _ = None

abbrev pub after_table : Mark → Option Phase
after_table mark.Where = Some phase.Condition
after_table mark.Order = Some phase.AfterOrder
after_table mark.Limit = Some phase.Limit
after_table _ = None

abbrev pub after_where : Mark → Option Phase
after_where mark.Order = Some phase.AfterOrder
after_where mark.Limit = Some phase.Limit
after_where _ = Some phase.Condition

abbrev pub after_order : Mark → Option Phase
after_order mark.By = Some phase.Key
after_order _ = None

abbrev pub after_by : Mark → Option Phase
after_by mark.Name = Some phase.AfterKey
after_by _ = None

abbrev pub after_key : Mark → Option Phase
after_key mark.Comma = Some phase.Key
after_key mark.Desc = Some phase.AfterDesc
after_key mark.Limit = Some phase.Limit
after_key _ = None

abbrev pub after_desc : Mark → Option Phase
after_desc mark.Comma = Some phase.Key
after_desc mark.Limit = Some phase.Limit
after_desc _ = None

abbrev pub after_limit : Mark → Option Phase
after_limit mark.Number = Some phase.End
after_limit _ = None

-- where a query stands after a word more, if it may have it. A condition goes on up to ORDER or LIMIT
abbrev pub next_phase : Phase → Mark → Option Phase
next_phase phase.Start mark = after_start mark
next_phase phase.Columns mark = after_select mark
next_phase phase.AfterStar mark = after_star mark
next_phase phase.AfterColumn mark = after_column mark
next_phase phase.Column mark = after_comma mark
next_phase phase.Table mark = after_from mark
next_phase phase.AfterTable mark = after_table mark
next_phase phase.Condition mark = after_where mark
next_phase phase.AfterOrder mark = after_order mark
next_phase phase.Key mark = after_by mark
next_phase phase.AfterKey mark = after_key mark
next_phase phase.AfterDesc mark = after_desc mark
next_phase phase.Limit mark = after_limit mark
next_phase phase.End mark = None

-- whether a query may end here
abbrev pub may_end : Phase → Bool
may_end phase.AfterTable = true
may_end phase.Condition = true
may_end phase.AfterKey = true
may_end phase.AfterDesc = true
may_end phase.End = true
may_end _ = false

-- why a word may not stand here: it is no value where one is wanted, or begins as one, or is an unknown word
abbrev pub refusal : Phase → Mark → QueryKind
refusal phase.Limit mark = fault.NotAValue
refusal phase mark.Bad = fault.NotAValue
refusal phase mark = fault.UnknownWord

abbrev pub wrong_at : QueryKind → ℕ → Wrong
wrong_at kind at = record { kind = kind; at = at }

-- the first of these words, which number from here, that may not stand where it stands, or the end where it comes too early
abbrev pub stop_from : Phase → ℕ → List Token → Option Wrong
stop_from phase at [] = if may_end phase then None else Some (wrong_at fault.UnknownWord at)
stop_from phase at (word ∷ words) = elim (next_phase phase (mark_of word)) [
  | None ↦ Some (wrong_at (refusal phase (mark_of word)) at)
  | Some next ↦ stop_from next (at + 1) words
]

abbrev pub stop_of : List Token → Option Wrong
stop_of words = stop_from phase.Start 0 words

-- ---- the parts of a query

-- whether a word begins this part, or ends a condition
abbrev pub begins : Part → Mark → Bool
begins part.From mark.From = true
begins part.Where mark.Where = true
begins part.Order mark.Order = true
begins part.Limit mark.Limit = true
begins part.End mark.Order = true
begins part.End mark.Limit = true
begins _ _ = false

-- the number of the first of these words that begins this part, or how many there are
abbrev pub place_of : Part → List Token → ℕ
place_of it words = unwrap_or (position (λ word. begins it (mark_of word)) words) (length words)

-- the words before that
abbrev pub before : Part → List Token → List Token
before it words = take (place_of it words) words

-- the columns behind SELECT
abbrev pub columns_in : List Token → List Token
columns_in words = before part.From (drop 1 words)

-- where the name of the table stands, behind FROM
abbrev pub table_place : List Token → ℕ
table_place words = place_of part.From words + 1

-- where the condition begins, behind WHERE, and the condition
abbrev pub condition_place : List Token → ℕ
condition_place words = place_of part.Where words + 1

abbrev pub condition_in : List Token → List Token
condition_in words = before part.End (drop (condition_place words) words)

-- whether there is a condition
abbrev pub has_condition : List Token → Bool
has_condition words = nat_lt (place_of part.Where words) (length words)

-- where the keys begin, behind ORDER BY, and the keys
abbrev pub keys_place : List Token → ℕ
keys_place words = place_of part.Order words + 2

abbrev pub keys_in : List Token → List Token
keys_in words = before part.Limit (drop (keys_place words) words)

abbrev pub limit_first : List Token → Option ℕ
limit_first (token.Integer n ∷ words) = limit_of n
limit_first _ = None

-- the number behind LIMIT
abbrev pub limit_in : List Token → Option ℕ
limit_in words = limit_first (drop (place_of part.Limit words + 1) words)
