-- What people write by habit. A tab is the byte 9, a blank is 32, `(`, `)` and `,` are 40, 41 and 44.
use Rattle.std.specs.Prelude.{ℕ, Bool, ◌&&◌, ◌||◌, ◌==◌, nat_eq, List, [], ◌∷◌, take, Option, codes, if◌then◌else◌}
use Rattle.std.specs.List.{ends_with, position_or_len, starts_with}
use Rattle.text_words.specs.Words.{skip_blanks}
use Rattle.explanations.specs.Parts.{stands_among}
use Rattle.explanations.specs.Texts.{before_place, from_place}
use Rattle.explanations.specs.declared.words.TheConstants.{AGGREGATES, KEYWORDS}

-- a byte that ends a word
abbrev pub ends_habit : ℕ → Bool
ends_habit byte = byte == 32 || byte == 9 || byte == 40 || byte == 41 || byte == 44

-- what stands before it
abbrev pub front_word : List ℕ → List ℕ
front_word text = take (position_or_len ends_habit text) text

-- the keywords in small letters
unfoldable pub keywords : List ℕ
keywords = KEYWORDS.now

-- the names of functions over many rows
unfoldable pub aggregates : List ℕ
aggregates = AGGREGATES.now

-- what a clause of another language is looked up by
unfoldable pub clause_entry : List ℕ → List ℕ
clause_entry word =
    if stands_among word (codes "INTO into VALUES values") then codes "habit into"
    else if stands_among word (codes "OFFSET offset") then codes "habit offset"
    else []

-- what a comparison of another language is looked up by
unfoldable pub sign_entry : List ℕ → List ℕ
sign_entry word =
    if stands_among word (codes "IN in") then codes "habit in"
    else if stands_among word (codes "BETWEEN between") then codes "habit between"
    else if stands_among word (codes "NOT NULL") then codes "habit null"
    else if stands_among word (codes "<> ==") then codes "habit equal"
    else clause_entry word

-- what a keyword of another language is looked up by
abbrev pub keyword_entry : List ℕ → List ℕ
keyword_entry word =
    if stands_among word (codes "AS as") then codes "habit as"
    else if stands_among word (codes "JOIN join INNER LEFT CROSS") then codes "habit join"
    else if stands_among word (codes "LIKE like GLOB ILIKE REGEXP") then codes "habit like"
    else if stands_among word (codes "SET set UPDATE update") then codes "habit update"
    else sign_entry word

-- what a word is looked up by
abbrev pub word_entry : List ℕ → List ℕ
word_entry word =
    if ends_with nat_eq word (codes ";") then codes "habit semicolon"
    else if stands_among word aggregates then codes "habit aggregate"
    else if stands_among word keywords then codes "habit small letters"
    else keyword_entry word

-- a text that ends in the name of a function over many rows
abbrev pub names_function : List ℕ → Bool
names_function text =
    ends_with nat_eq text (codes "COUNT") || (ends_with nat_eq text (codes "count")
    || (ends_with nat_eq text (codes "SUM") || (ends_with nat_eq text (codes "sum")
    || (ends_with nat_eq text (codes "MIN") || (ends_with nat_eq text (codes "min")
    || (ends_with nat_eq text (codes "MAX") || (ends_with nat_eq text (codes "max")
    || (ends_with nat_eq text (codes "AVG") || ends_with nat_eq text (codes "avg")))))))))

-- what stands behind blanks, by what stands before them
abbrev pub text_entry : List ℕ → List ℕ → List ℕ
text_entry before text =
    if starts_with nat_eq text (codes "'") then codes "habit single quote"
    else if starts_with nat_eq text (codes "(") && names_function before then codes "habit aggregate"
    else word_entry (front_word text)

-- The entry for what stands in a line at a column, or else at its begin. The first line may begin with a byte order mark.
unfoldable pub habit_entry : ℕ → List ℕ → Option ℕ → List ℕ
habit_entry number line column =
    if number == 1 && starts_with nat_eq line (239 ∷ 187 ∷ 191 ∷ []) then codes "habit byte order mark"
    else text_entry (before_place line column) (skip_blanks (from_place line column))
