-- The words of a command line, and what is said of a run of the program. `-` is the byte 45.
use Rattle.std.specs.Prelude.{ℕ, ◌-◌, ◌≤◌, ◌⊎◌, Bool, true, false, not, ◌&&◌, ◌||◌, ◌==◌, nat_eq, List, [], ◌∷◌, ◌++◌, drop, length, slice_get, take, unwrap_or, codes, bytes_eq, if◌then◌else◌}
use Rattle.std.specs.Io.KnownBytes.{Appends}
use Rattle.std.specs.List.{list_all, starts_with}
use Rattle.std.specs.declared.option.Option.{Option}
use Rattle.bec_bytes.specs.Causes.{Rose}
use Rattle.explanations.specs.declared.runs.TheConstants.{CR_LF, OF_QUERIES, OF_SCHEMAS, OF_STORES, WITH_VALUES}
use Rattle.explanations.specs.Explained.{Setting, explained}
use Rattle.explanations.specs.Parts.{parts_of, stands_among}
use Rattle.explanations.specs.Texts.{some_cr}
use Rattle.text_words.specs.Lines.{lines_of}
use Rattle.text_words.specs.Names.{is_name_byte}

-- a word that is an option: `-` and more
abbrev pub is_an_option : List ℕ → Bool
is_an_option word = starts_with nat_eq word (codes "-") && not (bytes_eq word (codes "-"))

-- the options whose value is the next word
unfoldable pub with_values : List ℕ
with_values = WITH_VALUES.now

-- The word at a place among those that are neither options nor values of options, or the empty one. Behind `--` no word
-- is an option.
abbrev pub word_from : Bool → Bool → ℕ → List (List ℕ) → List ℕ
word_from is_value ended place [] = []
word_from is_value ended place (word ∷ words) =
    if is_value then word_from false ended place words
    else if not ended && is_an_option word then word_from (stands_among word with_values) (bytes_eq word (codes "--")) place words
    else if place == 0 then word
    else word_from false ended (place - 1) words

-- the same from the first word on
unfoldable pub word_placed : List (List ℕ) → ℕ → List ℕ
word_placed words place = word_from false false place words

-- how many bytes of what is read are kept: one more than a transaction, a world or a schema may have
abbrev pub limit_of : List (List ℕ) → ℕ
limit_of words =
    if bytes_eq (word_placed words 0) (codes "apply") then 4194305
    else if bytes_eq (word_placed words 0) (codes "world") then 16777217
    else 65541

-- `done` is the third word of a line
abbrev pub is_done_line : List ℕ → Bool
is_done_line line = bytes_eq (unwrap_or (slice_get (parts_of 32 line) 2) []) (codes "done")

-- a line that is explained: a refusal, or of `serve` the end of a session that was not done
abbrev pub is_told : List ℕ → List ℕ → Bool
is_told command line = starts_with nat_eq line (codes "! ") || bytes_eq command (codes "serve") && not (is_done_line line)

-- What each of these lines means that is explained, or else the status, unless a line was explained before.
abbrev pub told_from : Bool → Setting → List (List ℕ) → List ℕ
told_from told setting [] = if told then [] else explained [] setting
told_from told setting (line ∷ lines) =
    if is_told setting.command line then explained line setting ++ told_from true setting lines
    else told_from told setting lines

-- what is said of a schema whose lines end in CR LF
unfoldable pub cr_lf_note : List ℕ
cr_lf_note = CR_LF.now

-- the commands that read a schema alone, those that read a store behind its length, and those whose second word is a query, or a table
unfoldable pub of_schemas : List ℕ
of_schemas = OF_SCHEMAS.now

unfoldable pub of_stores : List ℕ
of_stores = OF_STORES.now

unfoldable pub of_queries : List ℕ
of_queries = OF_QUERIES.now

-- what is said of the lines that a command read
abbrev pub note_of : List ℕ → List ℕ → List ℕ
note_of command read = if stands_among command of_schemas && some_cr read then cr_lf_note else []

-- what the query that a word asks has in front of it: to `csv`, a word of nothing but the bytes of names names a table, all of which is asked for
abbrev pub query_front : List ℕ → List ℕ → List ℕ
query_front command word = if bytes_eq command (codes "csv") && list_all is_name_byte word then codes "SELECT * FROM " else []

-- the text that a command read or asked: a word as the query that it asks, as a line, or what was read, without the length before a store
abbrev pub text_of : List (List ℕ) → List ℕ → List ℕ → List ℕ
text_of words command read =
    if stands_among command of_queries then query_front command (word_placed words 2) ++ (word_placed words 2 ++ 10 ∷ [])
    else if stands_among command of_stores then drop 4 read
    else read

-- the directory that is meant: that which is named beside the words, or the first of the words, or one of the two of `merge`
abbrev pub directory_among : List (List ℕ) → List ℕ → List ℕ → List ℕ
directory_among words command named =
    if not (length named == 0) then named
    else if bytes_eq command (codes "merge") then word_placed words 1 ++ (codes " or " ++ word_placed words 2)
    else word_placed words 1

-- what was asked by these words, where the directory may be named beside them
abbrev pub setting_by : List (List ℕ) → List ℕ → ℕ → List ℕ → Setting
setting_by words named status read =
    let command = word_placed words 0 in
    record { command = command; directory = directory_among words command named; other = word_placed words 2; status = status; text = text_of words command read }

-- what is said of its refusals
abbrev pub told_of : List (List ℕ) → List ℕ → ℕ → List ℕ → List ℕ → List ℕ
told_of words named status read heard = if status == 0 then [] else told_from false (setting_by words named status read) (lines_of heard)

-- what is said of a run: of one that came to no refusal, at most the note
unfoldable pub said_of_run : List (List ℕ) → List ℕ → ℕ → List ℕ → List ℕ → List ℕ
said_of_run words named status read heard =
    note_of (word_placed words 0) read ++ told_of words named status read heard

-- A sink took a front of a text, where it tells that.
abbrev pub AddsFrontOf : Option (List ℕ) → Option (List ℕ) → List ℕ → Type 0
AddsFrontOf before after text = (n : ℕ) × Appends before after (take n text)

-- A sink took a text, whole, or it failed and took a front of it. What it holds is known where it tells that.
pub record Says (before after : Option (List ℕ)) (faults now : ℕ) (text : List ℕ) : Type 0 where
  pub later : faults ≤ now
  pub takes : Appends before after text ⊎ (Rose faults now × AddsFrontOf before after text)
