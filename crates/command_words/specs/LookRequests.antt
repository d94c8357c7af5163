-- What the words of a command line ask for that looks at a store, as a function of them.
use Rattle.std.specs.Prelude.{Bool, List, [], ◌∷◌, Option, Some, None, option_map, option_and_then, if◌then◌else◌, bytes_eq, slice_get, codes}
use Rattle.clap.specs.Words.{App, Row, Text, first_of}
use Rattle.command_words.specs.Commands.{directory_of}
use Rattle.command_words.specs.Words.{command_app, flag, is_set, needed, position, rows_given}

-- What is asked of updates: a picture of them, as DOT or as SVG; the log of them, with what each did or without; the one whose id begins so; or the one that inserts
-- the row whose name begins so. A text of them has whole ids and keys, or is JSON.
pub data ListingText : Type 0 where
  Picture : (dot : Bool) → ListingText
  Log : (rows full json : Bool) → ListingText
  Show : (id : Text) (full json : Bool) → ListingText
  Who : (row : Text) (full json : Bool) → ListingText

-- What is asked of a store: a text of its updates; a page that shows it; how much there is; the text of its schema; the records of its updates; or this table, or the
-- answer of this query, as comma-separated values.
pub data QuestionText : Type 0 where
  Updates : ListingText → QuestionText
  Page : QuestionText
  Status : QuestionText
  Schema : QuestionText
  Records : QuestionText
  Csv : Text → QuestionText

-- A request that looks at a store, with the words that name directories: this is asked of one store, or where there is no directory of the bundle that is read;
-- which updates only one of two has; or the public key of a directory.
pub data LookText : Type 0 where
  One : Option Text → QuestionText → LookText
  Both : (first second : Option Text) (full json : Bool) → LookText
  KeyOf : Text → LookText

-- the directory that a word names, or none where it stands for the bundle that is read
abbrev pub place_of : Text → Option Text
place_of word = if bytes_eq word (codes "-") then None else Some word

-- ---- the arguments of each command

-- draw [DIR] [--dot]
abbrev pub draw_app : App
draw_app = command_app (codes "draw") (position (codes "DIR") ∷ flag (codes "dot") ∷ [])

-- log [DIR] [--rows] [--full] [--json]
abbrev pub log_app : App
log_app = command_app (codes "log") (position (codes "DIR") ∷ flag (codes "rows") ∷ flag (codes "full") ∷ flag (codes "json") ∷ [])

-- COMMAND DIR NAME [--full] [--json]
abbrev pub named_app : Text → App
named_app command =
    command_app command (needed (position (codes "DIR")) ∷ needed (position (codes "NAME")) ∷ flag (codes "full") ∷ flag (codes "json") ∷ [])

-- csv DIR TEXT
abbrev pub csv_app : App
csv_app = command_app (codes "csv") (needed (position (codes "DIR")) ∷ needed (position (codes "TEXT")) ∷ [])

-- ---- what the words of each command ask for

abbrev pub draw_asked : List Row → LookText
draw_asked rows = One (option_and_then place_of (first_of (codes "DIR") rows)) (Updates (Picture (is_set (codes "dot") rows)))

abbrev pub draw_of : List Text → Option LookText
draw_of words = option_map draw_asked (rows_given draw_app words)

abbrev pub log_asked : List Row → LookText
log_asked rows =
    One (option_and_then place_of (first_of (codes "DIR") rows))
    (Updates (Log (is_set (codes "rows") rows) (is_set (codes "full") rows) (is_set (codes "json") rows)))

abbrev pub log_of : List Text → Option LookText
log_of words = option_map log_asked (rows_given log_app words)

-- what the words of `show`, `who` and `diff` give: the directory, what is named beside it, and whether ids are whole, or the text is JSON
pub record NamedText : Type 0 where
  pub directory : Text
  pub name : Text
  pub full : Bool
  pub json : Bool

-- these, with the options among the rows
abbrev pub named_with : List Row → Text → Text → NamedText
named_with rows directory name = record { directory = directory; name = name; full = is_set (codes "full") rows; json = is_set (codes "json") rows }

abbrev pub named_asked : List Row → Option NamedText
named_asked rows = option_and_then (λ directory. option_map (named_with rows directory) (first_of (codes "NAME") rows)) (first_of (codes "DIR") rows)

abbrev pub named_of : Text → List Text → Option NamedText
named_of command words = option_and_then named_asked (rows_given (named_app command) words)

abbrev pub show_asked : NamedText → LookText
show_asked named = One (place_of named.directory) (Updates (Show named.name named.full named.json))

abbrev pub show_of : List Text → Option LookText
show_of words = option_map show_asked (named_of (codes "show") words)

abbrev pub who_asked : NamedText → LookText
who_asked named = One (place_of named.directory) (Updates (Who named.name named.full named.json))

abbrev pub who_of : List Text → Option LookText
who_of words = option_map who_asked (named_of (codes "who") words)

abbrev pub diff_asked : NamedText → LookText
diff_asked named = Both (place_of named.directory) (place_of named.name) named.full named.json

abbrev pub diff_of : List Text → Option LookText
diff_of words = option_map diff_asked (named_of (codes "diff") words)

-- of a command that takes a directory and nothing else
abbrev pub alone_of : Text → QuestionText → List Text → Option LookText
alone_of command question words = option_map (λ directory. One (place_of directory) question) (directory_of command words)

abbrev pub csv_asked : List Row → Option LookText
csv_asked rows = option_and_then (λ directory. option_map (λ text. One (place_of directory) (Csv text)) (first_of (codes "TEXT") rows)) (first_of (codes "DIR") rows)

abbrev pub csv_of : List Text → Option LookText
csv_of words = option_and_then csv_asked (rows_given csv_app words)

abbrev pub key_of : List Text → Option LookText
key_of words = option_map KeyOf (directory_of (codes "key") words)

abbrev pub look_request_named : Text → List Text → Option LookText
look_request_named first words =
    if bytes_eq first (codes "draw") then draw_of words
    else if bytes_eq first (codes "log") then log_of words
    else if bytes_eq first (codes "show") then show_of words
    else if bytes_eq first (codes "who") then who_of words
    else if bytes_eq first (codes "diff") then diff_of words
    else if bytes_eq first (codes "page") then alone_of (codes "page") Page words
    else if bytes_eq first (codes "status") then alone_of (codes "status") Status words
    else if bytes_eq first (codes "schema") then alone_of (codes "schema") Schema words
    else if bytes_eq first (codes "records") then alone_of (codes "records") Records words
    else if bytes_eq first (codes "csv") then csv_of words
    else if bytes_eq first (codes "key") then key_of words
    else None

-- what words ask for that looks at a store
abbrev pub look_request_of : List Text → Option LookText
look_request_of words = option_and_then (λ first. look_request_named first words) (slice_get words 0)
