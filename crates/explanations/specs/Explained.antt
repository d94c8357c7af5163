-- What a line means that the program printed.
use Rattle.std.specs.Prelude.{ℕ, ◌&&◌, nat_eq, List, [], ◌∷◌, ◌++◌, length, take, drop, Option, Some, None, is_some, option_and_then, option_map, codes, bytes_eq, if◌then◌else◌}
use Rattle.std.specs.Fmt.{decimal}
use Rattle.std.specs.List.{ends_with}
use Rattle.std.specs.Option.{unwrap_or}
use Rattle.explanations.specs.declared.asked.Asked.{Asked}
use Rattle.explanations.specs.declared.marks.Marks.{Marks}
use Rattle.explanations.specs.declared.refusals.TheConstants.{REFUSALS}
use Rattle.explanations.specs.Habits.{habit_entry}
use Rattle.explanations.specs.Matching.{number_at}
use Rattle.explanations.specs.Rows.{laid, words_of}
use Rattle.explanations.specs.Shown.{shown}
use Rattle.explanations.specs.Table.{entry_of, entry_for}
use Rattle.explanations.specs.Texts.{line_numbered, line_of_operation}
use Rattle.explanations.specs.Values.{help_on, value_of}

-- the table
unfoldable pub the_table : List ℕ
the_table = REFUSALS.now

-- what stands behind this front, where a text begins with it
abbrev pub behind_front : List ℕ → List ℕ → Option (List ℕ)
behind_front front text = if bytes_eq (take (length front) text) front then Some (drop (length front) text) else None

-- a number and what stands behind the blank that follows it
abbrev pub behind_blank : ℕ × List ℕ → Option (ℕ × List ℕ)
behind_blank read = option_map (λ rest. (read.0, rest)) (behind_front (codes " ") read.1)

-- the session whose end a line tells, `session K ..`, and how it ended
abbrev pub session_end : List ℕ → Option (ℕ × List ℕ)
session_end said = option_and_then behind_blank (option_and_then number_at (behind_front (codes "session ") said))

-- what a line is looked up by that may tell the end of a session, and else may begin with `! `
abbrev pub key_by : Option (ℕ × List ℕ) → List ℕ → List ℕ
key_by (Some session) said = session.1
key_by None said = unwrap_or (behind_front (codes "! ") said) said

-- what a line is looked up by, and the empty one by the status
abbrev pub key_of : List ℕ → ℕ → List ℕ
key_of [] status = codes "status " ++ decimal status
key_of (byte ∷ rest) status = key_by (session_end (byte ∷ rest)) (byte ∷ rest)

-- what names a session
abbrev pub session_name : Option (ℕ × List ℕ) → List ℕ
session_name (Some session) = codes " session " ++ (decimal session.0 ++ codes ":")
session_name None = []

-- what the first row begins with
abbrev pub front_of : List ℕ → List ℕ
front_of said = codes "bec:" ++ session_name (session_end said)

-- what an entry of the table says, in rows, or nothing where there is none
abbrev pub entry_rows : (ℕ → List ℕ) → List ℕ → Option (Marks × List ℕ) → List ℕ
entry_rows value front (Some entry) = laid front (words_of value entry.1)
entry_rows value front None = []

-- what the table says of a habit
abbrev pub habit_rows : (ℕ → List ℕ) → List ℕ → List ℕ
habit_rows value habit = entry_rows value (codes "bec:") (entry_of the_table habit)

-- the line of a text that has a number, and the number
abbrev pub line_marked : List ℕ → Option ℕ → Option (ℕ × List ℕ)
line_marked text None = None
line_marked text (Some number) = option_map (λ line. (number, line)) (line_numbered text number)

-- the line of an operation, and its number
abbrev pub line_operated : List ℕ → Option ℕ → Option (ℕ × List ℕ)
line_operated text None = None
line_operated text (Some operation) = line_of_operation text operation

-- a line as it is shown without a column
abbrev pub shown_alone : Option (ℕ × List ℕ) → List ℕ
shown_alone (Some line) = shown line.0 line.1 None
shown_alone None = []

-- a line as it is shown, and what the table says of a habit in it
abbrev pub marked_rows : (ℕ → List ℕ) → Option ℕ → ℕ → List ℕ → List ℕ
marked_rows value column number line = shown number line column ++ habit_rows value (habit_entry number line column)

-- the line of a refusal and what the table says of a habit in it, or else the line of an operation
abbrev pub excerpt_by : (ℕ → List ℕ) → Marks → List ℕ → Option (ℕ × List ℕ) → List ℕ
excerpt_by value marks text (Some line) = marked_rows value marks.column line.0 line.1
excerpt_by value marks text None = shown_alone (line_operated text marks.operation)

-- the line that a refusal is about, where the text has it; of a line that is too long nothing is shown
unfoldable pub excerpt : (ℕ → List ℕ) → Marks → List ℕ → List ℕ → List ℕ
excerpt value marks key text =
    if is_some marks.line && ends_with nat_eq key (codes "too long") then []
    else excerpt_by value marks text (line_marked text marks.line)

-- what was asked, as plain texts
pub record Setting : Type 0 where
  pub command : List ℕ
  pub directory : List ℕ
  pub other : List ℕ
  pub status : ℕ
  pub text : List ℕ

abbrev pub setting_of : Asked → Setting
setting_of asked = record { command = asked.command.now; directory = asked.directory.now; other = asked.other.now; status = asked.status; text = asked.text.now }

-- what the letters of an entry stand for
abbrev pub value_in : Setting → Marks → ℕ → List ℕ
value_in setting marks = value_of marks (help_on setting.command) setting.directory setting.other

-- an entry in rows, and the line that the refusal is about
abbrev pub explained_by : List ℕ → List ℕ → Setting → Option (Marks × List ℕ) → List ℕ
explained_by front key setting (Some entry) =
    laid front (words_of (value_in setting entry.0) entry.1) ++ excerpt (value_in setting entry.0) entry.0 key setting.text
explained_by front key setting None = []

-- what a line means, and of an empty one the status; nothing where the table has no entry for it
unfoldable pub explained : List ℕ → Setting → List ℕ
explained said setting =
    let key = key_of said setting.status in
    explained_by (front_of said) key setting (entry_for the_table setting.command key)
