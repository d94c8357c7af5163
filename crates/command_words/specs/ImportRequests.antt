-- What the words of a command line ask for that brings updates into a directory, as a function of them.
use Rattle.std.specs.Prelude.{List, [], ◌∷◌, Option, None, option_map, option_and_then, if◌then◌else◌, bytes_eq, slice_get, codes}
use Rattle.clap.specs.Words.{App, Row, Text, first_of}
use Rattle.command_words.specs.Commands.{directory_of}
use Rattle.command_words.specs.Words.{command_app, needed, position, rows_given}

-- A request that brings updates into a directory, with the words that name directories: the bundle that is read is taken into one; a store is made of that
-- bundle; or of the store of another directory.
pub data ImportText : Type 0 where
  Import : Text → ImportText
  CloneBundle : Text → ImportText
  CloneStore : (from directory : Text) → ImportText

-- clone FROM DIR
abbrev pub clone_app : App
clone_app = command_app (codes "clone") (needed (position (codes "FROM")) ∷ needed (position (codes "DIR")) ∷ [])

abbrev pub import_of : List Text → Option ImportText
import_of words = option_map Import (directory_of (codes "import") words)

-- to clone what a word names into a directory; `-` is the bundle that is read
abbrev pub clone_with : Text → Text → ImportText
clone_with directory from = if bytes_eq from (codes "-") then CloneBundle directory else CloneStore from directory

abbrev pub clone_asked : List Row → Option ImportText
clone_asked rows = option_and_then (λ from. option_map (λ directory. clone_with directory from) (first_of (codes "DIR") rows)) (first_of (codes "FROM") rows)

abbrev pub clone_of : List Text → Option ImportText
clone_of words = option_and_then clone_asked (rows_given clone_app words)

abbrev pub import_request_named : Text → List Text → Option ImportText
import_request_named first words =
    if bytes_eq first (codes "import") then import_of words
    else if bytes_eq first (codes "clone") then clone_of words
    else None

-- what words ask for that brings updates into a directory
abbrev pub import_request_of : List Text → Option ImportText
import_request_of words = option_and_then (λ first. import_request_named first words) (slice_get words 0)
