-- What the words of a command line ask for, by rules.
use Rattle.std.specs.Prelude.{◌≡◌, ◌≢◌, Bool, true, List, [], ◌∷◌, length, Option, Some, None, if◌then◌else◌, bytes_eq, codes, nat_le}
use Rattle.clap.specs.Words.{App, Text, first_of, matches_of}
use Rattle.lm_ots.specs.declared.ots_type.OtsType.{OtsType}
use Rattle.lm_ots.specs.declared.ots_type.OtsType.TheVariants.{W1, W2, W4, W8}
use Rattle.lms_tree.specs.declared.lms_type.LmsType.{LmsType}
use Rattle.lms_tree.specs.declared.lms_type.LmsType.TheVariants.{H5, H10, H15}
use Rattle.update_model.specs.declared.limits.TheConstants.{MAX_NOTE}
use Rattle.command_words.specs.Words.{command_app, flag, is_set, is_taken, needed, position, value}

-- a request, with the words that name directories, and that of a query
pub data RequestText : Type 0 where
  heads : Option Text → RequestText
  check : RequestText
  dump : Option Text → Bool → RequestText
  init : Text → RequestText
  keygen : Text → LmsType → OtsType → RequestText
  apply : Text → Option Text → RequestText
  join : Text → RequestText
  export : Text → Bool → RequestText
  query : Text → Text → Bool → RequestText
  merge : Text → Text → RequestText
  notes : Text → RequestText

-- ---- the arguments of each command

-- heads [DIR]
abbrev pub heads_app : App
heads_app = command_app (codes "heads") (position (codes "DIR") ∷ [])

-- dump [DIR] [--json]
abbrev pub dump_app : App
dump_app = command_app (codes "dump") (position (codes "DIR") ∷ flag (codes "json") ∷ [])

-- NAME DIR
abbrev pub directory_app : Text → App
directory_app name = command_app name (needed (position (codes "DIR")) ∷ [])

-- check
abbrev pub check_app : App
check_app = command_app (codes "check") []

-- keygen DIR [--height H] [--width W]
abbrev pub keygen_app : App
keygen_app = command_app (codes "keygen") (needed (position (codes "DIR")) ∷ value (codes "height") ∷ value (codes "width") ∷ [])

-- apply DIR [--note TEXT]
abbrev pub apply_app : App
apply_app = command_app (codes "apply") (needed (position (codes "DIR")) ∷ value (codes "note") ∷ [])

-- export DIR [--updates]
abbrev pub export_app : App
export_app = command_app (codes "export") (needed (position (codes "DIR")) ∷ flag (codes "updates") ∷ [])

-- query DIR TEXT [--json]
abbrev pub query_app : App
query_app = command_app (codes "query") (needed (position (codes "DIR")) ∷ needed (position (codes "TEXT")) ∷ flag (codes "json") ∷ [])

-- merge DIR OTHER
abbrev pub merge_app : App
merge_app = command_app (codes "merge") (needed (position (codes "DIR")) ∷ needed (position (codes "OTHER")) ∷ [])

-- the height that a word writes: 10 where there is none
abbrev pub height_of : Option Text → Option LmsType
height_of None = Some H10
height_of (Some word) =
    if bytes_eq word (codes "5") then Some H5
    else if bytes_eq word (codes "10") then Some H10
    else if bytes_eq word (codes "15") then Some H15
    else None

-- the width that a word writes: 4 where there is none
abbrev pub width_of : Option Text → Option OtsType
width_of None = Some W4
width_of (Some word) =
    if bytes_eq word (codes "1") then Some W1
    else if bytes_eq word (codes "2") then Some W2
    else if bytes_eq word (codes "4") then Some W4
    else if bytes_eq word (codes "8") then Some W8
    else None

-- the note that a word is, or none where there is no word; a word that is too long is no note
abbrev pub note_of : Option Text → Option (Option Text)
note_of None = Some None
note_of (Some word) = if nat_le (length word) MAX_NOTE then Some (Some word) else None

-- ---- the rules

-- The first of the words is this name, and the command takes them all.
pub record Takes (name : Text) (app : App) (words : List Text) : Type 0 where
  pub rest : List Text
  pub named : words ≡ name ∷ rest
  pub taken : is_taken app words ≡ true

-- the word that is given for an argument, where the command takes the words
abbrev pub given : App → List Text → Text → Option Text
given app words name = first_of name (matches_of app words)

-- The words ask for this.
pub data Asks (words : List Text) : RequestText → Type 0 where
  for_heads : Takes (codes "heads") heads_app words → Asks words (heads (given heads_app words (codes "DIR")))
  for_check : Takes (codes "check") check_app words → Asks words check
  for_dump : Takes (codes "dump") dump_app words
      → Asks words (dump (given dump_app words (codes "DIR")) (is_set (codes "json") (matches_of dump_app words)))
  for_init : (directory : Text) → Takes (codes "init") (directory_app (codes "init")) words
      → given (directory_app (codes "init")) words (codes "DIR") ≡ Some directory → Asks words (init directory)
  for_keygen : (directory : Text) (height : LmsType) (width : OtsType) → Takes (codes "keygen") keygen_app words
      → given keygen_app words (codes "DIR") ≡ Some directory → height_of (given keygen_app words (codes "height")) ≡ Some height
      → width_of (given keygen_app words (codes "width")) ≡ Some width → Asks words (keygen directory height width)
  for_apply : (directory : Text) (note : Option Text) → Takes (codes "apply") apply_app words → given apply_app words (codes "DIR") ≡ Some directory
      → note_of (given apply_app words (codes "note")) ≡ Some note → Asks words (apply directory note)
  for_join : (directory : Text) → Takes (codes "join") (directory_app (codes "join")) words
      → given (directory_app (codes "join")) words (codes "DIR") ≡ Some directory → Asks words (join directory)
  for_export : (directory : Text) → Takes (codes "export") export_app words → given export_app words (codes "DIR") ≡ Some directory
      → Asks words (export directory (is_set (codes "updates") (matches_of export_app words)))
  for_query : (directory text : Text) → Takes (codes "query") query_app words → given query_app words (codes "DIR") ≡ Some directory
      → given query_app words (codes "TEXT") ≡ Some text → Asks words (query directory text (is_set (codes "json") (matches_of query_app words)))
  for_merge : (first second : Text) → Takes (codes "merge") merge_app words → given merge_app words (codes "DIR") ≡ Some first
      → given merge_app words (codes "OTHER") ≡ Some second → first ≢ second → Asks words (merge first second)
  for_notes : (directory : Text) → Takes (codes "notes") (directory_app (codes "notes")) words
      → given (directory_app (codes "notes")) words (codes "DIR") ≡ Some directory → Asks words (notes directory)
