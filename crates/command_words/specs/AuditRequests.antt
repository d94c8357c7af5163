-- What the words of a command line ask for about keys that signed twice by one index, by rules.
use Rattle.std.specs.Prelude.{◌≡◌, List, [], Some, codes}
use Rattle.clap.specs.Words.{App, Text}
use Rattle.command_words.specs.Requests.{Takes, directory_app, given}
use Rattle.command_words.specs.Words.{command_app}

-- a request about such keys, with the word that names a directory
pub data AuditText : Type 0 where
  audit : Text → AuditText
  confirm : AuditText

-- confirm
abbrev pub confirm_app : App
confirm_app = command_app (codes "confirm") []

-- The words ask for this about such keys.
pub data AsksAudit (words : List Text) : AuditText → Type 0 where
  for_audit : (directory : Text) → Takes (codes "audit") (directory_app (codes "audit")) words
      → given (directory_app (codes "audit")) words (codes "DIR") ≡ Some directory → AsksAudit words (audit directory)
  for_confirm : Takes (codes "confirm") confirm_app words → AsksAudit words confirm
