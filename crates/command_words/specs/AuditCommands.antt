-- The request about keys that signed twice that words are, as it is read.
use Rattle.std.specs.Prelude.{List, Option, None, option_map, option_and_then, if◌then◌else◌, bytes_eq, slice_get, codes}
use Rattle.clap.specs.Words.{Text}
use Rattle.command_words.specs.AuditRequests.{AuditText, audit, confirm, confirm_app}
use Rattle.command_words.specs.Commands.{directory_of}
use Rattle.command_words.specs.Words.{rows_given}

abbrev pub audit_of : List Text → Option AuditText
audit_of words = option_map audit (directory_of (codes "audit") words)

abbrev pub confirm_of : List Text → Option AuditText
confirm_of words = option_map (λ rows. confirm) (rows_given confirm_app words)

abbrev pub audit_request_named : Text → List Text → Option AuditText
audit_request_named first words =
    if bytes_eq first (codes "audit") then audit_of words
    else if bytes_eq first (codes "confirm") then confirm_of words
    else None

abbrev pub audit_request_of : List Text → Option AuditText
audit_request_of words = option_and_then (λ first. audit_request_named first words) (slice_get words 0)
