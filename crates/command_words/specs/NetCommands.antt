-- The request for a net that words are, as it is read: by the first word, and then by what the words give for each argument.
use Rattle.std.specs.Prelude.{ℕ, ◌-◌, ◌&&◌, List, [], ◌∷◌, Option, Some, None, option_map, option_and_then, if◌then◌else◌, bytes_eq, nat_le, slice_get, codes}
use Rattle.clap.specs.Words.{Row, Text, first_of}
use Rattle.command_words.specs.NetRequests.{NetText, sync, serve, sync_app, serve_app}
use Rattle.command_words.specs.Words.{rows_given}

abbrev pub sync_asked : List Row → Option NetText
sync_asked rows = option_and_then (λ directory. option_map (sync directory) (first_of (codes "ADDR") rows)) (first_of (codes "DIR") rows)

abbrev pub sync_of : List Text → Option NetText
sync_of words = option_and_then sync_asked (rows_given sync_app words)

-- the number of sessions that a word writes: one digit, from 1 to 8
abbrev pub session_count : Text → Option ℕ
session_count [] = None
session_count (digit ∷ []) = if nat_le 49 digit && nat_le digit 56 then Some (digit - 48) else None
session_count (digit ∷ other ∷ more) = None

abbrev pub serve_asked : List Row → Option NetText
serve_asked rows =
    option_and_then (λ directory. option_and_then (λ address. option_map (serve directory address) (option_and_then session_count (first_of (codes "sessions") rows)))
    (first_of (codes "ADDR") rows)) (first_of (codes "DIR") rows)

abbrev pub serve_of : List Text → Option NetText
serve_of words = option_and_then serve_asked (rows_given serve_app words)

abbrev pub net_request_named : Text → List Text → Option NetText
net_request_named first words =
    if bytes_eq first (codes "sync") then sync_of words
    else if bytes_eq first (codes "serve") then serve_of words
    else None

abbrev pub net_request_of : List Text → Option NetText
net_request_of words = option_and_then (λ first. net_request_named first words) (slice_get words 0)
