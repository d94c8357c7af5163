-- The request to watch a query that words are, as it is read.
use Rattle.std.specs.Prelude.{ℕ, ◌&&◌, List, ℤ, pos, negsuc, Option, Some, None, option_map, option_and_then, if◌then◌else◌, bytes_eq, nat_le, slice_get, codes}
use Rattle.clap.specs.Words.{Row, Text, first_of}
use Rattle.text_words.specs.Integers.{int_of}
use Rattle.command_words.specs.WatchRequests.{WatchText, watch, watch_app}
use Rattle.command_words.specs.Words.{rows_given}

-- an integer from 1 to 4,096
abbrev pub count_of : Option ℤ → Option ℕ
count_of (Some (pos n)) = if nat_le 1 n && nat_le n 4096 then Some n else None
count_of (Some (negsuc n)) = None
count_of None = None

-- the number of lines that a word writes, which is 1 where there is none
abbrev pub every_of : Option Text → Option ℕ
every_of (Some word) = count_of (int_of word)
every_of None = Some 1

abbrev pub watch_asked : List Row → Option WatchText
watch_asked rows =
    option_and_then (λ directory. option_and_then (λ text. option_map (watch directory text) (every_of (first_of (codes "every") rows))) (first_of (codes "TEXT") rows))
    (first_of (codes "DIR") rows)

abbrev pub watch_of : List Text → Option WatchText
watch_of words = option_and_then watch_asked (rows_given watch_app words)

abbrev pub watch_request_named : Text → List Text → Option WatchText
watch_request_named first words = if bytes_eq first (codes "watch") then watch_of words else None

abbrev pub watch_request_of : List Text → Option WatchText
watch_request_of words = option_and_then (λ first. watch_request_named first words) (slice_get words 0)
