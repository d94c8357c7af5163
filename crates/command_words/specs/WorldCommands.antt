-- The request about worlds that words are, as it is read.
use Rattle.std.specs.Prelude.{ℕ, ◌^◌, ◌&&◌, List, Option, Some, None, option_map, option_and_then, if◌then◌else◌, bytes_eq, nat_le, nat_lt, slice_get, codes, decimal}
use Rattle.std.specs.Str.Parse.{digits_value, without_leading_plus}
use Rattle.clap.specs.Words.{Row, Text, first_of}
use Rattle.command_words.specs.Words.{is_set, rows_given}
use Rattle.command_words.specs.WorldRequests.{WorldText, demo, demo_app, world, world_app}

-- the number below 2^64 that a word is in decimal
abbrev pub number_of : Text → Option ℕ
number_of word = let number = digits_value 10 (without_leading_plus word) in if bytes_eq word (decimal number) && nat_lt number (2 ^ 64) then Some number else None

-- a number from 4 to 4,000
abbrev pub count_of : ℕ → Option ℕ
count_of number = if nat_le 4 number && nat_le number 4000 then Some number else None

abbrev pub world_asked : List Row → WorldText
world_asked rows = world (is_set (codes "audit") rows)

abbrev pub world_of : List Text → Option WorldText
world_of words = option_map world_asked (rows_given world_app words)

-- the demonstration that two words ask for
abbrev pub demo_with : Option ℕ → Option ℕ → Option WorldText
demo_with number count = option_and_then (λ n. option_map (demo n) (option_and_then count_of count)) number

abbrev pub demo_asked : List Row → Option WorldText
demo_asked rows = demo_with (option_and_then number_of (first_of (codes "NUMBER") rows)) (option_and_then number_of (first_of (codes "COUNT") rows))

abbrev pub demo_of : List Text → Option WorldText
demo_of words = option_and_then demo_asked (rows_given demo_app words)

abbrev pub world_request_named : Text → List Text → Option WorldText
world_request_named first words =
    if bytes_eq first (codes "world") then world_of words
    else if bytes_eq first (codes "demo") then demo_of words
    else None

abbrev pub world_request_of : List Text → Option WorldText
world_request_of words = option_and_then (λ first. world_request_named first words) (slice_get words 0)
