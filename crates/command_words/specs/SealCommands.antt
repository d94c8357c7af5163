-- The request about seals that words are, as it is read: by the first word, and then by what the words give for each argument.
use Rattle.std.specs.Prelude.{List, Option, None, option_map, option_and_then, if◌then◌else◌, bytes_eq, slice_get, codes}
use Rattle.clap.specs.Words.{Row, Text, first_of}
use Rattle.text_words.specs.Hexadecimal.{block_of_hex}
use Rattle.command_words.specs.Commands.{directory_of}
use Rattle.command_words.specs.Requests.{width_of}
use Rattle.command_words.specs.SealRequests.{SealText, hex_bytes, hsskey, hsskey_app, level_height_of, seal, unseal, unseal_app}
use Rattle.command_words.specs.Words.{rows_given}

abbrev pub hsskey_asked : List Row → Option SealText
hsskey_asked rows =
    option_and_then (λ directory. option_and_then (λ height. option_map (λ width. hsskey directory height width) (width_of (first_of (codes "width") rows)))
    (level_height_of (first_of (codes "height") rows))) (first_of (codes "DIR") rows)

abbrev pub hsskey_of : List Text → Option SealText
hsskey_of words = option_and_then hsskey_asked (rows_given hsskey_app words)

abbrev pub seal_of : List Text → Option SealText
seal_of words = option_map seal (directory_of (codes "seal") words)

-- of a key and a signature that two words write
abbrev pub unseal_with : Text → Text → Option SealText
unseal_with key signature = option_and_then (λ k. option_map (unseal k) (hex_bytes signature)) (block_of_hex 60 key)

abbrev pub unseal_asked : List Row → Option SealText
unseal_asked rows = option_and_then (λ key. option_and_then (unseal_with key) (first_of (codes "SIG") rows)) (first_of (codes "KEY") rows)

abbrev pub unseal_of : List Text → Option SealText
unseal_of words = option_and_then unseal_asked (rows_given unseal_app words)

abbrev pub seal_request_named : Text → List Text → Option SealText
seal_request_named first words =
    if bytes_eq first (codes "hsskey") then hsskey_of words
    else if bytes_eq first (codes "seal") then seal_of words
    else if bytes_eq first (codes "unseal") then unseal_of words
    else None

abbrev pub seal_request_of : List Text → Option SealText
seal_request_of words = option_and_then (λ first. seal_request_named first words) (slice_get words 0)
