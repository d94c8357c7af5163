-- The request that words are, as it is read: by the first word, and then by what the words give for each argument.
use Rattle.std.specs.Prelude.{List, Option, Some, None, option_map, option_and_then, if◌then◌else◌, bytes_eq, slice_get, codes}
use Rattle.clap.specs.Words.{Row, Text, first_of}
use Rattle.command_words.specs.Requests.{RequestText, heads, check, dump, init, keygen, apply, join, export, query, merge, notes, heads_app, dump_app, directory_app, check_app, keygen_app, apply_app, export_app, query_app, merge_app, height_of, width_of, note_of}
use Rattle.command_words.specs.Words.{is_set, rows_given}

abbrev pub heads_of : List Text → Option RequestText
heads_of words = option_map (λ rows. heads (first_of (codes "DIR") rows)) (rows_given heads_app words)

abbrev pub check_of : List Text → Option RequestText
check_of words = option_map (λ rows. check) (rows_given check_app words)

abbrev pub dump_asked : List Row → RequestText
dump_asked rows = dump (first_of (codes "DIR") rows) (is_set (codes "json") rows)

abbrev pub dump_of : List Text → Option RequestText
dump_of words = option_map dump_asked (rows_given dump_app words)

-- the directory of a command that takes nothing else
abbrev pub directory_of : Text → List Text → Option Text
directory_of name words = option_and_then (first_of (codes "DIR")) (rows_given (directory_app name) words)

abbrev pub init_of : List Text → Option RequestText
init_of words = option_map init (directory_of (codes "init") words)

abbrev pub apply_asked : List Row → Option RequestText
apply_asked rows = option_and_then (λ directory. option_map (λ note. apply directory note) (note_of (first_of (codes "note") rows))) (first_of (codes "DIR") rows)

abbrev pub apply_of : List Text → Option RequestText
apply_of words = option_and_then apply_asked (rows_given apply_app words)

abbrev pub join_of : List Text → Option RequestText
join_of words = option_map join (directory_of (codes "join") words)

abbrev pub keygen_asked : List Row → Option RequestText
keygen_asked rows =
    option_and_then (λ directory. option_and_then (λ height. option_map (λ width. keygen directory height width) (width_of (first_of (codes "width") rows)))
    (height_of (first_of (codes "height") rows))) (first_of (codes "DIR") rows)

abbrev pub keygen_of : List Text → Option RequestText
keygen_of words = option_and_then keygen_asked (rows_given keygen_app words)

abbrev pub export_asked : List Row → Option RequestText
export_asked rows = option_map (λ directory. export directory (is_set (codes "updates") rows)) (first_of (codes "DIR") rows)

abbrev pub export_of : List Text → Option RequestText
export_of words = option_and_then export_asked (rows_given export_app words)

abbrev pub query_asked : List Row → Option RequestText
query_asked rows = option_and_then (λ directory. option_map (λ text. query directory text (is_set (codes "json") rows)) (first_of (codes "TEXT") rows)) (first_of (codes "DIR") rows)

abbrev pub query_of : List Text → Option RequestText
query_of words = option_and_then query_asked (rows_given query_app words)

-- two words that differ
abbrev pub merge_with : Text → Text → Option RequestText
merge_with first second = if bytes_eq first second then None else Some (merge first second)

abbrev pub merge_asked : List Row → Option RequestText
merge_asked rows = option_and_then (λ first. option_and_then (merge_with first) (first_of (codes "OTHER") rows)) (first_of (codes "DIR") rows)

abbrev pub merge_of : List Text → Option RequestText
merge_of words = option_and_then merge_asked (rows_given merge_app words)

abbrev pub notes_of : List Text → Option RequestText
notes_of words = option_map notes (directory_of (codes "notes") words)

abbrev pub request_named : Text → List Text → Option RequestText
request_named first words =
    if bytes_eq first (codes "heads") then heads_of words
    else if bytes_eq first (codes "check") then check_of words
    else if bytes_eq first (codes "dump") then dump_of words
    else if bytes_eq first (codes "init") then init_of words
    else if bytes_eq first (codes "keygen") then keygen_of words
    else if bytes_eq first (codes "apply") then apply_of words
    else if bytes_eq first (codes "join") then join_of words
    else if bytes_eq first (codes "export") then export_of words
    else if bytes_eq first (codes "query") then query_of words
    else if bytes_eq first (codes "merge") then merge_of words
    else if bytes_eq first (codes "notes") then notes_of words
    else None

abbrev pub request_of : List Text → Option RequestText
request_of words = option_and_then (λ first. request_named first words) (slice_get words 0)
