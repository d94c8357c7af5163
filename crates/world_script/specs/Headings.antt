-- The line that says what world there is: `WORLD replicas height width number`.
use Rattle.std.specs.Prelude.{ℕ, ◌+◌, ◌==◌, Bool, List, Option, Some, None, option_and_then, if◌then◌else◌, bytes_eq, codes}
use Rattle.lm_ots.specs.declared.ots_type.OtsType.{OtsType}
use Rattle.lm_ots.specs.declared.ots_type.OtsType.TheVariants.{W1, W2, W4, W8}
use Rattle.lms_tree.specs.declared.lms_type.LmsType.{LmsType}
use Rattle.lms_tree.specs.declared.lms_type.LmsType.TheVariants.{H5, H10, H15}
use Rattle.world_script.specs.declared.heading.Heading.{Heading}
use Rattle.world_script.specs.declared.limits.TheConstants.{MAX_REPLICAS}
use Rattle.world_script.specs.Words.{is_end, next_word, number_at, number_below}

-- the first word of a line is `WORLD`
abbrev pub begins_world : List ℕ → Bool
begins_world line = bytes_eq (next_word line).0 (codes "WORLD")

-- from 1 to 16 replicas, and what stands after their number
abbrev pub replica_count : List ℕ → Option (ℕ × List ℕ)
replica_count rest = option_and_then (λ read. if read.0 == 0 then None else Some read) (number_below (MAX_REPLICAS + 1) rest)

-- trees of a height
abbrev pub lms_of : List ℕ → Option LmsType
lms_of word =
    if bytes_eq word (codes "5") then Some H5
    else if bytes_eq word (codes "10") then Some H10
    else if bytes_eq word (codes "15") then Some H15
    else None

-- one-time signatures of a width
abbrev pub ots_of : List ℕ → Option OtsType
ots_of word =
    if bytes_eq word (codes "1") then Some W1
    else if bytes_eq word (codes "2") then Some W2
    else if bytes_eq word (codes "4") then Some W4
    else if bytes_eq word (codes "8") then Some W8
    else None

-- what the words after `WORLD` say
abbrev pub heading_after : List ℕ → Option Heading
heading_after rest =
    option_and_then (λ count.
    let height = next_word count.1 in option_and_then (λ lms.
    let width = next_word height.1 in option_and_then (λ ots.
    option_and_then (λ number.
    if is_end number.1 then Some (record { replicas = count.0; lms = lms; ots = ots; number = number.0 }) else None)
    (number_at width.1)) (ots_of width.0)) (lms_of height.0)) (replica_count rest)

-- what a line says whose first word is `WORLD`
abbrev pub heading_of : List ℕ → Option Heading
heading_of line = heading_after (next_word line).1
