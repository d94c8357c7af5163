-- What the letters between braces stand for.
use Rattle.std.specs.Prelude.{ℕ, ◌==◌, List, [], ◌++◌, Option, Some, None, codes, if◌then◌else◌}
use Rattle.std.specs.Fmt.{decimal}
use Rattle.explanations.specs.declared.marks.Marks.{Marks}
use Rattle.explanations.specs.declared.words.TheConstants.{COMMANDS}
use Rattle.explanations.specs.Parts.{stands_among}

-- a number in decimal, where there is one
abbrev pub known : Option ℕ → List ℕ
known None = []
known (Some number) = decimal number

-- What a letter stands for: `C`, `K`, `L` and `N` a number, `D` the directory, `H` how to get help, and `O` the other directory.
abbrev pub value_of : Marks → List ℕ → List ℕ → List ℕ → ℕ → List ℕ
value_of marks help directory other letter =
    if letter == 67 then known marks.column
    else if letter == 68 then directory
    else if letter == 72 then help
    else if letter == 75 then known marks.operation
    else if letter == 76 then known marks.line
    else if letter == 78 then known marks.number
    else if letter == 79 then other
    else []

-- the names of the commands
unfoldable pub commands : List ℕ
commands = COMMANDS.now

-- how to get help on a command
abbrev pub help_on : List ℕ → List ℕ
help_on command =
    if stands_among command commands then codes "`bec help " ++ (command ++ codes "` shows the form")
    else codes "`bec help` lists the commands"
