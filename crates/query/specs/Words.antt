-- How faults are named in texts.
use Rattle.std.specs.Prelude.{ℕ, List, ◌++◌, codes}
use Rattle.std.specs.Fmt.{decimal}
use Rattle.query.specs.declared.fault.QueryFault.{QueryFault}
use Rattle.query.specs.declared.fault.QueryKind.{QueryKind}
use Rattle.query.specs.declared.fault.QueryKind.TheVariants.{UnknownWord, NotAValue, UnknownTable, UnknownColumn, TypesDiffer, NotUtf8, TooLong}

-- the words for what is wrong with a text
abbrev pub kind_words : QueryKind → List ℕ
kind_words UnknownWord = codes "unknown word"
kind_words NotAValue = codes "not a value"
kind_words UnknownTable = codes "unknown table"
kind_words UnknownColumn = codes "unknown column"
kind_words TypesDiffer = codes "types differ"
kind_words NotUtf8 = codes "not utf-8"
kind_words TooLong = codes "too long"

-- the line, the column and the words
abbrev pub fault_words : QueryFault → List ℕ
fault_words fault = decimal fault.line ++ (codes ":" ++ (decimal fault.column ++ (codes ": " ++ kind_words fault.kind)))
