-- How faults are named in texts.
use Rattle.std.specs.Prelude.{ℕ, List, ◌++◌, codes}
use Rattle.std.specs.Fmt.{decimal}
use Rattle.txn_text.specs.declared.fault.TextFault.{TextFault}
use Rattle.txn_text.specs.declared.fault.TextKind.{TextKind}
use Rattle.txn_text.specs.declared.fault.TextKind.TheVariants.{UnknownWord, UnknownTable, NotAValue, TextTooLong, LaterLine, WrongNumber, TooManyOperations, NotUtf8, TooLong}

-- the words for what is wrong with a text
abbrev pub kind_words : TextKind → List ℕ
kind_words UnknownWord = codes "unknown word"
kind_words UnknownTable = codes "unknown table"
kind_words NotAValue = codes "not a value"
kind_words TextTooLong = codes "text too long"
kind_words LaterLine = codes "later line"
kind_words WrongNumber = codes "wrong number of values"
kind_words TooManyOperations = codes "too many operations"
kind_words NotUtf8 = codes "not utf-8"
kind_words TooLong = codes "too long"

-- the line, the column and the words
abbrev pub fault_words : TextFault → List ℕ
fault_words fault = decimal fault.line ++ (codes ":" ++ (decimal fault.column ++ (codes ": " ++ kind_words fault.kind)))
