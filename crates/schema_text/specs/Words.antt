-- How faults are named in texts.
use Rattle.std.specs.Prelude.{ℕ, List, ◌++◌, codes}
use Rattle.std.specs.Fmt.{decimal}
use Rattle.schema_text.specs.declared.fault.SchemaFault.{SchemaFault}
use Rattle.schema_text.specs.declared.fault.SchemaKind.{SchemaKind}
use Rattle.schema_text.specs.declared.fault.SchemaKind.TheVariants.{Line, Name, WrongType, Target, MatchKind, BadSample, Limit}

-- the word for what is wrong with a text
abbrev pub kind_word : SchemaKind → List ℕ
kind_word Line = codes "line"
kind_word Name = codes "name"
kind_word WrongType = codes "type"
kind_word Target = codes "target"
kind_word MatchKind = codes "match"
kind_word BadSample = codes "sample"
kind_word Limit = codes "limit"

-- the line and the word
abbrev pub fault_words : SchemaFault → List ℕ
fault_words fault = codes "line " ++ (decimal fault.line ++ (codes ": " ++ kind_word fault.kind))
