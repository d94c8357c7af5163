-- What is printed of a schema that is refused.
use Rattle.std.specs.Prelude.{ℕ, List, [], ◌∷◌, ◌++◌, codes}
use Rattle.std.specs.Fmt.{decimal}
use Rattle.schema_text.specs.Words.{fault_words}
use Rattle.schema_text.specs.declared.fault.SchemaFault.{SchemaFault}
use Rattle.schema.specs.declared.table_def.TableDef.{TableDef}
use Rattle.table_model.specs.declared.counterexample.Counterexample.{Counterexample}
use Rattle.table_model.specs.declared.invariant.Invariant.{Invariant}
use Rattle.table_text.specs.Examples.{example_text}

-- the line for a text with this fault
abbrev pub schema_text : SchemaFault → List ℕ
schema_text fault = codes "! schema " ++ (fault_words fault ++ 10 ∷ [])

-- the lines for the first invariant that does not survive merging: where it stands, and the counterexample
abbrev pub refused_text : List TableDef → Invariant → Counterexample → List ℕ
refused_text tables which example = codes "! not confluent line " ++ decimal which.line ++ (10 ∷ example_text tables example)
