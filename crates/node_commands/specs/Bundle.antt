-- What a bundle is, and what its tables are.
use Rattle.std.specs.Prelude.{◌≡◌, ◌⊎◌, ℕ, ◌≤◌, Bool, cond, List, [], length, map, drop, Contains, IsTrue, Some, Err}
use Rattle.std.specs.declared.option.Option.{Option}
use Rattle.std.specs.List.{list_all}
use Rattle.bec_bytes.specs.Framed.{HoldsPiece, IsCut, IsTooLong}
use Rattle.bec_bytes.specs.Moved.{IfTold}
use Rattle.update_model.specs.declared.update_id.UpdateId.{UpdateId}
use Rattle.update_model.specs.Graph.{AreHeads, HaveSameMembers}
use Rattle.update_model.specs.Node.{NodeData}
use Rattle.update_codec.specs.Parts.{entry_of}
use Rattle.update_check.specs.Members.{AreMembers}
use Rattle.head_set.specs.Grown.{NoCollision}
use Rattle.update_stream.specs.declared.reading.Reading.TheVariants.{Whole, Refused}
use Rattle.update_stream.specs.declared.record_fault.RecordFault.{RecordFault}
use Rattle.update_stream.specs.Told.{Reads}
use Rattle.schema_text.specs.declared.fault.SchemaKind.TheVariants as faults
use Rattle.schema_text.specs.declared.limits.TheConstants.{MAX_SCHEMA_BYTES}
use Rattle.table_model.specs.declared.shown_row.ShownRow.{ShownRow}
use Rattle.table_model.specs.declared.void_line.VoidLine.{VoidLine}
use Rattle.table_model.specs.Invariants.{Declared, claim_holds, invariants_of, shown_in}
use Rattle.schema.specs.Data.{SchemaData}
use Rattle.table_model.specs.Tables.{AreTablesOf}
use Rattle.schema.specs.Columns.{all_fit}
use Rattle.table_model.specs.Visible.{table_of}
use Rattle.table_text.specs.Tables.{tables_text}
use Rattle.query_answer.specs.TablesJson.{tables_json_text}
use Rattle.outcomes.specs.declared.refusal.Refusal.{Refusal}
use Rattle.outcomes.specs.declared.refusal.Refusal.TheVariants.{CutSchema, Record, Schema}
use Rattle.row_check.specs.Checksum.{is_luhn}
use Rattle.confluence_test.specs.Taking.{RefusesSchema, TakesSchema}
use Rattle.confluence_test.specs.declared.refusal.SchemaRefusal.{SchemaRefusal}
use Rattle.outcomes.specs.Outcome.{Outcome, from_taking}
use Rattle.schema_verdict.specs.Verdict.{Prints}
use Rattle.outcomes.specs.Rules.{rules_of, nodes_of}

-- Whatever other members have the same heads, where one id means one update, they are the same set, and these are their tables.
abbrev pub AreOfHeads : SchemaData → List (List ℕ) → List (List ShownRow) → List VoidLine → Type 0
AreOfHeads schema members tables voids =
    (others : List (List ℕ)) (heads : List UpdateId) → AreMembers schema.rule others → NoCollision (map entry_of members) (map entry_of others)
    → AreHeads (map entry_of members) heads → AreHeads (map entry_of others) heads
    → HaveSameMembers (map entry_of members) (map entry_of others)
    × AreTablesOf (rules_of schema) (nodes_of others) tables voids

-- The tables of members: every invariant holds in them, every shown row fits its columns, and the heads determine them.
pub record HasTables (schema : SchemaData) (members : List (List ℕ)) (tables : List (List ShownRow)) (voids : List VoidLine) : Type 0 where
  pub taken : AreMembers schema.rule members
  pub are : AreTablesOf (rules_of schema) (nodes_of members) tables voids
  pub hold : (declared : Declared) → Contains (invariants_of (rules_of schema)) declared → IsTrue (claim_holds (rules_of schema) (shown_in (rules_of schema) (nodes_of members)) declared.claim)
  pub fit : IsTrue (list_all (λ row. all_fit (table_of (rules_of schema) row.table).columns row.values) (shown_in (rules_of schema) (nodes_of members)))
  pub determined : AreOfHeads schema members tables voids

-- A source gave this text behind its length, and no more.
abbrev pub HoldsText : Option (List ℕ) → Option (List ℕ) → List ℕ → Type 0
HoldsText before after text = (length text ≤ MAX_SCHEMA_BYTES) × IfTold before after (λ input rest. HoldsPiece MAX_SCHEMA_BYTES input text rest)

-- The input is empty, or it ends inside the schema that it begins with: in the four bytes of its length, or in its text.
abbrev pub IsCutSchema : List ℕ → Type 0
IsCutSchema input = (input ≡ []) ⊎ IsCut MAX_SCHEMA_BYTES input

-- No schema stands at the front: the bundle ends inside it, or it is too long, and then its length alone is read.
abbrev pub LacksText : Option (List ℕ) → Option (List ℕ) → Refusal → Type 0
LacksText before after refusal =
    (IfTold before after (λ input rest. IsCutSchema input × (rest ≡ [])) × (refusal ≡ CutSchema))
    ⊎ (IfTold before after (λ input rest. IsTooLong MAX_SCHEMA_BYTES input × (rest ≡ drop 4 input)) × (refusal ≡ Schema (record { kind = faults.Limit; line = 0 })))

-- the text of tables and of the updates that do nothing: JSON, or a line for each
abbrev pub dump_text : Bool → SchemaData → List (List ShownRow) → List VoidLine → List ℕ
dump_text json schema tables voids = cond json (tables_json_text schema.tables tables voids) (tables_text schema.tables tables voids)

-- These are the tables of the members, and this is their text.
abbrev pub PrintsTables : (json : Bool) → SchemaData → List (List ℕ) → List ℕ → Type 0
PrintsTables json schema members text = (tables : List (List ShownRow)) × ((voids : List VoidLine) × HasTables schema members tables voids × (text ≡ dump_text json schema tables voids))

-- This is the text of tables of these nodes.
abbrev pub ShowsState : (json : Bool) → SchemaData → List NodeData → List ℕ → Type 0
ShowsState json schema nodes text = (tables : List (List ShownRow)) × ((voids : List VoidLine) × AreTablesOf (rules_of schema) nodes tables voids × (text ≡ dump_text json schema tables voids))

-- What follows a schema is a stream under its rule, and the tables of its graph are printed; or a record of it is refused.
pub data RecordsAnswer (json : Bool) (schema : SchemaData) (before after : Option (List ℕ)) (outcome : Outcome) : Type 0 where
  whole : (members : List (List ℕ)) (text : List ℕ) → Reads (Some schema.rule) before after (Whole members) → (AreMembers schema.rule members → PrintsTables json schema members text)
      → Prints outcome text → RecordsAnswer json schema before after outcome
  stopped : (n : ℕ) (fault : RecordFault) → Reads (Some schema.rule) before after (Refused n fault) → outcome ≡ Err (Record n fault) → RecordsAnswer json schema before after outcome

-- The text of a schema is taken, and what follows is answered; or it is refused, and no more is read.
pub data TextAnswer (json : Bool) (declared : List ℕ) (before after : Option (List ℕ)) (outcome : Outcome) : Type 0 where
  taken : (schema : SchemaData) → TakesSchema is_luhn declared schema → RecordsAnswer json schema before after outcome → TextAnswer json declared before after outcome
  refused : (why : SchemaRefusal) → RefusesSchema is_luhn declared why → after ≡ before → outcome ≡ Err (from_taking why) → TextAnswer json declared before after outcome

-- A bundle holds the text of a schema, which is answered with what follows it; or it lacks one.
pub data DumpAnswer (json : Bool) (before after : Option (List ℕ)) (outcome : Outcome) : Type 0 where
  holds : (declared : List ℕ) (mid : Option (List ℕ)) → HoldsText before mid declared → TextAnswer json declared mid after outcome → DumpAnswer json before after outcome
  lacks : (refusal : Refusal) → LacksText before after refusal → outcome ≡ Err refusal → DumpAnswer json before after outcome
