-- What is read of a bundle.
use Rattle.std.specs.Prelude.{◌≡◌, ◌⊎◌, ℕ, Bool, true, false, List, [], drop, Option, Some, Err}
use Rattle.bec_bytes.specs.Framed.{HoldsPiece, IsCut, IsTooLong}
use Rattle.bec_bytes.specs.Moved.{IfTold}
use Rattle.confluence_test.specs.Taking.{RefusesSchema, TakesSchema}
use Rattle.confluence_test.specs.declared.refusal.SchemaRefusal.{SchemaRefusal}
use Rattle.graph_drawing.specs.Told.{Told}
use Rattle.log_texts.specs.declared.entry.Entry.{Entry}
use Rattle.log_texts.specs.Entries.{AreEntries}
use Rattle.node_commands.specs.Bundle.{HoldsText, LacksText}
use Rattle.outcomes.specs.declared.refusal.Refusal.{Refusal}
use Rattle.outcomes.specs.declared.refusal.Refusal.TheVariants.{CutSchema, Record}
use Rattle.outcomes.specs.Outcome.{Outcome, from_taking}
use Rattle.outcomes.specs.Rules.{nodes_of, rules_of}
use Rattle.row_check.specs.Checksum.{is_luhn}
use Rattle.schema.specs.Data.{SchemaData}
use Rattle.update_stream.specs.declared.reading.Reading.TheVariants.{Whole, Refused}
use Rattle.update_stream.specs.declared.record_fault.RecordFault.{RecordFault}
use Rattle.update_stream.specs.Told.{Reads}
use Rattle.look_commands.specs.declared.differing.TheConstants.{MAX_FIRST_BYTES}
use Rattle.look_commands.specs.Telling.{IsToldOf}

-- A bundle declares this schema, and what follows it is a stream under its rule, whose graph has these members.
pub data BundleHeld (before after : Option (List ℕ)) (schema : SchemaData) (members : List (List ℕ)) : Type 0 where
  held : (declared : List ℕ) (mid : Option (List ℕ)) → HoldsText before mid declared → TakesSchema is_luhn declared schema → Reads (Some schema.rule) mid after (Whole members)
      → BundleHeld before after schema members

-- A bundle lacks the text of a schema; or that is refused, and no more is read; or a record behind it is refused.
pub data BundleRefused (before after : Option (List ℕ)) (refusal : Refusal) : Type 0 where
  lacks : LacksText before after refusal → BundleRefused before after refusal
  refused : (declared : List ℕ) (why : SchemaRefusal) → HoldsText before after declared → RefusesSchema is_luhn declared why → refusal ≡ from_taking why → BundleRefused before after refusal
  stopped : (declared : List ℕ) (mid : Option (List ℕ)) (schema : SchemaData) (n : ℕ) (fault : RecordFault) → HoldsText before mid declared → TakesSchema is_luhn declared schema
      → Reads (Some schema.rule) mid after (Refused n fault) → refusal ≡ Record n fault → BundleRefused before after refusal

-- This is answered to the members of a bundle under its schema; or it is refused.
pub data BundleShown (Answers : SchemaData → List (List ℕ) → Outcome → Type 0) (before after : Option (List ℕ)) (outcome : Outcome) : Type 0 where
  shows : (schema : SchemaData) (members : List (List ℕ)) → BundleHeld before after schema members → Answers schema members outcome → BundleShown Answers before after outcome
  refuses : (refusal : Refusal) → BundleRefused before after refusal → outcome ≡ Err refusal → BundleShown Answers before after outcome

-- ---- the first of two bundles

-- The input is this bundle behind its length, which is within the limit, and then what is left.
abbrev pub HoldsFirst : Option (List ℕ) → Option (List ℕ) → List ℕ → Type 0
HoldsFirst before after bundle = IfTold before after (λ input rest. HoldsPiece MAX_FIRST_BYTES input bundle rest)

-- The input is empty, or it ends inside the bundle that it begins with, or that is too long, and then its length alone is read.
abbrev pub LacksFirst : Option (List ℕ) → Option (List ℕ) → Type 0
LacksFirst before after =
    IfTold before after (λ input rest. (((input ≡ []) ⊎ IsCut MAX_FIRST_BYTES input) × (rest ≡ [])) ⊎ (IsTooLong MAX_FIRST_BYTES input × (rest ≡ drop 4 input)))

-- A bundle that declares this schema and has these members is read, behind its length or alone.
abbrev pub BundleRead : (framed : Bool) → Option (List ℕ) → Option (List ℕ) → SchemaData → List (List ℕ) → Type 0
BundleRead true before after schema members = (bundle : List ℕ) × (left : Option (List ℕ)) × HoldsFirst before after bundle × BundleHeld (Some bundle) left schema members
BundleRead false before after schema members = BundleHeld before after schema members

-- There is none, which is told as of one that lacks a schema; or it is refused. Of one behind its length no more is read.
abbrev pub BundleLacks : (framed : Bool) → Option (List ℕ) → Option (List ℕ) → Refusal → Type 0
BundleLacks true before after refusal = (LacksFirst before after × (refusal ≡ CutSchema))
    ⊎ ((bundle : List ℕ) × (left : Option (List ℕ)) × HoldsFirst before after bundle × BundleRefused (Some bundle) left refusal)
BundleLacks false before after refusal = BundleRefused before after refusal

-- These are the entries of members, the newest first, with what is told of them.
abbrev pub AreEntriesOf : SchemaData → List (List ℕ) → List Entry → Type 0
AreEntriesOf schema members entries = (told : Told) × IsToldOf (rules_of schema) members told × AreEntries (nodes_of members) told entries
