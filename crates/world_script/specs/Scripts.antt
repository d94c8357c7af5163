-- Which texts are scripts, and the first fault of those that are none.
use Rattle.std.specs.Prelude.{◌≡◌, ℕ, zero, suc, ◌+◌, ◌<◌, ◌≤◌, false, List, [], ◌∷◌, length, drop, Some, None, if◌then◌else◌, ◌⊎◌}
use Rattle.std.specs.List.{position_or_len}
use Rattle.text_words.specs.Lines.{Begins, is_lf, lines_of}
use Rattle.schema.specs.Data.{Meaning, SchemaData}
use Rattle.schema_text.specs.Schemas.{Declares, FirstFault as FirstSchemaFault}
use Rattle.world_script.specs.declared.fault.ScriptFault.{ScriptFault}
use Rattle.world_script.specs.declared.fault.ScriptFault.TheVariants.{Schema, AtLine}
use Rattle.world_script.specs.declared.heading.Heading.{Heading}
use Rattle.world_script.specs.declared.limits.TheConstants.{MAX_SCRIPT_BYTES}
use Rattle.world_script.specs.declared.line.Line.{Line}
use Rattle.world_script.specs.declared.place.Place.{Place}
use Rattle.world_script.specs.declared.script.Script.{Script}
use Rattle.world_script.specs.Headings.{begins_world, heading_of}
use Rattle.world_script.specs.Lines.{Says, place_after}

-- ---- the schema, and what follows it

-- the first n lines of a text, with what ends them
unfoldable pub first_lines : ℕ → List ℕ → List ℕ
first_lines zero text = []
first_lines (suc n) [] = []
first_lines (suc n) (byte ∷ rest) = byte ∷ first_lines (if is_lf byte then n else suc n) rest

-- how many lines come before the line `WORLD`: all where there is no such line
abbrev pub lines_before : List ℕ → ℕ
lines_before text = position_or_len begins_world (lines_of text)

-- the text of the schema
abbrev pub schema_part : List ℕ → List ℕ
schema_part text = first_lines (lines_before text) text

-- the line `WORLD` and those after it
abbrev pub body : List ℕ → List (List ℕ)
body text = drop (lines_before text) (lines_of text)

-- The first line of a text does not begin with `WORLD`, and this follows it.
pub record IsPassed (text after : List ℕ) : Type 0 where
  pub line : List ℕ
  pub begins : Begins text line after
  pub other : begins_world line ≡ false
  pub shorter : length after < length text

-- A text is divided into its schema, the number of the line after it, and what is left.
pub record IsDivided (text schema : List ℕ) (line : ℕ) (left : List ℕ) : Type 0 where
  pub front : schema ≡ schema_part text
  pub number : line ≡ lines_before text + 1
  pub rest : lines_of left ≡ body text
  pub few : line + length left ≤ MAX_SCRIPT_BYTES + 1

-- ---- the lines after the line `WORLD`

-- From one place on, these lines say this, each after those before it.
abbrev pub LinesSay : SchemaData → Place → List (List ℕ) → List Line → Type 0
LinesSay schema place [] said = said ≡ []
LinesSay schema place (line ∷ lines) said =
    (first : Line) × (more : List Line) × Says schema place line first × LinesSay schema (place_after place first) lines more × (said ≡ first ∷ more)

-- From one place on, the line with this number is the first of these lines that says nothing.
abbrev pub FaultIn : SchemaData → Place → List (List ℕ) → ℕ → Type 0
FaultIn schema place [] number = ⊥
FaultIn schema place (line ∷ lines) number =
    (((said : Line) → Says schema place line said → ⊥) × (number ≡ place.number))
    ⊎ ((first : Line) × Says schema place line first × FaultIn schema (place_after place first) lines number)

-- the place of the line after the line `WORLD` that has this number and says this
abbrev pub place_in : ℕ → Heading → Place
place_in number heading = record { number = number + 1; replicas = heading.replicas; opened = 0 }

-- The line `WORLD`, which has this number, says this, and the lines after it say these.
abbrev pub BodySays : SchemaData → ℕ → List (List ℕ) → Heading → List Line → Type 0
BodySays schema number [] heading said = ⊥
BodySays schema number (world ∷ lines) heading said = (heading_of world ≡ Some heading) × LinesSay schema (place_in number heading) lines said

-- There is no line `WORLD` at this number, or it says nothing, or a line after it does.
abbrev pub BodyFault : SchemaData → ℕ → List (List ℕ) → ℕ → Type 0
BodyFault schema number [] place = place ≡ number
BodyFault schema number (world ∷ lines) place =
    ((heading_of world ≡ None) × (place ≡ number))
    ⊎ ((heading : Heading) × (heading_of world ≡ Some heading) × FaultIn schema (place_in number heading) lines place)

-- ---- a whole text

-- what the line `WORLD` of a script says
abbrev pub heading_in : Script → Heading
heading_in script = record { replicas = script.replicas; lms = script.lms; ots = script.ots; number = script.number }

-- A text that is not too long is a script: the lines before the line `WORLD` declare a schema, and the others say what there is.
pub record IsScript (ask : Meaning) (text : List ℕ) (script : Script) : Type 0 where
  pub short : length text ≤ MAX_SCRIPT_BYTES
  pub schema : SchemaData
  pub declares : Declares ask (schema_part text) schema
  pub part : script.schema ≡ schema_part text
  pub says : BodySays schema (lines_before text + 1) (body text) (heading_in script) script.lines

-- The first fault of a text. A text of too many bytes has it at line 0, before all else; then come the faults of the schema.
abbrev pub FirstFault : Meaning → List ℕ → ScriptFault → Type 0
FirstFault ask text (Schema fault) = (length text ≤ MAX_SCRIPT_BYTES) × FirstSchemaFault ask (schema_part text) fault.kind fault.line
FirstFault ask text (AtLine number) =
    ((MAX_SCRIPT_BYTES < length text) × (number ≡ 0))
    ⊎ ((length text ≤ MAX_SCRIPT_BYTES) × ((schema : SchemaData) × Declares ask (schema_part text) schema × BodyFault schema (lines_before text + 1) (body text) number))
