-- Which texts declare a schema, and the first fault of those that declare none.
use Rattle.std.specs.Prelude.{◌≡◌, ℕ, ◌+◌, ◌<◌, ◌≤◌, List, [], ◌∷◌, length, IsUtf8, ◌⊎◌, IsTrue}
use Rattle.sha2.specs.Sha256.{sha256}
use Rattle.text_words.specs.Lines.{lines_of}
use Rattle.text_words.specs.Words.{passed_over}
use Rattle.schema_text.specs.declared.draft.Draft.{Draft}
use Rattle.schema_text.specs.declared.fault.SchemaKind.{SchemaKind}
use Rattle.schema_text.specs.declared.fault.SchemaKind.TheVariants as fault
use Rattle.schema_text.specs.declared.form.Form.{Form}
use Rattle.schema_text.specs.declared.limits.TheConstants.{MAX_SCHEMA_BYTES}
use Rattle.schema.specs.Data.{Meaning, SchemaData}
use Rattle.schema_text.specs.Forms.{HasForm}
use Rattle.schema_text.specs.Drafts.{start, is_turn, is_between}
use Rattle.schema_text.specs.Steps.{IsAfter}
use Rattle.schema_text.specs.Faults.{IsWithinLimits, IsNamed, HasTarget, IsTyped, IsMatchable, HasSample}

-- a blank line or a comment
pub record IsPassedOver (line : List ℕ) : Type 0 where
  pub utf8 : IsUtf8 line
  pub empty : IsTrue (passed_over line)

-- A line has this form, and it is its turn.
pub record IsItsTurn (draft : Draft) (line : List ℕ) (form : Form) : Type 0 where
  pub says : IsTrue (passed_over line) → ⊥
  pub written : HasForm line form
  pub turn : IsTrue (is_turn draft form)

-- Nothing is wrong with it.
pub record IsGood (relation : Meaning) (draft : Draft) (form : Form) : Type 0 where
  pub limits : IsWithinLimits draft form
  pub names : IsNamed draft form
  pub target : HasTarget draft form
  pub types : IsTyped draft form
  pub matchable : IsMatchable draft form
  pub sample : HasSample relation draft form

-- From one draft, the line with this number leads to the next: it is passed over, or it is good and adds what it says.
abbrev pub Leads : Meaning → ℕ → Draft → List ℕ → Draft → Type 0
Leads relation number draft line next =
    (IsPassedOver line × (next ≡ draft)) ⊎ ((form : Form) × IsItsTurn draft line form × IsGood relation draft form × IsAfter number draft form next)

-- From one draft, these lines, which number from here, lead to another.
abbrev pub LeadOn : Meaning → ℕ → Draft → List (List ℕ) → Draft → Type 0
LeadOn relation number draft [] end = end ≡ draft
LeadOn relation number draft (line ∷ lines) end = (next : Draft) × Leads relation number draft line next × LeadOn relation (number + 1) next lines end

-- What is wrong with a line of this form: the first of the six that does not hold.
abbrev pub FormFault : Meaning → Draft → Form → SchemaKind → Type 0
FormFault relation draft form fault.Line = ⊥
FormFault relation draft form fault.Limit = ¬ IsWithinLimits draft form
FormFault relation draft form fault.Name = IsWithinLimits draft form × ¬ IsNamed draft form
FormFault relation draft form fault.Target = IsWithinLimits draft form × IsNamed draft form × ¬ HasTarget draft form
FormFault relation draft form fault.WrongType = IsWithinLimits draft form × IsNamed draft form × HasTarget draft form × ¬ IsTyped draft form
FormFault relation draft form fault.MatchKind =
    IsWithinLimits draft form × IsNamed draft form × HasTarget draft form × IsTyped draft form × ¬ IsMatchable draft form
FormFault relation draft form fault.BadSample =
    IsWithinLimits draft form × IsNamed draft form × HasTarget draft form × IsTyped draft form × IsMatchable draft form × ¬ HasSample relation draft form

-- What is wrong with a line: it is not passed over and has no form whose turn it is, or it has one with a fault.
abbrev pub LineFault : Meaning → Draft → List ℕ → SchemaKind → Type 0
LineFault relation draft line kind =
    ((kind ≡ fault.Line) × (¬ IsPassedOver line) × ((form : Form) → IsItsTurn draft line form → ⊥))
    ⊎ ((form : Form) × IsItsTurn draft line form × FormFault relation draft form kind)

-- a table has ended, and no other has begun
abbrev pub IsComplete : Draft → Type 0
IsComplete draft = IsTrue (is_between draft.phase)

-- From one draft, these lines, which number from here, have their first fault of this kind in this line: it is wrong, or
-- it leads on to lines whose first fault this is, or the lines are at their end too early.
abbrev pub FaultIn : Meaning → ℕ → Draft → List (List ℕ) → SchemaKind → ℕ → Type 0
FaultIn relation number draft [] kind place = (¬ IsComplete draft) × (kind ≡ fault.Line) × (place ≡ number)
FaultIn relation number draft (line ∷ lines) kind place =
    (LineFault relation draft line kind × (place ≡ number))
    ⊎ ((next : Draft) × Leads relation number draft line next × FaultIn relation (number + 1) next lines kind place)

-- the schema of a draft and the text that it is read from, whose digest names the database
abbrev pub schema_of : Draft → List ℕ → SchemaData
schema_of draft text = record { tables = draft.tables; rule = record { database = sha256 text; authors = draft.authors }; text = text }

-- A text that is not too long, whose lines are good each after those before it and end with a table, declares what
-- they say.
abbrev pub Declares : Meaning → List ℕ → SchemaData → Type 0
Declares relation text schema =
    (length text ≤ MAX_SCHEMA_BYTES) × ((end : Draft) × LeadOn relation 1 start (lines_of text) end × IsComplete end × (schema ≡ schema_of end text))

-- The first fault of a text: a text of more bytes is over the limit, at line 0.
abbrev pub FirstFault : Meaning → List ℕ → SchemaKind → ℕ → Type 0
FirstFault relation text kind place =
    ((MAX_SCHEMA_BYTES < length text) × (kind ≡ fault.Limit) × (place ≡ 0)) ⊎ ((length text ≤ MAX_SCHEMA_BYTES) × FaultIn relation 1 start (lines_of text) kind place)
