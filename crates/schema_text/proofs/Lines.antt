-- One line more, and what a text then declares.
use Rattle.std.proofs.Common.{◌≡◌, ℕ, ◌≤◌, List, [], length, refl, sym, ◌∙◌, subst, inr, Result, Ok, Err, IfOk, IfErr}
use Rattle.text_words.specs.Lines.{lines_of}
use Rattle.schema_text.specs.declared.draft.Draft.{Draft}
use Rattle.schema_text.specs.declared.fault.SchemaError.{SchemaError}
use Rattle.schema_text.specs.declared.fault.SchemaError.TheVariants as error
use Rattle.schema_text.specs.declared.fault.SchemaKind.{SchemaKind}
use Rattle.schema_text.specs.declared.fault.SchemaKind.TheVariants as fault
use Rattle.schema_text.specs.Outcome.{HasCause, HasFaultIn, Answers}
use Rattle.schema.specs.Data.{Meaning, SchemaData}
use Rattle.schema_text.specs.Schemas.{LeadOn, FaultIn, IsComplete, Declares, FirstFault, schema_of}

no_lines : lines_of [] ≡ []
unfolding lines_of
no_lines = refl

pub leads_end : (r : Meaning) (n : ℕ) (d : Draft) (rest : List ℕ) → rest ≡ [] → LeadOn r n d (lines_of rest) d
leads_end r n d rest e =
    subst (λ (text : List ℕ). LeadOn r n d (lines_of text) d) (sym e) (subst (λ (lines : List (List ℕ)). LeadOn r n d lines d) (sym no_lines) refl)

pub fails_end : (r : Meaning) (n : ℕ) (d : Draft) (rest : List ℕ) → rest ≡ [] → ¬ IsComplete d → FaultIn r n d (lines_of rest) fault.Line n
fails_end r n d rest e open_ =
    subst (λ (text : List ℕ). FaultIn r n d (lines_of text) fault.Line n) (sym e) (subst (λ (lines : List (List ℕ)). FaultIn r n d lines fault.Line n) (sym no_lines) (open_, refl, refl))

-- a text declares one schema
abbrev pub OneSchema : Type 0
OneSchema = (relation : Meaning) (text : List ℕ) (schema other : SchemaData) → Declares relation text schema → Declares relation text other → schema ≡ other

-- a text that declares a schema has no fault
abbrev pub NoFault : Type 0
NoFault = (relation : Meaning) (text : List ℕ) (schema : SchemaData) (kind : SchemaKind) (line : ℕ) → Declares relation text schema → FirstFault relation text kind line → ⊥

pub cause_of : (r : Meaning) (text : List ℕ) (e : SchemaError) → length text ≤ 65536 → HasFaultIn r text e → HasCause r text e
cause_of r text (error.Fault f) few h = inr (few, h)
cause_of r text error.Memory few h = tt

pub answers_err : NoFault → (r : Meaning) (text : List ℕ) (e : SchemaError) (wanted : SchemaData) → HasCause r text e → Declares r text wanted → Answers (Err e) wanted
answers_err law r text (error.Fault f) wanted h d = law r text wanted f.kind f.line d h
answers_err law r text error.Memory wanted h d = tt

pub answers_last : OneSchema → (r : Meaning) (text : List ℕ) (end : Draft) (result : Result SchemaData SchemaError) (wanted : SchemaData) → IfOk result (λ s. s ≡ schema_of end text)
    → IfErr result (λ e. e ≡ error.Memory) → Declares r text (schema_of end text) → Declares r text wanted → Answers result wanted
answers_last law r text end (Ok s) wanted h e d w = h ∙ law r text (schema_of end text) wanted d w
answers_last law r text end (Err (error.Fault f)) wanted h e d w = absurd cc
answers_last law r text end (Err error.Memory) wanted h e d w = tt
