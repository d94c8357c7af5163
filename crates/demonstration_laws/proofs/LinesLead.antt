-- Each line of the text is good, and leads on.
use Rattle.std.proofs.Common.{◌≡◌, ℕ, List, [], ◌∷◌, false, refl, sym, ◌∙◌, inr, Option, Some, None, IsTrue}
use Rattle.std.specs.Prelude.{codes, IsSome, IsUtf8, All}
use Rattle.std.specs.List.{AllByRecursion}
use Rattle.std.proofs.lemmas.Bool.{false≢true}
use Rattle.std.proofs.lemmas.List.Elements.{All-nil, All-cons}
use Rattle.text_words.specs.Words.{skip_blanks, passed_over}
use Rattle.text_words.specs.declared.word.Word.TheVariants.{Plain, Quoted}
use Rattle.row_check.specs.Checksum.{is_luhn}
use Rattle.schema_text.specs.Drafts.{start, is_turn}
use Rattle.schema_text.specs.Forms.{form_at, database_form, values_of, HasForm, IsWhole}
use Rattle.schema_text.specs.Schemas.{Leads, IsGood, IsItsTurn}
use Rattle.schema_text.specs.Steps.{IsAfter, with_sample}
use Rattle.demonstration_laws.proofs.LinesAdd.{Draft, Form, TypeOf, line, found_in, list_capped, task_matched}

found_again : (found : Option Form) (is : IsSome found) → found ≡ Some (found_in found is)
found_again (Some f) is = refl
found_again None is = absurd (false≢true is)

-- a line whose form is good leads on
leads : (number : ℕ) (draft next : Draft) → passed_over (line number) ≡ false → IsUtf8 (line number) → (is : IsSome (form_at (skip_blanks (line number))))
    → (let form = found_in (form_at (skip_blanks (line number))) is in IsWhole form × IsTrue (is_turn draft form) × IsGood is_luhn draft form × IsAfter number draft form next)
    → Leads is_luhn number draft (line number) next
leads number draft next says utf8 is (whole, turn, good, after) =
    let form = found_in (form_at (skip_blanks (line number))) is in
    let written : HasForm (line number) form = record { utf8 = utf8; words = found_again (form_at (skip_blanks (line number))) is; whole = whole } in
    let its : IsItsTurn draft (line number) form = record { says = λ e. false≢true (sym says ∙ e); written = written; turn = turn } in
    inr (form, its, good, after)

each : {X : Type 0} (P : X → Type 0) (xs : List X) → AllByRecursion P xs → All P xs
each P [] h = All-nil P
each P (x ∷ xs) h = All-cons P x xs h.0 (each P xs h.1)

abbrev list_values : TypeOf (found_in (values_of (Quoted (codes "Home") ∷ Plain (codes "9") ∷ [])) refl)
list_values = found_in (values_of (Quoted (codes "Home") ∷ Plain (codes "9") ∷ [])) refl

abbrev task_values : TypeOf list_values
task_values = found_in (values_of (Quoted (codes "Buy") ∷ Plain (codes "3") ∷ Plain (codes "NULL") ∷ [])) refl

-- ---- the table of lists

abbrev named_draft : (next : Draft) × IsAfter 1 start (found_in (database_form (Plain (codes "tasks") ∷ [])) refl) next
named_draft = (_, refl)

abbrev pub named : Draft
named = named_draft.0

abbrev pub listed : Draft
listed = with_sample list_capped list_values

-- ---- the table of tasks

abbrev pub ended : Draft
ended = with_sample task_matched task_values
