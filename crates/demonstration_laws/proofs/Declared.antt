-- The text declares these tables.
use Rattle.std.proofs.Common.{◌≡◌, ℕ, ◌+◌, List, [], ◌∷◌, refl, ap, subst, ◌∙◌, pos, arith, drop}
use Rattle.std.specs.Prelude.{codes}
use Rattle.text_words.specs.Lines.{lines_of}
use Rattle.text_words.specs.Words.{first_word, words_within}
use Rattle.row_check.specs.Checksum.{is_luhn}
use Rattle.row_check.specs.Trees.{Tree}
use Rattle.expression_text.specs.Grammar.{Parses, Disjunction, a_column, an_integer, a_length, either, conjunction, operand, comparison, absence, check_one}
use Rattle.expression_text.specs.declared.token.Token.{Token}
use Rattle.schema.specs.Data.{SchemaData}
use Rattle.schema_text.specs.Drafts.{start}
use Rattle.schema_text.specs.Forms.{form_at, plain_form, after_check, check_form}
use Rattle.schema_text.specs.Schemas.{Declares, Leads, LeadOn}
use Rattle.schema_text.specs.Steps.{with_check}
use Rattle.demonstration_laws.specs.Tables.{demo_lines, demo_tables, urgent_tree, card_tree, task_columns}
use Rattle.demonstration_laws.proofs.Checks.{task_column, urgent_tokens, urgent_parses, card_tokens, card_parses}
use Rattle.demonstration_laws.proofs.LinesAdd.{Draft, line, added, list_begun, task_begun, task_ordered, task_checked, task_rechecked, task_matched, lines_1_and_2, line_3, line_4, lines_5_and_6, line_7, line_8, line_9, line_10, line_11, line_14, line_15}

-- tokens are one expression at most
abbrev pub OneExpression : Type 0
OneExpression = (column_of : List ℕ → ℕ) (tokens : List Token) (a b : Tree) → Parses column_of Disjunction tokens a → Parses column_of Disjunction tokens b → a ≡ b

line_12 : OneExpression → (next : Draft) → Leads is_luhn 12 task_ordered (line 12) next → next ≡ task_checked
unfolding form_at plain_form after_check check_form first_word words_within
line_12 one next h =
    let after = added 12 task_ordered next refl refl h in
    after.2 ∙ ap (λ (tree : Tree). with_check 12 task_ordered tree) (one task_column urgent_tokens after.0 urgent_tree after.1 (urgent_parses task_column))

line_13 : OneExpression → (next : Draft) → Leads is_luhn 13 task_checked (line 13) next → next ≡ task_rechecked
unfolding form_at plain_form after_check check_form first_word words_within
line_13 one next h =
    let after = added 13 task_checked next refl refl h in
    after.2 ∙ ap (λ (tree : Tree). with_check 13 task_checked tree) (one task_column card_tokens after.0 card_tree after.1 (card_parses task_column))

-- ---- all lines

-- a line that leads to one draft is passed
past : {draft next : Draft} (number : ℕ) (end : Draft) → ((n : Draft) → Leads is_luhn number draft (line number) n → n ≡ next)
    → LeadOn is_luhn number draft (line number ∷ drop number demo_lines) end → LeadOn is_luhn (number + 1) next (drop number demo_lines) end
past {draft} {next} number end leads h = subst (λ (d : Draft). LeadOn is_luhn (number + 1) d (drop number demo_lines) end) (leads h.0 h.1) h.2

lists_lead : (end : Draft) → LeadOn is_luhn 1 start demo_lines end → LeadOn is_luhn 7 task_begun (drop 6 demo_lines) end
lists_lead end h =
    let third : LeadOn is_luhn 3 list_begun (drop 2 demo_lines) end =
    subst (λ (d : Draft). LeadOn is_luhn 3 d (drop 2 demo_lines) end) (lines_1_and_2 h.0 h.2.0 h.1 h.2.1) h.2.2 in
    let fifth = past 4 end line_4 (past 3 end line_3 third) in
    subst (λ (d : Draft). LeadOn is_luhn 7 d (drop 6 demo_lines) end) (lines_5_and_6 fifth.0 fifth.2.0 fifth.1 fifth.2.1) fifth.2.2

tasks_lead : OneExpression → (end : Draft) → LeadOn is_luhn 7 task_begun (drop 6 demo_lines) end → LeadOn is_luhn 15 task_matched (drop 14 demo_lines) end
tasks_lead one end h =
    let columns = past 11 end line_11 (past 10 end line_10 (past 9 end line_9 (past 8 end line_8 (past 7 end line_7 h)))) in
    past 14 end line_14 (past 13 end (line_13 one) (past 12 end (line_12 one) columns))

end_is : (end : Draft) → LeadOn is_luhn 15 task_matched (drop 14 demo_lines) end → (end.tables ≡ demo_tables) × (end.authors ≡ [])
end_is end h = let last = line_15 h.0 h.1 in (ap (λ (d : Draft). d.tables) h.2 ∙ last.0, ap (λ (d : Draft). d.authors) h.2 ∙ last.1)

-- a text of these lines declares these tables, and lists no authors
pub lines_declare : OneExpression → (text : List ℕ) (schema : SchemaData) → lines_of text ≡ demo_lines → Declares is_luhn text schema
    → (schema.tables ≡ demo_tables) × (schema.rule.authors ≡ [])
lines_declare one text schema e h =
    let end : Draft = h.1.0 in
    let lead = subst (λ (lines : List (List ℕ)). LeadOn is_luhn 1 start lines end) e h.1.1 in
    let is = end_is end (tasks_lead one end (lists_lead end lead)) in
    (ap (λ (s : SchemaData). s.tables) h.1.3 ∙ is.0, ap (λ (s : SchemaData). s.rule.authors) h.1.3 ∙ is.1)
