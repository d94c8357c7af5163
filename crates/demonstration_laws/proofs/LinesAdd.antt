-- The lines of the text, and the draft that each of them leads to. The types of drafts and of forms have no names outside the crate that
-- reads lines, so they are told by what has them.
use Rattle.std.proofs.Common.{◌≡◌, ℕ, ◌-◌, List, [], ◌∷◌, true, false, refl, ap, subst, ◌∙◌, inl, inr, Option, Some, None}
use Rattle.std.specs.Prelude.{codes, IsSome, slice_index_or}
use Rattle.std.proofs.lemmas.Bool.{false≢true}
use Rattle.text_words.specs.Lines.{lines_of}
use Rattle.text_words.specs.Quoted.{text_within}
use Rattle.text_words.specs.Words.{first_word, words_within, skip_blanks, passed_over}
use Rattle.row_check.specs.Checksum.{is_luhn}
use Rattle.schema_text.specs.Drafts.{start, is_turn, with_column, with_rules}
use Rattle.schema_text.specs.Forms.{form_at, plain_form, after_check, check_form}
use Rattle.schema_text.specs.Schemas.{Leads}
use Rattle.schema_text.specs.Steps.{IsAfter, with_check, with_table}
use Rattle.demonstration_laws.specs.Tables.{demo_lines, demo_text, list_title_column, list_cap_column, list_table, task_title_column, task_prio_column, task_card_column, task_list_column, task_after_column, urgent_tree, card_tree, cap_match, demo_tables}

-- ---- types

-- the type of a value, and that of what a function takes
abbrev pub TypeOf : {A : Type 0} → A → Type 0
TypeOf {A} a = A

abbrev SourceOf : {A B : Type 0} → (A → B) → Type 0
SourceOf {A} f = A

abbrev pub Draft : Type 0
Draft = TypeOf start

abbrev pub Form : Type 0
Form = SourceOf (is_turn start)

-- ---- lines

pub lines_read : lines_of demo_text ≡ demo_lines
unfolding lines_of
lines_read = refl

-- the line with this number, from 1
abbrev pub line : ℕ → List ℕ
line number = slice_index_or demo_lines (number - 1) []

abbrev pub found_in : {A : Type 0} (found : Option A) → IsSome found → A
found_in (Some a) is = a
found_in None is = absurd (false≢true is)

found_is : (found : Option Form) (is : IsSome found) (form : Form) → found ≡ Some form → form ≡ found_in found is
found_is (Some f) is form e = cc
found_is None is form e = absurd cc

-- a line that is not passed over adds what its form says
pub added : (number : ℕ) (draft next : Draft) → passed_over (line number) ≡ false → (is : IsSome (form_at (skip_blanks (line number))))
    → Leads is_luhn number draft (line number) next → IsAfter number draft (found_in (form_at (skip_blanks (line number))) is) next
added number draft next says is (inl h) = absurd (let e : passed_over (line number) ≡ true = h.0.empty in cc)
added number draft next says is (inr h) =
    subst (λ (form : Form). IsAfter number draft form next) (found_is (form_at (skip_blanks (line number))) is h.0 h.1.written.words) h.3

-- ---- the table of lists

abbrev pub list_begun : Draft
list_begun = with_table start (codes "list") true false

abbrev pub list_titled : Draft
list_titled = with_column list_begun list_title_column

abbrev pub list_capped : Draft
list_capped = with_column list_titled list_cap_column

line_2 : (draft next : Draft) → Leads is_luhn 2 draft (line 2) next → next ≡ with_table draft (codes "list") true false
unfolding form_at plain_form after_check check_form first_word words_within
line_2 draft next h = added 2 draft next refl refl h

pub lines_1_and_2 : (first next : Draft) → Leads is_luhn 1 start (line 1) first → Leads is_luhn 2 first (line 2) next → next ≡ list_begun
unfolding form_at plain_form after_check check_form first_word words_within
lines_1_and_2 first next h k = line_2 first next k ∙ ap (λ (d : Draft). with_table d (codes "list") true false) (added 1 start first refl refl h)

pub line_3 : (next : Draft) → Leads is_luhn 3 list_begun (line 3) next → next ≡ list_titled
unfolding form_at plain_form after_check check_form first_word words_within
line_3 next h = added 3 list_begun next refl refl h

pub line_4 : (next : Draft) → Leads is_luhn 4 list_titled (line 4) next → next ≡ list_capped
unfolding form_at plain_form after_check check_form first_word words_within
line_4 next h = added 4 list_titled next refl refl h

-- ---- the table of tasks

abbrev pub task_begun : Draft
task_begun = with_table (record start { tables = list_table ∷ [] }) (codes "task") true false

abbrev pub task_titled : Draft
task_titled = with_column task_begun task_title_column

abbrev pub task_ranked : Draft
task_ranked = with_column task_titled task_prio_column

abbrev pub task_carded : Draft
task_carded = with_column task_ranked task_card_column

abbrev pub task_listed : Draft
task_listed = with_column task_carded task_list_column

abbrev pub task_ordered : Draft
task_ordered = with_column task_listed task_after_column

abbrev pub task_checked : Draft
task_checked = with_check 12 task_ordered urgent_tree

abbrev pub task_rechecked : Draft
task_rechecked = with_check 13 task_checked card_tree

abbrev pub task_matched : Draft
task_matched = with_rules task_rechecked (record task_rechecked.table { matches = cap_match ∷ [] })

line_6 : (draft next : Draft) → Leads is_luhn 6 draft (line 6) next → next ≡ with_table draft (codes "task") true false
unfolding form_at plain_form after_check check_form first_word words_within
line_6 draft next h = added 6 draft next refl refl h

pub lines_5_and_6 : (first next : Draft) → Leads is_luhn 5 list_capped (line 5) first → Leads is_luhn 6 first (line 6) next → next ≡ task_begun
unfolding form_at plain_form after_check check_form first_word words_within text_within
lines_5_and_6 first next h k = line_6 first next k ∙ ap (λ (d : Draft). with_table d (codes "task") true false) (added 5 list_capped first refl refl h)

pub line_7 : (next : Draft) → Leads is_luhn 7 task_begun (line 7) next → next ≡ task_titled
unfolding form_at plain_form after_check check_form first_word words_within
line_7 next h = added 7 task_begun next refl refl h

pub line_8 : (next : Draft) → Leads is_luhn 8 task_titled (line 8) next → next ≡ task_ranked
unfolding form_at plain_form after_check check_form first_word words_within
line_8 next h = added 8 task_titled next refl refl h

pub line_9 : (next : Draft) → Leads is_luhn 9 task_ranked (line 9) next → next ≡ task_carded
unfolding form_at plain_form after_check check_form first_word words_within
line_9 next h = added 9 task_ranked next refl refl h

pub line_10 : (next : Draft) → Leads is_luhn 10 task_carded (line 10) next → next ≡ task_listed
unfolding form_at plain_form after_check check_form first_word words_within
line_10 next h = added 10 task_carded next refl refl h

pub line_11 : (next : Draft) → Leads is_luhn 11 task_listed (line 11) next → next ≡ task_ordered
unfolding form_at plain_form after_check check_form first_word words_within
line_11 next h = added 11 task_listed next refl refl h

pub line_14 : (next : Draft) → Leads is_luhn 14 task_rechecked (line 14) next → next ≡ task_matched
unfolding form_at plain_form after_check check_form first_word words_within
line_14 next h = added 14 task_rechecked next refl refl h

pub line_15 : (next : Draft) → Leads is_luhn 15 task_matched (line 15) next → (next.tables ≡ demo_tables) × (next.authors ≡ [])
unfolding form_at plain_form after_check check_form first_word words_within text_within
line_15 next h = let after = added 15 task_matched next refl refl h in (ap (λ (d : Draft). d.tables) after, ap (λ (d : Draft). d.authors) after)
