-- What is told of a line, put together.
use Rattle.std.proofs.Common.{◌≡◌, ◌∙◌, ℕ, List, [], ◌++◌, Option, Bool, true, false, ap, sym, append_assoc, inl, inr}
use Rattle.explanations.specs.declared.marks.Marks.{Marks}
use Rattle.explanations.specs.Explained.{Setting, explained, explained_by, front_of, habit_rows, key_of, marked_rows, the_table}
use Rattle.explanations.specs.Habits.{habit_entry}
use Rattle.explanations.specs.Run.{Says, note_of, said_of_run, told_from, told_of, word_placed}
use Rattle.explanations.specs.Shown.{shown}
use Rattle.explanations.specs.Table.{entry_for}
use Rattle.explanations.proofs.Tables.{no_lines}
use Rattle.std.proofs.lemmas.List.{append-nil}
use Rattle.text_words.specs.Lines.{lines_of}
use Rattle.std.specs.Prelude.{Result, Ok, Err}
use Rattle.bec_bytes.specs.Causes.{HasCause}
use Rattle.bec_bytes.specs.Moved.{TakesAll}

pub looked_up : (table command first key : List ℕ) (found : Option (Marks × List ℕ)) (setting : Setting) → found ≡ entry_for table command first → table ≡ the_table
    → command ≡ setting.command → first ≡ key → found ≡ entry_for the_table setting.command key
looked_up table command first key found setting is_found is_table is_command is_first =
    is_found ∙ (ap (λ (t : List ℕ). entry_for t command first) is_table ∙ (ap (λ (c : List ℕ). entry_for the_table c first) is_command
    ∙ ap (λ (k : List ℕ). entry_for the_table setting.command k) is_first))

pub explained_from : (said : List ℕ) (setting : Setting) (front key out : List ℕ) (found : Option (Marks × List ℕ)) → front ≡ front_of said → key ≡ key_of said setting.status
    → found ≡ entry_for the_table setting.command key → out ≡ [] ++ explained_by front key setting found → out ≡ explained said setting
unfolding explained
explained_from said setting front key out found is_front is_key is_found is_out =
    is_out ∙ (ap (explained_by front key setting) is_found ∙ (ap (λ (k : List ℕ). explained_by front k setting (entry_for the_table setting.command k)) is_key
    ∙ ap (λ (f : List ℕ). explained_by f (key_of said setting.status) setting (entry_for the_table setting.command (key_of said setting.status))) is_front))

pub marked_from : (value : ℕ → List ℕ) (column : Option ℕ) (number : ℕ) (line old middle new habit : List ℕ) → middle ≡ old ++ shown number line column
    → habit ≡ habit_entry number line column → new ≡ middle ++ habit_rows value habit → new ≡ old ++ marked_rows value column number line
marked_from value column number line old middle new habit is_middle is_habit is_new =
    is_new ∙ (ap (λ (h : List ℕ). middle ++ habit_rows value h) is_habit ∙ (ap (λ (m : List ℕ). m ++ habit_rows value (habit_entry number line column)) is_middle
    ∙ append_assoc old (shown number line column) (habit_rows value (habit_entry number line column))))

-- no line is left
end_told : (told : Bool) (setting : Setting) (rest : List ℕ) → rest ≡ [] → told_from told setting (lines_of rest) ≡ told_from told setting []
end_told told setting rest none = ap (λ (t : List ℕ). told_from told setting (lines_of t)) none ∙ ap (told_from told setting) no_lines

pub all_told : (told : Bool) (setting : Setting) (rest out whole : List ℕ) → rest ≡ [] → told ≡ true → out ++ told_from told setting (lines_of rest) ≡ whole → out ≡ whole
all_told told setting rest out whole none is so_far =
    sym (append-nil out) ∙ (sym (ap (λ (more : List ℕ). out ++ more) (end_told told setting rest none ∙ ap (λ (t : Bool). told_from t setting []) is)) ∙ so_far)

pub last_told : (told : Bool) (setting : Setting) (rest out new whole : List ℕ) → rest ≡ [] → told ≡ false → new ≡ out ++ explained [] setting
    → out ++ told_from told setting (lines_of rest) ≡ whole → new ≡ whole
last_told told setting rest out new whole none is is_new so_far =
    is_new ∙ (sym (ap (λ (more : List ℕ). out ++ more) (end_told told setting rest none ∙ ap (λ (t : Bool). told_from t setting []) is)) ∙ so_far)

pub said_from : (words : List (List ℕ)) (named : List ℕ) (status : ℕ) (read heard command note new : List ℕ) → command ≡ word_placed words 0 → note ≡ [] ++ note_of command read
    → new ≡ note ++ told_of words named status read heard → new ≡ said_of_run words named status read heard
unfolding said_of_run
said_from words named status read heard command note new is_command is_note is_new =
    is_new ∙ ap (λ (n : List ℕ). n ++ told_of words named status read heard) (is_note ∙ ap (λ (c : List ℕ). note_of c read) is_command)

-- what is written whole, or up to a fault
pub text_said : {T E : Type 0} (before after : Option (List ℕ)) (faults now : ℕ) (r : Result T E) (text : List ℕ) → TakesAll before after r text → HasCause faults now r → Says before after faults now text
text_said before after faults now (Ok done) text takes cause = record { later = cause.later; takes = inl takes }
text_said before after faults now (Err fault) text takes cause = record { later = cause.later; takes = inr (cause.failed, (takes.0, takes.2)) }
