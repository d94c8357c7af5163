-- Tables of few lines.
use Rattle.std.proofs.Common.{◌≡◌, ◌∙◌, ℕ, List, [], ◌∷◌, refl, ap}
use Rattle.std.specs.Prelude.{None}
use Rattle.text_words.specs.Lines.{lines_of}
use Rattle.explanations.specs.Table.{entry_in, entry_of}

pub no_lines : lines_of [] ≡ []
unfolding lines_of
no_lines = refl

-- no line is no entry
pub no_entry : (table said : List ℕ) → table ≡ [] → entry_of table said ≡ None
no_entry table said none = ap (λ (text : List ℕ). entry_in said (lines_of text)) none ∙ ap (entry_in said) no_lines

-- one line is no entry
pub key_alone : (table said key after : List ℕ) → lines_of table ≡ key ∷ lines_of after → after ≡ [] → entry_of table said ≡ None
key_alone table said key after first none =
    ap (entry_in said) first ∙ (ap (λ (text : List ℕ). entry_in said (key ∷ lines_of text)) none ∙ ap (λ (lines : List (List ℕ)). entry_in said (key ∷ lines)) no_lines)
