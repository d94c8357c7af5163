-- A text without lines names no database.
use Rattle.std.proofs.Common.{◌≡◌, ◌∙◌, ℕ, List, [], refl, ap}
use Rattle.text_words.specs.Lines.{lines_of}
use Rattle.page_text.specs.Naming.{database_name, name_in_lines}

no_lines : lines_of [] ≡ []
unfolding lines_of
no_lines = refl

pub no_name : (text : List ℕ) → text ≡ [] → database_name text ≡ []
no_name text none = ap database_name none ∙ ap name_in_lines no_lines
