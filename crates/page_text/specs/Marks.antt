-- Texts as they are written in HTML. A quote is the byte 34, `&` is 38, `<` is 60, `>` is 62, and a backslash is 92.
use Rattle.std.specs.Prelude.{◌≢◌, ℕ, ◌==◌, if◌then◌else◌, List, [], ◌∷◌, codes}
use Rattle.std.specs.List.{flat_map}

-- One byte of a text: what stands for it where it is a mark of HTML, `\x00` for the byte that no page may have, and else as it is.
abbrev pub html_byte : ℕ → List ℕ
html_byte byte =
    if byte == 0 then 92 ∷ 120 ∷ 48 ∷ 48 ∷ []
    else if byte == 34 then codes "&quot;"
    else if byte == 38 then codes "&amp;"
    else if byte == 60 then codes "&lt;"
    else if byte == 62 then codes "&gt;"
    else byte ∷ []

-- a text
abbrev pub html_text : List ℕ → List ℕ
html_text text = flat_map html_byte text

-- A byte that neither begins nor ends an element, ends no value of an attribute, and may stand in a page.
pub record IsNoMark (byte : ℕ) : Type 0 where
  pub begins_none : byte ≢ 60
  pub ends_none : byte ≢ 62
  pub ends_no_value : byte ≢ 34
  pub may_stand : byte ≢ 0
