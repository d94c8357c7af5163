-- The JSON of an answer is the compact text of its object.
use Rattle.std.proofs.Common.{◌≡◌, ◌∙◌, ℕ, ℤ, pos, negsuc, ◌==◌, Bool, true, false, List, [], ◌∷◌, ◌++◌, map, refl, sym, ap, ap₂, subst, append_assoc}
use Rattle.std.specs.Prelude.{codes}
use Rattle.std.specs.List.{flat_map}
use Rattle.std.proofs.lemmas.Bool.{eqb-true}
use Rattle.update_model.specs.declared.value.Value.{Value}
use Rattle.update_model.specs.declared.value.Value.TheVariants.{Null, Int, Text, Flag, Row, Own}
use Rattle.table_text.specs.declared.name_style.NameStyle.TheVariants.{Full}
use Rattle.table_text.specs.Values.{value_text}
use Rattle.json.specs.Print.{escape_byte, quoted}
use Rattle.serde_json.specs.Data.{Data, member, no_members, object, string}
use Rattle.serde_json.specs.View.{items_of}
use Rattle.serde_json.specs.Written.{compact_text, items_text}
use Rattle.serde_json.proofs.OnLiterals.{serde_json_on_literals}
use Rattle.query_answer.specs.Answers.{AnswerData}
use Rattle.query_answer.specs.Json.{answer_data, json_escaped, json_list, json_quoted, json_text, json_value, list_data, value_data}
use Rattle.query_answer.specs.Lines.{each_after}

-- ---- escapes

module _ (byte : ℕ) where
  at_byte : (k : ℕ) → json_escaped k ≡ escape_byte k → (byte == k) ≡ true → json_escaped byte ≡ escape_byte byte
  at_byte k h e = subst (λ (n : ℕ). json_escaped n ≡ escape_byte n) (sym (eqb-true byte k e)) h

  at_other : (byte == 34) ≡ false → (byte == 92) ≡ false → (byte == 8) ≡ false → (byte == 12) ≡ false → (byte == 10) ≡ false → (byte == 13) ≡ false → (byte == 9) ≡ false
      → json_escaped byte ≡ escape_byte byte
  unfolding escape_byte
  at_other a b c d e f g = rw (a, b, c, d, e, f, g) refl

at_34 : json_escaped 34 ≡ escape_byte 34
unfolding escape_byte
at_34 = refl

at_92 : json_escaped 92 ≡ escape_byte 92
unfolding escape_byte
at_92 = refl

at_8 : json_escaped 8 ≡ escape_byte 8
unfolding escape_byte
at_8 = refl

at_12 : json_escaped 12 ≡ escape_byte 12
unfolding escape_byte
at_12 = refl

at_10 : json_escaped 10 ≡ escape_byte 10
unfolding escape_byte
at_10 = refl

at_13 : json_escaped 13 ≡ escape_byte 13
unfolding escape_byte
at_13 = refl

at_9 : json_escaped 9 ≡ escape_byte 9
unfolding escape_byte
at_9 = refl

same_escape : (byte : ℕ) → json_escaped byte ≡ escape_byte byte
same_escape byte = by_34 (byte == 34) refl
  where
    by_9 : (g : Bool) → (byte == 9) ≡ g → (byte == 34) ≡ false → (byte == 92) ≡ false → (byte == 8) ≡ false → (byte == 12) ≡ false → (byte == 10) ≡ false → (byte == 13) ≡ false
        → json_escaped byte ≡ escape_byte byte
    by_9 true e i j k l m n = at_byte byte 9 at_9 e
    by_9 false e i j k l m n = at_other byte i j k l m n e

    by_13 : (g : Bool) → (byte == 13) ≡ g → (byte == 34) ≡ false → (byte == 92) ≡ false → (byte == 8) ≡ false → (byte == 12) ≡ false → (byte == 10) ≡ false → json_escaped byte ≡ escape_byte byte
    by_13 true e i j k l m = at_byte byte 13 at_13 e
    by_13 false e i j k l m = by_9 (byte == 9) refl i j k l m e

    by_10 : (g : Bool) → (byte == 10) ≡ g → (byte == 34) ≡ false → (byte == 92) ≡ false → (byte == 8) ≡ false → (byte == 12) ≡ false → json_escaped byte ≡ escape_byte byte
    by_10 true e i j k l = at_byte byte 10 at_10 e
    by_10 false e i j k l = by_13 (byte == 13) refl i j k l e

    by_12 : (g : Bool) → (byte == 12) ≡ g → (byte == 34) ≡ false → (byte == 92) ≡ false → (byte == 8) ≡ false → json_escaped byte ≡ escape_byte byte
    by_12 true e i j k = at_byte byte 12 at_12 e
    by_12 false e i j k = by_10 (byte == 10) refl i j k e

    by_8 : (g : Bool) → (byte == 8) ≡ g → (byte == 34) ≡ false → (byte == 92) ≡ false → json_escaped byte ≡ escape_byte byte
    by_8 true e i j = at_byte byte 8 at_8 e
    by_8 false e i j = by_12 (byte == 12) refl i j e

    by_92 : (g : Bool) → (byte == 92) ≡ g → (byte == 34) ≡ false → json_escaped byte ≡ escape_byte byte
    by_92 true e i = at_byte byte 92 at_92 e
    by_92 false e i = by_8 (byte == 8) refl i e

    by_34 : (g : Bool) → (byte == 34) ≡ g → json_escaped byte ≡ escape_byte byte
    by_34 true e = at_byte byte 34 at_34 e
    by_34 false e = by_92 (byte == 92) refl e

same_escapes : (text : List ℕ) → flat_map json_escaped text ≡ flat_map escape_byte text
same_escapes [] = refl
same_escapes (byte ∷ text) = ap₂ (λ (a b : List ℕ). a ++ b) (same_escape byte) (same_escapes text)

pub same_quoted : (text : List ℕ) → json_quoted text ≡ compact_text (string text)
same_quoted text = ap (λ (inner : List ℕ). 34 ∷ (inner ++ 34 ∷ [])) (same_escapes text)

-- ---- values and lists

same_integer : (n : ℤ) → json_value (Int n) ≡ compact_text (value_data (Int n))
same_integer (pos n) = refl
same_integer (negsuc n) = refl

same_flag : (flag : Bool) → json_value (Flag flag) ≡ compact_text (value_data (Flag flag))
same_flag true = refl
same_flag false = refl

pub same_value : (value : Value) → json_value value ≡ compact_text (value_data value)
same_value Null = refl
same_value (Int n) = same_integer n
same_value (Text text) = same_quoted text
same_value (Flag flag) = same_flag flag
same_value (Row name) = same_quoted (value_text Full (Row name))
same_value (Own index) = same_quoted (value_text Full (Own index))

module _ {X : Type 0} (text : X → List ℕ) (data_of : X → Data) (same : (x : X) → text x ≡ compact_text (data_of x)) where
  same_later : (xs : List X) → each_after 44 text xs ++ 93 ∷ [] ≡ items_text true (items_of (map data_of xs))
  same_later [] = refl
  same_later (x ∷ xs) =
      append_assoc (44 ∷ text x) (each_after 44 text xs) (93 ∷ [])
      ∙ ap₂ (λ (a b : List ℕ). 44 ∷ (a ++ b)) (same x) (same_later xs)

  pub same_list : (xs : List X) → json_list text xs ≡ compact_text (list_data data_of xs)
  same_list [] = refl
  same_list (x ∷ xs) =
      ap (λ (inner : List ℕ). 91 ∷ inner) (append_assoc (text x) (each_after 44 text xs) (93 ∷ []) ∙ ap₂ (λ (a b : List ℕ). a ++ b) (same x) (same_later xs))

-- ---- an object of two members

regrouped : (p q c r : List ℕ) → (123 ∷ (p ++ 58 ∷ [])) ++ (c ++ ((44 ∷ (q ++ 58 ∷ [])) ++ (r ++ 125 ∷ [])))
    ≡ 123 ∷ (p ++ 58 ∷ (c ++ 44 ∷ (q ++ 58 ∷ (r ++ 125 ∷ []))))
regrouped p q c r = simp append_assoc

by_keys : (first second : List ℕ) (a b : Data)
    → (123 ∷ (quoted first ++ 58 ∷ [])) ++ (compact_text a ++ ((44 ∷ (quoted second ++ 58 ∷ [])) ++ (compact_text b ++ 125 ∷ [])))
    ≡ compact_text (object (member first a (member second b no_members)))
by_keys first second a b = regrouped (quoted first) (quoted second) (compact_text a) (compact_text b)

-- by the texts of its keys, with the brace and the comma before them and a colon behind each
pub framed : (opening between first second : List ℕ) (a b : Data) → opening ≡ 123 ∷ (quoted first ++ 58 ∷ []) → between ≡ 44 ∷ (quoted second ++ 58 ∷ [])
    → opening ++ (compact_text a ++ (between ++ (compact_text b ++ 125 ∷ []))) ≡ compact_text (object (member first a (member second b no_members)))
framed opening between first second a b opens parts =
    ap₂ (λ (o p : List ℕ). o ++ (compact_text a ++ (p ++ (compact_text b ++ 125 ∷ [])))) opens parts ∙ by_keys first second a b

-- the same with an LF behind it
ended : (opening between a b : List ℕ) → opening ++ (a ++ (between ++ (b ++ 125 ∷ 10 ∷ []))) ≡ (opening ++ (a ++ (between ++ (b ++ 125 ∷ [])))) ++ 10 ∷ []
ended opening between a b = simp append_assoc

pub framed_line : (opening between first second : List ℕ) (a b : Data) → opening ≡ 123 ∷ (quoted first ++ 58 ∷ []) → between ≡ 44 ∷ (quoted second ++ 58 ∷ [])
    → opening ++ (compact_text a ++ (between ++ (compact_text b ++ 125 ∷ 10 ∷ []))) ≡ compact_text (object (member first a (member second b no_members))) ++ 10 ∷ []
framed_line opening between first second a b opens parts =
    ended opening between (compact_text a) (compact_text b) ∙ ap (λ (text : List ℕ). text ++ 10 ∷ []) (framed opening between first second a b opens parts)

-- ---- answers

columns_open : codes "{\"columns\":" ≡ 123 ∷ (quoted (codes "columns") ++ 58 ∷ [])
unfolding serde_json_on_literals
columns_open = refl

pub rows_part : codes ",\"rows\":" ≡ 44 ∷ (quoted (codes "rows") ++ 58 ∷ [])
unfolding serde_json_on_literals
rows_part = refl

pub compact : (answer : AnswerData) → json_text answer ≡ compact_text (answer_data answer) ++ 10 ∷ []
compact answer =
    let columns = same_list json_quoted string same_quoted answer.columns in
    let rows = same_list (json_list json_value) (list_data value_data) (same_list json_value value_data same_value) answer.rows in
    ap₂ (λ (cs rs : List ℕ). codes "{\"columns\":" ++ (cs ++ (codes ",\"rows\":" ++ (rs ++ codes "}\n")))) columns rows
    ∙ framed_line (codes "{\"columns\":") (codes ",\"rows\":") (codes "columns") (codes "rows") (list_data string answer.columns) (list_data (list_data value_data) answer.rows)
    columns_open rows_part
