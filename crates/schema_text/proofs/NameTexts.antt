-- A name may stand in a row as a text.
use Rattle.std.proofs.Common.{◌≡◌, ℕ, ◌<◌, ◌≤◌, zero, suc, true, ◌&&◌, ◌||◌, List, [], ◌∷◌, length, leb, eqb, arith, inl, inr}
use Rattle.std.proofs.lemmas.Bool.{and_parts, or_cases, or_left, and_from, leb-true, eqb-true}
use Rattle.std.proofs.lemmas.Str.{IsUtf8-from_ascii}
use Rattle.std.specs.Char.{is_ascii_lowercase, is_ascii_digit}
use Rattle.std.specs.List.{list_all}
use Rattle.std.specs.Str.{IsAscii}
use Rattle.update_model.specs.Text.{IsText}
use Rattle.text_words.specs.Names.{is_name_byte, is_spelled_as_name, is_a_name}

high : (lo hi c : ℕ) → (leb lo c && leb c hi) ≡ true → c ≤ hi
high lo hi c h = leb-true c hi (and_parts (leb lo c) (leb c hi) h).1

byte_small : (c : ℕ) → is_name_byte c ≡ true → c < 128
byte_small c h = elim (or_cases (is_ascii_lowercase c || is_ascii_digit c) (eqb c 95) h) [
  | inl a ↦ elim (or_cases (is_ascii_lowercase c) (is_ascii_digit c) a) [
    | inl b ↦ omega (arith, high 97 122 c b)
    | inr b ↦ omega (arith, high 48 57 c b)
  ]
  | inr a ↦ omega (arith, eqb-true c 95 a)
]

all_small : (bs : List ℕ) → list_all is_name_byte bs ≡ true → IsAscii bs
all_small [] h i = omega arith
all_small (b ∷ bs) h zero = byte_small b (and_parts (is_name_byte b) (list_all is_name_byte bs) h).0
all_small (b ∷ bs) h (suc i) = all_small bs (and_parts (is_name_byte b) (list_all is_name_byte bs) h).1 i

spelled_small : (bs : List ℕ) → is_spelled_as_name bs ≡ true → IsAscii bs
spelled_small [] h i = omega arith
spelled_small (b ∷ bs) h i =
    let two = and_parts (is_ascii_lowercase b) (list_all is_name_byte bs) h in
    all_small (b ∷ bs) (and_from (is_name_byte b) (list_all is_name_byte bs) (or_left (is_ascii_lowercase b || is_ascii_digit b) (eqb b 95) (or_left (is_ascii_lowercase b) (is_ascii_digit b) two.0)) two.1) i

pub name_is_text : (name : List ℕ) → is_a_name name ≡ true → IsText name
name_is_text name h =
    let two = and_parts (leb (length name) 32) (is_spelled_as_name name) h in
    let short : length name ≤ 32 = leb-true (length name) 32 two.0 in
    (omega arith, IsUtf8-from_ascii name (spelled_small name two.1))
