-- What is written of a text is read as that text.
use Rattle.std.proofs.Common.{◌≡◌, ◌∙◌, ◌≢◌, ℕ, ◌==◌, Bool, true, false, List, [], ◌∷◌, ◌++◌, Option, None, Some, refl, sym, ap, arith, append_assoc, append-nil}
use Rattle.std.proofs.lemmas.Bool.Decides.{nat_tests}
use Rattle.std.specs.Prelude.{option_map}
use Rattle.std.specs.List.{flat_map}
use Rattle.csv_text.specs.Csv.{BeginsOther, csv_byte, csv_quoted, text_at, text_within, with_byte}

is_other : (byte : ℕ) → byte ≢ 34 → (byte == 34) ≡ false
is_other byte other = grind (arith, nat_tests)

is_quote : (byte : ℕ) → (byte == 34) ≡ true → byte ≡ 34
is_quote byte e = grind (arith, nat_tests)

byte_read : (byte : ℕ) (rest : List ℕ) → (byte == 34) ≡ false → text_within (byte ∷ rest) ≡ option_map (with_byte byte) (text_within rest)
unfolding text_within
byte_read byte [] e = rw e refl
byte_read byte (next ∷ rest) e = rw e refl

quote_read : (rest : List ℕ) → text_within (34 ∷ 34 ∷ rest) ≡ option_map (with_byte 34) (text_within rest)
unfolding text_within
quote_read rest = refl

end_read : (rest : List ℕ) → BeginsOther rest → text_within (34 ∷ rest) ≡ Some ([], rest)
unfolding text_within
end_read [] other = refl
end_read (byte ∷ rest) other = let e : (byte == 34) ≡ false = is_other byte other in rw e refl

within_more : (byte : ℕ) (text rest : List ℕ) (b : Bool) → (byte == 34) ≡ b → text_within (flat_map csv_byte text ++ 34 ∷ rest) ≡ Some (text, rest)
    → text_within (flat_map csv_byte (byte ∷ text) ++ 34 ∷ rest) ≡ Some (byte ∷ text, rest)
within_more byte text rest true e later =
    rw e (quote_read (flat_map csv_byte text ++ 34 ∷ rest) ∙ ap (option_map (with_byte 34)) later ∙ ap (λ (b : ℕ). Some (b ∷ text, rest)) (sym (is_quote byte e)))
within_more byte text rest false e later = rw e (byte_read byte (flat_map csv_byte text ++ 34 ∷ rest) e ∙ ap (option_map (with_byte byte)) later)

within_read : (text rest : List ℕ) → BeginsOther rest → text_within (flat_map csv_byte text ++ 34 ∷ rest) ≡ Some (text, rest)
within_read [] rest other = end_read rest other
within_read (byte ∷ text) rest other = within_more byte text rest (byte == 34) refl (within_read text rest other)

pub text_read_again : (text rest : List ℕ) → BeginsOther rest → text_at (csv_quoted text ++ rest) ≡ Some (text, rest)
text_read_again text rest other = ap text_within (append_assoc (flat_map csv_byte text) (34 ∷ []) rest) ∙ within_read text rest other

-- the text that was read, or nothing
text_of : Option (List ℕ × List ℕ) → List ℕ
text_of None = []
text_of (Some read) = read.0

read_alone : (text : List ℕ) → text_at (csv_quoted text) ≡ Some (text, [])
read_alone text = ap text_at (sym (append-nil (csv_quoted text))) ∙ text_read_again text [] tt

pub texts_apart : (text other : List ℕ) → csv_quoted text ≡ csv_quoted other → text ≡ other
unfolding text_of
texts_apart text other e = ap text_of (sym (read_alone text) ∙ ap text_at e ∙ read_alone other)
