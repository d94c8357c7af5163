-- What is printed is read again.
use Rattle.std.proofs.Common.{◌≡◌, ◌≢◌, ℕ, suc, ◌+◌, ◌*◌, ◌/◌, ◌%◌, ◌^◌, ◌≤◌, ◌<◌, Bool, true, false, ◌||◌, ◌==◌, nat_lt, List, [], ◌∷◌, length, Some, option_map, cond, refl, sym, ap, subst, ◌∙◌, arith, ℤ, pos, negsuc, IsTrue}
use Rattle.std.specs.Prelude.{codes, decimal, FitsSigned}
use Rattle.std.specs.Char.{digit_char}
use Rattle.std.specs.Fmt.{signed_decimal}
use Rattle.std.specs.Int.{w64}
use Rattle.std.specs.List.{AllByRecursion, flat_map, list_all}
use Rattle.std.specs.Str.Parse.{AllDigits}
use Rattle.std.proofs.lemmas.Bool.Decides.{nat_tests}
use Rattle.std.proofs.lemmas.Fmt.{digits_decimal, decimal_nonempty}
use Rattle.std.proofs.lemmas.List.{append-nil}
use Rattle.std.proofs.lemmas.Str.Parse.{tells_digits}
use Rattle.text_words.specs.declared.literal.Literal.{Literal}
use Rattle.text_words.specs.declared.literal.Literal.TheVariants.{Null, Integer, Text, Flag}
use Rattle.text_words.specs.declared.style.Style.{Style}
use Rattle.text_words.specs.declared.style.Style.TheVariants.{Spaced, Punctuated}
use Rattle.text_words.specs.declared.word.Word.{Word}
use Rattle.text_words.specs.declared.word.Word.TheVariants.{Plain, Quoted}
use Rattle.text_words.specs.Grammar.{IsPiece, raw, escaped_quote, escaped_backslash, escaped_newline, escaped_tab, escaped_digits, IsQuoted, no_byte, one_byte, IsWord, a_text, bytes, MayFollow, no_word, one_word}
use Rattle.text_words.specs.Integers.{int_of}
use Rattle.text_words.specs.Literals.{value_of, plain_literal}
use Rattle.text_words.specs.Printing.{escaped, hex_escaped, quoted, literal_text, IsLiteral}
use Rattle.text_words.specs.Quoted.{digit_of, byte_of}
use Rattle.text_words.specs.Words.{is_end, words_of}
use Rattle.text_words.proofs.IntegersLemmas.{and_true}
use Rattle.text_words.proofs.Printed.{own, printed_is_read}
use Rattle.text_words.proofs.Rules.{words_from_rules}

digit_again : (d : ℕ) → d < 16 → digit_of (digit_char d) ≡ Some d
digit_again d low = by_size (nat_lt d 10) refl
  where
    by_size : (small : Bool) → nat_lt d 10 ≡ small → digit_of (cond small (48 + d) (87 + d)) ≡ Some d
    by_size true is = grind (arith, nat_tests, is)
    by_size false is = grind (arith, nat_tests, is, low)

byte_again : (byte : ℕ) → byte < 128 → byte_of (digit_char (byte / 16)) (digit_char (byte % 16)) ≡ Some byte
byte_again byte low =
    let high = digit_again (byte / 16) (omega arith) in
    let small = digit_again (byte % 16) (omega arith) in
    let test : nat_lt (byte / 16) 8 ≡ true = let h : byte / 16 < 8 = omega arith in grind (arith, nat_tests, h) in
    let sum : 16 * (byte / 16) + byte % 16 ≡ byte = omega arith in
    rw (high, small, test) (ap (λ b. Some b) sum)

-- each printed byte spells the byte
spelled : (byte : ℕ) → IsPiece (escaped byte) byte
spelled byte = at_quote (byte == 34) refl
  where
    plain : (special : Bool) → (nat_lt byte 32 || byte == 127) ≡ special → byte ≢ 34 → byte ≢ 92 → IsPiece (cond special (hex_escaped byte) (byte ∷ [])) byte
    plain true is quote slash = escaped_digits (digit_char (byte / 16)) (digit_char (byte % 16)) byte (byte_again byte (grind (arith, nat_tests, is)))
    plain false is quote slash = raw byte (grind (arith, nat_tests, is)) quote slash

    at_tab : (tab : Bool) → (byte == 9) ≡ tab → byte ≢ 34 → byte ≢ 92 → IsPiece (cond tab (92 ∷ 116 ∷ []) (cond (nat_lt byte 32 || byte == 127) (hex_escaped byte) (byte ∷ []))) byte
    at_tab true is quote slash = let same : 9 ≡ byte = grind (arith, nat_tests, is) in subst (IsPiece (92 ∷ 116 ∷ [])) same escaped_tab
    at_tab false is quote slash = plain (nat_lt byte 32 || byte == 127) refl quote slash

    at_newline : (newline : Bool) → (byte == 10) ≡ newline → byte ≢ 34 → byte ≢ 92
        → IsPiece (cond newline (92 ∷ 110 ∷ []) (cond (byte == 9) (92 ∷ 116 ∷ []) (cond (nat_lt byte 32 || byte == 127) (hex_escaped byte) (byte ∷ [])))) byte
    at_newline true is quote slash = let same : 10 ≡ byte = grind (arith, nat_tests, is) in subst (IsPiece (92 ∷ 110 ∷ [])) same escaped_newline
    at_newline false is quote slash = at_tab (byte == 9) refl quote slash

    at_backslash : (backslash : Bool) → (byte == 92) ≡ backslash → byte ≢ 34
        → IsPiece (cond backslash (92 ∷ 92 ∷ []) (cond (byte == 10) (92 ∷ 110 ∷ []) (cond (byte == 9) (92 ∷ 116 ∷ []) (cond (nat_lt byte 32 || byte == 127) (hex_escaped byte) (byte ∷ []))))) byte
    at_backslash true is quote = let same : 92 ≡ byte = grind (arith, nat_tests, is) in subst (IsPiece (92 ∷ 92 ∷ [])) same escaped_backslash
    at_backslash false is quote = at_newline (byte == 10) refl quote (λ same. grind (arith, nat_tests, is, same))

    at_quote : (quote : Bool) → (byte == 34) ≡ quote
        → IsPiece (cond quote (92 ∷ 34 ∷ []) (cond (byte == 92) (92 ∷ 92 ∷ []) (cond (byte == 10) (92 ∷ 110 ∷ []) (cond (byte == 9) (92 ∷ 116 ∷ []) (cond (nat_lt byte 32 || byte == 127) (hex_escaped byte) (byte ∷ [])))))) byte
    at_quote true is = let same : 34 ≡ byte = grind (arith, nat_tests, is) in subst (IsPiece (92 ∷ 34 ∷ [])) same escaped_quote
    at_quote false is = at_backslash (byte == 92) refl (λ same. grind (arith, nat_tests, is, same))

spelled_text : (text : List ℕ) → IsQuoted (flat_map escaped text) text
spelled_text [] = no_byte
spelled_text (byte ∷ text) = one_byte (escaped byte) (flat_map escaped text) text byte (spelled byte) (spelled_text text)

-- a line of one word
alone : (style : Style) (spelling : List ℕ) (word : Word) → IsWord style spelling word → MayFollow style word [] → words_of style spelling ≡ Some (word ∷ [])
alone style spelling word is follows =
    ap (words_of style) (sym (append-nil spelling)) ∙ words_from_rules (one_word style [] spelling [] word [] tt is follows (no_word style [] tt))

-- digits and letters are no ends of words
abbrev Stands : Style → ℕ → Type 0
Stands style byte = is_end style byte ≡ false

digit_stands : (style : Style) (byte : ℕ) → 45 ≤ byte → Stands style byte
digit_stands Spaced byte low =
    let a : (byte == 32) ≡ false = grind (arith, nat_tests, low) in
    let b : (byte == 9) ≡ false = grind (arith, nat_tests, low) in
    rw (a, b) refl
digit_stands Punctuated byte low =
    let a : (byte == 32) ≡ false = grind (arith, nat_tests, low) in
    let b : (byte == 9) ≡ false = grind (arith, nat_tests, low) in
    let c : (byte == 40) ≡ false = grind (arith, nat_tests, low) in
    let d : (byte == 41) ≡ false = grind (arith, nat_tests, low) in
    let e : (byte == 44) ≡ false = grind (arith, nat_tests, low) in
    rw (a, b, c, d, e) refl

digits_stand : (style : Style) (ds : List ℕ) → AllDigits 10 ds → AllByRecursion (Stands style) ds
digits_stand style [] h = tt
digits_stand style (d ∷ ds) h = (digit_stands style d (let low = (tells_digits.parts d ds h).0.0 in omega (arith, low)), digits_stand style ds h.1)

-- bytes from `-` on, of which the first is at most `9`, are a plain word and no keyword
number_word : (style : Style) (c : ℕ) (cs : List ℕ) → 45 ≤ c → AllByRecursion (Stands style) cs → IsWord style (c ∷ cs) (Plain (c ∷ cs))
number_word style c cs low all = bytes style c cs (λ same. omega (arith, low, same)) (digit_stands style c low) all

no_keyword : (c : ℕ) (cs : List ℕ) → c ≤ 57 → plain_literal (c ∷ cs) ≡ option_map (λ n. Integer n) (int_of (c ∷ cs))
no_keyword c cs high =
    let a : (c == 78) ≡ false = grind (arith, nat_tests, high) in
    let b : (c == 84) ≡ false = grind (arith, nat_tests, high) in
    let d : (c == 70) ≡ false = grind (arith, nat_tests, high) in
    rw (a, b, d) refl

-- a value and the word that is read from what is printed of it
abbrev ReadsAs : Style → List ℕ → Literal → Type 0
ReadsAs style printed literal = (word : Word) × (words_of style printed ≡ Some (word ∷ [])) × (value_of word ≡ Some literal)

number_again : (style : Style) (c : ℕ) (cs : List ℕ) (n : ℤ) → 45 ≤ c → c ≤ 57 → AllByRecursion (Stands style) cs → int_of (c ∷ cs) ≡ Some n → ReadsAs style (c ∷ cs) (Integer n)
number_again style c cs n low high all read =
    (Plain (c ∷ cs), alone style (c ∷ cs) (Plain (c ∷ cs)) (number_word style c cs low all) refl, no_keyword c cs high ∙ ap (option_map (λ n. Integer n)) read)

digits_again : (style : Style) (ds : List ℕ) (n : ℤ) → AllDigits 10 ds → 0 < length ds → int_of ds ≡ Some n → ReadsAs style ds (Integer n)
digits_again style [] n digits some read = absurd (omega arith)
digits_again style (c ∷ cs) n digits some read =
    let digit = (tells_digits.parts c cs digits).0 in
    let low = digit.0 in
    let high = digit.1 in
    number_again style c cs n (omega (arith, low)) high (digits_stand style cs digits.1) read

integer_again : (style : Style) (n : ℤ) → FitsSigned w64 n → ReadsAs style (signed_decimal n) (Integer n)
integer_again style (pos d) small =
    let low : d < 2 ^ 63 = small.sfits in
    let fit : d < 2 ^ 64 = omega (arith, low) in
    digits_again style (decimal d) (pos d) (digits_decimal own d fit) (decimal_nonempty d fit) (printed_is_read (pos d) small)
integer_again style (negsuc d) small =
    let low : d < 2 ^ 63 = small.sfits in
    let fit : suc d < 2 ^ 64 = omega (arith, low) in
    number_again style 45 (decimal (suc d)) (negsuc d) (omega arith) (omega arith) (digits_stand style (decimal (suc d)) (digits_decimal own (suc d) fit)) (printed_is_read (negsuc d) small)

letter : (style : Style) (byte : ℕ) → IsTrue (nat_lt 64 byte) → Stands style byte
letter style byte high = digit_stands style byte (grind (arith, nat_tests, high))

keyword : (style : Style) (c : ℕ) (cs : List ℕ) (literal : Literal) → IsTrue (nat_lt 64 c) → IsTrue (list_all (nat_lt 64) cs) → plain_literal (c ∷ cs) ≡ Some literal → ReadsAs style (c ∷ cs) literal
keyword style c cs literal high all value =
    (Plain (c ∷ cs), alone style (c ∷ cs) (Plain (c ∷ cs)) (bytes style c cs (λ same. grind (arith, nat_tests, high, same)) (letter style c high) (letters cs all)) refl, value)
  where
    letters : (cs : List ℕ) → IsTrue (list_all (nat_lt 64) cs) → AllByRecursion (Stands style) cs
    letters [] all = tt
    letters (b ∷ bs) all = let both = and_true (nat_lt 64 b) _ all in (letter style b both.0, letters bs both.1)

pub read_again : (style : Style) (literal : Literal) → IsLiteral literal → (word : Word) × (words_of style (literal_text literal) ≡ Some (word ∷ [])) × (value_of word ≡ Some literal)
read_again style Null is = keyword style 78 (codes "ULL") Null refl refl refl
read_again style (Integer n) is = integer_again style n is
read_again style (Text text) is = (Quoted text, alone style (quoted text) (Quoted text) (a_text style (flat_map escaped text) text (spelled_text text)) refl, refl)
read_again style (Flag true) is = keyword style 84 (codes "RUE") (Flag true) refl refl refl
read_again style (Flag false) is = keyword style 70 (codes "ALSE") (Flag false) refl refl refl
