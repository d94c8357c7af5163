-- Reading the words of a text one after another, as loops do.
use Rattle.std.proofs.Common.{◌≡◌, ℕ, zero, suc, ◌≤◌, ◌<◌, Bool, true, false, List, [], ◌∷◌, length, Option, Some, None, refl, sym, ap, ◌∙◌, append_assoc, arith}
use Rattle.std.specs.Prelude.{IsTrue, ◌↔◌, nat_le}
use Rattle.std.specs.Str.{is_utf8}
use Rattle.std.proofs.lemmas.Bool.{and_parts, and_from, le-leb, leb-true}
use Rattle.std.proofs.lemmas.List.{append-nil}
use Rattle.std.proofs.lemmas.Str.{IsUtf8-from_is_utf8, is_utf8-from_IsUtf8}
use Rattle.update_model.specs.Text.{IsText}
use Rattle.text_words.specs.declared.style.Style.TheVariants.{Punctuated}
use Rattle.text_words.specs.Lines.{lines_of}
use Rattle.text_words.specs.Words.{Read, skip_blanks, first_word}
use Rattle.text_words.proofs.WordsLemmas.{word_shorter, skipped_length}
use Rattle.expression_text.specs.declared.token.Token.{Token}
use Rattle.query.specs.declared.stop.Spot.{Spot}
use Rattle.query.specs.Pieces.{Placed, nothing, with_first, joined, spot_at, token_by, next_token, pieces_within, pieces_of_line, pieces_of_lines, is_text, end_from}

-- ---- the words of a line

shorter_by : (start : List ℕ) (read : Option Read) → 0 < length start → first_word Punctuated start ≡ read → length (token_by read).1 < length start
shorter_by start None some e = some
shorter_by start (Some read) some e = word_shorter Punctuated start read.1 read.0 e

-- each word takes at least one byte
pub token_shorter : (start : List ℕ) → 0 < length start → length (next_token start).1 < length start
token_shorter start some = shorter_by start (first_word Punctuated start) some refl

-- any bound that is not below the number of bytes gives the same words
same_within : (n m number total : ℕ) (start : List ℕ) → length start ≤ n → length start ≤ m → pieces_within n number total start ≡ pieces_within m number total start
unfolding pieces_within
same_within n m number total [] a b = refl
same_within zero m number total (byte ∷ bytes) a b = absurd (omega arith)
same_within (suc n) zero number total (byte ∷ bytes) a b = absurd (omega arith)
same_within (suc n) (suc m) number total (byte ∷ bytes) a b =
    let start : List ℕ = byte ∷ bytes in
    let some : 0 < length start = omega arith in
    let less = token_shorter start some in
    ap (with_first (next_token start).0 (spot_at number total start)) (same_within n m number total (next_token start).1 (omega arith) (omega arith))

-- the words from here on
abbrev pub pieces_on : ℕ → ℕ → List ℕ → Placed
pieces_on number total start = pieces_within (length start) number total start

pieces_step : (number total : ℕ) (start : List ℕ) → 0 < length start
    → pieces_on number total start ≡ with_first (next_token start).0 (spot_at number total start) (pieces_on number total (next_token start).1)
unfolding pieces_within
pieces_step number total [] some = absurd (omega arith)
pieces_step number total (byte ∷ bytes) some =
    let start : List ℕ = byte ∷ bytes in
    let less = token_shorter start some in
    ap (with_first (next_token start).0 (spot_at number total start)) (same_within (length bytes) (length (next_token start).1) number total (next_token start).1 (omega arith) (omega arith))

pub pieces_none : (number total : ℕ) (start : List ℕ) → length start ≡ 0 → pieces_on number total start ≡ nothing
unfolding pieces_within
pieces_none number total [] e = refl
pieces_none number total (byte ∷ bytes) e = absurd (omega arith)

pub pieces_start : (number : ℕ) (line : List ℕ) → pieces_on number (length line) (skip_blanks line) ≡ pieces_of_line number line
pieces_start number line =
    let low = skipped_length line in
    same_within (length (skip_blanks line)) (length line) number (length line) (skip_blanks line) (omega arith) (omega arith)

-- ---- lists of words put together

pub joined_assoc : (a b c : Placed) → joined (joined a b) c ≡ joined a (joined b c)
joined_assoc a b c = λ i. (append_assoc a.0 b.0 c.0 i, append_assoc a.1 b.1 c.1 i)

pub joined_nothing : (a : Placed) → joined a nothing ≡ a
joined_nothing a = λ i. (append-nil a.0 i, append-nil a.1 i)

abbrev pub one : Token → Spot → Placed
one word spot = with_first word spot nothing

pub pieces_more : (number total : ℕ) (start : List ℕ) (front all : Placed) → 0 < length start → joined front (pieces_on number total start) ≡ all
    → joined (joined front (one (next_token start).0 (spot_at number total start))) (pieces_on number total (next_token start).1) ≡ all
pieces_more number total start front all some so_far =
    joined_assoc front (one (next_token start).0 (spot_at number total start)) (pieces_on number total (next_token start).1)
    ∙ (ap (joined front) (sym (pieces_step number total start some)) ∙ so_far)

-- ---- the lines of a text

no_lines : lines_of [] ≡ []
unfolding lines_of
no_lines = refl

pub lines_end : (number : ℕ) (rest : List ℕ) (front all : Placed) → rest ≡ [] → joined front (pieces_of_lines number (lines_of rest)) ≡ all → front ≡ all
lines_end number rest front all none so_far =
    sym (joined_nothing front) ∙ (sym (ap (λ (lines : List (List ℕ)). joined front (pieces_of_lines number lines)) (ap lines_of none ∙ no_lines)) ∙ so_far)

pub last_end : (spot : Spot) (number : ℕ) (rest : List ℕ) (all : Spot) → rest ≡ [] → end_from spot number (lines_of rest) ≡ all → spot ≡ all
last_end spot number rest all none so_far = sym (ap (end_from spot number) (ap lines_of none ∙ no_lines)) ∙ so_far

-- ---- texts

pub text_is : (answer : Bool) (bytes : List ℕ) → (IsTrue answer ↔ IsText bytes) → answer ≡ is_text bytes
text_is true bytes h =
    let text = h.0 refl in
    let few : length bytes ≤ 1024 = text.0 in
    let utf8 : is_utf8 bytes ≡ true = is_utf8-from_IsUtf8 bytes text.1 in
    sym (and_from (nat_le (length bytes) 1024) (is_utf8 bytes) (le-leb (length bytes) 1024 few) utf8)
text_is false bytes h =
    let step : (b : Bool) → is_text bytes ≡ b → false ≡ b = elim [
      | true ↦ λ e. let parts = and_parts (nat_le (length bytes) 1024) (is_utf8 bytes) e in h.1 (leb-true (length bytes) 1024 parts.0, IsUtf8-from_is_utf8 bytes parts.1)
      | false ↦ λ e. refl
    ] in
    step (is_text bytes) refl
