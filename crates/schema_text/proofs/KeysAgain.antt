-- A key is read from the digits that are printed of it, and a path from its two parts.
use Rattle.std.proofs.Common.{◌≢◌, ◌≡◌, ℕ, zero, suc, ◌+◌, ◌/◌, ◌%◌, ◌<◌, ◌==◌, ◌&&◌, nat_lt, Bool, true, false, inl, inr, List, [], ◌∷◌, ◌++◌, length, drop, take, Some, refl, sym, ap, subst, ◌∙◌, length-append, append-nil, arith}
use Rattle.std.specs.Prelude.{option_map, position, slice_index}
use Rattle.std.specs.Int.{w32, to_be_bytes}
use Rattle.std.specs.List.{AllByRecursion, list_all, position_or_len}
use Rattle.std.proofs.lemmas.Bool.{and_parts, cases_lt}
use Rattle.std.proofs.lemmas.Bool.Decides.{nat_tests}
use Rattle.std.proofs.lemmas.List.{take_at}
use Rattle.std.proofs.lemmas.Nat.{from_be_bytes-to_be_bytes_4}
use Rattle.std.proofs.Math.Seq.{drop-append-add}
use Rattle.hex.specs.Hex.{encode_lower, encode_with, lower_digits}
use Rattle.hex.proofs.HexLemmas.{decode_sized-encode_lower}
use Rattle.text_words.specs.Grammar.{AreWords, bytes, no_word, one_word}
use Rattle.text_words.specs.Hexadecimal.{is_lower_digit, block_of_hex}
use Rattle.text_words.specs.Words.{is_end}
use Rattle.text_words.specs.declared.style.Style.TheVariants.{Spaced}
use Rattle.text_words.specs.declared.word.Word.TheVariants as word
use Rattle.update_model.specs.Block.{AreBytes, IsBlock}
use Rattle.update_model.specs.declared.author_key.AuthorKey.{AuthorKey}
use Rattle.row_check.specs.declared.cmp.Cmp.{Cmp}
use Rattle.schema_text.specs.declared.form.Form.TheVariants as form
use Rattle.schema_text.specs.declared.keyword.Keyword.TheVariants as keyword
use Rattle.schema_text.specs.Forms.{author_in, key_in, path_in}
use Rattle.schema_text.specs.Printing.{HasNoDot, HasSizes, IsBare, key_bytes, sign_text}
use Rattle.schema_text.proofs.LinesAgain.{AreByRule, line_read}
use Rattle.schema_text.proofs.FormsAgain.{IsReadAgain, sign_each, sign_read}

-- ---- digits

-- whether the first n digits are lower-case digits
abbrev are_lower : ℕ → Bool
are_lower zero = true
are_lower (suc n) = is_lower_digit (slice_index lower_digits n) && are_lower n

lower_at : (n k : ℕ) → are_lower n ≡ true → k < n → is_lower_digit (slice_index lower_digits k) ≡ true
lower_at zero k h below = absurd (omega arith)
lower_at (suc n) k h below =
    let parts = and_parts (is_lower_digit (slice_index lower_digits n)) (are_lower n) h in
    elim (cases_lt k n) [
      | inl lower ↦ lower_at n k parts.1 lower
      | inr top ↦
          let same : k ≡ n = omega arith in
          rw same parts.0
    ]

digit_lower : (k : ℕ) → k < 16 → is_lower_digit (slice_index lower_digits k) ≡ true
digit_lower k below = lower_at 16 k refl below

pub digits_lower : (xs : List ℕ) → AreBytes xs → list_all is_lower_digit (encode_lower xs) ≡ true
unfolding encode_with
digits_lower [] h = refl
digits_lower (b ∷ rest) h =
    let small : b < 256 = h 0 in
    let high : b / 16 < 16 = omega arith in
    let low : b % 16 < 16 = omega arith in
    rw (digit_lower (b / 16) high, digit_lower (b % 16) low, digits_lower rest (λ i. h (suc i))) refl

pub block_read : (n : ℕ) (xs : List ℕ) → IsBlock n xs → block_of_hex n (encode_lower xs) ≡ Some xs
block_read n xs block = rw (digits_lower xs block.each, decode_sized-encode_lower xs n block.len block.each) refl

-- bytes that stand in a word as they are
abbrev pub Stands : ℕ → Type 0
Stands byte = (is_end Spaced byte ≡ false) × (byte ≢ 34)

pub stands_bare : AreByRule → (text : List ℕ) → 0 < length text → AllByRecursion Stands text → IsBare Spaced text
stands_bare rule [] some all = absurd (omega arith)
stands_bare rule (b ∷ bs) some all =
    let alone = one_word Spaced [] (b ∷ bs) [] (word.Plain (b ∷ bs)) [] tt (bytes Spaced b bs all.0.1 all.0.0 (ends bs all.1)) refl (no_word Spaced [] tt) in
    (rule Spaced (b ∷ bs) (word.Plain (b ∷ bs) ∷ [])).0 (subst (λ (l : List ℕ). AreWords Spaced l (word.Plain (b ∷ bs) ∷ [])) (append-nil (b ∷ bs)) alone)
  where
    ends : (xs : List ℕ) → AllByRecursion Stands xs → AllByRecursion (λ byte. is_end Spaced byte ≡ false) xs
    ends [] all = tt
    ends (x ∷ xs) all = (all.0.0, ends xs all.1)

-- letters and digits
pub high_stands : (byte : ℕ) → 47 < byte → Stands byte
high_stands byte high =
    let a : (byte == 32) ≡ false = grind (arith, nat_tests, high) in
    let b : (byte == 9) ≡ false = grind (arith, nat_tests, high) in
    (rw (a, b) refl, λ same. omega (arith, high, same))

pub lower_high : (byte : ℕ) → is_lower_digit byte ≡ true → 47 < byte
lower_high byte h = grind (arith, nat_tests, h)

pub lower_stand : (digits : List ℕ) → list_all is_lower_digit digits ≡ true → AllByRecursion Stands digits
lower_stand [] h = tt
lower_stand (d ∷ ds) h = let parts = and_parts (is_lower_digit d) (list_all is_lower_digit ds) h in (high_stands d (lower_high d parts.0), lower_stand ds parts.1)

-- ---- keys

bytes_join : (xs ys : List ℕ) → AreBytes xs → AreBytes ys → AreBytes (xs ++ ys)
bytes_join [] ys h k = k
bytes_join (x ∷ xs) ys h k = λ i. at i (bytes_join xs ys (λ j. h (suc j)) k)
  where
    at : (i : ℕ) → AreBytes (xs ++ ys) → slice_index (x ∷ (xs ++ ys)) i < 256
    at zero others = h 0
    at (suc i) others = others i

word_bytes : (n : ℕ) → AreBytes (to_be_bytes w32 n)
word_bytes n zero = omega arith
word_bytes n (suc zero) = omega arith
word_bytes n (suc (suc zero)) = omega arith
word_bytes n (suc (suc (suc zero))) = omega arith
word_bytes n (suc (suc (suc (suc i)))) = omega arith

key_block : (key : AuthorKey) → HasSizes key → IsBlock 56 (key_bytes key)
key_block key sizes = record {
  len =
      let a = length-append key.ident key.root in
      let b = sizes.ident.len in
      let c = sizes.root.len in
      omega arith;
  each =
      let name = bytes_join key.ident key.root sizes.ident.each sizes.root.each in
      let behind = bytes_join (to_be_bytes w32 key.ots) (key.ident ++ key.root) (word_bytes key.ots) name in
      bytes_join (to_be_bytes w32 key.lms) (to_be_bytes w32 key.ots ++ (key.ident ++ key.root)) (word_bytes key.lms) behind;
}

ident_read : (key : AuthorKey) → HasSizes key → take 16 (key.ident ++ key.root) ≡ key.ident
ident_read key sizes = take_at key.ident key.root 16 sizes.ident.len

root_read : (key : AuthorKey) → HasSizes key → take 32 (drop 16 (key.ident ++ key.root)) ≡ key.root
root_read key sizes =
    let len = sizes.ident.len in
    let all : 16 ≡ length key.ident + 0 = omega (arith, len) in
    let behind : drop 16 (key.ident ++ key.root) ≡ key.root = ap (λ (n : ℕ). drop n (key.ident ++ key.root)) all ∙ drop-append-add key.ident key.root 0 in
    rw behind (ap (take 32) (sym (append-nil key.root)) ∙ take_at key.root [] 32 sizes.root.len)

abbrev key_of : ℕ → ℕ → List ℕ → List ℕ → AuthorKey
key_of lms ots ident root = record { lms = lms; ots = ots; ident = ident; root = root }

of_parts : (key : AuthorKey) (lms ots : ℕ) (ident root : List ℕ) → lms ≡ key.lms → ots ≡ key.ots → ident ≡ key.ident → root ≡ key.root → key_of lms ots ident root ≡ key
of_parts key lms ots ident root a b c d = rw (a, b, c, d) refl

key_read : (key : AuthorKey) → HasSizes key → key_in (key_bytes key) ≡ key
key_read key sizes =
    of_parts key _ _ _ _ (from_be_bytes-to_be_bytes_4 key.lms sizes.lms) (from_be_bytes-to_be_bytes_4 key.ots sizes.ots) (ident_read key sizes) (root_read key sizes)

digits_there : (key : AuthorKey) → 0 < length (encode_lower (key_bytes key))
unfolding encode_with
digits_there key = omega arith

pub author_again : AreByRule → (key : AuthorKey) → HasSizes key → IsReadAgain (form.Author key)
author_again rule key sizes =
    let block = key_block key sizes in
    let digits = encode_lower (key_bytes key) in
    let bare : IsBare Spaced digits = stands_bare rule digits (digits_there key) (lower_stand digits (digits_lower (key_bytes key) block.each)) in
    let read : author_in digits ≡ Some (form.Author key) =
    ap (option_map (λ xs. form.Author (key_in xs))) (block_read 56 (key_bytes key) block) ∙ ap (λ (k : AuthorKey). Some (form.Author k)) (key_read key sizes) in
    line_read rule keyword.Author (digits ∷ []) (word.Plain digits ∷ []) (form.Author key) (bare, tt) read

-- ---- bytes up to a mark

mark_after : (p : ℕ → Bool) (front rest : List ℕ) (mark : ℕ) → p mark ≡ true → AllByRecursion (λ byte. p byte ≡ false) front → position_or_len p (front ++ mark ∷ rest) ≡ length front
mark_after p [] rest mark is none = rw is refl
mark_after p (b ∷ bs) rest mark is none = rw (none.0, mark_after p bs rest mark is none.1) (omega arith)

longer : (front rest : List ℕ) (mark : ℕ) → nat_lt (length front) (length (front ++ mark ∷ rest)) ≡ true
longer front rest mark =
    let below : length front < length (front ++ mark ∷ rest) = simp length-append (omega arith) in
    grind (arith, nat_tests, below)

pub mark_at : (p : ℕ → Bool) (front rest : List ℕ) (mark : ℕ) → p mark ≡ true → AllByRecursion (λ byte. p byte ≡ false) front → position p (front ++ mark ∷ rest) ≡ Some (length front)
mark_at p front rest mark is none = rw (mark_after p front rest mark is none, longer front rest mark) refl

pub behind_mark : (front rest : List ℕ) (mark : ℕ) → drop (length front + 1) (front ++ mark ∷ rest) ≡ rest
behind_mark front rest mark = drop-append-add front (mark ∷ rest) 1

path_read : (reference target : List ℕ) → HasNoDot reference → path_in (reference ++ 46 ∷ target) ≡ Some (reference, target)
path_read reference target none =
    rw (mark_at (λ byte. byte == 46) reference target 46 refl none, take_at reference (46 ∷ target) (length reference) refl, behind_mark reference target 46) refl

pub match_again : AreByRule → (column : List ℕ) (sign : Cmp) (reference target : List ℕ) → IsBare Spaced column → IsBare Spaced (reference ++ 46 ∷ target) → HasNoDot reference
    → IsReadAgain (form.Match column sign reference target)
match_again rule column sign reference target bare bare_path none =
    let path = reference ++ 46 ∷ target in
    line_read rule keyword.Match (column ∷ sign_text sign ∷ path ∷ []) (word.Plain column ∷ word.Plain (sign_text sign) ∷ word.Plain path ∷ [])
    (form.Match column sign reference target) (bare, (sign_each sign, (bare_path, tt))) (rw (sign_read sign, path_read reference target none) refl)
