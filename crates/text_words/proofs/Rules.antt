-- What the rules of words give is what is read, and the other way round.
use Rattle.std.proofs.Common.{◌≡◌, ◌≢◌, ℕ, zero, suc, ◌+◌, ◌<◌, Bool, true, false, not, ◌||◌, ◌==◌, nat_lt, List, [], ◌∷◌, ◌++◌, length, take, drop, Option, Some, None, option_and_then, is_some, cond, refl, sym, ap, subst, ◌∙◌, append_assoc, get_or, arith, inl, inr, ◌⊎◌}
use Rattle.std.proofs.Math.Seq.{take-append_seam, drop-append_seam}
use Rattle.std.proofs.lemmas.Bool.Decides.{nat_tests}
use Rattle.std.proofs.lemmas.List.{take-append-drop, append-nil}
use Rattle.std.specs.List.{AllByRecursion, position_or_len}
use Rattle.text_words.specs.declared.style.Style.{Style}
use Rattle.text_words.specs.declared.style.Style.TheVariants.{Spaced, Punctuated}
use Rattle.text_words.specs.declared.word.Word.{Word}
use Rattle.text_words.specs.declared.word.Word.TheVariants.{Quoted, Open, Close, Comma}
use Rattle.text_words.specs.Grammar.{IsPiece, raw, escaped_quote, escaped_backslash, escaped_newline, escaped_tab, escaped_digits, IsQuoted, no_byte, one_byte, IsWord, a_text, bytes, a_mark, MayFollow, AreBlanks, AreWords, no_word, one_word}
use Rattle.text_words.specs.Quoted.{byte_of, hex_escape, escape_at, piece_at, closing, with_byte, text_within, text_at}
use Rattle.text_words.specs.Words.{Read, is_blank, is_end, ends_word, skip_blanks, mark_of, quoted_word, unquoted_word, first_word, with_word, words_within, words_of}
use Rattle.text_words.proofs.Texts.{onward, text_step}
use Rattle.text_words.proofs.WordsLemmas.{words_on, on_skipped, words_step, onward as words_onward}

-- a spelled byte is read
piece_reads : {spelling : List ℕ} {byte : ℕ} → IsPiece spelling byte → (rest : List ℕ) → piece_at (spelling ++ rest) ≡ Some (byte, rest)
piece_reads (raw byte low quote slash) rest =
    let a : (byte == 34) ≡ false = grind (arith, nat_tests, quote) in
    let b : (byte == 92) ≡ false = grind (arith, nat_tests, slash) in
    let c : nat_lt byte 32 ≡ false = grind (arith, nat_tests, low) in
    rw (a, b, c) refl
piece_reads escaped_quote rest = refl
piece_reads escaped_backslash rest = refl
piece_reads escaped_newline rest = refl
piece_reads escaped_tab rest = refl
piece_reads (escaped_digits high low byte is) rest = rw is refl

text_reads : {spelling text : List ℕ} → IsQuoted spelling text → (rest : List ℕ) → text_at (spelling ++ (34 ∷ rest)) ≡ Some (text, rest)
text_reads no_byte rest = text_step (34 ∷ rest)
text_reads (one_byte piece more text byte is others) rest =
    let whole = piece ++ (more ++ (34 ∷ rest)) in
    ap text_at (append_assoc piece more (34 ∷ rest))
    ∙ (text_step whole ∙ (ap (onward text_at whole) (piece_reads is (more ++ (34 ∷ rest))) ∙ ap (with_byte byte) (text_reads others rest)))

-- which way a choice went
chosen : {A : Type 0} (b : Bool) (x y z : A) → cond b x y ≡ z → ((b ≡ true) × (x ≡ z)) ⊎ ((b ≡ false) × (y ≡ z))
chosen true x y z e = inl (refl, e)
chosen false x y z e = inr (refl, e)

-- a byte that was read is spelled so
abbrev Pieced : List ℕ → ℕ → List ℕ → Type 0
Pieced whole byte rest = (spelling : List ℕ) × IsPiece spelling byte × (whole ≡ spelling ++ rest)

abbrev pair : {A B : Type 0} → A → B → Option (A × B)
pair x y = Some (x, y)

abbrev parts : {A B : Type 0} → A → B → Option (A × B) → A × B
parts x y None = (x, y)
parts x y (Some p) = p

byte_of_pair : {A B : Type 0} (x : A) (y : B) (a : A) (b : B) → pair x y ≡ pair a b → (x ≡ a) × (y ≡ b)
byte_of_pair x y a b e = (ap (λ o. (parts x y o).0) e, ap (λ o. (parts x y o).1) e)

hex_rules : (after : List ℕ) (byte : ℕ) (rest : List ℕ) → hex_escape after ≡ Some (byte, rest) → Pieced (92 ∷ 120 ∷ after) byte rest
hex_rules [] byte rest e = absurd cc
hex_rules (high ∷ []) byte rest e = absurd cc
hex_rules (high ∷ low ∷ more) byte rest e = by_value (byte_of high low) refl e
  where
    by_value : (value : Option ℕ) → byte_of high low ≡ value → option_and_then (λ b. pair b more) value ≡ pair byte rest → (spelling : List ℕ) × IsPiece spelling byte × (92 ∷ 120 ∷ high ∷ low ∷ more ≡ spelling ++ rest)
    by_value None is e = absurd cc
    by_value (Some b) is e =
        let parts = byte_of_pair b more byte rest e in
        (92 ∷ 120 ∷ high ∷ low ∷ [], escaped_digits high low byte (is ∙ ap (λ x. Some x) parts.0), ap (λ xs. 92 ∷ 120 ∷ high ∷ low ∷ xs) parts.1)

one_escape : (code byte value : ℕ) (more rest : List ℕ) → IsPiece (92 ∷ code ∷ []) value → (c : ℕ) → c ≡ code → pair value more ≡ pair byte rest → Pieced (92 ∷ c ∷ more) byte rest
one_escape code byte value more rest piece c is e =
    let parts = byte_of_pair value more byte rest e in
    (92 ∷ code ∷ [], subst (IsPiece (92 ∷ code ∷ [])) parts.0 piece, ap (λ x. 92 ∷ x ∷ more) is ∙ ap (λ xs. 92 ∷ code ∷ xs) parts.1)

equal_where : (a b : ℕ) → (a == b) ≡ true → a ≡ b
equal_where a b h = grind (arith, nat_tests, h)

other_where : (a b : ℕ) → (a == b) ≡ false → a ≢ b
other_where a b h same = grind (arith, nat_tests, h, same)

escape_rules : (after : List ℕ) (byte : ℕ) (rest : List ℕ) → escape_at after ≡ Some (byte, rest) → Pieced (92 ∷ after) byte rest
escape_rules [] byte rest e = absurd cc
escape_rules (c ∷ more) byte rest e =
    elim (chosen (c == 34) _ _ _ e) [
      | inl h ↦ one_escape 34 byte 34 more rest escaped_quote c (equal_where c 34 h.0) h.1
      | inr h ↦ elim (chosen (c == 92) _ _ _ h.1) [
        | inl h ↦ one_escape 92 byte 92 more rest escaped_backslash c (equal_where c 92 h.0) h.1
        | inr h ↦ elim (chosen (c == 110) _ _ _ h.1) [
          | inl h ↦ one_escape 110 byte 10 more rest escaped_newline c (equal_where c 110 h.0) h.1
          | inr h ↦ elim (chosen (c == 116) _ _ _ h.1) [
            | inl h ↦ one_escape 116 byte 9 more rest escaped_tab c (equal_where c 116 h.0) h.1
            | inr h ↦ elim (chosen (c == 120) _ _ _ h.1) [
              | inl h ↦ rw (equal_where c 120 h.0) (hex_rules more byte rest h.1)
              | inr h ↦ absurd (let e = h.1 in cc)
            ]
          ]
        ]
      ]
    ]

piece_rules : (whole : List ℕ) (byte : ℕ) (rest : List ℕ) → piece_at whole ≡ Some (byte, rest) → Pieced whole byte rest
piece_rules [] byte rest e = absurd cc
piece_rules (b ∷ more) byte rest e =
    elim (chosen (b == 34) _ _ _ e) [
      | inl h ↦ absurd (let e = h.1 in cc)
      | inr quote ↦ elim (chosen (b == 92) _ _ _ quote.1) [
        | inl h ↦ rw (equal_where b 92 h.0) (escape_rules more byte rest h.1)
        | inr slash ↦ elim (chosen (nat_lt b 32) _ _ _ slash.1) [
          | inl h ↦ absurd (let e = h.1 in cc)
          | inr low ↦
              let parts = byte_of_pair b more byte rest low.1 in
              let high = low.0 in
              (b ∷ [], subst (IsPiece (b ∷ [])) parts.0 (raw b (grind (arith, nat_tests, high)) (other_where b 34 quote.0) (other_where b 92 slash.0)), ap (λ xs. b ∷ xs) parts.1)
        ]
      ]
    ]

-- a text that was read is spelled so
abbrev Texted : List ℕ → List ℕ → List ℕ → Type 0
Texted whole text rest = (spelling : List ℕ) × IsQuoted spelling text × (whole ≡ spelling ++ (34 ∷ rest))

closing_rules : (whole text rest : List ℕ) → closing whole ≡ Some (text, rest) → Texted whole text rest
closing_rules [] text rest e = absurd cc
closing_rules (b ∷ more) text rest e =
    elim (chosen (b == 34) _ _ _ e) [
      | inl h ↦ let parts = byte_of_pair [] more text rest h.1 in ([], subst (IsQuoted []) parts.0 no_byte, ap (λ x. x ∷ more) (equal_where b 34 h.0) ∙ ap (λ xs. 34 ∷ xs) parts.1)
      | inr h ↦ absurd (let e = h.1 in cc)
    ]

one_more_byte : (whole more text after : List ℕ) (byte : ℕ) → Pieced whole byte more → Texted more text after → Texted whole (byte ∷ text) after
one_more_byte whole more text after byte (piece, is, e) (spelling, spells, f) =
    (piece ++ spelling, one_byte piece spelling text byte is spells, e ∙ (ap (λ xs. piece ++ xs) f ∙ sym (append_assoc piece spelling (34 ∷ after))))

text_rules_onward : (read : List ℕ → Option (List ℕ × List ℕ)) (whole text after : List ℕ) (piece : Option (ℕ × List ℕ)) → piece_at whole ≡ piece
    → ((more text after : List ℕ) → read more ≡ Some (text, after) → Texted more text after) → onward read whole piece ≡ Some (text, after) → Texted whole text after
text_rules_onward read whole text after None at others e = closing_rules whole text after e
text_rules_onward read whole text after (Some p) at others e = by_rest (read p.1) refl e
  where
    by_rest : (found : Option (List ℕ × List ℕ)) → read p.1 ≡ found → with_byte p.0 found ≡ Some (text, after) → Texted whole text after
    by_rest None is e = absurd cc
    by_rest (Some t) is e =
        let parts = byte_of_pair (p.0 ∷ t.0) t.1 text after e in
        let all = one_more_byte whole p.1 t.0 t.1 p.0 (piece_rules whole p.0 p.1 at) (others p.1 t.0 t.1 is) in
        subst (λ x. Texted whole x after) parts.0 (subst (λ y. Texted whole (p.0 ∷ t.0) y) parts.1 all)

text_within_rules : (n : ℕ) (whole text after : List ℕ) → text_within n whole ≡ Some (text, after) → Texted whole text after
unfolding text_within
text_within_rules zero whole text after e = closing_rules whole text after e
text_within_rules (suc n) whole text after e = text_rules_onward (text_within n) whole text after (piece_at whole) refl (text_within_rules n) e

pub text_rules : (whole text after : List ℕ) → text_at whole ≡ Some (text, after) → Texted whole text after
text_rules whole text after e = text_within_rules (length whole) whole text after e

or_false : (a b : Bool) → (a || b) ≡ false → (a ≡ false) × (b ≡ false)
or_false true b h = absurd cc
or_false false b h = (refl, h)

none_where : {A : Type 0} (o : Option A) → is_some o ≡ false → o ≡ None
none_where None h = refl
none_where (Some x) h = absurd cc

-- a plain word reads up to where it ends
ends_there : (style : Style) (more rest : List ℕ) → AllByRecursion (λ byte. is_end style byte ≡ false) more → ends_word style rest ≡ true → position_or_len (is_end style) (more ++ rest) ≡ length more
ends_there style [] [] all ends = refl
ends_there style [] (r ∷ rest) all ends = rw ends refl
ends_there style (b ∷ more) rest all ends = rw all.0 (ap (λ n. 1 + n) (ends_there style more rest all.1 ends) ∙ omega arith)

no_quote_mark : (style : Style) (byte : ℕ) (word : Word) → mark_of style byte ≡ Some word → (byte == 34) ≡ false
no_quote_mark style byte word is = by_test (byte == 34) refl
  where
    at_quote : (style : Style) → mark_of style 34 ≡ Some word → ⊥
    at_quote Spaced e = cc
    at_quote Punctuated e = cc

    by_test : (quote : Bool) → (byte == 34) ≡ quote → (byte == 34) ≡ false
    by_test false e = e
    by_test true e = absurd (at_quote style (ap (mark_of style) (sym (equal_where byte 34 e)) ∙ is))

word_reads : {style : Style} {spelling : List ℕ} {word : Word} → IsWord style spelling word → (rest : List ℕ) → MayFollow style word rest → first_word style (spelling ++ rest) ≡ Some (word, rest)
unfolding first_word
word_reads (a_text style spelling text spells) rest follows =
    let read : text_at ((spelling ++ (34 ∷ [])) ++ rest) ≡ Some (text, rest) = ap text_at (append_assoc spelling (34 ∷ []) rest) ∙ text_reads spells rest in
    rw (read, follows) refl
word_reads (bytes style first more other inside all) rest follows =
    let quote : (first == 34) ≡ false = grind (arith, nat_tests, other) in
    let mark : mark_of style first ≡ None = none_where (mark_of style first) (or_false (is_blank first) _ inside).1 in
    let n : position_or_len (is_end style) (more ++ rest) ≡ length more = ends_there style more rest all follows in
    rw (quote, mark, n, take-append_seam more rest, drop-append_seam more rest) refl
word_reads (a_mark style byte word is) rest follows = rw (no_quote_mark style byte word is, is) refl

all_skipped : (line : List ℕ) → AreBlanks line → skip_blanks line ≡ []
all_skipped [] all = refl
all_skipped (b ∷ bs) all = rw all.0 (all_skipped bs all.1)

skipped_to : (blanks : List ℕ) (b : ℕ) (rest : List ℕ) → AreBlanks blanks → is_blank b ≡ false → skip_blanks (blanks ++ (b ∷ rest)) ≡ b ∷ rest
skipped_to [] b rest all stands = rw stands refl
skipped_to (c ∷ cs) b rest all stands = rw all.0 (skipped_to cs b rest all.1 stands)

no_blank_mark : (style : Style) (byte : ℕ) (word : Word) → mark_of style byte ≡ Some word → is_blank byte ≡ false
no_blank_mark style byte word is = by_test (byte == 32) (byte == 9) refl refl
  where
    at_space : (style : Style) → mark_of style 32 ≡ Some word → ⊥
    at_space Spaced e = cc
    at_space Punctuated e = cc

    at_tab : (style : Style) → mark_of style 9 ≡ Some word → ⊥
    at_tab Spaced e = cc
    at_tab Punctuated e = cc

    by_test : (space tab : Bool) → (byte == 32) ≡ space → (byte == 9) ≡ tab → ((byte == 32) || (byte == 9)) ≡ false
    by_test true tab e f = absurd (at_space style (ap (mark_of style) (sym (equal_where byte 32 e)) ∙ is))
    by_test false true e f = absurd (at_tab style (ap (mark_of style) (sym (equal_where byte 9 f)) ∙ is))
    by_test false false e f = rw (e, f) refl

-- blanks before a word are passed over, and no more
word_stands : {style : Style} {spelling : List ℕ} {word : Word} → IsWord style spelling word → (blanks rest : List ℕ) → AreBlanks blanks
    → (skip_blanks (blanks ++ (spelling ++ rest)) ≡ spelling ++ rest) × (0 < length (spelling ++ rest))
word_stands (a_text style spelling text spells) blanks rest all = (skipped_to blanks 34 ((spelling ++ (34 ∷ [])) ++ rest) all refl, omega arith)
word_stands (bytes style first more other inside every) blanks rest all = (skipped_to blanks first (more ++ rest) all (or_false (is_blank first) _ inside).0, omega arith)
word_stands (a_mark style byte word is) blanks rest all = (skipped_to blanks byte rest all (no_blank_mark style byte word is), omega arith)

pub words_from_rules : {style : Style} {line : List ℕ} {words : List Word} → AreWords style line words → words_of style line ≡ Some words
unfolding words_within
words_from_rules (no_word style line all) = rw (all_skipped line all) refl
words_from_rules (one_word style blanks spelling rest word words all is follows others) =
    let stands = word_stands is blanks rest all in
    sym (on_skipped style (blanks ++ (spelling ++ rest)))
    ∙ (ap (words_on style) stands.0
    ∙ (words_step style (spelling ++ rest) stands.1
    ∙ (ap (words_onward (words_on style)) (word_reads is rest follows)
    ∙ (ap (with_word word) (on_skipped style rest ∙ words_from_rules others)))))

-- blanks stand before what is not passed over
skipped_blanks : (line : List ℕ) → (blanks : List ℕ) × AreBlanks blanks × (line ≡ blanks ++ skip_blanks line)
skipped_blanks [] = ([], tt, refl)
skipped_blanks (b ∷ bs) = by_test b bs (is_blank b) refl (skipped_blanks bs)
  where
    by_test : (b : ℕ) (bs : List ℕ) (blank : Bool) → is_blank b ≡ blank → (blanks : List ℕ) × AreBlanks blanks × (bs ≡ blanks ++ skip_blanks bs)
        → (blanks : List ℕ) × AreBlanks blanks × (b ∷ bs ≡ blanks ++ cond blank (skip_blanks bs) (b ∷ bs))
    by_test b bs true is (blanks, all, e) = (b ∷ blanks, (is, all), ap (λ xs. b ∷ xs) e)
    by_test b bs false is others = ([], tt, refl)

-- a word that was read is spelled so
abbrev Worded : Style → List ℕ → Word → List ℕ → Type 0
Worded style whole word rest = (spelling : List ℕ) × IsWord style spelling word × MayFollow style word rest × (whole ≡ spelling ++ rest)

none_in_front : (style : Style) (rest : List ℕ) → AllByRecursion (λ byte. is_end style byte ≡ false) (take (position_or_len (is_end style) rest) rest)
none_in_front style [] = tt
none_in_front style (b ∷ bs) = by_test b bs (is_end style b) refl (none_in_front style bs)
  where
    by_test : (b : ℕ) (bs : List ℕ) (ends : Bool) → is_end style b ≡ ends → AllByRecursion (λ byte. is_end style byte ≡ false) (take (position_or_len (is_end style) bs) bs)
        → AllByRecursion (λ byte. is_end style byte ≡ false) (take (cond (not ends) (1 + position_or_len (is_end style) bs) 0) (b ∷ bs))
    by_test b bs true is all = tt
    by_test b bs false is all =
        let one : 1 + position_or_len (is_end style) bs ≡ suc (position_or_len (is_end style) bs) = omega arith in
        rw one (is, all)

ends_after : (style : Style) (rest : List ℕ) → ends_word style (drop (position_or_len (is_end style) rest) rest) ≡ true
ends_after style [] = refl
ends_after style (b ∷ bs) = by_test b bs (is_end style b) refl (ends_after style bs)
  where
    by_test : (b : ℕ) (bs : List ℕ) (ends : Bool) → is_end style b ≡ ends → ends_word style (drop (position_or_len (is_end style) bs) bs) ≡ true
        → ends_word style (drop (cond (not ends) (1 + position_or_len (is_end style) bs) 0) (b ∷ bs)) ≡ true
    by_test b bs true is h = is
    by_test b bs false is h =
        let one : 1 + position_or_len (is_end style) bs ≡ suc (position_or_len (is_end style) bs) = omega arith in
        rw one h

abbrev word_in : Option Word → Word
word_in None = Open
word_in (Some w) = w

one_mark : (mark word : Word) (rest : List ℕ) → Some mark ≡ Some word → MayFollow Punctuated mark rest → MayFollow Punctuated word rest
one_mark mark word rest e h = subst (λ w. MayFollow Punctuated w rest) (ap word_in e) h

mark_follows : (style : Style) (byte : ℕ) (word : Word) (rest : List ℕ) → mark_of style byte ≡ Some word → MayFollow style word rest
mark_follows Spaced byte word rest is = absurd cc
mark_follows Punctuated byte word rest is =
    elim (chosen (byte == 40) _ _ _ is) [
      | inl h ↦ one_mark Open word rest h.1 tt
      | inr h ↦ elim (chosen (byte == 41) _ _ _ h.1) [
        | inl h ↦ one_mark Close word rest h.1 tt
        | inr h ↦ elim (chosen (byte == 44) _ _ _ h.1) [
          | inl h ↦ one_mark Comma word rest h.1 tt
          | inr h ↦ absurd (let e = h.1 in cc)
        ]
      ]
    ]

unquoted_rules : (style : Style) (byte : ℕ) (rest : List ℕ) (mark : Option Word) → is_blank byte ≡ false → (byte == 34) ≡ false → mark_of style byte ≡ mark
    → Worded style (byte ∷ rest) (unquoted_word style byte rest mark).0 (unquoted_word style byte rest mark).1
unquoted_rules style byte rest (Some word) stands quote is = (byte ∷ [], a_mark style byte word is, mark_follows style byte word rest is, refl)
unquoted_rules style byte rest None stands quote is =
    let n = position_or_len (is_end style) rest in
    let inside : is_end style byte ≡ false = rw (stands, is) refl in
    (byte ∷ take n rest, bytes style byte (take n rest) (other_where byte 34 quote) inside (none_in_front style rest), ends_after style rest, ap (λ xs. byte ∷ xs) (sym (take-append-drop n rest)))

same_word : (style : Style) (whole : List ℕ) (read : Read) (word : Word) (rest : List ℕ) → Some read ≡ pair word rest → Worded style whole read.0 read.1 → Worded style whole word rest
same_word style whole read word rest e h =
    let parts = byte_of_pair read.0 read.1 word rest e in
    subst (λ w. Worded style whole w rest) parts.0 (subst (λ r. Worded style whole read.0 r) parts.1 h)

quoted_rules : (style : Style) (whole : List ℕ) (word : Word) (rest : List ℕ) → quoted_word style whole ≡ Some (word, rest) → Worded style (34 ∷ whole) word rest
quoted_rules style whole word rest e = by_text (text_at whole) refl e
  where
    by_end : (text after : List ℕ) (ends : Bool) → ends_word style after ≡ ends → text_at whole ≡ Some (text, after) → cond ends (pair (Quoted text) after) None ≡ pair word rest → Worded style (34 ∷ whole) word rest
    by_end text after false ends is e = absurd cc
    by_end text after true ends is e =
        let spelled = text_rules whole text after is in
        let regrouped : whole ≡ (spelled.0 ++ (34 ∷ [])) ++ after = spelled.2 ∙ sym (append_assoc spelled.0 (34 ∷ []) after) in
        same_word style (34 ∷ whole) (Quoted text, after) word rest e (34 ∷ (spelled.0 ++ (34 ∷ [])), a_text style spelled.0 text spelled.1, ends, ap (λ xs. 34 ∷ xs) regrouped)

    by_text : (text : Option (List ℕ × List ℕ)) → text_at whole ≡ text → option_and_then (λ text. cond (ends_word style text.1) (pair (Quoted text.0) text.1) None) text ≡ pair word rest → Worded style (34 ∷ whole) word rest
    by_text None is e = absurd cc
    by_text (Some t) is e = by_end t.0 t.1 (ends_word style t.1) refl is e

word_rules : (style : Style) (byte : ℕ) (more : List ℕ) (word : Word) (rest : List ℕ) → is_blank byte ≡ false → first_word style (byte ∷ more) ≡ Some (word, rest) → Worded style (byte ∷ more) word rest
unfolding first_word
word_rules style byte more word rest stands e =
    elim (chosen (byte == 34) _ _ _ e) [
      | inl h ↦ subst (λ b. Worded style (b ∷ more) word rest) (sym (equal_where byte 34 h.0)) (quoted_rules style more word rest h.1)
      | inr h ↦ same_word style (byte ∷ more) (unquoted_word style byte more (mark_of style byte)) word rest h.1 (unquoted_rules style byte more (mark_of style byte) stands h.0 refl)
    ]

stands_first : (line : List ℕ) (b : ℕ) (rest : List ℕ) → skip_blanks line ≡ b ∷ rest → is_blank b ≡ false
stands_first [] b rest e = absurd cc
stands_first (c ∷ cs) b rest e = by_test (is_blank c) refl e (stands_first cs b rest)
  where
    by_test : (blank : Bool) → is_blank c ≡ blank → cond blank (skip_blanks cs) (c ∷ cs) ≡ b ∷ rest → (skip_blanks cs ≡ b ∷ rest → is_blank b ≡ false) → is_blank b ≡ false
    by_test true is e others = others e
    by_test false is e others = let same : c ≡ b = ap (λ xs. get_or xs 0 0) e in subst (λ x. is_blank x ≡ false) same is

abbrev words_in : Option (List Word) → List Word
words_in None = []
words_in (Some words) = words

all_blank : (style : Style) (line : List ℕ) (words : List Word) → skip_blanks line ≡ [] → Some [] ≡ Some words → AreWords style line words
all_blank style line words none e =
    let front = skipped_blanks line in
    let same : front.0 ≡ line = sym (front.2 ∙ (ap (λ xs. front.0 ++ xs) none ∙ append-nil front.0)) in
    subst (AreWords style line) (ap words_in e) (no_word style line (subst AreBlanks same front.1))

one_and_others : (style : Style) (line : List ℕ) (b : ℕ) (more : List ℕ) (word : Word) (rest : List ℕ) (words : List Word) → skip_blanks line ≡ b ∷ more → Worded style (b ∷ more) word rest → AreWords style rest words
    → AreWords style line (word ∷ words)
one_and_others style line b more word rest words stands (spelling, is, follows, e) others =
    let front = skipped_blanks line in
    let parts : line ≡ front.0 ++ (spelling ++ rest) = front.2 ∙ ap (λ xs. front.0 ++ xs) (stands ∙ e) in
    subst (λ xs. AreWords style xs (word ∷ words)) (sym parts) (one_word style front.0 spelling rest word words front.1 is follows others)

some_word : (read : List ℕ → Option (List Word)) (style : Style) (line : List ℕ) (b : ℕ) (more : List ℕ) (words : List Word) → skip_blanks line ≡ b ∷ more
    → ((rest : List ℕ) (words : List Word) → read (skip_blanks rest) ≡ Some words → AreWords style rest words)
    → words_onward read (first_word style (b ∷ more)) ≡ Some words → AreWords style line words
some_word read style line b more words stands others e = by_word (first_word style (b ∷ more)) refl e
  where
    by_rest : (word : Word) (rest : List ℕ) (found : Option (List Word)) → first_word style (b ∷ more) ≡ Some (word, rest) → read (skip_blanks rest) ≡ found → with_word word found ≡ Some words → AreWords style line words
    by_rest word rest None is read_so e = absurd cc
    by_rest word rest (Some found) is read_so e =
        subst (AreWords style line) (ap words_in e) (one_and_others style line b more word rest found stands (word_rules style b more word rest (stands_first line b more stands) is) (others rest found read_so))

    by_word : (found : Option Read) → first_word style (b ∷ more) ≡ found → words_onward read found ≡ Some words → AreWords style line words
    by_word None is e = absurd cc
    by_word (Some found) is e = by_rest found.0 found.1 (read (skip_blanks found.1)) is refl e

words_by : (n : ℕ) (style : Style) (line rest : List ℕ) (words : List Word) → skip_blanks line ≡ rest → words_within n style rest ≡ Some words → AreWords style line words
unfolding words_within
words_by n style line [] words at e = all_blank style line words at e
words_by zero style line (b ∷ more) words at e = absurd cc
words_by (suc n) style line (b ∷ more) words at e =
    some_word (words_within n style) style line b more words at (λ after others is. words_by n style after (skip_blanks after) others refl is) e

pub words_to_rules : (style : Style) (line : List ℕ) (words : List Word) → words_of style line ≡ Some words → AreWords style line words
words_to_rules style line words e = words_by (length line) style line (skip_blanks line) words refl e
