-- Reading words one after another, as a loop does.
use Rattle.std.proofs.Common.{◌≡◌, ℕ, zero, suc, ◌≤◌, ◌<◌, Bool, true, false, ◌==◌, List, [], ◌∷◌, ◌++◌, length, Option, Some, None, option_map, option_and_then, cond, refl, sym, ap, subst, ◌∙◌, append_assoc, arith, IfSome, length-drop}
use Rattle.std.proofs.lemmas.List.{append-nil}
use Rattle.std.specs.List.{position_or_len}
use Rattle.text_words.specs.declared.style.Style.{Style}
use Rattle.text_words.specs.declared.word.Word.{Word}
use Rattle.text_words.specs.declared.word.Word.TheVariants.{Quoted}
use Rattle.text_words.specs.Quoted.{text_at}
use Rattle.text_words.specs.Words.{Read, is_blank, is_end, ends_word, skip_blanks, mark_of, quoted_word, unquoted_word, first_word, with_word, words_within, words_of}
use Rattle.text_words.proofs.Texts.{Leaves, text_leaves}

-- what was read before, and what is still read
abbrev pub with_front : List Word → Option (List Word) → Option (List Word)
with_front front read = option_map (λ words. front ++ words) read

-- the words from here on, of which the first begins at the first byte
abbrev pub words_on : Style → List ℕ → Option (List Word)
words_on style bytes = words_within (length bytes) style bytes

chosen : {A : Type 0} (P : A → Type 0) (b : Bool) (x y : A) → P x → P y → P (cond b x y)
chosen P true x y p q = p
chosen P false x y p q = q

pub skipped_length : (bytes : List ℕ) → length (skip_blanks bytes) ≤ length bytes
skipped_length [] = omega arith
skipped_length (byte ∷ rest) =
    let h = skipped_length rest in
    chosen (λ bytes. length bytes ≤ length (byte ∷ rest)) (is_blank byte) _ _ (omega arith) (omega arith)

-- a word is followed by fewer bytes than these
abbrev Shortens : ℕ → Option Read → Type 0
Shortens n read = IfSome read (λ word. length word.1 < n)

unquoted_shortens : (style : Style) (byte : ℕ) (rest : List ℕ) (mark : Option Word) → length (unquoted_word style byte rest mark).1 < suc (length rest)
unquoted_shortens style byte rest (Some mark) = omega arith
unquoted_shortens style byte rest None = let h = length-drop (position_or_len (is_end style) rest) rest in omega arith

ended : (style : Style) (n : ℕ) (bytes after : List ℕ) (ends : Bool) → length after < n → Shortens n (cond ends (Some (Quoted bytes, after)) None)
ended style n bytes after true low = low
ended style n bytes after false low = tt

quoted_shortens : (style : Style) (n : ℕ) (text : Option (List ℕ × List ℕ)) → Leaves n text
    → Shortens n (option_and_then (λ text. cond (ends_word style text.1) (Some (Quoted text.0, text.1)) None) text)
quoted_shortens style n None leaves = tt
quoted_shortens style n (Some text) leaves = ended style n text.0 text.1 (ends_word style text.1) leaves

quoted_less : (n : ℕ) (read : Option Read) → Shortens n read → Shortens (suc n) read
quoted_less n None h = tt
quoted_less n (Some word) h = omega arith

-- a word takes at least one byte
word_shortens : (style : Style) (bytes : List ℕ) → Shortens (length bytes) (first_word style bytes)
unfolding first_word
word_shortens style [] = tt
word_shortens style (byte ∷ rest) =
    chosen (Shortens (length (byte ∷ rest))) (byte == 34) _ _
    (quoted_less (length rest) (quoted_word style rest) (quoted_shortens style (length rest) (text_at rest) (text_leaves rest)))
    (unquoted_shortens style byte rest (mark_of style byte))

pub word_shorter : (style : Style) (bytes after : List ℕ) (word : Word) → first_word style bytes ≡ Some (word, after) → length (skip_blanks after) < length bytes
word_shorter style bytes after word e =
    let low : length after < length bytes = subst (Shortens (length bytes)) e (word_shortens style bytes) in
    let le = skipped_length after in
    omega arith

-- the words that one begins
abbrev pub onward : (List ℕ → Option (List Word)) → Option Read → Option (List Word)
onward words read = option_and_then (λ read. with_word read.0 (words (skip_blanks read.1))) read

alike : (f g : List ℕ → Option (List Word)) (n : ℕ) (read : Option Read) → Shortens n read
    → ((rest : List ℕ) → length rest < n → f rest ≡ g rest) → onward f read ≡ onward g read
alike f g n None h same = refl
alike f g n (Some word) h same = let le = skipped_length word.1 in ap (with_word word.0) (same (skip_blanks word.1) (omega arith))

-- any bound that is not below the number of bytes gives the same words
same_within : (n m : ℕ) (style : Style) (bytes : List ℕ) → length bytes ≤ n → length bytes ≤ m → words_within n style bytes ≡ words_within m style bytes
unfolding words_within
same_within n m style [] le_n le_m = refl
same_within zero m style (b ∷ rest) le_n le_m = absurd (omega arith)
same_within (suc n) zero style (b ∷ rest) le_n le_m = absurd (omega arith)
same_within (suc n) (suc m) style (b ∷ rest) le_n le_m =
    alike (words_within n style) (words_within m style) (length (b ∷ rest)) (first_word style (b ∷ rest)) (word_shortens style (b ∷ rest))
    (λ more low. same_within n m style more (omega arith) (omega arith))

-- the words from a byte on are the word there, and the words after it
pub words_step : (style : Style) (bytes : List ℕ) → 0 < length bytes → words_on style bytes ≡ onward (words_on style) (first_word style bytes)
unfolding words_within
words_step style [] some = absurd (omega arith)
words_step style (b ∷ rest) some =
    alike (words_within (length rest) style) (words_on style) (length (b ∷ rest)) (first_word style (b ∷ rest)) (word_shortens style (b ∷ rest))
    (λ more low. same_within (length rest) (length more) style more (omega arith) (omega arith))

regroup : (front : List Word) (word : Word) (read : Option (List Word)) → with_front front (with_word word read) ≡ with_front (front ++ word ∷ []) read
regroup front word None = refl
regroup front word (Some words) = ap (λ (all : List Word). Some all) (simp append_assoc)

pub words_more : (style : Style) (front : List Word) (rest after : List ℕ) (word : Word) (total : Option (List Word)) → 0 < length rest → first_word style rest ≡ Some (word, after)
    → with_front front (words_on style rest) ≡ total → with_front (front ++ word ∷ []) (words_on style (skip_blanks after)) ≡ total
words_more style front rest after word total some read so_far =
    let step : words_on style rest ≡ with_word word (words_on style (skip_blanks after)) = words_step style rest some ∙ ap (onward (words_on style)) read in
    sym (regroup front word (words_on style (skip_blanks after))) ∙ (sym (ap (with_front front) step) ∙ so_far)

pub words_bad : (style : Style) (front : List Word) (rest : List ℕ) (total : Option (List Word)) → 0 < length rest → first_word style rest ≡ None
    → with_front front (words_on style rest) ≡ total → None ≡ total
words_bad style front rest total some read so_far =
    let step : words_on style rest ≡ None = words_step style rest some ∙ ap (onward (words_on style)) read in
    sym (ap (with_front front) step) ∙ so_far

pub words_done : (style : Style) (front : List Word) (rest : List ℕ) (total : Option (List Word)) → length rest ≡ 0 → with_front front (words_on style rest) ≡ total → Some front ≡ total
unfolding words_within
words_done style front [] total none so_far = ap (λ (all : List Word). Some all) (sym (append-nil front)) ∙ so_far
words_done style front (b ∷ rest) total none so_far = absurd (omega arith)

front_of_none : (read : Option (List Word)) → with_front [] read ≡ read
front_of_none None = refl
front_of_none (Some words) = refl

pub on_skipped : (style : Style) (line : List ℕ) → words_on style (skip_blanks line) ≡ words_of style line
on_skipped style line =
    let le = skipped_length line in
    same_within (length (skip_blanks line)) (length line) style (skip_blanks line) (omega arith) (omega arith)

pub words_start : (style : Style) (line : List ℕ) → with_front [] (words_on style (skip_blanks line)) ≡ words_of style line
words_start style line = front_of_none (words_on style (skip_blanks line)) ∙ on_skipped style line
