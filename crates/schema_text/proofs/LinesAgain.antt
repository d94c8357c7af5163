-- What is printed of a form is read again.
use Rattle.std.proofs.Common.{◌≡◌, ℕ, true, List, [], ◌∷◌, ◌++◌, Some, None, refl, ap, subst, append_assoc}
use Rattle.std.specs.Prelude.{◌↔◌, codes}
use Rattle.text_words.specs.Grammar.{AreBlanks, AreWords, MayFollow, no_word, one_word}
use Rattle.text_words.specs.Words.{ends_word, first_word, is_blank, skip_blanks, words_of}
use Rattle.text_words.specs.declared.style.Style.{Style}
use Rattle.text_words.specs.declared.style.Style.TheVariants.{Spaced}
use Rattle.text_words.specs.declared.word.Word.{Word}
use Rattle.text_words.specs.declared.word.Word.TheVariants as word
use Rattle.schema_text.specs.declared.form.Form.{Form}
use Rattle.schema_text.specs.declared.keyword.Keyword.{Keyword}
use Rattle.schema_text.specs.declared.keyword.Keyword.TheVariants as keyword
use Rattle.schema_text.specs.Forms.{after_check, form_at, form_with, keyword_of, plain_form}
use Rattle.schema_text.specs.Printing.{IsOneWord, behind_blanks}

-- words are read as they stand by the rules
abbrev pub AreByRule : Type 0
AreByRule = (style : Style) (line : List ℕ) (words : List Word) → AreWords style line words ↔ (words_of style line ≡ Some words)

-- ---- words behind blanks

blank_before : {style : Style} {line : List ℕ} {words : List Word} (b : ℕ) → is_blank b ≡ true → AreWords style line words → AreWords style (b ∷ line) words
blank_before b is (no_word style line all) = no_word style (b ∷ line) (is, all)
blank_before b is (one_word style blanks spelling rest w words all spells follows others) = one_word style (b ∷ blanks) spelling rest w words (is, all) spells follows others

blanks_before : {style : Style} (blanks line : List ℕ) {words : List Word} → AreBlanks blanks → AreWords style line words → AreWords style (blanks ++ line) words
blanks_before [] line all h = h
blanks_before (b ∷ bs) line all h = blank_before b all.0 (blanks_before bs line all.1 h)

no_words : {style : Style} {line : List ℕ} {words : List Word} → AreWords style line words → words ≡ [] → AreBlanks line
no_words (no_word style line all) none = all
no_words (one_word style blanks spelling rest w words all spells follows others) none = absurd cc

ends_behind : (style : Style) (after rest : List ℕ) → ends_word style after ≡ true → ends_word style rest ≡ true → ends_word style (after ++ rest) ≡ true
ends_behind style [] rest h ends = ends
ends_behind style (b ∷ bs) rest h ends = h

follows_on : (style : Style) (w : Word) (after rest : List ℕ) → MayFollow style w after → ends_word style rest ≡ true → MayFollow style w (after ++ rest)
follows_on style (word.Plain text) after rest h ends = ends_behind style after rest h ends
follows_on style (word.Quoted text) after rest h ends = ends_behind style after rest h ends
follows_on style word.Open after rest h ends = tt
follows_on style word.Close after rest h ends = tt
follows_on style word.Comma after rest h ends = tt

abbrev first_in : Word → List Word → Word
first_in other [] = other
first_in other (w ∷ ws) = w

abbrev others_in : List Word → List Word
others_in [] = []
others_in (w ∷ ws) = ws

-- a text that is one word, behind a blank and before other words
one_more : {style : Style} {text : List ℕ} {read : List Word} → AreWords style text read → (w : Word) (rest : List ℕ) (words : List Word) → read ≡ w ∷ []
    → AreWords style rest words → ends_word style rest ≡ true → AreWords style (32 ∷ (text ++ rest)) (w ∷ words)
one_more (no_word style line all) w rest words e more ends = absurd cc
one_more (one_word style blanks spelling after v vs all spells follows others) w rest words e more ends =
    let same : v ≡ w = ap (first_in w) e in
    let blank : AreBlanks after = no_words others (ap others_in e) in
    let regrouped : (32 ∷ blanks) ++ (spelling ++ (after ++ rest)) ≡ 32 ∷ ((blanks ++ (spelling ++ after)) ++ rest) = ap (λ (l : List ℕ). 32 ∷ l) (simp append_assoc) in
    subst (λ (x : Word). AreWords style (32 ∷ ((blanks ++ (spelling ++ after)) ++ rest)) (x ∷ words)) same
    (subst (λ (l : List ℕ). AreWords style l (v ∷ words)) regrouped
    (one_word style (32 ∷ blanks) spelling (after ++ rest) v words (refl, all) spells (follows_on style v after rest follows ends) (blanks_before after rest blank more)))

-- each text is its word
abbrev pub AreEach : Style → List (List ℕ) → List Word → Type 0
AreEach style [] [] = Unit {0}
AreEach style [] (w ∷ ws) = ⊥
AreEach style (text ∷ texts) [] = ⊥
AreEach style (text ∷ texts) (w ∷ ws) = IsOneWord style text w × AreEach style texts ws

blank_ends : (style : Style) (texts : List (List ℕ)) → ends_word style (behind_blanks texts) ≡ true
blank_ends style [] = refl
blank_ends style (text ∷ texts) = refl

are_words : AreByRule → (style : Style) (texts : List (List ℕ)) (words : List Word) → AreEach style texts words → AreWords style (behind_blanks texts) words
are_words rule style [] [] each = no_word style [] tt
are_words rule style [] (w ∷ ws) each = absurd each
are_words rule style (text ∷ texts) [] each = absurd each
are_words rule style (text ∷ texts) (w ∷ ws) each =
    one_more ((rule style text (w ∷ [])).1 each.0) w (behind_blanks texts) ws refl (are_words rule style texts ws each.1) (blank_ends style texts)

pub words_read : AreByRule → (style : Style) (texts : List (List ℕ)) (words : List Word) → AreEach style texts words → words_of style (behind_blanks texts) ≡ Some words
words_read rule style texts words each = (rule style (behind_blanks texts) words).0 (are_words rule style texts words each)

-- ---- the first word

abbrev pub keyword_text : Keyword → List ℕ
keyword_text keyword.Database = codes "DATABASE"
keyword_text keyword.Author = codes "AUTHOR"
keyword_text keyword.Table = codes "TABLE"
keyword_text keyword.Column = codes "COLUMN"
keyword_text keyword.Ref = codes "REF"
keyword_text keyword.Match = codes "MATCH"
keyword_text keyword.Unique = codes "UNIQUE"
keyword_text keyword.AtMost = codes "ATMOST"
keyword_text keyword.Sample = codes "SAMPLE"

-- a line that begins with a keyword
abbrev pub line_of : Keyword → List (List ℕ) → List ℕ
line_of k texts = keyword_text k ++ behind_blanks texts

keyword_read : (k : Keyword) → keyword_of (keyword_text k) ≡ Some k
keyword_read keyword.Database = refl
keyword_read keyword.Author = refl
keyword_read keyword.Table = refl
keyword_read keyword.Column = refl
keyword_read keyword.Ref = refl
keyword_read keyword.Match = refl
keyword_read keyword.Unique = refl
keyword_read keyword.AtMost = refl
keyword_read keyword.Sample = refl

head_spaced : (k : Keyword) (texts : List (List ℕ)) → first_word Spaced (line_of k texts) ≡ Some (word.Plain (keyword_text k), behind_blanks texts)
unfolding first_word
head_spaced keyword.Database [] = refl
head_spaced keyword.Database (t ∷ ts) = refl
head_spaced keyword.Author [] = refl
head_spaced keyword.Author (t ∷ ts) = refl
head_spaced keyword.Table [] = refl
head_spaced keyword.Table (t ∷ ts) = refl
head_spaced keyword.Column [] = refl
head_spaced keyword.Column (t ∷ ts) = refl
head_spaced keyword.Ref [] = refl
head_spaced keyword.Ref (t ∷ ts) = refl
head_spaced keyword.Match [] = refl
head_spaced keyword.Match (t ∷ ts) = refl
head_spaced keyword.Unique [] = refl
head_spaced keyword.Unique (t ∷ ts) = refl
head_spaced keyword.AtMost [] = refl
head_spaced keyword.AtMost (t ∷ ts) = refl
head_spaced keyword.Sample [] = refl
head_spaced keyword.Sample (t ∷ ts) = refl

-- no keyword is CHECK
unchecked : (k : Keyword) (texts : List (List ℕ)) → after_check (line_of k texts) ≡ None
unfolding after_check first_word
unchecked keyword.Database [] = refl
unchecked keyword.Database (t ∷ ts) = refl
unchecked keyword.Author [] = refl
unchecked keyword.Author (t ∷ ts) = refl
unchecked keyword.Table [] = refl
unchecked keyword.Table (t ∷ ts) = refl
unchecked keyword.Column [] = refl
unchecked keyword.Column (t ∷ ts) = refl
unchecked keyword.Ref [] = refl
unchecked keyword.Ref (t ∷ ts) = refl
unchecked keyword.Match [] = refl
unchecked keyword.Match (t ∷ ts) = refl
unchecked keyword.Unique [] = refl
unchecked keyword.Unique (t ∷ ts) = refl
unchecked keyword.AtMost [] = refl
unchecked keyword.AtMost (t ∷ ts) = refl
unchecked keyword.Sample [] = refl
unchecked keyword.Sample (t ∷ ts) = refl

not_skipped : (k : Keyword) (rest : List ℕ) → skip_blanks (keyword_text k ++ rest) ≡ keyword_text k ++ rest
not_skipped keyword.Database rest = refl
not_skipped keyword.Author rest = refl
not_skipped keyword.Table rest = refl
not_skipped keyword.Column rest = refl
not_skipped keyword.Ref rest = refl
not_skipped keyword.Match rest = refl
not_skipped keyword.Unique rest = refl
not_skipped keyword.AtMost rest = refl
not_skipped keyword.Sample rest = refl

-- a line is read as what its keyword and its words are
pub line_read : AreByRule → (k : Keyword) (texts : List (List ℕ)) (words : List Word) (f : Form) → AreEach Spaced texts words → form_with k words ≡ Some f
    → form_at (skip_blanks (line_of k texts)) ≡ Some f
unfolding form_at plain_form
line_read rule k texts words f each is =
    rw (not_skipped k (behind_blanks texts), unchecked k texts, head_spaced k texts, keyword_read k, words_read rule Spaced texts words each) is
