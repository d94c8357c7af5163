-- Words behind blanks, and how they are read one after another.
use Rattle.std.proofs.Common.{◌≡◌, ℕ, ◌<◌, true, List, [], ◌∷◌, ◌++◌, length, Option, Some, None, refl, sym, ap, subst, ◌∙◌, append_assoc, arith}
use Rattle.std.specs.Prelude.{◌↔◌}
use Rattle.text_words.specs.Grammar.{AreBlanks, AreWords, MayFollow, no_word, one_word}
use Rattle.text_words.specs.Words.{Read, ends_word, first_word, is_blank, skip_blanks, with_word, words_of, words_within}
use Rattle.text_words.specs.declared.style.Style.{Style}
use Rattle.text_words.specs.declared.word.Word.{Word}
use Rattle.text_words.specs.declared.word.Word.TheVariants as word
use Rattle.text_words.proofs.WordsLemmas.{on_skipped, onward, words_on, words_step}

-- words are read as they stand by the rules
abbrev pub AreByRule : Type 0
AreByRule = (style : Style) (line : List ℕ) (words : List Word) → AreWords style line words ↔ (words_of style line ≡ Some words)

-- a line of these bytes alone is this one word
abbrev pub IsOneWord : Style → List ℕ → Word → Type 0
IsOneWord style text w = words_of style text ≡ Some (w ∷ [])

-- words, each behind a blank
abbrev pub behind_blanks : List (List ℕ) → List ℕ
behind_blanks [] = []
behind_blanks (text ∷ texts) = 32 ∷ (text ++ behind_blanks texts)

-- each text is its word
abbrev pub AreEach : Style → List (List ℕ) → List Word → Type 0
AreEach style [] [] = Unit {0}
AreEach style [] (w ∷ ws) = ⊥
AreEach style (text ∷ texts) [] = ⊥
AreEach style (text ∷ texts) (w ∷ ws) = IsOneWord style text w × AreEach style texts ws

-- ---- words behind blanks

blank_before : {style : Style} {line : List ℕ} {words : List Word} (b : ℕ) → is_blank b ≡ true → AreWords style line words → AreWords style (b ∷ line) words
blank_before b is (no_word style line all) = no_word style (b ∷ line) (is, all)
blank_before b is (one_word style blanks spelling rest w words all spells follows others) = one_word style (b ∷ blanks) spelling rest w words (is, all) spells follows others

blanks_before : {style : Style} (blanks line : List ℕ) {words : List Word} → AreBlanks blanks → AreWords style line words → AreWords style (blanks ++ line) words
blanks_before [] line all h = h
blanks_before (b ∷ bs) line all h = blank_before b all.0 (blanks_before bs line all.1 h)

no_words : {style : Style} {line : List ℕ} {words : List Word} → AreWords style line words → words ≡ [] → AreBlanks line
no_words (no_word style line all) none = all
no_words (one_word style blanks spelling rest w words all spells follows others) none = absurd cc

ends_behind : (style : Style) (after rest : List ℕ) → ends_word style after ≡ true → ends_word style rest ≡ true → ends_word style (after ++ rest) ≡ true
ends_behind style [] rest h ends = ends
ends_behind style (b ∷ bs) rest h ends = h

follows_on : (style : Style) (w : Word) (after rest : List ℕ) → MayFollow style w after → ends_word style rest ≡ true → MayFollow style w (after ++ rest)
follows_on style (word.Plain text) after rest h ends = ends_behind style after rest h ends
follows_on style (word.Quoted text) after rest h ends = ends_behind style after rest h ends
follows_on style word.Open after rest h ends = tt
follows_on style word.Close after rest h ends = tt
follows_on style word.Comma after rest h ends = tt

abbrev first_in : Word → List Word → Word
first_in other [] = other
first_in other (w ∷ ws) = w

abbrev others_in : List Word → List Word
others_in [] = []
others_in (w ∷ ws) = ws

-- a text that is one word, behind a blank and before other words
one_more : {style : Style} {text : List ℕ} {read : List Word} → AreWords style text read → (w : Word) (rest : List ℕ) (words : List Word) → read ≡ w ∷ []
    → AreWords style rest words → ends_word style rest ≡ true → AreWords style (32 ∷ (text ++ rest)) (w ∷ words)
one_more (no_word style line all) w rest words e more ends = absurd cc
one_more (one_word style blanks spelling after v vs all spells follows others) w rest words e more ends =
    let same : v ≡ w = ap (first_in w) e in
    let blank : AreBlanks after = no_words others (ap others_in e) in
    let regrouped : (32 ∷ blanks) ++ (spelling ++ (after ++ rest)) ≡ 32 ∷ ((blanks ++ (spelling ++ after)) ++ rest) = ap (λ (l : List ℕ). 32 ∷ l) (simp append_assoc) in
    subst (λ (x : Word). AreWords style (32 ∷ ((blanks ++ (spelling ++ after)) ++ rest)) (x ∷ words)) same
    (subst (λ (l : List ℕ). AreWords style l (v ∷ words)) regrouped
    (one_word style (32 ∷ blanks) spelling (after ++ rest) v words (refl, all) spells (follows_on style v after rest follows ends) (blanks_before after rest blank more)))

blank_ends : (style : Style) (texts : List (List ℕ)) → ends_word style (behind_blanks texts) ≡ true
blank_ends style [] = refl
blank_ends style (text ∷ texts) = refl

are_words : AreByRule → (style : Style) (texts : List (List ℕ)) (words : List Word) → AreEach style texts words → AreWords style (behind_blanks texts) words
are_words rule style [] [] each = no_word style [] tt
are_words rule style [] (w ∷ ws) each = absurd each
are_words rule style (text ∷ texts) [] each = absurd each
are_words rule style (text ∷ texts) (w ∷ ws) each =
    one_more ((rule style text (w ∷ [])).1 each.0) w (behind_blanks texts) ws refl (are_words rule style texts ws each.1) (blank_ends style texts)

pub words_read : AreByRule → (style : Style) (texts : List (List ℕ)) (words : List Word) → AreEach style texts words → words_of style (behind_blanks texts) ≡ Some words
words_read rule style texts words each = (rule style (behind_blanks texts) words).0 (are_words rule style texts words each)

-- ---- one word after another

abbrev words_in : Option (List Word) → List Word
words_in None = []
words_in (Some words) = words

-- the word that begins here, and the words after it
abbrev pub BeginsWith : Style → List ℕ → Word → List Word → Type 0
BeginsWith style start w ws = (after : List ℕ) × (first_word style start ≡ Some (w, after)) × (words_of style after ≡ Some ws)

by_rest : (style : Style) (start : List ℕ) (w : Word) (ws : List Word) (v : Word) (after : List ℕ) (rest : Option (List Word)) → first_word style start ≡ Some (v, after)
    → words_on style (skip_blanks after) ≡ rest → with_word v rest ≡ Some (w ∷ ws) → BeginsWith style start w ws
by_rest style start w ws v after None is at e = absurd cc
by_rest style start w ws v after (Some vs) is at e =
    let all : v ∷ vs ≡ w ∷ ws = ap words_in e in
    let same : v ≡ w = ap (first_in w) all in
    let others : vs ≡ ws = ap others_in all in
    (after, is ∙ ap (λ (x : Word). Some (x, after)) same, sym (on_skipped style after) ∙ at ∙ ap (λ (words : List Word). Some words) others)

by_word : (style : Style) (start : List ℕ) (w : Word) (ws : List Word) (read : Option Read) → first_word style start ≡ read → onward (words_on style) read ≡ Some (w ∷ ws) → BeginsWith style start w ws
by_word style start w ws None is e = absurd cc
by_word style start w ws (Some read) is e = by_rest style start w ws read.0 read.1 (words_on style (skip_blanks read.1)) is refl e

first_on : (style : Style) (start : List ℕ) (w : Word) (ws : List Word) → words_on style start ≡ Some (w ∷ ws) → (0 < length start) × BeginsWith style start w ws
unfolding words_within
first_on style [] w ws e = absurd (let none : [] ≡ w ∷ ws = ap words_in e in cc)
first_on style (b ∷ bs) w ws e =
    let some : 0 < length (b ∷ bs) = omega arith in
    (some, by_word style (b ∷ bs) w ws (first_word style (b ∷ bs)) refl (sym (words_step style (b ∷ bs) some) ∙ e))

-- a line's first word begins where its blanks end
pub first_of : (style : Style) (line : List ℕ) (w : Word) (ws : List Word) → words_of style line ≡ Some (w ∷ ws)
    → (0 < length (skip_blanks line)) × BeginsWith style (skip_blanks line) w ws
first_of style line w ws e = first_on style (skip_blanks line) w ws (on_skipped style line ∙ e)

no_first : (v : Word) (rest : Option (List Word)) → with_word v rest ≡ Some [] → ⊥
no_first v None e = cc
no_first v (Some vs) e = let none : v ∷ vs ≡ [] = ap words_in e in cc

no_read : (style : Style) (read : Option Read) → onward (words_on style) read ≡ Some [] → ⊥
no_read style None e = cc
no_read style (Some read) e = no_first read.0 (words_on style (skip_blanks read.1)) e

none_on : (style : Style) (start : List ℕ) → words_on style start ≡ Some [] → start ≡ []
none_on style [] e = refl
none_on style (b ∷ bs) e = absurd (no_read style (first_word style (b ∷ bs)) (sym (words_step style (b ∷ bs) (omega arith)) ∙ e))

-- a line of no words is blank
pub none_of : (style : Style) (line : List ℕ) → words_of style line ≡ Some [] → skip_blanks line ≡ []
none_of style line e = none_on style (skip_blanks line) (on_skipped style line ∙ e)

-- a blank before a line changes no word of it
pub behind_first : (style : Style) (text : List ℕ) (ws : List Word) → words_of style (32 ∷ text) ≡ Some ws → words_of style text ≡ Some ws
behind_first style text ws e = sym (on_skipped style text) ∙ on_skipped style (32 ∷ text) ∙ e
