-- One word more behind a blank.
use Rattle.std.proofs.Common.{◌≡◌, ℕ, zero, suc, ◌+◌, ◌<◌, List, [], ◌∷◌, ◌++◌, length, get_or, take, sym, ap, ◌∙◌, add-one, append_assoc, append-nil, arith}
use Rattle.std.specs.Prelude.{map}
use Rattle.expression_text.specs.declared.token.Token.{Token}
use Rattle.schema_text.specs.Printing.{behind_blanks, token_text}

-- the first words, each behind a blank
abbrev pub first_texts : ℕ → List Token → List ℕ
first_texts n words = behind_blanks (map token_text (take n words))

one_more : (words : List Token) (i : ℕ) (d : Token) → i < length words → first_texts (suc i) words ≡ first_texts i words ++ (32 ∷ token_text (get_or words i d))
one_more [] i d below = absurd (omega arith)
one_more (t ∷ ts) zero d below = ap (λ (rest : List ℕ). 32 ∷ rest) (append-nil (token_text t))
one_more (t ∷ ts) (suc i) d below =
    let more : List ℕ = 32 ∷ token_text (get_or ts i d) in
    ap (λ (rest : List ℕ). 32 ∷ (token_text t ++ rest)) (one_more ts i d (omega arith)) ∙ ap (λ (rest : List ℕ). 32 ∷ rest) (sym (append_assoc (token_text t) (first_texts i ts) more))

pub next_text : (words : List Token) (i : ℕ) (d word : Token) → i < length words → word ≡ get_or words i d → first_texts (i + 1) words ≡ first_texts i words ++ (32 ∷ token_text word)
next_text words i d word below is =
    ap (λ (n : ℕ). first_texts n words) (add-one i) ∙ one_more words i d below ∙ ap (λ (w : Token). first_texts i words ++ (32 ∷ token_text w)) (sym is)

pub pushed : (args before mid new front more text : List ℕ) → before ≡ args ++ front → mid ≡ before ++ (32 ∷ []) → new ≡ mid ++ text → more ≡ front ++ (32 ∷ text) → new ≡ args ++ more
pushed args before mid new front more text b m n e = n ∙ ap (λ (l : List ℕ). l ++ text) (m ∙ ap (λ (l : List ℕ). l ++ (32 ∷ [])) b) ∙ rw e (simp append_assoc)
