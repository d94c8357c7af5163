-- Tests of each token, and names that are found.
use Rattle.std.proofs.Common.{◌≡◌, ℕ, zero, suc, ◌+◌, ◌<◌, ◌≤◌, Bool, true, false, not, ◌||◌, IsTrue, List, [], ◌∷◌, length, get_or, take, map, ◌++◌, All, refl, ap, ◌∙◌, sym, subst, arith, nat_lt, slice_index_or}
use Rattle.std.specs.Prelude.{Some, None, is_some, cond, bytes_eq}
use Rattle.std.specs.List.{position, position_or_len, list_any, list_all, Contains}
use Rattle.std.proofs.lemmas.List.{take_all, map_more}
use Rattle.std.proofs.lemmas.List.Elements.{All-more}
use Rattle.std.proofs.lemmas.List.Sums.{AllPass-from_list_all, list_all-from_AllPass}
use Rattle.std.proofs.lemmas.Slice.Eq.{bytes_eq-Decides}
use Rattle.std.proofs.lemmas.Bool.Decides.{nat_tests}
use Rattle.row_check.specs.declared.expr.Expr.{Expr, Native}
use Rattle.row_check.specs.declared.kind.Kind.{Kind}
use Rattle.expression_text.specs.declared.token.Token.{Token}
use Rattle.expression_text.specs.declared.token.Token.TheVariants as token
use Rattle.expression_text.specs.Columns.{IsKnown}
use Rattle.row_check.specs.Kinds.{HasKinds, plain_kind}
use Rattle.row_check.specs.Trees.{tree_of}
use Rattle.expression_text.specs.Words.{token_of}
use Rattle.text_words.specs.declared.word.Word.{Word}

-- each token so far, and one more
pub each_more : (P : Token → Type 0) (ts : List Token) (i : ℕ) (t : Token) → i < length ts → All P (take i ts) → t ≡ get_or ts i t → P t → All P (take (i + 1) ts)
each_more P ts i t low so_far is p = All-more P ts i t low so_far (subst P is p)

-- each token of all
pub each_told : (P : Token → Type 0) (ts : List Token) (i : ℕ) → length ts ≤ i → All P (take i ts) → (IsTrue true → All P ts) × (All P ts → IsTrue true)
each_told P ts i past h = ((λ _. subst (λ all. All P all) (take_all i ts past) h), (λ _. refl))

-- a position is found where an element passes
some_cond : {A : Type 0} (b : Bool) (x : A) → is_some (cond b (Some x) None) ≡ b
some_cond true x = refl
some_cond false x = refl

low_more : (b : Bool) (n m : ℕ) (rest : Bool) → nat_lt n m ≡ rest → nat_lt (cond (not b) (1 + n) 0) (suc m) ≡ (b || rest)
low_more true n m rest e = grind (arith, nat_tests)
low_more false n m rest e = let same : nat_lt (1 + n) (suc m) ≡ nat_lt n m = grind (arith, nat_tests) in same ∙ e

low_any : {A : Type 0} (p : A → Bool) (xs : List A) → nat_lt (position_or_len p xs) (length xs) ≡ list_any p xs
low_any p [] = refl
low_any p (x ∷ xs) = low_more (p x) (position_or_len p xs) (length xs) (list_any p xs) (low_any p xs)

some_any : {A : Type 0} (p : A → Bool) (xs : List A) → is_some (position p xs) ≡ list_any p xs
some_any p xs = some_cond (nat_lt (position_or_len p xs) (length xs)) (position_or_len p xs) ∙ low_any p xs

or_true : (b : Bool) → (b || true) ≡ true
or_true true = refl
or_true false = refl

front_or_rest : (b rest : Bool) (q x : List ℕ) (names : List (List ℕ)) → bytes_eq q x ≡ b → (b || rest) ≡ true → (rest ≡ true → Contains names q) → Contains (x ∷ names) q
front_or_rest true rest q x names same h later = (zero, omega arith, sym ((bytes_eq-Decides q x).0 same))
front_or_rest false rest q x names other h later =
    let found : Contains names q = later h in
    let low : found.0 < length names = found.1 in
    (suc found.0, omega arith, found.2)

any_Contains : (q : List ℕ) (names : List (List ℕ)) → list_any (bytes_eq q) names ≡ true → Contains names q
any_Contains q [] e = absurd cc
any_Contains q (x ∷ names) e = front_or_rest (bytes_eq q x) (list_any (bytes_eq q) names) q x names refl e (any_Contains q names)

Contains_any : (q : List ℕ) (names : List (List ℕ)) (k : ℕ) → k < length names → slice_index_or names k q ≡ q → list_any (bytes_eq q) names ≡ true
Contains_any q [] k low e = absurd (omega arith)
Contains_any q (x ∷ names) zero low e = ap (λ b. b || list_any (bytes_eq q) names) ((bytes_eq-Decides q x).1 (sym e))
Contains_any q (x ∷ names) (suc k) low e = ap (λ b. bytes_eq q x || b) (Contains_any q names k (omega arith) e) ∙ or_true (bytes_eq q x)

-- a name is known where its position is found
pub known_told : (names : List (List ℕ)) (t : Token) (name slice : List ℕ) (r : Bool) → t ≡ token.Column name → slice ≡ name
    → r ≡ is_some (position (bytes_eq slice) names) → (IsTrue r → IsKnown names t) × (IsKnown names t → IsTrue r)
known_told names t name slice r is same told =
    let read : r ≡ list_any (bytes_eq name) names = told ∙ (some_any (bytes_eq slice) names ∙ ap (λ q. list_any (bytes_eq q) names) same) in (
      (λ h. subst (λ u. IsKnown names u) (sym is) (any_Contains name names (sym read ∙ h))),
      (λ known. let found : Contains names name = subst (λ u. IsKnown names u) is known in read ∙ Contains_any name names found.0 found.1 found.2),
    )

-- the columns of a native check
pub checked_told : (kinds : List Kind) (expr : Expr) (number : ℕ) (columns slice : List ℕ) (r : Bool) → expr ≡ Native number columns → slice ≡ columns
    → r ≡ list_all (λ column. is_some (plain_kind kinds column)) slice → (IsTrue r → HasKinds kinds (tree_of expr)) × (HasKinds kinds (tree_of expr) → IsTrue r)
checked_told kinds expr number columns slice r is same told =
    let p : ℕ → Bool = λ column. is_some (plain_kind kinds column) in
    let read : r ≡ list_all p columns = told ∙ ap (list_all p) same in (
      (λ h. subst (λ e. HasKinds kinds (tree_of e)) (sym is) (AllPass-from_list_all p columns (sym read ∙ h))),
      (λ has. let all : HasKinds kinds (tree_of (Native number columns)) = subst (λ e. HasKinds kinds (tree_of e)) is has in read ∙ list_all-from_AllPass p columns all),
    )

-- the tokens of the words so far, and of one more
pub tokens_more : (words : List Word) (i : ℕ) (word : Word) (t : Token) (old new : List Token) → i < length words → old ≡ map token_of (take i words)
    → word ≡ get_or words i word → t ≡ token_of word → new ≡ old ++ t ∷ [] → new ≡ map token_of (take (i + 1) words)
tokens_more words i word t old new low so_far is told pushed =
    let there : token_of (get_or words i word) ≡ t = ap token_of (sym is) ∙ sym told in
    pushed ∙ (ap (λ (all : List Token). all ++ t ∷ []) so_far ∙ (ap (λ u. map token_of (take i words) ++ u ∷ []) (sym there) ∙ sym (map_more token_of words i word low)))
