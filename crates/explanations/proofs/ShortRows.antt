-- How long rows are.
use Rattle.std.proofs.Common.{◌≡◌, ℕ, zero, suc, ◌+◌, ◌≤◌, Bool, true, false, cond, List, [], ◌∷◌, ◌++◌, length, refl, sym, ap, arith, length-append}
use Rattle.std.specs.Prelude.{codes}
use Rattle.std.specs.List.{AllByRecursion, Contains, flat_map}
use Rattle.std.proofs.lemmas.Bool.Decides.{nat_tests}
use Rattle.std.proofs.lemmas.List.{append-nil}
use Rattle.explanations.specs.Rows.{IsShortRow, narrow, front_alone, one_word, begun, ended_row, is_too_long, laid, rows_of}

laid_by : (long : Bool) (row : List ℕ) (rows : List (List ℕ)) (later : List ℕ) → later ≡ flat_map ended_row rows
    → cond long (row ++ 10 ∷ []) [] ++ later ≡ flat_map ended_row (cond long (row ∷ rows) rows)
laid_by true row rows later same = ap (λ (more : List ℕ). (row ++ 10 ∷ []) ++ more) same
laid_by false row rows later same = same

pub laid_in_rows : (row : List ℕ) (words : List (List ℕ)) → laid row words ≡ flat_map ended_row (rows_of row words)
laid_in_rows row [] = sym (append-nil (row ++ 10 ∷ []))
laid_in_rows row (word ∷ words) =
    laid_by (is_too_long row word) row (rows_of (begun row word) words) (laid (begun row word) words) (laid_in_rows (begun row word) words)

-- each of these words is one of all
abbrev AreAmong : List (List ℕ) → List (List ℕ) → Type 0
AreAmong all words = AllByRecursion (λ word. Contains all word) words

one_behind : (first word : List ℕ) (all : List (List ℕ)) → Contains all word → Contains (first ∷ all) word
one_behind first word all at = (suc at.0, omega (arith, at.1), at.2)

all_behind : (first : List ℕ) (all words : List (List ℕ)) → AreAmong all words → AreAmong (first ∷ all) words
all_behind first all [] among = tt
all_behind first all (word ∷ words) among = (one_behind first word all among.0, all_behind first all words among.1)

all_among : (words : List (List ℕ)) → AreAmong words words
all_among [] = tt
all_among (word ∷ words) = ((zero, omega arith, refl), all_behind word words words (all_among words))

begun_short : (long : Bool) (front : List ℕ) (all : List (List ℕ)) (row word : List ℕ) → is_too_long row word ≡ long → Contains all word
    → IsShortRow front all ((cond long (codes "    ") row) ++ 32 ∷ word)
begun_short true front all row word long at = one_word word at refl
begun_short false front all row word short at =
    let room : length row + length word ≤ 78 = grind (arith, nat_tests, short) in
    narrow (omega (arith, length-append row (32 ∷ word)))

short_by : (long : Bool) (front : List ℕ) (all : List (List ℕ)) (row : List ℕ) (rows : List (List ℕ)) → IsShortRow front all row → AllByRecursion (IsShortRow front all) rows
    → AllByRecursion (IsShortRow front all) (cond long (row ∷ rows) rows)
short_by true front all row rows short more = (short, more)
short_by false front all row rows short more = more

rows_short : (front : List ℕ) (all : List (List ℕ)) (row : List ℕ) (words : List (List ℕ)) → IsShortRow front all row → AreAmong all words
    → AllByRecursion (IsShortRow front all) (rows_of row words)
rows_short front all row [] short among = (short, tt)
rows_short front all row (word ∷ words) short among =
    short_by (is_too_long row word) front all row (rows_of (begun row word) words) short
    (rows_short front all (begun row word) words (begun_short (is_too_long row word) front all row word refl among.0) among.1)

pub all_short : (front : List ℕ) (words : List (List ℕ)) → AllByRecursion (IsShortRow front words) (rows_of front words)
all_short front words = rows_short front words front words (front_alone refl) (all_among words)
