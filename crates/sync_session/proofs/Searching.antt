-- Searches through lists, one element after another.
use Rattle.std.proofs.Common.{◌≡◌, ℕ, zero, suc, ◌+◌, ◌<◌, ◌≤◌, Bool, true, false, not, ◌&&◌, ◌||◌, List, [], ◌∷◌, ◌++◌, length, get_or, take, drop, find, filter_map, slice_get, Option, Some, None, is_some, refl, sym, ap, ◌∙◌, arith, drop-cons, add-one, append-nil, inl, inr}
use Rattle.std.specs.List.{list_all, list_any, position_from, cons_option}
use Rattle.std.proofs.lemmas.List.Folds.{list_any-append}
use Rattle.std.proofs.lemmas.List.Elements.{filter_map-append}
use Rattle.std.proofs.lemmas.List.{take-append-drop, take_more}
use Rattle.session_rules.proofs.Words.{is_either, and_both}
use Rattle.session_rules.specs.Steps.{answers}
use Rattle.update_model.specs.declared.update_id.UpdateId.{UpdateId}
use Rattle.update_model.specs.Entry.{Entry, same_id}
use Rattle.update_model.specs.Graph.{holds, position_of}
use Rattle.update_model.proofs.Closed.{position_of-held}

-- the list, split at an element
pub split_at : {X : Type 0} (xs : List X) (i : ℕ) (d : X) → i < length xs → xs ≡ take i xs ++ (get_or xs i d ∷ drop (i + 1) xs)
split_at xs i d low = sym (take-append-drop i xs) ∙ ap (λ ys. take i xs ++ ys) (rw (add-one, drop-cons xs i d) refl)

find_past : {X : Type 0} (p : X → Bool) (xs ys : List X) → find p xs ≡ None → find p (xs ++ ys) ≡ find p ys
find_past p [] ys none = refl
find_past p (x ∷ xs) ys none = elim (is_either (p x)) [
  | inl passes ↦ absurd (let some : find p (x ∷ xs) ≡ Some x = rw passes refl in cc)
  | inr fails ↦ let rest : find p xs ≡ None = rw fails at none in rw fails (find_past p xs ys rest)
]

-- the first that passes
pub found_at : {X : Type 0} (p : X → Bool) (xs : List X) (i : ℕ) (d : X) → i < length xs → find p (take i xs) ≡ None → p (get_or xs i d) ≡ true → find p xs ≡ Some (get_or xs i d)
found_at p xs i d low none passes = ap (find p) (split_at xs i d low) ∙ find_past p (take i xs) (get_or xs i d ∷ drop (i + 1) xs) none ∙ rw passes refl

-- one more does not pass
pub none_more : {X : Type 0} (p : X → Bool) (xs : List X) (i : ℕ) (d : X) → i < length xs → find p (take i xs) ≡ None → p (get_or xs i d) ≡ false → find p (take (i + 1) xs) ≡ None
none_more p xs i d low none fails = ap (find p) (take_more xs i d low) ∙ find_past p (take i xs) (get_or xs i d ∷ []) none ∙ rw fails refl

all_past : {X : Type 0} (p : X → Bool) (xs ys : List X) → list_all p xs ≡ true → list_all p (xs ++ ys) ≡ list_all p ys
all_past p [] ys all = refl
all_past p (x ∷ xs) ys all = let both = and_both (p x) (list_all p xs) all in ap (λ b. b && list_all p (xs ++ ys)) both.0 ∙ all_past p xs ys both.1

-- one that fails
pub fails_at : {X : Type 0} (p : X → Bool) (xs : List X) (i : ℕ) (d : X) → i < length xs → list_all p (take i xs) ≡ true → p (get_or xs i d) ≡ false → list_all p xs ≡ false
fails_at p xs i d low all fails = ap (list_all p) (split_at xs i d low) ∙ all_past p (take i xs) (get_or xs i d ∷ drop (i + 1) xs) all ∙ ap (λ b. b && list_all p (drop (i + 1) xs)) fails

-- one more passes
pub all_more : {X : Type 0} (p : X → Bool) (xs : List X) (i : ℕ) (d : X) → i < length xs → list_all p (take i xs) ≡ true → p (get_or xs i d) ≡ true → list_all p (take (i + 1) xs) ≡ true
all_more p xs i d low all passes = ap (list_all p) (take_more xs i d low) ∙ all_past p (take i xs) (get_or xs i d ∷ []) all ∙ ap (λ b. b && true) passes

-- ---- positions in the front of a list

position_low : {X : Type 0} (t : X → Bool) (k p : ℕ) (xs : List X) → position_from t k xs ≡ Some p → k ≤ p
position_low t k p [] h = absurd cc
position_low t k p (x ∷ xs) h = elim (is_either (t x)) [
  | inl passes ↦ let is : Some k ≡ Some p = rw passes at h in let same : k ≡ p = cc in omega arith
  | inr fails ↦ let rest : position_from t (k + 1) xs ≡ Some p = rw fails at h in let low = position_low t (k + 1) p xs rest in omega arith
]

position_take : {X : Type 0} (t : X → Bool) (k n p : ℕ) (xs : List X) → position_from t k xs ≡ Some p → p < k + n → position_from t k (take n xs) ≡ Some p
position_take t k n p [] h low = absurd cc
position_take t k zero p (x ∷ xs) h low = absurd (let from = position_low t k p (x ∷ xs) h in omega arith)
position_take t k (suc n) p (x ∷ xs) h low = elim (is_either (t x)) [
  | inl passes ↦ let is : Some k ≡ Some p = rw passes at h in rw passes is
  | inr fails ↦ let rest : position_from t (k + 1) xs ≡ Some p = rw fails at h in rw fails (position_take t (k + 1) n p xs rest (omega arith))
]

position_past : {X : Type 0} (t : X → Bool) (k n p : ℕ) (xs : List X) → position_from t k xs ≡ Some p → k + n ≤ p → position_from t k (take n xs) ≡ None
position_past t k n p [] h high = absurd cc
position_past t k zero p (x ∷ xs) h high = refl
position_past t k (suc n) p (x ∷ xs) h high = elim (is_either (t x)) [
  | inl passes ↦ let is : Some k ≡ Some p = rw passes at h in let same : k ≡ p = cc in absurd (omega arith)
  | inr fails ↦ let rest : position_from t (k + 1) xs ≡ Some p = rw fails at h in rw fails (position_past t (k + 1) n p xs rest (omega arith))
]

position_none : {X : Type 0} (t : X → Bool) (k n : ℕ) (xs : List X) → position_from t k xs ≡ None → position_from t k (take n xs) ≡ None
position_none t k zero [] h = refl
position_none t k (suc n) [] h = refl
position_none t k zero (x ∷ xs) h = refl
position_none t k (suc n) (x ∷ xs) h = elim (is_either (t x)) [
  | inl passes ↦ absurd (let is : Some k ≡ None = rw passes at h in cc)
  | inr fails ↦ let rest : position_from t (k + 1) xs ≡ None = rw fails at h in rw fails (position_none t (k + 1) n xs rest)
]

-- a member in the front, one behind it, and none
pub here_in_front : (graph : List Entry) (id : UpdateId) (n p : ℕ) → position_of graph id ≡ Some p → p < n → position_of (take n graph) id ≡ Some p
here_in_front graph id n p h low = position_take (λ (e : Entry). same_id id e.id) 0 n p graph h (omega arith)

pub past_front : (graph : List Entry) (id : UpdateId) (n p : ℕ) → position_of graph id ≡ Some p → n ≤ p → position_of (take n graph) id ≡ None
past_front graph id n p h high = position_past (λ (e : Entry). same_id id e.id) 0 n p graph h (omega arith)

pub none_in_front : (graph : List Entry) (id : UpdateId) (n : ℕ) → position_of graph id ≡ None → position_of (take n graph) id ≡ None
none_in_front graph id n h = position_none (λ (e : Entry). same_id id e.id) 0 n graph h

-- what a position says of holding
pub held_by : (graph : List Entry) (id : UpdateId) (o : Option ℕ) (b : Bool) → o ≡ position_of graph id → is_some o ≡ b → holds graph id ≡ b
held_by graph id o b is same = sym (position_of-held graph id) ∙ ap is_some (sym is) ∙ same

-- ---- answers

-- the member at a position that is found
get_found : {X : Type 0} (t : X → Bool) (k p : ℕ) (xs ys : List X) (n : ℕ) → position_from t k (take n xs) ≡ Some p → (q : ℕ) → p ≡ k + q → slice_get xs q ≡ find t (take n xs)
get_found t k p [] ys zero h q is = absurd cc
get_found t k p [] ys (suc n) h q is = absurd cc
get_found t k p (x ∷ xs) ys zero h q is = absurd cc
get_found t k p (x ∷ xs) ys (suc n) h zero is = elim (is_either (t x)) [
  | inl passes ↦ rw passes refl
  | inr fails ↦ let rest : position_from t (k + 1) (take n xs) ≡ Some p = rw fails at h in let low = position_low t (k + 1) p (take n xs) rest in absurd (omega arith)
]
get_found t k p (x ∷ xs) ys (suc n) h (suc q) is = elim (is_either (t x)) [
  | inl passes ↦ let same : Some k ≡ Some p = rw passes at h in let eq : k ≡ p = cc in absurd (omega arith)
  | inr fails ↦ let rest : position_from t (k + 1) (take n xs) ≡ Some p = rw fails at h in rw fails (get_found t (k + 1) p xs ys n rest q (omega arith))
]

find_none_from : {X : Type 0} (t : X → Bool) (k : ℕ) (xs : List X) → position_from t k xs ≡ None → find t xs ≡ None
find_none_from t k [] h = refl
find_none_from t k (x ∷ xs) h = elim (is_either (t x)) [
  | inl passes ↦ absurd (let is : Some k ≡ None = rw passes at h in cc)
  | inr fails ↦ let rest : position_from t (k + 1) xs ≡ None = rw fails at h in rw fails (find_none_from t (k + 1) xs rest)
]

-- one more id that is found: its position stands for its member
pub answers_found : (graph : List Entry) (n : ℕ) (positions : List ℕ) (ids : List UpdateId) (i p : ℕ) (d : UpdateId) → i < length ids
    → position_of (take n graph) (get_or ids i d) ≡ Some p → filter_map (slice_get graph) positions ≡ answers (take n graph) (take i ids)
    → filter_map (slice_get graph) (positions ++ p ∷ []) ≡ answers (take n graph) (take (i + 1) ids)
answers_found graph n positions ids i p d low at was =
    filter_map-append (slice_get graph) positions (p ∷ []) ∙ ap (λ es. es ++ cons_option (slice_get graph p) []) was
    ∙ ap (λ (o : Option Entry). answers (take n graph) (take i ids) ++ cons_option o []) (get_found (λ (e : Entry). same_id (get_or ids i d) e.id) 0 p graph [] n at p (omega arith))
    ∙ sym (ap (answers (take n graph)) (take_more ids i d low) ∙ filter_map-append (λ id. find (λ (e : Entry). same_id id e.id) (take n graph)) (take i ids) (get_or ids i d ∷ []))

-- and one that is not found
pub answers_none : (graph : List Entry) (n : ℕ) (positions : List ℕ) (ids : List UpdateId) (i : ℕ) (d : UpdateId) → i < length ids
    → position_of (take n graph) (get_or ids i d) ≡ None → filter_map (slice_get graph) positions ≡ answers (take n graph) (take i ids)
    → filter_map (slice_get graph) positions ≡ answers (take n graph) (take (i + 1) ids)
answers_none graph n positions ids i d low at was =
    was ∙ sym (append-nil (answers (take n graph) (take i ids)))
    ∙ ap (λ (o : Option Entry). answers (take n graph) (take i ids) ++ cons_option o []) (sym (find_none_from (λ (e : Entry). same_id (get_or ids i d) e.id) 0 (take n graph) at))
    ∙ sym (ap (answers (take n graph)) (take_more ids i d low) ∙ filter_map-append (λ id. find (λ (e : Entry). same_id id e.id) (take n graph)) (take i ids) (get_or ids i d ∷ []))

-- what no position says of holding
pub unheld_by : (graph : List Entry) (id : UpdateId) (o : Option ℕ) (r b : Bool) → o ≡ position_of graph id → is_some o ≡ not r → r ≡ b → holds graph id ≡ not b
unheld_by graph id o r b is none same = sym (position_of-held graph id) ∙ ap is_some (sym is) ∙ none ∙ ap not same

-- ---- some element passes

pub any_at : {X : Type 0} (p : X → Bool) (xs : List X) (i : ℕ) (d : X) → i < length xs → p (get_or xs i d) ≡ true → list_any p xs ≡ true
any_at p xs i d low passes = ap (list_any p) (split_at xs i d low) ∙ list_any-append p (take i xs) (get_or xs i d ∷ drop (i + 1) xs)
    ∙ ap (λ b. list_any p (take i xs) || (b || list_any p (drop (i + 1) xs))) passes ∙ or_true (list_any p (take i xs))
  where
    or_true : (b : Bool) → (b || true) ≡ true
    or_true true = refl
    or_true false = refl

pub any_none_more : {X : Type 0} (p : X → Bool) (xs : List X) (i : ℕ) (d : X) → i < length xs → list_any p (take i xs) ≡ false → p (get_or xs i d) ≡ false → list_any p (take (i + 1) xs) ≡ false
any_none_more p xs i d low none fails = ap (list_any p) (take_more xs i d low) ∙ list_any-append p (take i xs) (get_or xs i d ∷ [])
    ∙ ap (λ b. b || (p (get_or xs i d) || false)) none ∙ ap (λ b. b || false) fails

-- one more of what positions stand for
pub at_more : {X : Type 0} (xs : List X) (ps : List ℕ) (i p d : ℕ) (x : X) → p ≡ get_or ps i d → i < length ps → slice_get xs p ≡ Some x
    → filter_map (slice_get xs) (take (i + 1) ps) ≡ filter_map (slice_get xs) (take i ps) ++ x ∷ []
at_more xs ps i p d x is low there = ap (filter_map (slice_get xs)) (take_more ps i d low ∙ ap (λ q. take i ps ++ q ∷ []) (sym is))
    ∙ filter_map-append (slice_get xs) (take i ps) (p ∷ []) ∙ ap (λ (o : Option _). filter_map (slice_get xs) (take i ps) ++ cons_option o []) there
