-- One update more in what is found.
use Rattle.std.proofs.Common.{◌≡◌, ◌∙◌, ℕ, ◌+◌, ◌<◌, List, [], ◌∷◌, ◌++◌, length, take, get_or, slice_get, refl, sym, ap, subst, arith, Bool, true, false, cond}
use Rattle.std.specs.Prelude.{Option, Some, None, option_map, filter}
use Rattle.std.specs.Ordering.{is_eq, nat_cmp, ordering_then}
use Rattle.std.specs.Cmp.Lexicographic.{slice_cmp}
use Rattle.std.specs.declared.cmp.Ordering.{Ordering}
use Rattle.std.specs.declared.cmp.Ordering.TheVariants.{Less, Equal, Greater}
use Rattle.std.proofs.lemmas.Bool.Decides.{nat_tests}
use Rattle.std.proofs.lemmas.List.{take_more}
use Rattle.std.proofs.lemmas.Option.{get_or_from_slice_get, slice_get_within}
use Rattle.std.proofs.lemmas.Map.Text.{is_eq-slice_cmp}
use Rattle.std.proofs.lemmas.Slice.Eq.{bytes_eq-Decides}
use Rattle.key_audit.specs.Walk.{key_cmp, one_time_cmp, pair_data}
use Rattle.key_audit.specs.Pairs.{noted, pair_after}
use Rattle.key_audit.specs.Pairs.{Pair as PairData}
use Rattle.key_audit.specs.declared.one_time.OneTime.{OneTime}
use Rattle.key_audit.specs.declared.walk.Pair.{Pair}

then_parts : (a b : Ordering) → is_eq (ordering_then a b) ≡ true → (is_eq a ≡ true) × (is_eq b ≡ true)
then_parts Less b h = absurd cc
then_parts Equal b h = (refl, h)
then_parts Greater b h = absurd cc

same_number : (m n : ℕ) → is_eq (nat_cmp m n) ≡ true → m ≡ n
same_number m n h = grind (arith, nat_tests, h)

same_bytes : (a b : List ℕ) → is_eq (slice_cmp nat_cmp a b) ≡ true → a ≡ b
same_bytes a b h = (bytes_eq-Decides a b).0 (sym (is_eq-slice_cmp a b) ∙ h)

-- one-time keys that the order does not tell apart are one
pub equal_keys : (a b : OneTime) → is_eq (one_time_cmp a b) ≡ true → a ≡ b
equal_keys a b h =
    let both = then_parts (key_cmp a.key b.key) (nat_cmp a.index b.index) h in
    let lms = then_parts (nat_cmp a.key.lms b.key.lms) _ both.0 in
    let ots = then_parts (nat_cmp a.key.ots b.key.ots) _ lms.1 in
    let rest = then_parts (slice_cmp nat_cmp a.key.ident b.key.ident) _ ots.1 in
    let e1 = same_number a.key.lms b.key.lms lms.0 in
    let e2 = same_number a.key.ots b.key.ots ots.0 in
    let e3 = same_bytes a.key.ident b.key.ident rest.0 in
    let e4 = same_bytes a.key.root b.key.root rest.1 in
    let e5 = same_number a.index b.index both.1 in
    λ i. record { key = record { lms = e1 i; ots = e2 i; ident = e3 i; root = e4 i }; index = e5 i }

pub note_is : (old : Option Pair) (b : Bool) (pair : Pair) (update : List ℕ) → (b ≡ true → pair_data pair ≡ noted (option_map pair_data old) update)
    → option_map pair_data (cond b (Some pair) old) ≡ cond b (Some (noted (option_map pair_data old) update)) (option_map pair_data old)
note_is old true pair update made = ap (λ (p : PairData). Some p) (made refl)
note_is old false pair update made = refl

filter_more : (p : List ℕ → Bool) (xs : List (List ℕ)) (x : List ℕ) → filter p (xs ++ x ∷ []) ≡ filter p xs ++ cond (p x) (x ∷ []) []
filter_more p [] x = by (p x)
  where
    by : (b : Bool) → cond b (x ∷ []) [] ≡ cond b (x ∷ []) []
    by b = refl
filter_more p (y ∷ xs) x = by (p y) (filter_more p xs x)
  where
    by : (b : Bool) → filter p (xs ++ x ∷ []) ≡ filter p xs ++ cond (p x) (x ∷ []) [] → cond b (y ∷ filter p (xs ++ x ∷ [])) (filter p (xs ++ x ∷ [])) ≡ cond b (y ∷ filter p xs) (filter p xs) ++ cond (p x) (x ∷ []) []
    by true e = ap (λ (l : List (List ℕ)). y ∷ l) e
    by false e = e

pair_more : (found : Option PairData) (xs : List (List ℕ)) (x : List ℕ) → pair_after found (xs ++ x ∷ []) ≡ Some (noted (pair_after found xs) x)
pair_more found [] x = refl
pair_more found (y ∷ xs) x = pair_more (Some (noted found y)) xs x

-- what is found of one update more
found_more : (p : List ℕ → Bool) (xs : List (List ℕ)) (x : List ℕ) → pair_after None (filter p (xs ++ x ∷ [])) ≡ cond (p x) (Some (noted (pair_after None (filter p xs)) x)) (pair_after None (filter p xs))
found_more p xs x = ap (pair_after None) (filter_more p xs x) ∙ by (p x)
  where
    by : (b : Bool) → pair_after None (filter p xs ++ cond b (x ∷ []) []) ≡ cond b (Some (noted (pair_after None (filter p xs)) x)) (pair_after None (filter p xs))
    by true = pair_more None (filter p xs) x
    by false = ap (pair_after None) (Rattle.std.proofs.Common.append-nil (filter p xs))

-- the first so many updates and the next one
one_more : (xs : List (List ℕ)) (i : ℕ) (x : List ℕ) → slice_get xs i ≡ Some x → take (i + 1) xs ≡ take i xs ++ x ∷ []
one_more xs i x is = take_more xs i x (slice_get_within xs i x is) ∙ ap (λ (y : List ℕ). take i xs ++ y ∷ []) (get_or_from_slice_get xs i x x is)

-- one step of the walk
pub walked_more : (p : List ℕ → Bool) (xs : List (List ℕ)) (i : ℕ) (x : List ℕ) (old new : Option PairData) → slice_get xs i ≡ Some x → old ≡ pair_after None (filter p (take i xs))
    → new ≡ cond (p x) (Some (noted old x)) old → new ≡ pair_after None (filter p (take (i + 1) xs))
walked_more p xs i x old new is before step =
    step ∙ ap (λ (o : Option PairData). cond (p x) (Some (noted o x)) o) before ∙ sym (found_more p (take i xs) x) ∙ ap (λ (l : List (List ℕ)). pair_after None (filter p l)) (sym (one_more xs i x is))
