-- Members in a list, and in what is made of it.
use Rattle.std.proofs.Common.{◌≡◌, ◌⊎◌, inl, inr, zero, suc, ◌&&◌, ◌||◌, Bool, true, false, cond, List, [], ◌∷◌, map, filter, reverse, find, refl, ap, subst, ◌∙◌, Contains, Some, arith}
use Rattle.std.specs.List.{list_any}
use Rattle.std.proofs.lemmas.List.{reverse-append}
use Rattle.std.proofs.lemmas.List.Elements.{Contains-append_right, Contains-append_cases}
use Rattle.std.proofs.lemmas.List.Folds.{list_any-append}
use Rattle.std.proofs.lemmas.List.Sorted.{Contains-permutation, IsPermutation-reverse, IsPermutation-sym}

pub contains_first : {X : Type 0} (x : X) (xs : List X) → Contains (x ∷ xs) x
contains_first x xs = (0, omega arith, refl)

pub contains_later : {X : Type 0} (x y : X) (xs : List X) → Contains xs y → Contains (x ∷ xs) y
contains_later x y xs c = Contains-append_right (x ∷ []) xs y c

-- the one of a list of one
the_one : {X : Type 0} (x y : X) → Contains (x ∷ []) y → x ≡ y
the_one x y (zero, low, at) = at
the_one x y (suc k, low, at) = absurd (omega arith)

-- an empty list has none
pub none_in : {X : Type 0} (y : X) → Contains [] y → ⊥
none_in y c = let low = c.1 in absurd (omega arith)

pub contains_cases : {X : Type 0} (x y : X) (xs : List X) → Contains (x ∷ xs) y → (x ≡ y) ⊎ Contains xs y
contains_cases x y xs c = elim (Contains-append_cases (x ∷ []) xs y c) [
  | inl here ↦ inl (the_one x y here)
  | inr later ↦ inr later
]

pub contains_mapped : {X Y : Type 0} (f : X → Y) (x : X) (xs : List X) → Contains xs x → Contains (map f xs) (f x)
contains_mapped f x [] c = absurd (none_in x c)
contains_mapped f x (y ∷ ys) c = elim (contains_cases y x ys c) [
  | inl here ↦ subst (λ z. Contains (f y ∷ map f ys) (f z)) here (contains_first (f y) (map f ys))
  | inr later ↦ contains_later (f y) (f x) (map f ys) (contains_mapped f x ys later)
]

pub mapped_contains : {X Y : Type 0} (f : X → Y) (y : Y) (xs : List X) → Contains (map f xs) y → (x : X) × Contains xs x × (f x ≡ y)
mapped_contains f y [] c = absurd (none_in y c)
mapped_contains f y (x ∷ xs) c = elim (contains_cases (f x) y (map f xs) c) [
  | inl here ↦ (x, contains_first x xs, here)
  | inr later ↦ let found = mapped_contains f y xs later in (found.0, contains_later x found.0 xs found.1, found.2)
]

pub contains_turned : {X : Type 0} (x : X) (xs : List X) → Contains xs x → Contains (reverse xs) x
contains_turned x xs c = Contains-permutation xs (reverse xs) x (IsPermutation-reverse xs) c

pub turned_contains : {X : Type 0} (x : X) (xs : List X) → Contains (reverse xs) x → Contains xs x
turned_contains x xs c = Contains-permutation (reverse xs) xs x (IsPermutation-sym xs (reverse xs) (IsPermutation-reverse xs)) c

-- what is found is a member that passes
pub find_finds : {X : Type 0} (p : X → Bool) (xs : List X) (x : X) → find p xs ≡ Some x → Contains xs x × (p x ≡ true)
find_finds p [] x e = absurd cc
find_finds p (y ∷ ys) x e =
    let step : (b : Bool) → p y ≡ b → cond b (Some y) (find p ys) ≡ Some x → Contains (y ∷ ys) x × (p x ≡ true) = elim [
      | true ↦ λ is at. let same : y ≡ x = cc in (subst (λ z. Contains (y ∷ ys) z) same (contains_first y ys), subst (λ z. p z ≡ true) same is)
      | false ↦ λ is at. let later = find_finds p ys x at in (contains_later y x ys later.0, later.1)
    ] in
    step (p y) refl e

-- a member that passes is held
pub any_of_contained : {X : Type 0} (p : X → Bool) (xs : List X) (x : X) → Contains xs x → p x ≡ true → list_any p xs ≡ true
any_of_contained p [] x c e = absurd (none_in x c)
any_of_contained p (y ∷ ys) x c e = elim (contains_cases y x ys c) [
  | inl here ↦ rw (ap p here ∙ e) refl
  | inr later ↦ let rest = any_of_contained p ys x later e in elim (p y) as (λ b. (b || list_any p ys) ≡ true) [ true ↦ refl | false ↦ rest ]
]

-- a test of any element does not see the order
pub any_reversed : {X : Type 0} (p : X → Bool) (xs : List X) → list_any p (reverse xs) ≡ list_any p xs
any_reversed p [] = refl
any_reversed p (x ∷ xs) =
    ap (list_any p) (reverse-append (x ∷ []) xs) ∙ list_any-append p (reverse xs) (x ∷ []) ∙ turned (list_any p (reverse xs)) (p x) ∙ ap (λ b. p x || b) (any_reversed p xs)
  where
    turned : (a b : Bool) → (a || (b || false)) ≡ (b || a)
    turned true true = refl
    turned true false = refl
    turned false true = refl
    turned false false = refl

pub any_mapped : {X Y : Type 0} (f : X → Y) (p : Y → Bool) (xs : List X) → list_any p (map f xs) ≡ list_any (λ x. p (f x)) xs
any_mapped f p [] = refl
any_mapped f p (x ∷ xs) = ap (λ b. p (f x) || b) (any_mapped f p xs)

-- of those that are kept
pub any_of_kept : {X : Type 0} (p kept : X → Bool) (xs : List X) → list_any p (filter kept xs) ≡ list_any (λ x. kept x && p x) xs
any_of_kept p kept [] = refl
any_of_kept p kept (x ∷ xs) =
    let rest = any_of_kept p kept xs in
    elim (kept x) as (λ b. list_any p (cond b (x ∷ filter kept xs) (filter kept xs)) ≡ ((b && p x) || list_any (λ y. kept y && p y) xs)) [ true ↦ ap (λ b. p x || b) rest | false ↦ rest ]

-- a member that passes, where there is one
pub any_finds : {X : Type 0} (p : X → Bool) (xs : List X) → list_any p xs ≡ true → (x : X) × Contains xs x × (p x ≡ true)
any_finds p [] h = absurd cc
any_finds {X} p (x ∷ xs) h =
    let step : (b : Bool) → p x ≡ b → (b || list_any p xs) ≡ true → (y : X) × Contains (x ∷ xs) y × (p y ≡ true) = elim [
      | true ↦ λ is e. (x, contains_first x xs, is)
      | false ↦ λ is e. let later = any_finds p xs e in (later.0, contains_later x later.0 xs later.1, later.2)
    ] in
    step (p x) refl h
