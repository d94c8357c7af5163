-- Elements of lists, and of what is kept of them.
use Rattle.std.proofs.Common.{◌≡◌, ◌⊎◌, inl, inr, ◌<◌, ◌≤◌, zero, suc, Bool, true, false, cond, List, [], ◌∷◌, ◌++◌, length, map, refl, ap, subst, ◌∙◌, arith}
use Rattle.std.specs.Prelude.{Contains, filter}
use Rattle.std.specs.List.{AllByRecursion}
use Rattle.std.proofs.lemmas.List.{length-map, get_or-map}
use Rattle.std.proofs.lemmas.List.Elements.{All-contains, All-from_recursion, All-filter, All-contains_itself, filter_passes}

-- the first element, or one of the rest
pub first_or_later : {X : Type 0} (y : X) (ys : List X) (x : X) → Contains (y ∷ ys) x → (y ≡ x) ⊎ Contains ys x
first_or_later y ys x (zero, lt, is) = inl is
first_or_later y ys x (suc k, lt, is) = inr (k, omega (arith, lt), is)

pub first_there : {X : Type 0} (y : X) (ys : List X) → Contains (y ∷ ys) y
first_there y ys = (0, omega arith, refl)

pub later_there : {X : Type 0} (y : X) (ys : List X) (x : X) → Contains ys x → Contains (y ∷ ys) x
later_there y ys x c = let lt = c.1 in (suc c.0, omega arith, c.2)

pub none_there : {X : Type 0} (x : X) → Contains [] x → ⊥
none_there x c = let lt = c.1 in omega arith

pub of_each : {X : Type 0} (P : X → Type 0) (xs : List X) (x : X) → AllByRecursion P xs → Contains xs x → P x
of_each P xs x each c = All-contains P xs x (All-from_recursion P xs each) c

pub each_push : {X : Type 0} (P : X → Type 0) (xs : List X) (x : X) → AllByRecursion P xs → P x → AllByRecursion P (xs ++ x ∷ [])
each_push P [] x each last = (last, tt)
each_push P (y ∷ ys) x each last = (each.0, each_push P ys x each.1 last)

pub each_append : {X : Type 0} (P : X → Type 0) (xs ys : List X) → AllByRecursion P xs → AllByRecursion P ys → AllByRecursion P (xs ++ ys)
each_append P [] ys first second = second
each_append P (x ∷ xs) ys first second = (first.0, each_append P xs ys first.1 second)

-- what a function makes of an element
pub contains_map : {X Y : Type 0} (f : X → Y) (xs : List X) (x : X) → Contains xs x → Contains (map f xs) (f x)
contains_map f xs x c = let lt = c.1 in (c.0, omega (arith, length-map xs f), get_or-map f xs c.0 x (f x) lt ∙ ap f c.2)

pub each_map : {X Y : Type 0} (f : X → Y) (batch xs : List X) → AllByRecursion (Contains batch) xs → AllByRecursion (Contains (map f batch)) (map f xs)
each_map f batch [] each = tt
each_map f batch (x ∷ xs) each = (contains_map f batch x each.0, each_map f batch xs each.1)

-- an element that passes a test is kept
pub contains_filter : {X : Type 0} (p : X → Bool) (xs : List X) (x : X) → Contains xs x → p x ≡ true → Contains (filter p xs) x
contains_filter p [] x c passes = absurd (none_there x c)
contains_filter {X} p (y ∷ ys) x c passes =
    elim (p y) as (λ b. p y ≡ b → Contains (cond b (y ∷ filter p ys) (filter p ys)) x) [
      | true ↦ λ is. elim (first_or_later y ys x c) [
        | inl same ↦ subst (Contains (y ∷ filter p ys)) same (first_there y (filter p ys))
        | inr later ↦ later_there y (filter p ys) x (contains_filter p ys x later passes)
      ]
      | false ↦ λ is. elim (first_or_later y ys x c) [
        | inl same ↦ absurd (let yes : p y ≡ true = ap p same ∙ passes in cc)
        | inr later ↦ contains_filter p ys x later passes
      ]
    ] refl

-- what is kept is an element that passes
pub contains_filter_back : {X : Type 0} (p : X → Bool) (xs : List X) (x : X) → Contains (filter p xs) x → Contains xs x × (p x ≡ true)
contains_filter_back p xs x c = (
  All-contains (Contains xs) (filter p xs) x (All-filter p (Contains xs) xs (All-contains_itself xs)) c,
  All-contains (λ y. p y ≡ true) (filter p xs) x (filter_passes p xs) c,
)

-- tests of what a function makes of the elements
pub map_filter : {X Y : Type 0} (f : X → Y) (p : Y → Bool) (xs : List X) → map f (filter (λ x. p (f x)) xs) ≡ filter p (map f xs)
map_filter f p [] = refl
map_filter {X} f p (x ∷ xs) =
    elim (p (f x)) as (λ b. map f (cond b (x ∷ filter (λ y. p (f y)) xs) (filter (λ y. p (f y)) xs)) ≡ cond b (f x ∷ filter p (map f xs)) (filter p (map f xs))) [
      | true ↦ ap (λ l. f x ∷ l) (map_filter f p xs)
      | false ↦ map_filter f p xs
    ]

-- A test that passes no more keeps no more, and fewer where an element no longer passes.
one_or_none : {X : Type 0} (a b : Bool) (x : X) (us vs : List X) → (b ≡ true → a ≡ true) → length vs ≤ length us → length (cond b (x ∷ vs) vs) ≤ length (cond a (x ∷ us) us)
one_or_none true true x us vs less le = omega arith
one_or_none true false x us vs less le = omega arith
one_or_none false true x us vs less le = absurd (let e = less refl in cc)
one_or_none false false x us vs less le = le

one_or_none_fewer : {X : Type 0} (a b : Bool) (x : X) (us vs : List X) → (b ≡ true → a ≡ true) → length vs < length us → length (cond b (x ∷ vs) vs) < length (cond a (x ∷ us) us)
one_or_none_fewer true true x us vs less lt = omega arith
one_or_none_fewer true false x us vs less lt = omega arith
one_or_none_fewer false true x us vs less lt = absurd (let e = less refl in cc)
one_or_none_fewer false false x us vs less lt = lt

filter_no_more : {X : Type 0} (p q : X → Bool) (xs : List X) → ((x : X) → q x ≡ true → p x ≡ true) → length (filter q xs) ≤ length (filter p xs)
filter_no_more p q [] less = omega arith
filter_no_more p q (x ∷ xs) less = one_or_none (p x) (q x) x (filter p xs) (filter q xs) (less x) (filter_no_more p q xs less)

pub filter_fewer : {X : Type 0} (p q : X → Bool) (xs : List X) (x : X) → ((y : X) → q y ≡ true → p y ≡ true) → Contains xs x → p x ≡ true → q x ≡ false
    → length (filter q xs) < length (filter p xs)
filter_fewer p q [] x less c passes fails = absurd (none_there x c)
filter_fewer p q (y ∷ ys) x less c passes fails = elim (first_or_later y ys x c) [
  | inl same ↦
      let yes : p y ≡ true = ap p same ∙ passes in
      let no_more : q y ≡ false = ap q same ∙ fails in
      let le = filter_no_more p q ys less in
      rw (yes, no_more) (omega arith)
  | inr later ↦ one_or_none_fewer (p y) (q y) y (filter p ys) (filter q ys) (less y) (filter_fewer p q ys x less later passes fails)
]
