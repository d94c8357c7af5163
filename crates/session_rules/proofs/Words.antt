-- Lists: what holds of each element, and tests.
use Rattle.std.proofs.Common.{◌≡◌, ◌≢◌, ◌⊎◌, inl, inr, ℕ, zero, suc, ◌<◌, ◌≤◌, Bool, true, false, not, ◌&&◌, ◌||◌, cond, List, [], ◌∷◌, ◌++◌, length, get_or, filter, find, Contains, None, refl, ap, subst, ◌∙◌, arith}
use Rattle.std.specs.List.{list_all, AllByRecursion}
use Rattle.std.proofs.lemmas.List.Elements.{Contains-append_right}

pub or_cases : (a b : Bool) → (a || b) ≡ true → (a ≡ true) ⊎ (b ≡ true)
or_cases true b e = inl refl
or_cases false b e = inr e

pub or_left : (a b : Bool) → a ≡ true → (a || b) ≡ true
or_left true b e = refl
or_left false b e = absurd cc

pub or_right : (a b : Bool) → b ≡ true → (a || b) ≡ true
or_right true b e = refl
or_right false b e = e

pub and_both : (a b : Bool) → (a && b) ≡ true → (a ≡ true) × (b ≡ true)
and_both true b e = (refl, e)
and_both false b e = absurd cc

pub and_join : (a b : Bool) → a ≡ true → b ≡ true → (a && b) ≡ true
and_join true b e f = f
and_join false b e f = absurd cc

pub not_true : (a : Bool) → not a ≡ true → a ≡ false
not_true true e = absurd cc
not_true false e = refl

pub is_either : (a : Bool) → (a ≡ true) ⊎ (a ≡ false)
is_either true = inl refl
is_either false = inr refl

pub cons_cases : {X : Type 0} (x : X) (xs : List X) (e : X) → Contains (x ∷ xs) e → (x ≡ e) ⊎ Contains xs e
cons_cases x xs e c = at c.0 c.1 c.2
  where
    at : (k : ℕ) → k < length (x ∷ xs) → get_or (x ∷ xs) k e ≡ e → (x ≡ e) ⊎ Contains xs e
    at zero low is = inl is
    at (suc k) low is = inr (k, omega arith, is)

pub first_member : {X : Type 0} (x : X) (xs : List X) → Contains (x ∷ xs) x
first_member x xs = (0, omega arith, refl)

pub later_member : {X : Type 0} (x : X) (xs : List X) (e : X) → Contains xs e → Contains (x ∷ xs) e
later_member x xs e c = Contains-append_right (x ∷ []) xs e c

pub each_member : {X : Type 0} (P : X → Type 0) (xs : List X) (e : X) → AllByRecursion P xs → Contains xs e → P e
each_member P [] e all c = absurd (omega (arith, c.1))
each_member P (x ∷ xs) e all c = elim (cons_cases x xs e c) [
  | inl is ↦ subst P is all.0
  | inr held ↦ each_member P xs e all.1 held
]

pub each_from : {X : Type 0} (P : X → Type 0) (xs : List X) → ((e : X) → Contains xs e → P e) → AllByRecursion P xs
each_from P [] f = tt
each_from P (x ∷ xs) f = (f x (first_member x xs), each_from P xs (λ e c. f e (later_member x xs e c)))

pub each_append : {X : Type 0} (P : X → Type 0) (xs ys : List X) → AllByRecursion P xs → AllByRecursion P ys → AllByRecursion P (xs ++ ys)
each_append P [] ys p q = q
each_append P (x ∷ xs) ys p q = (p.0, each_append P xs ys p.1 q)

pub each_weaker : {X : Type 0} (P Q : X → Type 0) (f : (x : X) → P x → Q x) (xs : List X) → AllByRecursion P xs → AllByRecursion Q xs
each_weaker P Q f [] p = tt
each_weaker P Q f (x ∷ xs) p = (f x p.0, each_weaker P Q f xs p.1)

pub each_filter : {X : Type 0} (P : X → Type 0) (t : X → Bool) (xs : List X) → AllByRecursion P xs → AllByRecursion P (filter t xs)
each_filter P t [] p = tt
each_filter P t (x ∷ xs) p = elim (t x) as (λ b. AllByRecursion P (cond b (x ∷ filter t xs) (filter t xs))) [
  | true ↦ (p.0, each_filter P t xs p.1)
  | false ↦ each_filter P t xs p.1
]

pub filter_member : {X : Type 0} (t : X → Bool) (xs : List X) (e : X) → Contains xs e → t e ≡ true → Contains (filter t xs) e
filter_member t [] e c p = absurd (omega (arith, c.1))
filter_member t (x ∷ xs) e c p = elim (t x) as (λ b. t x ≡ b → Contains (cond b (x ∷ filter t xs) (filter t xs)) e) [
  | true ↦ λ is. elim (cons_cases x xs e c) [
    | inl same ↦ subst (λ (y : _). Contains (x ∷ filter t xs) y) same (first_member x (filter t xs))
    | inr held ↦ later_member x (filter t xs) e (filter_member t xs e held p)
  ]
  | false ↦ λ is. elim (cons_cases x xs e c) [
    | inl same ↦ absurd (let there = ap t same in cc)
    | inr held ↦ filter_member t xs e held p
  ]
] refl

-- an element that fails
pub not_all : {X : Type 0} (p : X → Bool) (xs : List X) → list_all p xs ≡ false → (x : X) × Contains xs x × (p x ≡ false)
not_all p [] e = absurd cc
not_all p (x ∷ xs) e = elim (is_either (p x)) [
  | inl passes ↦ let rest : list_all p xs ≡ false = rw passes at e in let w = not_all p xs rest in (w.0, later_member x xs w.0 w.1, w.2)
  | inr fails ↦ (x, first_member x xs, fails)
]

pub all_member : {X : Type 0} (p : X → Bool) (xs : List X) (x : X) → list_all p xs ≡ true → Contains xs x → p x ≡ true
all_member p [] x e c = absurd (omega (arith, c.1))
all_member p (y ∷ ys) x e c = let both = and_both (p y) (list_all p ys) e in elim (cons_cases y ys x c) [
  | inl is ↦ subst (λ z. p z ≡ true) is both.0
  | inr held ↦ all_member p ys x both.1 held
]

pub all_weaker : {X : Type 0} (p q : X → Bool) (f : (x : X) → p x ≡ true → q x ≡ true) (xs : List X) → list_all p xs ≡ true → list_all q xs ≡ true
all_weaker p q f [] e = refl
all_weaker p q f (x ∷ xs) e = let both = and_both (p x) (list_all p xs) e in and_join (q x) (list_all q xs) (f x both.0) (all_weaker p q f xs both.1)

pub find_member : {X : Type 0} (p : X → Bool) (xs : List X) → find p xs ≢ None → (x : X) × Contains xs x × (p x ≡ true)
find_member p [] e = absurd (e refl)
find_member p (x ∷ xs) e = elim (is_either (p x)) [
  | inl passes ↦ (x, first_member x xs, passes)
  | inr fails ↦ let rest : find p xs ≢ None = rw fails at e in let w = find_member p xs rest in (w.0, later_member x xs w.0 w.1, w.2)
]

pub find_none : {X : Type 0} (p : X → Bool) (xs : List X) → AllByRecursion (λ x. p x ≡ false) xs → find p xs ≡ None
find_none p [] e = refl
find_none p (x ∷ xs) e = rw e.0 (find_none p xs e.1)

-- a test that passes less counts less
pub count_falls : {X : Type 0} (p q : X → Bool) (f : (x : X) → q x ≡ true → p x ≡ true) (xs : List X) → length (filter q xs) ≤ length (filter p xs)
count_falls p q f [] = omega arith
count_falls p q f (x ∷ xs) = let rest = count_falls p q f xs in elim (is_either (q x)) [
  | inl passed ↦ rw (passed, f x passed) (omega arith)
  | inr failed ↦ elim (is_either (p x)) [
    | inl passed ↦ rw (failed, passed) (omega arith)
    | inr none ↦ rw (failed, none) (omega arith)
  ]
]

pub count_falls_at : {X : Type 0} (p q : X → Bool) (f : (x : X) → q x ≡ true → p x ≡ true) (xs : List X) (e : X) → Contains xs e → p e ≡ true → q e ≡ false
    → length (filter q xs) < length (filter p xs)
count_falls_at p q f [] e c passed failed = absurd (omega (arith, c.1))
count_falls_at p q f (x ∷ xs) e c passed failed = elim (cons_cases x xs e c) [
  | inl is ↦
      let here : p x ≡ true = ap p is ∙ passed in
      let not_here : q x ≡ false = ap q is ∙ failed in
      let rest = count_falls p q f xs in
      rw (here, not_here) (omega arith)
  | inr held ↦ let rest = count_falls_at p q f xs e held passed failed in elim (is_either (q x)) [
    | inl passes ↦ rw (passes, f x passes) (omega arith)
    | inr fails ↦ elim (is_either (p x)) [
      | inl passes ↦ rw (fails, passes) (omega arith)
      | inr none ↦ rw (fails, none) (omega arith)
    ]
  ]
]
