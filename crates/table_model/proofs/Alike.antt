-- Two lists with the same elements, each as often: they weigh the same under every weight.
use Rattle.std.proofs.Common.{◌≡◌, ℕ, ◌+◌, Bool, true, false, cond, not, ◌&&◌, ◌||◌, List, [], ◌∷◌, ◌++◌, length, map, filter, nat_lt, count_by, refl, sym, ap, ◌∙◌, arith}
use Rattle.std.specs.List.{list_any, list_all}
use Rattle.std.proofs.lemmas.List.Recursion.{is_count_by}

abbrev pub weight : {X : Type 0} → (X → ℕ) → List X → ℕ
weight w [] = 0
weight w (x ∷ xs) = w x + weight w xs

pub record Alike {X : Type 0} (xs ys : List X) : Type 0 where
  pub weighs : (w : X → ℕ) → weight w xs ≡ weight w ys

abbrev pub one_if : Bool → ℕ
one_if true = 1
one_if false = 0

pub any-weight : {X : Type 0} (p : X → Bool) (xs : List X) → list_any p xs ≡ nat_lt 0 (weight (λ x. one_if (p x)) xs)
any-weight p [] = refl
any-weight p (x ∷ xs) =
    elim (p x) as (λ b. (b || list_any p xs) ≡ nat_lt 0 (one_if b + weight (λ x. one_if (p x)) xs))
    [ true ↦ grind arith | false ↦ any-weight p xs ∙ ap (nat_lt 0) (omega arith) ]

pub all-any : {X : Type 0} (p : X → Bool) (xs : List X) → list_all p xs ≡ not (list_any (λ x. not (p x)) xs)
all-any p [] = refl
all-any p (x ∷ xs) =
    elim (p x) as (λ b. (b && list_all p xs) ≡ not (not b || list_any (λ x. not (p x)) xs))
    [ true ↦ all-any p xs | false ↦ refl ]

pub count-weight : {X : Type 0} (p : X → Bool) (xs : List X) → weight (λ x. one_if (p x)) xs ≡ count_by p xs
count-weight {X} p =
    is_count_by (weight (λ (x : X). one_if (p x))) p refl
    (λ x xs. elim (p x) as (λ b. one_if b + weight (λ x. one_if (p x)) xs ≡ cond b (1 + weight (λ x. one_if (p x)) xs) (weight (λ x. one_if (p x)) xs)) [ true ↦ refl | false ↦ omega arith ])

pub weight-append : {X : Type 0} (w : X → ℕ) (xs ys : List X) → weight w (xs ++ ys) ≡ weight w xs + weight w ys
weight-append w [] ys = omega arith
weight-append w (x ∷ xs) ys = let rest = weight-append w xs ys in omega arith

pub weight-map : {X Y : Type 0} (w : Y → ℕ) (f : X → Y) (xs : List X) → weight w (map f xs) ≡ weight (λ x. w (f x)) xs
weight-map w f [] = refl
weight-map w f (x ∷ xs) = ap (λ n. w (f x) + n) (weight-map w f xs)

pub weight-filter : {X : Type 0} (w : X → ℕ) (p : X → Bool) (xs : List X) → weight w (filter p xs) ≡ weight (λ x. cond (p x) (w x) 0) xs
weight-filter w p [] = refl
weight-filter w p (x ∷ xs) =
    elim (p x) as (λ b. weight w (cond b (x ∷ filter p xs) (filter p xs)) ≡ cond b (w x) 0 + weight (λ x. cond (p x) (w x) 0) xs)
    [ true ↦ ap (λ n. w x + n) (weight-filter w p xs) | false ↦ weight-filter w p xs ∙ omega arith ]

pub Alike-refl : {X : Type 0} (xs : List X) → Alike xs xs
Alike-refl xs = record { weighs = λ w. refl }

pub Alike-same : {X : Type 0} {xs ys : List X} → xs ≡ ys → Alike xs ys
Alike-same e = record { weighs = λ w. ap (weight w) e }

pub Alike-sym : {X : Type 0} {xs ys : List X} → Alike xs ys → Alike ys xs
Alike-sym a = record { weighs = λ w. sym (a.weighs w) }

pub Alike-trans : {X : Type 0} {xs ys zs : List X} → Alike xs ys → Alike ys zs → Alike xs zs
Alike-trans a b = record { weighs = λ w. a.weighs w ∙ b.weighs w }

pub Alike-cons : {X : Type 0} {xs ys : List X} (x : X) → Alike xs ys → Alike (x ∷ xs) (x ∷ ys)
Alike-cons x a = record { weighs = λ w. ap (λ n. w x + n) (a.weighs w) }

pub Alike-middle : {X : Type 0} (xs ys : List X) (x : X) → Alike (xs ++ x ∷ ys) (x ∷ (xs ++ ys))
Alike-middle xs ys x = record { weighs = λ w. omega (arith, weight-append w xs (x ∷ ys), weight-append w xs ys) }

pub Alike-append : {X : Type 0} {ks bs cs ds : List X} → Alike ks cs → Alike bs ds → Alike (ks ++ bs) (cs ++ ds)
Alike-append {X} {ks} {bs} {cs} {ds} a b = record { weighs = λ w. let e = a.weighs w in let f = b.weighs w in omega (arith, weight-append w ks bs, weight-append w cs ds) }

pub Alike-map : {X Y : Type 0} (f : X → Y) {xs ys : List X} → Alike xs ys → Alike (map f xs) (map f ys)
Alike-map f {xs} {ys} a = record { weighs = λ w. weight-map w f xs ∙ a.weighs (λ x. w (f x)) ∙ sym (weight-map w f ys) }

pub Alike-filter : {X : Type 0} (p : X → Bool) {xs ys : List X} → Alike xs ys → Alike (filter p xs) (filter p ys)
Alike-filter p {xs} {ys} a = record { weighs = λ w. weight-filter w p xs ∙ a.weighs (λ x. cond (p x) (w x) 0) ∙ sym (weight-filter w p ys) }

pub same_any : {X : Type 0} (p : X → Bool) {xs ys : List X} → Alike xs ys → list_any p xs ≡ list_any p ys
same_any p {xs} {ys} a = any-weight p xs ∙ ap (nat_lt 0) (a.weighs (λ x. one_if (p x))) ∙ sym (any-weight p ys)

pub same_all : {X : Type 0} (p : X → Bool) {xs ys : List X} → Alike xs ys → list_all p xs ≡ list_all p ys
same_all p {xs} {ys} a = all-any p xs ∙ ap not (same_any (λ x. not (p x)) a) ∙ sym (all-any p ys)

pub same_count : {X : Type 0} (p : X → Bool) {xs ys : List X} → Alike xs ys → count_by p xs ≡ count_by p ys
same_count p {xs} {ys} a = sym (count-weight p xs) ∙ a.weighs (λ x. one_if (p x)) ∙ count-weight p ys

length-weight : {X : Type 0} (xs : List X) → length xs ≡ weight (λ _. 1) xs
length-weight [] = refl
length-weight (x ∷ xs) = let e = length-weight xs in omega arith

pub same_length : {X : Type 0} {xs ys : List X} → Alike xs ys → length xs ≡ length ys
same_length {X} {xs} {ys} a = length-weight xs ∙ a.weighs (λ _. 1) ∙ sym (length-weight ys)

pub filter-each : {X : Type 0} (p q : X → Bool) (xs : List X) → ((x : X) → p x ≡ q x) → filter p xs ≡ filter q xs
filter-each p q xs h = λ i. filter (λ x. h x i) xs
