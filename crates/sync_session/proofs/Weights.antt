-- Members with distinct ids are no more, and have no more bytes, than a list that has each of them.
use Rattle.std.proofs.Common.{◌≡◌, inl, inr, ℕ, ◌+◌, ◌≤◌, Bool, true, false, not, ◌||◌, cond, List, [], ◌∷◌, ◌++◌, length, filter, sum_by, Contains, refl, sym, ap, subst, ◌∙◌, arith, le-leb, leb-true}
use Rattle.std.specs.List.{AllByRecursion}
use Rattle.std.proofs.lemmas.List.Elements.{Contains-push}
use Rattle.std.proofs.lemmas.List.Sums.{sum_by-cons}
use Rattle.update_model.specs.declared.update_id.UpdateId.{UpdateId}
use Rattle.update_model.specs.Batch.{Limits, fits}
use Rattle.update_model.specs.Entry.{Entry, same_id}
use Rattle.update_model.specs.Graph.{byte_count, holds, Follows}
use Rattle.update_model.proofs.Ids.{same_id-refl, same_id-symm}
use Rattle.session_rules.proofs.Words.{and_both, and_join, cons_cases, filter_member}
use Rattle.session_rules.proofs.Held.{held_witness, holds_append, later_differs}

-- no two members share an id
abbrev pub AreApart : List Entry → Type 0
AreApart [] = Unit {0}
AreApart (e ∷ es) = (holds es e.id ≡ false) × AreApart es

pub or_neither : (a b : Bool) → (a || b) ≡ false → (a ≡ false) × (b ≡ false)
or_neither true b e = absurd cc
or_neither false b e = (refl, e)

-- ---- lists whose members are apart

pub apart_more : (xs : List Entry) (e : Entry) → AreApart xs → holds xs e.id ≡ false → AreApart (xs ++ e ∷ [])
apart_more [] e a none = (refl, tt)
apart_more (x ∷ xs) e a none =
    let both = or_neither (same_id e.id x.id) (holds xs e.id) none in
    let other : same_id x.id e.id ≡ false = same_id-symm x.id e.id ∙ both.0 in
    (holds_append xs (e ∷ []) x.id ∙ (rw (a.0, other) refl), apart_more xs e a.1 both.1)

pub fewer_held : (t : Entry → Bool) (xs : List Entry) (id : UpdateId) → holds xs id ≡ false → holds (filter t xs) id ≡ false
fewer_held t [] id none = refl
fewer_held t (x ∷ xs) id none =
    let both = or_neither (same_id id x.id) (holds xs id) none in
    let rest = fewer_held t xs id both.1 in
    elim (t x) as (λ b. holds (cond b (x ∷ filter t xs) (filter t xs)) id ≡ false) [
      | true ↦ rw (both.0, rest) refl
      | false ↦ rest
    ]

pub apart_filter : (t : Entry → Bool) (xs : List Entry) → AreApart xs → AreApart (filter t xs)
apart_filter t [] a = tt
apart_filter t (x ∷ xs) a =
    let rest = apart_filter t xs a.1 in
    elim (t x) as (λ b. AreApart (cond b (x ∷ filter t xs) (filter t xs))) [
      | true ↦ (fewer_held t xs x.id a.0, rest)
      | false ↦ rest
    ]

pub closed_apart : (before es : List Entry) → Follows before es → AreApart es
closed_apart before [] f = tt
closed_apart before (y ∷ ys) f = (by_test (holds ys y.id) refl, closed_apart (before ++ y ∷ []) ys f.1)
  where
    by_test : (b : Bool) → holds ys y.id ≡ b → holds ys y.id ≡ false
    by_test false e = e
    by_test true e =
        let w = held_witness ys y.id e in
        absurd (later_differs (before ++ y ∷ []) ys y w.0 f.1 (Contains-push before y) w.1 (subst (λ (i : UpdateId). same_id i y.id ≡ true) w.2 (same_id-refl y.id)))

-- ---- what they weigh

abbrev others : UpdateId → List Entry → List Entry
others id es = filter (λ e. not (same_id e.id id)) es

module _ (f : Entry → ℕ) where
  both_heavier : (y : Entry) (us vs : List Entry) (n : ℕ) → n + sum_by f us ≤ sum_by f vs → n + sum_by f (y ∷ us) ≤ sum_by f (y ∷ vs)
  both_heavier y us vs n low =
      subst (λ m. n + m ≤ sum_by f (y ∷ vs)) (sym (sum_by-cons f y us)) (subst (λ m. n + (f y + sum_by f us) ≤ m) (sym (sum_by-cons f y vs)) (omega (arith, low)))

  one_heavier : (y : Entry) (us vs : List Entry) (n : ℕ) → n + sum_by f us ≤ sum_by f vs → n + sum_by f us ≤ sum_by f (y ∷ vs)
  one_heavier y us vs n low = subst (λ m. n + sum_by f us ≤ m) (sym (sum_by-cons f y vs)) (omega (arith, low))

  lighter : (t : Entry → Bool) (es : List Entry) → 0 + sum_by f (filter t es) ≤ sum_by f es
  lighter t [] = omega arith
  lighter t (x ∷ xs) = let rest = lighter t xs in elim (t x) as (λ b. 0 + sum_by f (cond b (x ∷ filter t xs) (filter t xs)) ≤ sum_by f (x ∷ xs)) [
    | true ↦ both_heavier x (filter t xs) xs 0 rest
    | false ↦ one_heavier x (filter t xs) xs 0 rest
  ]

  lighter_by : (x : Entry) (es : List Entry) → Contains es x → f x + sum_by f (others x.id es) ≤ sum_by f es
  lighter_by x [] c = absurd (omega (arith, c.1))
  lighter_by x (y ∷ ys) c = elim (cons_cases y ys x c) [
    | inl is ↦
        let gone : same_id y.id x.id ≡ true = subst (λ (m : Entry). same_id y.id m.id ≡ true) is (same_id-refl y.id) in
        let rest = lighter (λ e. not (same_id e.id x.id)) ys in
        let same : f y ≡ f x = ap f is in
        rw gone (subst (λ m. f x + sum_by f (others x.id ys) ≤ m) (sym (sum_by-cons f y ys)) (omega (arith, rest, same)))
    | inr held ↦
        let rest = lighter_by x ys held in
        elim (same_id y.id x.id) as (λ b. f x + sum_by f (cond (not b) (y ∷ others x.id ys) (others x.id ys)) ≤ sum_by f (y ∷ ys)) [
          | true ↦ one_heavier y (others x.id ys) ys (f x) rest
          | false ↦ both_heavier y (others x.id ys) ys (f x) rest
        ]
  ]

  pub weigh_no_more : (es all : List Entry) → AreApart es → AllByRecursion (Contains all) es → sum_by f es ≤ sum_by f all
  weigh_no_more [] all a c = omega arith
  weigh_no_more (x ∷ xs) all a c =
      let rest = weigh_no_more xs (others x.id all) a.1 (away xs a.0 c.1) in
      let one = lighter_by x all c.0 in
      subst (λ n. n ≤ sum_by f all) (sym (sum_by-cons f x xs)) (omega (arith, rest, one))
    where
      away : (xs : List Entry) → holds xs x.id ≡ false → AllByRecursion (Contains all) xs → AllByRecursion (Contains (others x.id all)) xs
      away [] none c = tt
      away (z ∷ zs) none c =
          let both = or_neither (same_id x.id z.id) (holds zs x.id) none in
          (filter_member (λ e. not (same_id e.id x.id)) all z c.0 (ap not (same_id-symm z.id x.id ∙ both.0)), away zs both.1 c.1)

ones : (es : List Entry) → sum_by (λ (e : Entry). 1) es ≡ length es
ones [] = refl
ones (e ∷ es) = sum_by-cons (λ (e : Entry). 1) e es ∙ omega (arith, ones es)

-- what a list within limits has is within them
pub fits_within : (limits : Limits) (es all : List Entry) → AreApart es → AllByRecursion (Contains all) es → fits limits all ≡ true → fits limits es ≡ true
fits_within limits es all a c fit =
    let parts = and_both (_) (_) fit in
    let few = leb-true (length all) limits.updates parts.0 in
    let small = leb-true (byte_count all) limits.bytes parts.1 in
    let fewer = weigh_no_more (λ (e : Entry). 1) es all a c in
    let one = ones es in
    let two = ones all in
    let smaller = weigh_no_more (λ (e : Entry). length e.bytes) es all a c in
    and_join _ _ (le-leb (length es) limits.updates (omega (arith, few, fewer, one, two))) (le-leb (byte_count es) limits.bytes (omega (arith, small, smaller)))
