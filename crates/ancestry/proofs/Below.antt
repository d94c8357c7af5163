-- Numbers below a bound that pass a test.
use Rattle.std.proofs.Common.{◌≡◌, ◌⊎◌, inl, inr, ℕ, zero, suc, ◌<◌, ◌≤◌, Bool, true, false, cond, refl, sym, subst, arith, ltb}
use Rattle.std.proofs.lemmas.Bool.{ltb-true, ltb-false, cases_lt, cases_eq, or_parts, or_from, or_cases}
use Rattle.ancestry.specs.Below.{any_below, count_below, first_below}

pub any_none : (t : ℕ → Bool) (n k : ℕ) → any_below t n ≡ false → k < n → t k ≡ false
unfolding any_below
any_none t zero k none low = absurd (omega arith)
any_none t (suc n) k none low =
    let parts = or_parts (t n) (any_below t n) none in
    elim (cases_eq k n) [
      | inl same ↦ subst (λ i. t i ≡ false) (sym same) parts.0
      | inr apart ↦ any_none t n k parts.1 (omega arith)
    ]

pub none_any : (t : ℕ → Bool) (n : ℕ) → ((k : ℕ) → k < n → t k ≡ false) → any_below t n ≡ false
unfolding any_below
none_any t zero none = refl
none_any t (suc n) none = or_from (t n) (any_below t n) (none n (omega arith)) (none_any t n (λ k low. none k (omega arith)))

-- ---- the first

pub first_low : (t : ℕ → Bool) (n : ℕ) → first_below t n ≤ n
unfolding first_below
first_low t zero = omega arith
first_low t (suc n) = by_case (first_below t n) (first_low t n) (ltb (first_below t n) n) (t n)
  where
    by_case : (k : ℕ) → k ≤ n → (b d : Bool) → cond b k (cond d n (suc n)) ≤ suc n
    by_case k low true d = omega arith
    by_case k low false true = omega arith
    by_case k low false false = omega arith

pub first_passes : (t : ℕ → Bool) (n : ℕ) → first_below t n < n → t (first_below t n) ≡ true
unfolding first_below
first_passes t zero low = absurd (omega arith)
first_passes t (suc n) low = by_case (first_below t n) (first_passes t n) (ltb (first_below t n) n) refl (t n) refl low
  where
    by_case : (k : ℕ) → (k < n → t k ≡ true) → (b : Bool) → ltb k n ≡ b → (d : Bool) → t n ≡ d → cond b k (cond d n (suc n)) < suc n → t (cond b k (cond d n (suc n))) ≡ true
    by_case k passes true e d f low = passes (ltb-true k n e)
    by_case k passes false e true f low = f
    by_case k passes false e false f low = absurd (omega arith)

pub first_skips : (t : ℕ → Bool) (n j : ℕ) → j < first_below t n → t j ≡ false
unfolding first_below
first_skips t zero j low = absurd (omega arith)
first_skips t (suc n) j low = by_case (first_below t n) (first_low t n) (first_skips t n j) (ltb (first_below t n) n) refl (t n) refl low
  where
    by_case : (k : ℕ) → k ≤ n → (j < k → t j ≡ false) → (b : Bool) → ltb k n ≡ b → (d : Bool) → t n ≡ d → j < cond b k (cond d n (suc n)) → t j ≡ false
    by_case k most skips true e d f low = skips low
    by_case k most skips false e true f low = skips (let high = ltb-false k n e in omega arith)
    by_case k most skips false e false f low = elim (cases_eq j n) [
      | inl same ↦ subst (λ i. t i ≡ false) (sym same) f
      | inr apart ↦ skips (let high = ltb-false k n e in omega arith)
    ]

-- what passes first is the first
pub first_is : (t : ℕ → Bool) (n k : ℕ) → k ≤ n → (k < n → t k ≡ true) → ((j : ℕ) → j < k → t j ≡ false) → k ≡ first_below t n
first_is t n k most passes skips = elim (cases_lt k (first_below t n)) [
  | inl low ↦ absurd (let all = first_low t n in let is = passes (omega arith) in let not_so = first_skips t n k low in cc)
  | inr high ↦ elim (cases_eq k (first_below t n)) [
    | inl same ↦ same
    | inr apart ↦ absurd (
        let less : first_below t n < k = omega arith in
        let is = first_passes t n (omega arith) in
        let not_so = skips (first_below t n) less in
        cc)
  ]
]

-- ---- counts

-- a test that passes wherever another does, up to a bound that is no lower, passes no less often
pub count_wider : (t u : ℕ → Bool) (n : ℕ) → ((k : ℕ) → k < n → t k ≡ true → u k ≡ true) → count_below t n ≤ count_below u n
unfolding count_below
count_wider t u zero more = omega arith
count_wider t u (suc n) more = by_case (count_below t n) (count_below u n) (count_wider t u n (λ k low e. more k (omega arith) e)) (t n) (u n) (more n (omega arith))
  where
    by_case : (x y : ℕ) → x ≤ y → (b d : Bool) → (b ≡ true → d ≡ true) → cond b (suc x) x ≤ cond d (suc y) y
    by_case x y le true true same = omega arith
    by_case x y le true false same = absurd (let e = same refl in cc)
    by_case x y le false true same = omega arith
    by_case x y le false false same = omega arith

pub count_step : (t : ℕ → Bool) (n : ℕ) → count_below t n ≤ count_below t (suc n)
unfolding count_below
count_step t n = by_case (count_below t n) (t n)
  where
    by_case : (x : ℕ) (b : Bool) → x ≤ cond b (suc x) x
    by_case x true = omega arith
    by_case x false = omega arith

-- further numbers add nothing less than nothing
pub count_longer : (t : ℕ → Bool) (k n : ℕ) → k ≤ n → count_below t k ≤ count_below t n
count_longer t k zero low = let none : k ≡ zero = omega arith in rw none (omega arith)
count_longer t k (suc n) low = elim (cases_eq k (suc n)) [
  | inl same ↦ rw same (omega arith)
  | inr apart ↦ omega (arith, count_longer t k n (omega arith), count_step t n)
]

-- where nothing from a number on passes, the bound is as good as that number
pub count_cut : (t : ℕ → Bool) (k n : ℕ) → k ≤ n → ((j : ℕ) → k ≤ j → j < n → t j ≡ false) → count_below t n ≡ count_below t k
unfolding count_below
count_cut t k zero low none = let same : k ≡ zero = omega arith in rw same refl
count_cut t k (suc n) low none = elim (cases_eq k (suc n)) [
  | inl same ↦ rw same refl
  | inr apart ↦
      let last : t n ≡ false = none n (omega arith) (omega arith) in
      rw last (count_cut t k n (omega arith) (λ j high below. none j high (omega arith)))
]

-- one that passes counts
pub count_one : (t : ℕ → Bool) (n : ℕ) → t n ≡ true → count_below t (suc n) ≡ suc (count_below t n)
unfolding count_below
count_one t n e = rw e refl

pub count_same : (t u : ℕ → Bool) (n : ℕ) → ((k : ℕ) → k < n → t k ≡ u k) → count_below t n ≡ count_below u n
unfolding count_below
count_same t u zero same = refl
count_same t u (suc n) same = rw (same n (omega arith), count_same t u n (λ k low. same k (omega arith))) refl

-- where some are counted, there is a last one
pub count_last : (t : ℕ → Bool) (n : ℕ) → 0 < count_below t n → (k : ℕ) × (k < n) × (t k ≡ true) × (count_below t n ≡ suc (count_below t k))
unfolding count_below
count_last t zero some = absurd (omega arith)
count_last t (suc n) some = by_case (count_last t n) (t n) refl some
  where
    by_case : (0 < count_below t n → (k : ℕ) × (k < n) × (t k ≡ true) × (count_below t n ≡ suc (count_below t k)))
        → (b : Bool) → t n ≡ b → 0 < cond b (suc (count_below t n)) (count_below t n)
        → (k : ℕ) × (k < suc n) × (t k ≡ true) × (cond b (suc (count_below t n)) (count_below t n) ≡ suc (count_below t k))
    by_case earlier true e some = (n, omega arith, e, refl)
    by_case earlier false e some = let found = earlier some in (found.0, let low = found.1 in omega arith, found.2, found.3)

-- none passes exactly where none is counted
pub none_counted : (t : ℕ → Bool) (n : ℕ) → any_below t n ≡ false → count_below t n ≡ 0
unfolding count_below
none_counted t zero none = refl
none_counted t (suc n) none = let before = none_counted t n (none_any t n (λ k low. any_none t (suc n) k none (omega arith))) in rw (any_none t (suc n) n none (omega arith)) before

pub counted_none : (t : ℕ → Bool) (n : ℕ) → count_below t n ≡ 0 → any_below t n ≡ false
counted_none t n none = none_any t n (λ k low. by_case k low (t k) refl)
  where
    by_case : (k : ℕ) → k < n → (b : Bool) → t k ≡ b → t k ≡ false
    by_case k low false e = e
    by_case k low true e = absurd (omega (arith, none, count_one t k e, count_longer t (suc k) n (omega arith)))

pub count_low : (t : ℕ → Bool) (n : ℕ) → count_below t n ≤ n
unfolding count_below
count_low t zero = omega arith
count_low t (suc n) = by_case (count_below t n) (count_low t n) (t n)
  where
    by_case : (x : ℕ) → x ≤ n → (b : Bool) → cond b (suc x) x ≤ suc n
    by_case x low true = omega arith
    by_case x low false = omega arith

pub any_witness : (t : ℕ → Bool) (n : ℕ) → any_below t n ≡ true → (k : ℕ) × (k < n) × (t k ≡ true)
unfolding any_below
any_witness t zero some = absurd cc
any_witness t (suc n) some = by_case (any_witness t n) (or_cases (t n) (any_below t n) some)
  where
    by_case : (any_below t n ≡ true → (k : ℕ) × (k < n) × (t k ≡ true)) → ((t n ≡ true) ⊎ (any_below t n ≡ true)) → (k : ℕ) × (k < suc n) × (t k ≡ true)
    by_case earlier (inl here) = (n, omega arith, here)
    by_case earlier (inr below) = let found = earlier below in (found.0, let low = found.1 in omega arith, found.2)
