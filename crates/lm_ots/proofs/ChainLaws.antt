-- Steps of a chain taken one by one, and one run after another.
use Rattle.std.proofs.Common.{◌≡◌, ◌<◌, ℕ, zero, suc, ◌+◌, ◌-◌, List, ◌∷◌, ◌++◌, length, refl, sym, ap, ◌∙◌, arith, add-zero}
use Rattle.sha2.proofs.Facts256.{length-sha256}
use Rattle.lm_ots.specs.Chain.{stepped, step_of}

pub stepped_none : (prefix value : List ℕ) (j n : ℕ) → n ≡ 0 → stepped prefix j n value ≡ value
unfolding stepped
stepped_none prefix value j n e = rw e refl

-- the first of the steps that are left
pub stepped_next : (prefix value : List ℕ) (j to : ℕ) → j < to → stepped prefix j (to - j) value ≡ stepped prefix (j + 1) (to - (j + 1)) (step_of prefix j value)
unfolding stepped
stepped_next prefix value j to below =
    let left : to - j ≡ suc (to - (j + 1)) = omega arith in
    ap (λ (n : ℕ). stepped prefix j n value) left

-- one run after another
pub stepped-stepped : (prefix : List ℕ) (j a b : ℕ) (value : List ℕ) → stepped prefix (j + a) b (stepped prefix j a value) ≡ stepped prefix j (a + b) value
unfolding stepped
stepped-stepped prefix j zero b value = ap (λ (i : ℕ). stepped prefix i b value) (add-zero j) ∙ ap (λ (n : ℕ). stepped prefix j n value) (sym (zeros b))
  where
    zeros : (b : ℕ) → zero + b ≡ b
    zeros b = omega arith
stepped-stepped prefix j (suc a) b value =
    let place : j + suc a ≡ (j + 1) + a = omega arith in
    let count : suc a + b ≡ suc (a + b) = omega arith in
    ap (λ (i : ℕ). stepped prefix i b (stepped prefix (j + 1) a (step_of prefix j value))) place
    ∙ stepped-stepped prefix (j + 1) a b (step_of prefix j value)
    ∙ sym (ap (λ (n : ℕ). stepped prefix j n value) count)

-- a value of a chain has the length of a digest
pub length-stepped : (prefix : List ℕ) (j n : ℕ) (value : List ℕ) → length value ≡ 32 → length (stepped prefix j n value) ≡ 32
unfolding stepped
length-stepped prefix j zero value len = len
length-stepped prefix j (suc n) value len = length-stepped prefix (j + 1) n (step_of prefix j value) (length-sha256 (prefix ++ j ∷ value))

-- a run as the code makes it is a run as it is specified
pub stepped_as : (prefix p value v : List ℕ) (digit d greatest g : ℕ) → prefix ≡ p → value ≡ v → digit ≡ d → greatest ≡ g → stepped prefix digit (greatest - digit) value ≡ stepped p d (g - d) v
stepped_as prefix p value v digit d greatest g e1 e2 e3 e4 = cc
