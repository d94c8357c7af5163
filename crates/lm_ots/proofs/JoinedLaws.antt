-- The lists and numbers that a function of the index gives: none, one more, and the one at a place.
use Rattle.std.proofs.Common.{◌≡◌, ◌<◌, ◌≤◌, inl, inr, ℕ, zero, suc, ◌+◌, ◌*◌, List, [], ◌∷◌, ◌++◌, length, take, drop, refl, sym, ap, ◌∙◌, arith, append-nil, append_assoc, add-one, length-append, map-id, zero-add}
use Rattle.std.proofs.Math.Nat.{mul-le-mul_left}
use Rattle.std.proofs.lemmas.List.{take_all, drop_at, take-append-le, drop-append-le, length-drop}
use Rattle.std.proofs.lemmas.Bool.{cases_lt}
use Rattle.std.proofs.lemmas.List.Concat.{flat_map-append}
use Rattle.std.proofs.lemmas.List.FromFn.{map-range_with_len_more}
use Rattle.std.proofs.lemmas.List.Sums.{sum_by-append}
use Rattle.std.specs.List.{flat_map, range_with_len, sum_by}
use Rattle.lm_ots.specs.Joined.{joined, sum_below}

range_more : (n : ℕ) → range_with_len 0 (n + 1) ≡ range_with_len 0 n ++ n ∷ []
range_more n =
    sym (map-id (range_with_len 0 (n + 1))) ∙ map-range_with_len_more (λ (x : ℕ). x) 0 n n (omega arith)
    ∙ ap (λ (xs : List ℕ). xs ++ n ∷ []) (map-id (range_with_len 0 n))

pub joined_none : (f : ℕ → List ℕ) → joined f 0 ≡ []
unfolding joined
joined_none f = refl

pub joined_more : (f : ℕ → List ℕ) (n : ℕ) → joined f (n + 1) ≡ joined f n ++ f n
unfolding joined
joined_more f n =
    ap (flat_map f) (range_more n) ∙ flat_map-append f (range_with_len 0 n) (n ∷ [])
    ∙ ap (λ (xs : List ℕ). flat_map f (range_with_len 0 n) ++ xs) (append-nil (f n))

pub sum_below_none : (f : ℕ → ℕ) → sum_below f 0 ≡ 0
unfolding sum_below
sum_below_none f = refl

pub sum_below_more : (f : ℕ → ℕ) (n : ℕ) → sum_below f (n + 1) ≡ sum_below f n + f n
unfolding sum_below
sum_below_more f n = ap (sum_by f) (range_more n) ∙ sum_by-append f (range_with_len 0 n) (n ∷ [])
    ∙ ap (λ (k : ℕ). sum_by f (range_with_len 0 n) + k) (zero-add (f n))

-- numbers that are at most m
pub sum_below-le : (f : ℕ → ℕ) (m n : ℕ) → ((i : ℕ) → f i ≤ m) → sum_below f n ≤ n * m
sum_below-le f m zero small = rw sum_below_none (omega arith)
sum_below-le f m (suc n) small =
    let before = sum_below-le f m n small in
    let more = sum_below_more f n in
    let last = small n in
    rw (← add-one n, more) (bounded (sum_below f n) (f n) n m before last)
  where
    bounded : (s x k m : ℕ) → s ≤ k * m → x ≤ m → s + x ≤ (k + 1) * m
    bounded s x k m p q = grind (arith, p, q)

pub joined-length : (f : ℕ → List ℕ) (m n : ℕ) → ((i : ℕ) → length (f i) ≡ m) → length (joined f n) ≡ m * n
joined-length f m zero size = rw joined_none (omega arith)
joined-length f m (suc n) size =
    let before = joined-length f m n size in
    let last = size n in
    rw (← add-one n, joined_more f n, length-append) (total (length (joined f n)) (length (f n)) m n before last)
  where
    total : (a b m k : ℕ) → a ≡ m * k → b ≡ m → a + b ≡ m * (k + 1)
    total a b m k p q = grind (arith, p, q)

-- lists of one length: the one at a place
pub joined-at : (f : ℕ → List ℕ) (m n i : ℕ) → ((i : ℕ) → length (f i) ≡ m) → i < n → take m (drop (m * i) (joined f n)) ≡ f i
joined-at f m zero i size below = absurd (omega arith)
joined-at f m (suc n) i size below =
    rw (← add-one n, joined_more f n) (elim (cases_lt i n) [
      | inl early ↦ at_front m i (joined f n) (f n) (room m i n (length (joined f n)) early (joined-length f m n size)) ∙ joined-at f m n i size early
      | inr late ↦ let last : i ≡ n = omega arith in at_end m i n (joined f n) (f n) last (joined-length f m n size) (size n) ∙ ap f (sym last)
    ])
  where
    room : (m i n len : ℕ) → i < n → len ≡ m * n → m * i + m ≤ len
    room m i n len p q = let more : i + 1 ≤ n = omega arith in omega (arith, mul-le-mul_left m more)

    at_front : (m i : ℕ) (xs ys : List ℕ) → m * i + m ≤ length xs → take m (drop (m * i) (xs ++ ys)) ≡ take m (drop (m * i) xs)
    at_front m i xs ys fits =
        ap (take m) (drop-append-le (m * i) xs ys (omega arith))
        ∙ take-append-le m (drop (m * i) xs) ys (omega (arith, length-drop (m * i) xs))

    at_end : (m i n : ℕ) (xs ys : List ℕ) → i ≡ n → length xs ≡ m * n → length ys ≡ m → take m (drop (m * i) (xs ++ ys)) ≡ ys
    at_end m i n xs ys e p q =
        ap (take m) (drop_at xs ys (m * i) (p ∙ ap (λ (k : ℕ). m * k) (sym e))) ∙ take_all m ys (omega arith)

-- functions that agree below n
pub joined-same : (f g : ℕ → List ℕ) (n : ℕ) → ((i : ℕ) → i < n → f i ≡ g i) → joined f n ≡ joined g n
joined-same f g zero same = joined_none f ∙ sym (joined_none g)
joined-same f g (suc n) same =
    let before = joined-same f g n (λ i h. same i (omega arith)) in
    let last = same n (omega arith) in
    rw (← add-one n) (joined_more f n ∙ (rw (before, last) refl) ∙ sym (joined_more g n))

-- one more list, behind what stands before them all
pub joined_next : (before : List ℕ) (f : ℕ → List ℕ) (n : ℕ) (ys : List ℕ) → ys ≡ f n → (before ++ joined f n) ++ ys ≡ before ++ joined f (n + 1)
joined_next before f n ys e =
    append_assoc before (joined f n) ys
    ∙ ap (λ (xs : List ℕ). before ++ xs) (ap (λ (zs : List ℕ). joined f n ++ zs) e ∙ sym (joined_more f n))

pub joined_first : (before : List ℕ) (f : ℕ → List ℕ) → before ≡ before ++ joined f 0
joined_first before f = sym (ap (λ (xs : List ℕ). before ++ xs) (joined_none f) ∙ append-nil before)
