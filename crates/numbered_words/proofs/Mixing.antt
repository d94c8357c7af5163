-- Each step of SplitMix64 can be undone, so no word comes twice.
use Rattle.std.proofs.Common.{◌≡◌, ℕ, zero, suc, ◌+◌, ◌*◌, ◌/◌, ◌%◌, ◌^◌, ◌<◌, sym, ap, ◌∙◌, arith}
use Rattle.std.specs.Prelude.{bit_xor}
use Rattle.std.specs.Int.{bit_at}
use Rattle.std.specs.Int.Bits.{xor_self}
use Rattle.std.proofs.lemmas.Nat.{shr_le, shr-shr, xor_lt, xor_shr}
use Rattle.std.proofs.lemmas.Nat.Bits.{bit_at-lt, bit_at-zero, bit_at_xor, same_from_bits}
use Rattle.rand_xoshiro.specs.SplitMix64.{fold_mul, next_state}
use Rattle.numbered_words.specs.Numbered.{next_word, state_after, word_at}

-- ---- bits

xor_swap : (x u y v : ℕ) → bit_xor (bit_xor x u) (bit_xor y v) ≡ bit_xor (bit_xor x y) (bit_xor u v)
xor_swap x u y v = same_from_bits _ _ (λ i. omega (arith, bit_at_xor (bit_xor x u) (bit_xor y v) i, bit_at_xor x u i, bit_at_xor y v i, bit_at_xor (bit_xor x y) (bit_xor u v) i, bit_at_xor x y i, bit_at_xor u v i))

xor_zero : (a b : ℕ) → bit_xor a b ≡ 0 → a ≡ b
xor_zero a b none = same_from_bits a b (λ i.
    let bit : bit_at (bit_xor a b) i ≡ 0 = ap (λ n. bit_at n i) none ∙ bit_at-zero i in
    omega (arith, bit, bit_at_xor a b i, bit_at-lt a i, bit_at-lt b i))

-- what is folded by half or more of it is nothing
fold_zero : (d k : ℕ) → d ≡ d / 2 ^ (suc k) → d ≡ 0
fold_zero d k same =
    let more : suc k ≡ 1 + k = omega arith in
    let halved : d ≡ d / 2 / 2 ^ k = same ∙ ap (λ n. d / 2 ^ n) more ∙ sym (shr-shr d 1 k) in
    omega (arith, halved, shr_le (d / 2) k)

fold_once : (k a b : ℕ) → bit_xor a (a / 2 ^ (suc k)) ≡ bit_xor b (b / 2 ^ (suc k)) → a ≡ b
fold_once k a b same =
    let d = bit_xor a b in
    let apart : bit_xor (bit_xor a (a / 2 ^ (suc k))) (bit_xor b (b / 2 ^ (suc k))) ≡ 0 = ap (λ n. bit_xor n (bit_xor b (b / 2 ^ (suc k)))) same ∙ xor_self (bit_xor b (b / 2 ^ (suc k))) in
    let swapped : bit_xor d (bit_xor (a / 2 ^ (suc k)) (b / 2 ^ (suc k))) ≡ 0 = sym (xor_swap a (a / 2 ^ (suc k)) b (b / 2 ^ (suc k))) ∙ apart in
    let folded : bit_xor d (d / 2 ^ (suc k)) ≡ 0 = ap (bit_xor d) (xor_shr a b (suc k)) ∙ swapped in
    xor_zero a b (fold_zero d k (xor_zero d (d / 2 ^ (suc k)) folded))

-- ---- factors

first_undone : (y z : ℕ) → y < 2 ^ 64 → z < 2 ^ 64 → y * 0xbf58476d1ce4e5b9 % 2 ^ 64 ≡ z * 0xbf58476d1ce4e5b9 % 2 ^ 64 → y ≡ z
first_undone y z low below same = omega arith

second_undone : (y z : ℕ) → y < 2 ^ 64 → z < 2 ^ 64 → y * 0x94d049bb133111eb % 2 ^ 64 ≡ z * 0x94d049bb133111eb % 2 ^ 64 → y ≡ z
second_undone y z low below same = omega arith

-- ---- states

next_below : (x : ℕ) → next_state x < 2 ^ 64
next_below x = omega arith

next_after : (n x : ℕ) → next_state (state_after n x) ≡ (x + (n + 1) * 0x9e3779b97f4a7c15) % 2 ^ 64
unfolding state_after
next_after zero x = omega arith
next_after (suc n) x = omega (arith, next_after n x)

one_count : (x i j : ℕ) → i < 2 ^ 64 → j < 2 ^ 64 → (x + (i + 1) * 0x9e3779b97f4a7c15) % 2 ^ 64 ≡ (x + (j + 1) * 0x9e3779b97f4a7c15) % 2 ^ 64 → i ≡ j
one_count x i j low below same = omega arith

-- ---- words

folded_below : (z k : ℕ) → z < 2 ^ 64 → bit_xor z (z / 2 ^ k) < 2 ^ 64
folded_below z k low = xor_lt 64 z (z / 2 ^ k) low (omega (arith, low, shr_le z k))

once_below : (z : ℕ) → fold_mul z 30 0xbf58476d1ce4e5b9 < 2 ^ 64
once_below z = omega arith

once_undone : (y z : ℕ) → y < 2 ^ 64 → z < 2 ^ 64 → fold_mul y 30 0xbf58476d1ce4e5b9 ≡ fold_mul z 30 0xbf58476d1ce4e5b9 → y ≡ z
once_undone y z low below same =
    fold_once 29 y z (first_undone (bit_xor y (y / 2 ^ 30)) (bit_xor z (z / 2 ^ 30)) (folded_below y 30 low) (folded_below z 30 below) same)

twice_undone : (y z : ℕ) → y < 2 ^ 64 → z < 2 ^ 64 → fold_mul y 27 0x94d049bb133111eb ≡ fold_mul z 27 0x94d049bb133111eb → y ≡ z
twice_undone y z low below same =
    fold_once 26 y z (second_undone (bit_xor y (y / 2 ^ 27)) (bit_xor z (z / 2 ^ 27)) (folded_below y 27 low) (folded_below z 27 below) same)

twice_below : (z : ℕ) → fold_mul z 27 0x94d049bb133111eb < 2 ^ 64
twice_below z = omega arith

pub word_below : (x : ℕ) → (next_word x).0 < 2 ^ 64
word_below x =
    let z = fold_mul (fold_mul (next_state x) 30 0xbf58476d1ce4e5b9) 27 0x94d049bb133111eb in
    folded_below z 31 (twice_below (fold_mul (next_state x) 30 0xbf58476d1ce4e5b9))

-- two states with one next word have one next state
one_next : (x y : ℕ) → (next_word x).0 ≡ (next_word y).0 → next_state x ≡ next_state y
one_next x y same =
    let a = fold_mul (next_state x) 30 0xbf58476d1ce4e5b9 in
    let b = fold_mul (next_state y) 30 0xbf58476d1ce4e5b9 in
    once_undone (next_state x) (next_state y) (next_below x) (next_below y)
    (twice_undone a b (once_below (next_state x)) (once_below (next_state y))
    (fold_once 30 (fold_mul a 27 0x94d049bb133111eb) (fold_mul b 27 0x94d049bb133111eb) same))

pub one_place : (number i j : ℕ) → i < 2 ^ 64 → j < 2 ^ 64 → word_at number i ≡ word_at number j → i ≡ j
one_place number i j low below same =
    one_count number i j low below (sym (next_after i number) ∙ one_next (state_after i number) (state_after j number) same ∙ next_after j number)
