-- What is drawn behind some words is drawn behind no other.
use Rattle.std.proofs.Common.{◌≡◌, ℕ, zero, suc, ◌+◌, ◌*◌, ◌/◌, ◌^◌, ◌≤◌, ◌<◌, List, length, take, refl, sym, ap, ◌∙◌, arith, length-append}
use Rattle.std.specs.Int.{w64, from_be_bytes, to_be_bytes}
use Rattle.std.proofs.lemmas.List.{take-append-le, take-take}
use Rattle.std.proofs.lemmas.Nat.{from_be_bytes-to_be_bytes_8}
use Rattle.rand_core.specs.Steps.{word_bytes}
use Rattle.numbered_words.specs.Numbered.{fill_from_words, next_word, state_after}
use Rattle.numbered_words.proofs.Mixing.{one_place, word_below}

-- ---- words

-- the state behind words whose bytes were written
pub words_state : (k state : ℕ) → (word_bytes (to_be_bytes w64) next_word k state).1 ≡ state_after k state
unfolding word_bytes state_after
words_state zero state = refl
words_state (suc k) state = ap (λ (s : ℕ). (next_word s).1) (words_state k state)

pub after_more : (j i state : ℕ) → state_after j (state_after i state) ≡ state_after (j + i) state
unfolding state_after
after_more zero i state = ap (λ (n : ℕ). state_after n state) (omega arith)
after_more (suc j) i state =
    ap (λ (s : ℕ). (next_word s).1) (after_more j i state) ∙ ap (λ (n : ℕ). state_after n state) (let more : suc (j + i) ≡ suc j + i = omega arith in more)

word_length : (n : ℕ) → length (to_be_bytes w64 n) ≡ 8
word_length n = refl

-- the bytes of words are eight for each
pub words_length : (k state : ℕ) → length (word_bytes (to_be_bytes w64) next_word k state).0 ≡ 8 * k
unfolding word_bytes
words_length zero state = refl
words_length (suc k) state =
    let before = word_bytes (to_be_bytes w64) next_word k state in
    let word = to_be_bytes w64 (next_word before.1).0 in
    let most = words_length k state in
    let last : length word ≡ 8 = word_length (next_word before.1).0 in
    omega (arith, length-append before.0 word, most, last)

-- ---- bytes

-- the first eight are those of the first word
first_word : (k state : ℕ) → take 8 (word_bytes (to_be_bytes w64) next_word (suc k) state).0 ≡ to_be_bytes w64 (next_word state).0
unfolding word_bytes
first_word zero state = refl
first_word (suc k) state =
    let before = word_bytes (to_be_bytes w64) next_word (suc k) state in
    let word = to_be_bytes w64 (next_word before.1).0 in
    let long : 8 ≤ length before.0 = omega (arith, words_length (suc k) state) in
    take-append-le 8 before.0 word long ∙ first_word k state

front : (n : ℕ) (xs : List ℕ) → 8 ≤ n → take 8 (take n xs) ≡ take 8 xs
front n xs long = take-take 8 n xs long

first_drawn : (n state : ℕ) → 8 ≤ n → take 8 (fill_from_words n state).0 ≡ to_be_bytes w64 (next_word state).0
first_drawn n state long = by_words ((n + 7) / 8) refl
  where
    by_words : (k : ℕ) → (n + 7) / 8 ≡ k → take 8 (fill_from_words n state).0 ≡ to_be_bytes w64 (next_word state).0
    by_words zero is = absurd (omega arith)
    by_words (suc k) is =
        ap (λ (words : ℕ). take 8 (take n (word_bytes (to_be_bytes w64) next_word words state).0)) is
        ∙ front n (word_bytes (to_be_bytes w64) next_word (suc k) state).0 long ∙ first_word k state

pub one_draw : (number n i j : ℕ) → 8 ≤ n → i < 2 ^ 64 → j < 2 ^ 64 → (fill_from_words n (state_after i number)).0 ≡ (fill_from_words n (state_after j number)).0 → i ≡ j
one_draw number n i j long low below same =
    let bytes : to_be_bytes w64 (next_word (state_after i number)).0 ≡ to_be_bytes w64 (next_word (state_after j number)).0 =
    sym (first_drawn n (state_after i number) long) ∙ ap (take 8) same ∙ first_drawn n (state_after j number) long in
    one_place number i j low below
    (sym (from_be_bytes-to_be_bytes_8 (next_word (state_after i number)).0 (word_below (state_after i number))) ∙ ap (from_be_bytes w64) bytes
    ∙ from_be_bytes-to_be_bytes_8 (next_word (state_after j number)).0 (word_below (state_after j number)))
