-- Bits that are set, and bytes by their bits.
use Rattle.std.proofs.Common.{◌≡◌, ◌≢◌, ℕ, ◌+◌, ◌-◌, ◌*◌, ◌/◌, ◌%◌, ◌^◌, ◌<◌, ◌||◌, ◌==◌, List, length, get_or, set, sym, ap, ap₂, ◌∙◌, arith, eq-eqb, ne_eqb, get_or-set_same, get_or-set_other, inl, inr}
use Rattle.std.proofs.Math.Bool.{or-true, or-false}
use Rattle.std.specs.Int.{bit_at, w8}
use Rattle.std.specs.Prelude.{bit_or}
use Rattle.std.proofs.lemmas.Nat.Bits.{bit_at_set_same, bit_at_set_other, bit_at-lt, same_from_bits_below}
use Rattle.std.proofs.lemmas.Bool.{cases_eq, eqb-true, eqb-false, cases_Bool}
use Rattle.std.proofs.lemmas.Grind.{same_number_lists}
use Rattle.update_model.specs.Block.{AreBytes}
use Rattle.bloom_summary.specs.Bloom.{is_bit_set}

-- a byte with one more bit
abbrev pub with_bit : ℕ → ℕ → ℕ
with_bit n k = bit_or n (1 * 2 ^ (7 - k % 8) % 2 ^ 8)

-- the same place in the byte
same_place : (n k j : ℕ) → k % 8 ≡ j % 8 → bit_at (with_bit n k) (7 - j % 8) ≡ 1
same_place n k j same = ap (λ p. bit_at (with_bit n k) (7 - p)) (sym same) ∙ bit_at_set_same w8 n (7 - k % 8) (omega arith)

-- another place
other_place : (n k j : ℕ) → k % 8 ≢ j % 8 → bit_at (with_bit n k) (7 - j % 8) ≡ bit_at n (7 - j % 8)
other_place n k j other = bit_at_set_other w8 n (7 - k % 8) (omega arith) (7 - j % 8) (λ e. other (omega arith))

-- Setting bit k sets it, and no other.
pub set_bit : (bytes : List ℕ) (k : ℕ) → k < 8 * length bytes → (j : ℕ)
    → is_bit_set (set bytes (k / 8) (with_bit (get_or bytes (k / 8) 0) k)) j ≡ (is_bit_set bytes j || (k == j))
unfolding is_bit_set
set_bit bytes k within j = elim (cases_eq (k / 8) (j / 8)) [
  | inl byte ↦
      let here : get_or (set bytes (k / 8) (with_bit (get_or bytes (k / 8) 0) k)) (j / 8) 0 ≡ with_bit (get_or bytes (j / 8) 0) k =
      ap (λ i. get_or (set bytes (k / 8) (with_bit (get_or bytes (k / 8) 0) k)) i 0) (sym byte)
      ∙ get_or-set_same bytes (k / 8) (with_bit (get_or bytes (k / 8) 0) k) 0 (omega arith) ∙ ap (λ i. with_bit (get_or bytes i 0) k) byte in
      ap (λ n. bit_at n (7 - j % 8) == 1) here ∙ in_byte (get_or bytes (j / 8) 0) byte
  | inr other ↦
      ap (λ n. bit_at n (7 - j % 8) == 1) (get_or-set_other bytes (k / 8) (j / 8) (with_bit (get_or bytes (k / 8) 0) k) 0 (λ e. other (sym e)))
      ∙ sym (or-false (bit_at (get_or bytes (j / 8) 0) (7 - j % 8) == 1))
      ∙ ap (λ b. (bit_at (get_or bytes (j / 8) 0) (7 - j % 8) == 1) || b) (sym (ne_eqb k j (λ e. other (ap (λ i. i / 8) e))))
]
  where
    in_byte : (n : ℕ) → k / 8 ≡ j / 8 → (bit_at (with_bit n k) (7 - j % 8) == 1) ≡ ((bit_at n (7 - j % 8) == 1) || (k == j))
    in_byte n byte = elim (cases_eq (k % 8) (j % 8)) [
      | inl same ↦
          eq-eqb (bit_at (with_bit n k) (7 - j % 8)) 1 (same_place n k j same) ∙ sym (or-true (bit_at n (7 - j % 8) == 1))
          ∙ ap (λ b. (bit_at n (7 - j % 8) == 1) || b) (sym (eq-eqb k j (omega arith)))
      | inr other ↦
          ap (λ b. b == 1) (other_place n k j other) ∙ sym (or-false (bit_at n (7 - j % 8) == 1))
          ∙ ap (λ b. (bit_at n (7 - j % 8) == 1) || b) (sym (ne_eqb k j (λ e. other (ap (λ i. i % 8) e))))
    ]

-- two bits of which the same is 1
same_bit : (a b : ℕ) → a < 2 → b < 2 → (a == 1) ≡ (b == 1) → a ≡ b
same_bit a b low low_too same = elim (cases_Bool (a == 1)) [
  | inl one ↦ eqb-true a 1 one ∙ sym (eqb-true b 1 (sym same ∙ one))
  | inr none ↦ let not_a = eqb-false a 1 none in let not_b = eqb-false b 1 (sym same ∙ none) in omega arith
]

-- Lists of bytes, equally long, with the same bits are the same.
pub same_from_set : (bytes others : List ℕ) → length bytes ≡ length others → AreBytes bytes → AreBytes others
    → ((k : ℕ) → k < 8 * length bytes → is_bit_set bytes k ≡ is_bit_set others k) → bytes ≡ others
unfolding is_bit_set
same_from_set bytes others long each each_too same = same_number_lists bytes others long byte
  where
    byte : (i : ℕ) → i < length bytes → get_or bytes i 0 ≡ get_or others i 0
    byte i within = same_from_bits_below 8 (get_or bytes i 0) (get_or others i 0) (each i) (each_too i) bit
      where
        bit : (p : ℕ) → p < 8 → bit_at (get_or bytes i 0) p ≡ bit_at (get_or others i 0) p
        bit p low =
            let index : (8 * i + (7 - p)) / 8 ≡ i = omega arith in
            let place : 7 - (8 * i + (7 - p)) % 8 ≡ p = omega arith in
            let tests : (bit_at (get_or bytes i 0) p == 1) ≡ (bit_at (get_or others i 0) p == 1) =
            ap₂ (λ n q. bit_at (get_or bytes n 0) q == 1) (sym index) (sym place) ∙ same (8 * i + (7 - p)) (omega arith)
            ∙ ap₂ (λ n q. bit_at (get_or others n 0) q == 1) index place in
            same_bit (bit_at (get_or bytes i 0) p) (bit_at (get_or others i 0) p) (bit_at-lt (get_or bytes i 0) p) (bit_at-lt (get_or others i 0) p) tests
