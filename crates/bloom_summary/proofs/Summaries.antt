-- Summaries of lists of ids.
use Rattle.std.proofs.Common.{◌≡◌, ℕ, ◌+◌, ◌-◌, ◌*◌, ◌/◌, ◌%◌, ◌<◌, ◌≤◌, Bool, true, false, ◌||◌, ◌&&◌, ◌==◌, List, [], ◌∷◌, length, take, take_all, replicate, get_or, refl, sym, ap, ◌∙◌, arith, eq-eqb, inl, inr}
use Rattle.std.specs.Prelude.{Contains, nat_lt}
use Rattle.std.specs.List.{list_any, list_all}
use Rattle.std.proofs.lemmas.Bool.{eqb-true, lt-ltb, or_cases, or_left, or_right, and_from, cases_lt, le-ltb}
use Rattle.std.proofs.Math.Bool.{or_assoc}
use Rattle.std.proofs.lemmas.List.{length-replicate, get_or-replicate, get_or_past}
use Rattle.std.specs.Int.{bit_at}
use Rattle.std.proofs.lemmas.Nat.{mod_below}
use Rattle.std.proofs.lemmas.Nat.Bits.{bit_at-zero}
use Rattle.std.proofs.lemmas.List.Folds.{list_any_at, list_any_more}
use Rattle.update_model.specs.declared.update_id.UpdateId.{UpdateId}
use Rattle.update_model.specs.Block.{AreBytes}
use Rattle.bloom_summary.specs.Bloom.{AreBits, is_bit_set, is_member, is_position, offsets, position_at}
use Rattle.bloom_summary.proofs.SetBits.{same_from_set}

-- a list of ids has one summary
pub one_summary : (ids : List UpdateId) (bytes others : List ℕ) → AreBits ids bytes → AreBits ids others → bytes ≡ others
one_summary ids bytes others a b =
    let long : length bytes ≡ length others = a.len ∙ sym b.len in
    same_from_set bytes others long a.each b.each
    (λ k within. a.exact k within ∙ ap (λ (n : ℕ). list_any (λ id. is_position (8 * n) id k) ids) long ∙ sym (b.exact k (omega arith)))

-- what holds of each number that is found in the list
all_found : (test : ℕ → Bool) (xs : List ℕ) → ((x : ℕ) → list_any (λ y. y == x) xs ≡ true → test x ≡ true) → list_all test xs ≡ true
all_found test [] found = refl
all_found test (x ∷ xs) found =
    and_from (test x) (list_all test xs) (found x (or_left (x == x) (list_any (λ y. y == x) xs) (eq-eqb x x refl)))
    (all_found test xs (λ z there. found z (or_right (x == z) (list_any (λ y. y == z) xs) there)))

-- what is found is found by its image
found_again : (f : ℕ → ℕ) (xs : List ℕ) (x : ℕ) → list_any (λ y. y == x) xs ≡ true → list_any (λ y. f y == f x) xs ≡ true
found_again f [] x found = found
found_again f (z ∷ zs) x found = elim (or_cases (z == x) (list_any (λ y. y == x) zs) found) [
  | inl here ↦ or_left (f z == f x) (list_any (λ y. f y == f x) zs) (eq-eqb (f z) (f x) (ap f (eqb-true z x here)))
  | inr later ↦ or_right (f z == f x) (list_any (λ y. f y == f x) zs) (found_again f zs x later)
]

-- the positions of an id are its positions
own_position : (bits : ℕ) (id : UpdateId) (offset : ℕ) → list_any (λ y. y == offset) offsets ≡ true → is_position bits id (position_at bits id offset) ≡ true
unfolding is_position
own_position bits id offset found = found_again (position_at bits id) offsets offset found

-- each id that was summed up is a member
pub members_are_found : (ids : List UpdateId) (bytes : List ℕ) (id : UpdateId) → AreBits ids bytes → Contains ids id → is_member bytes id ≡ true
unfolding is_member
members_are_found ids bytes id summary (at, there, is) =
    and_from (nat_lt 0 (length bytes)) (list_all (λ offset. is_bit_set bytes (position_at (8 * length bytes) id offset)) offsets) (lt-ltb 0 (length bytes) some)
    (all_found (λ offset. is_bit_set bytes (position_at (8 * length bytes) id offset)) offsets set_there)
  where
    some : 0 < length bytes
    some = let len = summary.len in omega arith

    set_there : (offset : ℕ) → list_any (λ y. y == offset) offsets ≡ true → is_bit_set bytes (position_at (8 * length bytes) id offset) ≡ true
    set_there offset found =
        let position = position_at (8 * length bytes) id offset in
        summary.exact position (mod_below _ (8 * length bytes) (omega (arith, some)))
        ∙ list_any_at (λ other. is_position (8 * length bytes) other position) ids at id there (ap (λ (other : UpdateId). is_position (8 * length bytes) other position) is ∙ own_position (8 * length bytes) id offset found)

-- one more word of an id
pub one_more_word : (bits : ℕ) (id : UpdateId) (old now next : List ℕ) (i : ℕ) → i < 7
    → ((j : ℕ) → is_bit_set now j ≡ (is_bit_set old j || list_any (λ offset. position_at bits id offset == j) (take i offsets)))
    → ((j : ℕ) → is_bit_set next j ≡ (is_bit_set now j || (position_at bits id (get_or offsets i 0) == j)))
    → (j : ℕ) → is_bit_set next j ≡ (is_bit_set old j || list_any (λ offset. position_at bits id offset == j) (take (i + 1) offsets))
one_more_word bits id old now next i low so_far more j =
    more j ∙ ap (λ b. b || (position_at bits id (get_or offsets i 0) == j)) (so_far j)
    ∙ or_assoc (is_bit_set old j) (list_any (λ offset. position_at bits id offset == j) (take i offsets)) (position_at bits id (get_or offsets i 0) == j)
    ∙ ap (λ b. is_bit_set old j || b) (sym (list_any_more (λ offset. position_at bits id offset == j) offsets i 0 low))

-- what the bits are once the first ids are summed up, so many
pub record AreSoFar (ids : List UpdateId) (i : ℕ) (bytes : List ℕ) : Type 0 where
  pub len : length bytes ≡ (10 * length ids + 7) / 8
  pub exact : (k : ℕ) → is_bit_set bytes k ≡ list_any (λ id. is_position (8 * length bytes) id k) (take i ids)

zero_at : (n i : ℕ) → get_or (replicate {A = ℕ} n 0) i 0 ≡ 0
zero_at n i = elim (cases_lt i n) [
  | inl low ↦ get_or-replicate n i 0 0 low
  | inr high ↦ get_or_past (replicate n 0) i 0 (rw length-replicate high)
]

-- no bit is set yet
pub none_so_far : (ids : List UpdateId) (n : ℕ) → n ≡ (10 * length ids + 7) / 8 → AreSoFar ids 0 (replicate n 0)
unfolding is_bit_set
none_so_far ids n is = record {
  len = length-replicate n 0 ∙ is;
  exact = λ k. ap (λ b. bit_at b (7 - k % 8) == 1) (zero_at n (k / 8)) ∙ ap (λ b. b == 1) (bit_at-zero (7 - k % 8));
}

-- all bits that there are at the positions are set
pub member_of : (bytes : List ℕ) (id : UpdateId) (answer : Bool) → 0 < length bytes
    → answer ≡ list_all (λ offset. is_bit_set bytes (position_at (8 * length bytes) id offset)) offsets → answer ≡ is_member bytes id
unfolding is_member
member_of bytes id answer some is = is ∙ ap (λ b. b && list_all (λ offset. is_bit_set bytes (position_at (8 * length bytes) id offset)) offsets) (sym (lt-ltb 0 (length bytes) some))

-- without bits nothing is a member
pub no_member : (bytes : List ℕ) (id : UpdateId) → length bytes ≡ 0 → false ≡ is_member bytes id
unfolding is_member
no_member bytes id none = ap (λ b. b && list_all (λ offset. is_bit_set bytes (position_at (8 * length bytes) id offset)) offsets) (sym (le-ltb 0 (length bytes) (omega arith)))

-- the bits of all ids
pub all_bits : (ids : List UpdateId) (i : ℕ) (bytes : List ℕ) → length ids ≤ i → AreBytes bytes → AreSoFar ids i bytes → AreBits ids bytes
all_bits ids i bytes all each so_far = record {
  len = so_far.len;
  each = each;
  exact = λ k within. so_far.exact k ∙ ap (list_any (λ id. is_position (8 * length bytes) id k)) (take_all i ids all);
}
