-- A key is read from its bytes, and told by them.
use Rattle.std.proofs.Common.{◌≡◌, ℕ, zero, suc, ◌+◌, ◌<◌, ◌≤◌, List, [], ◌∷◌, ◌++◌, length, take, drop, sym, ap, ◌∙◌, arith, length-append, length-drop, lit<}
use Rattle.std.specs.Prelude.{◌^◌}
use Rattle.std.specs.Int.{w32, to_be_bytes, from_be_bytes}
use Rattle.std.proofs.lemmas.Nat.{from_be_bytes-to_be_bytes_4, be_bytes_4}
use Rattle.std.proofs.lemmas.List.{get_or-take, take_at, drop-drop, take-append-drop, take_all, length-take-le}
use Rattle.std.proofs.Math.Seq.{drop-append-add}
use Rattle.byteorder.specs.Endian.{big_number}
use Rattle.update_model.specs.Block.{AreBytes, IsBlock}
use Rattle.update_model.specs.Form.{IsKey, IsKnownKey}
use Rattle.update_model.specs.declared.author_key.AuthorKey.{AuthorKey}
use Rattle.hss_chain.specs.Keys.{key_bytes}

-- a number that is read from the front of a list
pub read_word : (xs : List ℕ) → big_number 4 xs ≡ from_be_bytes w32 (take 4 xs)
read_word xs =
    let a = get_or-take 4 xs 0 0 (lit< tt) in
    let b = get_or-take 4 xs 1 0 (lit< tt) in
    let c = get_or-take 4 xs 2 0 (lit< tt) in
    let d = get_or-take 4 xs 3 0 (lit< tt) in
    omega arith

-- the types of a key of known types fit their words
pub fits : (key : AuthorKey) → IsKnownKey key → (key.lms < 2 ^ 32) × (key.ots < 2 ^ 32)
fits key known = (omega (arith, known.lms.1), omega (arith, known.ots.1))

pub length-key_bytes : (key : AuthorKey) → IsKey key → length (key_bytes key) ≡ 56
unfolding key_bytes
length-key_bytes key is =
    let a = length-append key.ident key.root in
    let b = is.ident.len in
    let c = is.root.len in
    omega arith

abbrev key_of : ℕ → ℕ → List ℕ → List ℕ → AuthorKey
key_of lms ots ident root = record { lms = lms; ots = ots; ident = ident; root = root }

-- what the bytes of a key begin with
lms_read : (key : AuthorKey) → IsKey key → from_be_bytes w32 (take 4 (key_bytes key)) ≡ key.lms
unfolding key_bytes
lms_read key is = from_be_bytes-to_be_bytes_4 key.lms (fits key is.known).0

ots_read : (key : AuthorKey) → IsKey key → from_be_bytes w32 (take 4 (drop 4 (key_bytes key))) ≡ key.ots
unfolding key_bytes
ots_read key is = from_be_bytes-to_be_bytes_4 key.ots (fits key is.known).1

ident_read : (key : AuthorKey) → IsKey key → take 16 (drop 8 (key_bytes key)) ≡ key.ident
unfolding key_bytes
ident_read key is = take_at key.ident key.root 16 is.ident.len

root_read : (key : AuthorKey) → IsKey key → drop 24 (key_bytes key) ≡ key.root
unfolding key_bytes
root_read key is =
    let len = is.ident.len in
    let all : 16 ≡ length key.ident + 0 = omega (arith, len) in
    ap (λ (n : ℕ). drop n (key.ident ++ key.root)) all ∙ drop-append-add key.ident key.root 0

-- Two keys of known types with the same bytes are one.
pub one_key : (a b : AuthorKey) → IsKey a → IsKey b → key_bytes a ≡ key_bytes b → a ≡ b
one_key a b first second same =
    same_parts a b
    (sym (lms_read a first) ∙ ap (λ (xs : List ℕ). from_be_bytes w32 (take 4 xs)) same ∙ lms_read b second)
    (sym (ots_read a first) ∙ ap (λ (xs : List ℕ). from_be_bytes w32 (take 4 (drop 4 xs))) same ∙ ots_read b second)
    (sym (ident_read a first) ∙ ap (λ (xs : List ℕ). take 16 (drop 8 xs)) same ∙ ident_read b second)
    (sym (root_read a first) ∙ ap (drop 24) same ∙ root_read b second)
  where
    same_parts : (a b : AuthorKey) → a.lms ≡ b.lms → a.ots ≡ b.ots → a.ident ≡ b.ident → a.root ≡ b.root → a ≡ b
    same_parts a b e1 e2 e3 e4 = λ i. record { lms = e1 i; ots = e2 i; ident = e3 i; root = e4 i }

-- bytes of a front and of a rest
bytes_take : (n : ℕ) (xs : List ℕ) → AreBytes xs → AreBytes (take n xs)
bytes_take zero xs h i = omega arith
bytes_take (suc n) [] h i = omega arith
bytes_take (suc n) (x ∷ xs) h zero = h 0
bytes_take (suc n) (x ∷ xs) h (suc i) = bytes_take n xs (λ j. h (suc j)) i

bytes_drop : (n : ℕ) (xs : List ℕ) → AreBytes xs → AreBytes (drop n xs)
bytes_drop zero xs h = h
bytes_drop (suc n) [] h = h
bytes_drop (suc n) (x ∷ xs) h = bytes_drop n xs (λ j. h (suc j))

-- the first four bytes and the rest
word_and_rest : (xs : List ℕ) (n : ℕ) → AreBytes xs → 4 ≤ length xs → n ≡ big_number 4 xs → xs ≡ to_be_bytes w32 n ++ drop 4 xs
word_and_rest xs n bytes long is =
    let first : length (take 4 xs) ≡ 4 = length-take-le 4 xs long in
    let word : to_be_bytes w32 n ≡ take 4 xs = be_bytes_4 (take 4 xs) n first (bytes_take 4 xs bytes) (is ∙ read_word xs) in
    sym (ap (λ (ys : List ℕ). ys ++ drop 4 xs) word ∙ take-append-drop 4 xs)

-- The bytes of a key are those that it was read from.
pub key_joined : (bytes : List ℕ) (key : AuthorKey) → AreBytes bytes → length bytes ≡ 56 → key.lms ≡ big_number 4 bytes → key.ots ≡ big_number 4 (drop 4 bytes)
    → key.ident ≡ take 16 (drop 8 bytes) → key.root ≡ take 32 (drop 24 bytes) → bytes ≡ key_bytes key
unfolding key_bytes
key_joined bytes key each long lms ots ident root =
    let rest : List ℕ = drop 4 bytes in
    let two : drop 4 rest ≡ drop 8 bytes = drop-drop 4 4 bytes in
    let three : drop 16 (drop 8 bytes) ≡ drop 24 bytes = drop-drop 16 8 bytes in
    let end : take 32 (drop 24 bytes) ≡ drop 24 bytes = take_all 32 (drop 24 bytes) (omega (arith, length-drop 24 bytes)) in
    word_and_rest bytes key.lms each (omega arith) lms
    ∙ ap (λ (xs : List ℕ). to_be_bytes w32 key.lms ++ xs) (word_and_rest rest key.ots (bytes_drop 4 bytes each) (omega (arith, length-drop 4 bytes)) ots
    ∙ ap (λ (xs : List ℕ). to_be_bytes w32 key.ots ++ xs) (two ∙ sym (take-append-drop 16 (drop 8 bytes))
    ∙ ap (λ (xs : List ℕ). xs ++ drop 16 (drop 8 bytes)) (sym ident) ∙ ap (λ (xs : List ℕ). key.ident ++ xs) (three ∙ sym end ∙ sym root)))

pub block_of : (n at : ℕ) (bytes : List ℕ) → AreBytes bytes → at + n ≤ length bytes → IsBlock n (take n (drop at bytes))
block_of n at bytes each fits = record {
  len = length-take-le n (drop at bytes) (omega (arith, length-drop at bytes));
  each = bytes_take n (drop at bytes) (bytes_drop at bytes each);
}

-- The types that bytes begin with are those of the key that they are the bytes of.
pub types_of : (bytes : List ℕ) (key : AuthorKey) → IsKey key → bytes ≡ key_bytes key → (big_number 4 bytes ≡ key.lms) × (big_number 4 (drop 4 bytes) ≡ key.ots)
types_of bytes key is same = (
  read_word bytes ∙ ap (λ (xs : List ℕ). from_be_bytes w32 (take 4 xs)) same ∙ lms_read key is,
  read_word (drop 4 bytes) ∙ ap (λ (xs : List ℕ). from_be_bytes w32 (take 4 (drop 4 xs))) same ∙ ots_read key is,
)
