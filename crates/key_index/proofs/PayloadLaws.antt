-- A payload of 56 bytes, in its four parts.
use Rattle.std.proofs.Common.{◌≡◌, ◌⊎◌, inl, inr, ℕ, ◌+◌, ◌<◌, ◌≤◌, List, ◌++◌, length, take, drop, get_or, refl, sym, ap, ◌∙◌, arith, append_assoc, length-drop}
use Rattle.std.proofs.lemmas.List.{take_all, take-append-drop, get_or-take, get_or-drop, get_or_past, length-take, length-take-le}
use Rattle.std.proofs.lemmas.Nat.{be_bytes_4}
use Rattle.std.specs.Int.{w32, to_be_bytes, from_be_bytes}
use Rattle.lm_ots.specs.OtsKind as ots_kind
use Rattle.lms_tree.specs.LmsKind.{type_word}
use Rattle.lms_tree.specs.SecretKey.{SecretData}
use Rattle.key_index.specs.Payload.{IsPayload}

AreBytes : List ℕ → Type 0
AreBytes xs = (i : ℕ) → get_or xs i 0 < 256

-- the four bytes that a number was read from
word_at : (xs : List ℕ) (n : ℕ) → 4 ≤ length xs → AreBytes xs → n ≡ from_be_bytes w32 (take 4 xs) → to_be_bytes w32 n ≡ take 4 xs
unfolding AreBytes
word_at xs n long bytes is = be_bytes_4 (take 4 xs) n (length-take-le 4 xs long) (λ i. each i (below i)) is
  where
    below : (i : ℕ) → (i < 4) ⊎ (4 ≤ i)
    below i = grind arith

    each : (i : ℕ) → (i < 4) ⊎ (4 ≤ i) → get_or (take 4 xs) i 0 < 256
    each i (inl lt) = rw (get_or-take 4 xs i 0 lt) (bytes i)
    each i (inr ge) = rw (get_or_past (take 4 xs) i 0 (omega (arith, length-take 4 xs))) (omega arith)

bytes_behind : (xs : List ℕ) (n : ℕ) → AreBytes xs → AreBytes (drop n xs)
unfolding AreBytes
bytes_behind xs n bytes i = rw (get_or-drop n xs i 0) (bytes (n + i))

in_parts : (a a' b b' c c' d d' : List ℕ) → a ≡ a' → b ≡ b' → c ≡ c' → d ≡ d' → a ++ b ++ c ++ d ≡ a' ++ b' ++ c' ++ d'
in_parts a a' b b' c c' d d' e1 e2 e3 e4 = rw (e1, e2, e3, e4) refl

-- The numbers of the types, I and SEED were read from 56 bytes, one after the other.
pub read_payload : (xs all behind_tree behind_types behind_ident : List ℕ) (secret : SecretData) → length xs ≡ 56 → ((i : ℕ) → get_or xs i 0 < 256)
    → all ≡ xs → behind_tree ≡ drop 4 all → behind_types ≡ drop 4 behind_tree → behind_ident ≡ drop 16 behind_types
    → type_word secret.lms ≡ from_be_bytes w32 (take 4 all) → ots_kind.type_word secret.ots ≡ from_be_bytes w32 (take 4 behind_tree)
    → secret.ident ≡ take 16 behind_types → secret.start ≡ take 32 behind_ident → IsPayload xs secret
unfolding AreBytes
read_payload xs all r1 r2 r3 secret len bytes e0 e1' e2 e3 tree' one_time ident start =
    let e1 : r1 ≡ drop 4 xs = e1' ∙ ap (drop 4) e0 in
    let tree : type_word secret.lms ≡ from_be_bytes w32 (take 4 xs) = tree' ∙ ap (λ (l : List ℕ). from_be_bytes w32 (take 4 l)) e0 in
    let len1 : length r1 ≡ 52 = omega (arith, ap length e1, length-drop 4 xs) in
    let len2 : length r2 ≡ 48 = omega (arith, ap length e2, length-drop 4 r1) in
    let len3 : length r3 ≡ 32 = omega (arith, ap length e3, length-drop 16 r2) in
    let bytes1 : AreBytes r1 = rw e1 (bytes_behind xs 4 bytes) in
    let first : to_be_bytes w32 (type_word secret.lms) ≡ take 4 xs = word_at xs (type_word secret.lms) (omega arith) bytes tree in
    let second : to_be_bytes w32 (ots_kind.type_word secret.ots) ≡ take 4 r1 = word_at r1 (ots_kind.type_word secret.ots) (omega arith) bytes1 one_time in
    let last : secret.start ≡ r3 = start ∙ take_all 32 r3 (omega arith) in
    let parts : take 4 xs ++ take 4 r1 ++ take 16 r2 ++ r3 ≡ xs =
    append_assoc (take 4 xs ++ take 4 r1) (take 16 r2) r3
    ∙ ap (λ (l : List ℕ). take 4 xs ++ take 4 r1 ++ (take 16 r2 ++ l)) e3
    ∙ ap (λ (l : List ℕ). take 4 xs ++ take 4 r1 ++ l) (take-append-drop 16 r2 ∙ e2)
    ∙ append_assoc (take 4 xs) (take 4 r1) (drop 4 r1)
    ∙ ap (λ (l : List ℕ). take 4 xs ++ l) (take-append-drop 4 r1 ∙ e1)
    ∙ take-append-drop 4 xs in
    record {
      spelled = sym (in_parts _ _ _ _ _ _ _ _ first second ident last ∙ parts);
      ident = ap length ident ∙ length-take-le 16 r2 (omega arith);
      start = ap length last ∙ len3;
    }
