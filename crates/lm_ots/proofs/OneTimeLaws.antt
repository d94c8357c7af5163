-- What was signed leads to the public value.
use Rattle.std.proofs.Common.{◌≡◌, ◌<◌, ◌≤◌, ℕ, ◌+◌, ◌-◌, ◌*◌, List, ◌∷◌, ◌++◌, length, take, drop, refl, sym, ap, ◌∙◌, arith, length-append}
use Rattle.std.proofs.lemmas.List.{drop_at, drop-drop, take_at}
use Rattle.std.proofs.lemmas.Nat.{from_be_bytes-to_be_bytes_4}
use Rattle.std.specs.Int.{w32, to_be_bytes}
use Rattle.sha2.proofs.Facts256.{length-sha256}
use Rattle.lm_ots.specs.declared.ots_type.OtsType.{OtsType}
use Rattle.lm_ots.specs.OtsKind.{type_word, width, chain_count, greatest_digit, signature_length}
use Rattle.lm_ots.specs.Joined.{joined}
use Rattle.lm_ots.specs.Chain.{chain_prefix, stepped, start_value}
use Rattle.lm_ots.specs.Digits.{checked_digest, coef}
use Rattle.lm_ots.specs.OneTime.{IsOfType, candidate_value, chain_value, end_from, leaf_value, message_digest, private_value, public_value, randomizer, signature_of}
use Rattle.lm_ots.proofs.ChainLaws.{length-stepped, stepped-stepped}
use Rattle.lm_ots.proofs.JoinedLaws.{joined-at, joined-length, joined-same}
use Rattle.lm_ots.proofs.KindLaws.{coef-le, type_word-fits}

-- a value of a chain, taken to the chain's end
rest_of_chain : (prefix value : List ℕ) (digit greatest : ℕ) → digit ≤ greatest → stepped prefix digit (greatest - digit) (stepped prefix 0 digit value) ≡ stepped prefix 0 greatest value
rest_of_chain prefix value digit greatest below =
    let place : digit ≡ 0 + digit = omega arith in
    let count : digit + (greatest - digit) ≡ greatest = omega arith in
    ap (λ (i : ℕ). stepped prefix i (greatest - digit) (stepped prefix 0 digit value)) place
    ∙ stepped-stepped prefix 0 digit (greatest - digit) value
    ∙ ap (λ (n : ℕ). stepped prefix 0 n value) count

-- y[i] of a head of 36 bytes and the values of n chains
value_at : (head : List ℕ) (f : ℕ → List ℕ) (n i : ℕ) → length head ≡ 36 → ((i : ℕ) → length (f i) ≡ 32) → i < n → chain_value (head ++ joined f n) i ≡ f i
value_at head f n i len sizes below =
    ap (take 32) (sym (drop-drop (32 * i) 36 (head ++ joined f n)) ∙ ap (drop (32 * i)) (drop_at head (joined f n) 36 len))
    ∙ joined-at f 32 n i sizes below

pub length-private_value : (ident : List ℕ) (q : ℕ) (seed : List ℕ) (i n : ℕ) → length (private_value ident q seed i n) ≡ 32
length-private_value ident q seed i n =
    length-stepped (chain_prefix ident q i) 0 n (start_value (chain_prefix ident q i) seed) (length-sha256 (chain_prefix ident q i ++ 0xff ∷ seed))

pub own_form : (kind : OtsType) (ident seed c msg : List ℕ) (q : ℕ) → length c ≡ 32 → IsOfType kind (signature_of kind ident q seed c msg)
own_form kind ident seed c msg q size =
    let digits : List ℕ = checked_digest kind (message_digest ident q c msg) in
    let f : ℕ → List ℕ = λ i. private_value ident q seed i (coef digits i (width kind)) in
    record {
      len = total kind c (joined f (chain_count kind)) size (joined-length f 32 (chain_count kind) (λ i. length-private_value ident q seed i (coef digits i (width kind))));
      word = from_be_bytes-to_be_bytes_4 (type_word kind) (type_word-fits kind);
    }
  where
    total : (kind : OtsType) (c ends : List ℕ) → length c ≡ 32 → length ends ≡ 32 * chain_count kind → length (to_be_bytes w32 (type_word kind) ++ c ++ ends) ≡ signature_length kind
    total kind c ends p q =
        let head : length (to_be_bytes w32 (type_word kind)) ≡ 4 = refl in
        omega (arith, length-append (to_be_bytes w32 (type_word kind) ++ c) ends, length-append (to_be_bytes w32 (type_word kind)) c, head)

-- with the digits in hand
own_value_at : (kind : OtsType) (ident seed digits head : List ℕ) (q : ℕ) → length head ≡ 36
    → joined (λ i. end_from kind ident q digits (head ++ joined (λ i. private_value ident q seed i (coef digits i (width kind))) (chain_count kind)) i) (chain_count kind)
    ≡ joined (λ i. private_value ident q seed i (greatest_digit kind)) (chain_count kind)
own_value_at kind ident seed digits head q len =
    let f : ℕ → List ℕ = λ i. private_value ident q seed i (coef digits i (width kind)) in
    let sizes : (i : ℕ) → length (f i) ≡ 32 = λ i. length-private_value ident q seed i (coef digits i (width kind)) in
    joined-same _ _ (chain_count kind) (λ i below.
    ap (λ (y : List ℕ). stepped (chain_prefix ident q i) (coef digits i (width kind)) (greatest_digit kind - coef digits i (width kind)) y) (value_at head f (chain_count kind) i len sizes below)
    ∙ rest_of_chain (chain_prefix ident q i) (start_value (chain_prefix ident q i) seed) (coef digits i (width kind)) (greatest_digit kind) (coef-le kind digits i))

pub own_value : (kind : OtsType) (ident seed c msg : List ℕ) (q : ℕ) → length c ≡ 32 → candidate_value kind ident q msg (signature_of kind ident q seed c msg) ≡ public_value kind ident q seed
own_value kind ident seed c msg q size =
    let digits : List ℕ = checked_digest kind (message_digest ident q c msg) in
    let ends : List ℕ = joined (λ i. private_value ident q seed i (coef digits i (width kind))) (chain_count kind) in
    let head : List ℕ = to_be_bytes w32 (type_word kind) ++ c in
    let given : randomizer (head ++ ends) ≡ c = take_at c ends 32 size in
    let long : length head ≡ 36 = omega (arith, length-append (to_be_bytes w32 (type_word kind)) c) in
    ap (λ (r : List ℕ). leaf_value ident q (joined (λ i. end_from kind ident q (checked_digest kind (message_digest ident q r msg)) (head ++ ends) i) (chain_count kind))) given
    ∙ ap (leaf_value ident q) (own_value_at kind ident seed digits head q long)
