-- Public values, signatures and the values that signatures lead to (RFC 8554, sections 4.3, 4.5 and
-- 4.6), with the private values of Appendix A.
use Rattle.std.specs.Prelude.{◌≡◌, ℕ, ◌+◌, ◌-◌, ◌*◌, List, [], ◌∷◌, ◌++◌, length, take, drop}
use Rattle.std.specs.Int.{w32, to_be_bytes, from_be_bytes}
use Rattle.sha2.specs.Sha256.{sha256}
use Rattle.lm_ots.specs.declared.ots_type.OtsType.{OtsType}
use Rattle.lm_ots.specs.OtsKind.{type_word, width, chain_count, greatest_digit, signature_length}
use Rattle.lm_ots.specs.Joined.{joined}
use Rattle.lm_ots.specs.Chain.{chain_prefix, stepped, start_value}
use Rattle.lm_ots.specs.Digits.{checked_digest, coef}

-- D_PBLC
abbrev pub public_tag : List ℕ
public_tag = 0x80 ∷ 0x80 ∷ []

-- D_MESG
abbrev pub message_tag : List ℕ
message_tag = 0x81 ∷ 0x81 ∷ []

-- Q, the digest that is signed: of the message behind C
abbrev pub message_digest : List ℕ → ℕ → List ℕ → List ℕ → List ℕ
message_digest ident q c msg = sha256 (ident ++ to_be_bytes w32 q ++ message_tag ++ c ++ msg)

-- K, the public value of one leaf, from the last values of its chains
abbrev pub leaf_value : List ℕ → ℕ → List ℕ → List ℕ
leaf_value ident q ends = sha256 (ident ++ to_be_bytes w32 q ++ public_tag ++ ends)

-- chain i's first value, taken through n steps
abbrev pub private_value : List ℕ → ℕ → List ℕ → ℕ → ℕ → List ℕ
private_value ident q seed i n =
    stepped (chain_prefix ident q i) 0 n (start_value (chain_prefix ident q i) seed)

-- the public value: each first value taken through all steps
abbrev pub public_value : OtsType → List ℕ → ℕ → List ℕ → List ℕ
public_value kind ident q seed =
    leaf_value ident q (joined (λ i. private_value ident q seed i (greatest_digit kind)) (chain_count kind))

-- the signature of a message: y[i] is chain i's first value, taken through as many steps as digit i says
abbrev pub signature_of : OtsType → List ℕ → ℕ → List ℕ → List ℕ → List ℕ → List ℕ
signature_of kind ident q seed c msg =
    let digits = checked_digest kind (message_digest ident q c msg) in
    to_be_bytes w32 (type_word kind) ++ c
    ++ joined (λ i. private_value ident q seed i (coef digits i (width kind))) (chain_count kind)

-- the bytes have the length of a signature of this type, and begin with the type's number
pub record IsOfType (kind : OtsType) (sig : List ℕ) : Type 0 where
  pub len : length sig ≡ signature_length kind
  pub word : from_be_bytes w32 (take 4 sig) ≡ type_word kind

-- C of a signature
abbrev pub randomizer : List ℕ → List ℕ
randomizer sig = take 32 (drop 4 sig)

-- y[i] of a signature
abbrev pub chain_value : List ℕ → ℕ → List ℕ
chain_value sig i = take 32 (drop (36 + 32 * i) sig)

-- the last value of chain i, from y[i] of a signature and the digits of these bytes
abbrev pub end_from : OtsType → List ℕ → ℕ → List ℕ → List ℕ → ℕ → List ℕ
end_from kind ident q digits sig i =
    let taken = coef digits i (width kind) in
    stepped (chain_prefix ident q i) taken (greatest_digit kind - taken) (chain_value sig i)

-- the public value that a signature of a message leads to: each y[i] taken through the steps that are
-- left of its chain
abbrev pub candidate_value : OtsType → List ℕ → ℕ → List ℕ → List ℕ → List ℕ
candidate_value kind ident q msg sig =
    let digits = checked_digest kind (message_digest ident q (randomizer sig) msg) in
    leaf_value ident q (joined (λ i. end_from kind ident q digits sig i) (chain_count kind))
