-- Chains of digests (RFC 8554, sections 4.3 to 4.6 and Appendix A), as functions on lists of bytes.
use Rattle.std.specs.Prelude.{ℕ, zero, suc, ◌+◌, List, ◌∷◌, ◌++◌}
use Rattle.std.specs.Int.{w16, w32, to_be_bytes}
use Rattle.sha2.specs.Sha256.{sha256}

-- what every message of a chain begins with: I, the leaf's number q and the chain's number i
abbrev pub chain_prefix : List ℕ → ℕ → ℕ → List ℕ
chain_prefix ident q i = ident ++ to_be_bytes w32 q ++ to_be_bytes w16 i

-- step j of the chain with this prefix
abbrev pub step_of : List ℕ → ℕ → List ℕ → List ℕ
step_of prefix j value = sha256 (prefix ++ j ∷ value)

-- a value of the chain, taken through n steps from step j on
unfoldable pub stepped : List ℕ → ℕ → ℕ → List ℕ → List ℕ
stepped prefix j zero value = value
stepped prefix j (suc n) value = stepped prefix (j + 1) n (step_of prefix j value)

-- the first value of the chain, from the key's seed (Appendix A)
abbrev pub start_value : List ℕ → List ℕ → List ℕ
start_value prefix seed = sha256 (prefix ++ 0xff ∷ seed)
