-- Bytes that are two doubled updates and nothing else.
use Rattle.std.specs.Prelude.{◌≡◌, ℕ, ◌<◌, ◌^◌, List, [], ◌∷◌, ◌++◌, length}
use Rattle.bec_bytes.specs.Framed.{framed, stream_of}
use Rattle.update_model.specs.declared.author_key.AuthorKey.{AuthorKey}
use Rattle.key_audit.specs.Doubles.{AreDoubled}

-- The bytes are a record, and then the rest.
pub record HoldsRecord (bytes piece rest : List ℕ) : Type 0 where
  pub fits : length piece < 2 ^ 32
  pub parts : bytes ≡ framed piece ++ rest

-- The bytes begin with no record.
abbrev pub HasNoRecord : List ℕ → Type 0
HasNoRecord bytes = (piece rest : List ℕ) → HoldsRecord bytes piece rest → ⊥

-- The bytes are two records and nothing else.
pub record AreTwo (bytes first second : List ℕ) : Type 0 where
  pub first_fits : length first < 2 ^ 32
  pub second_fits : length second < 2 ^ 32
  pub records : bytes ≡ stream_of (first ∷ second ∷ [])

-- They are not, whatever the records.
abbrev pub AreNotTwo : List ℕ → Type 0
AreNotTwo bytes = (first second : List ℕ) → AreTwo bytes first second → ⊥

-- The bytes are the records of two updates, which are doubled by this key under this index, and nothing else.
pub record HoldsDoubled (bytes : List ℕ) (key : AuthorKey) (index : ℕ) : Type 0 where
  pub first : List ℕ
  pub second : List ℕ
  pub records : bytes ≡ stream_of (first ∷ second ∷ [])
  pub doubled : AreDoubled first second key index

-- The bytes are no such records, of whatever key and index.
abbrev pub HoldsNone : List ℕ → Type 0
HoldsNone bytes = (key : AuthorKey) (index : ℕ) → HoldsDoubled bytes key index → ⊥
