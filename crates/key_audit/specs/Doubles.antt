-- Updates that one author signed under one index.
use Rattle.std.specs.Prelude.{◌≡◌, ◌≢◌, ℕ, List}
use Rattle.update_model.specs.declared.author_key.AuthorKey.{AuthorKey}
use Rattle.update_codec.specs.Parts.{author_of, body_of, signature_of}
use Rattle.update_codec.specs.Spelling.{message}
use Rattle.lms_tree.specs.Signature.{leaf_number}
use Rattle.update_check.specs.Signed.{IsSigned}

-- the index of the one-time key with which an update is signed: the number of the leaf
abbrev pub index_of : List ℕ → ℕ
index_of bytes = leaf_number (signature_of bytes)

-- what its author signed
abbrev pub message_of : List ℕ → List ℕ
message_of bytes = message (body_of bytes)

-- The update is by this key, under this index.
pub record IsUnderIndex (key : AuthorKey) (index : ℕ) (bytes : List ℕ) : Type 0 where
  pub author : author_of bytes ≡ key
  pub number : index_of bytes ≡ index

-- Two updates under one index of one key, with different messages.
pub record ArePair (first second : List ℕ) (key : AuthorKey) (index : ℕ) : Type 0 where
  pub one : IsUnderIndex key index first
  pub two : IsUnderIndex key index second
  pub differ : message_of first ≢ message_of second

-- Both are spelled and signed by their author: a certificate against the key.
pub record AreDoubled (first second : List ℕ) (key : AuthorKey) (index : ℕ) : Type 0 where
  pub first_signed : IsSigned first
  pub second_signed : IsSigned second
  pub pair : ArePair first second key index
