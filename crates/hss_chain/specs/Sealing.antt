-- Seals and their parts (RFC 8554, sections 6.1 to 6.3, with L = 2).
use Rattle.std.specs.Prelude.{◌≡◌, ℕ, List, ◌++◌, length}
use Rattle.std.specs.Int.{w32, to_be_bytes}
use Rattle.update_model.specs.Form.{IsKey, signature_length}
use Rattle.update_model.specs.declared.author_key.AuthorKey.{AuthorKey}
use Rattle.lms_tree.specs.Signature.{Signed}
use Rattle.hss_chain.specs.Keys.{key_bytes}

-- what a public key and a seal by it are made of
pub record SealParts : Type 0 where
  pub top : AuthorKey
  pub top_sig : List ℕ
  pub low : AuthorKey
  pub low_sig : List ℕ

-- the bytes of a two-level public key: the number of levels, and the top key
abbrev pub public_bytes : AuthorKey → List ℕ
public_bytes top = to_be_bytes w32 2 ++ key_bytes top

-- the bytes of a seal: the number of signed public keys, the top signature of the lower key, that key, and its signature
abbrev pub seal_bytes : List ℕ → AuthorKey → List ℕ → List ℕ
seal_bytes top_sig low low_sig = to_be_bytes w32 1 ++ (top_sig ++ (key_bytes low ++ low_sig))

-- The key and the seal have exactly these parts. Both keys are of known types, and the top signature is as long as the top key's are.
pub record HaveParts (key sig : List ℕ) (parts : SealParts) : Type 0 where
  pub key_is : key ≡ public_bytes parts.top
  pub sig_is : sig ≡ seal_bytes parts.top_sig parts.low parts.low_sig
  pub top_key : IsKey parts.top
  pub low_key : IsKey parts.low
  pub top_size : length parts.top_sig ≡ signature_length parts.top

-- The seal is one of this message by this two-level key: the top key signed the lower one, and the lower one the message.
pub record SealedBy (key msg sig : List ℕ) : Type 0 where
  pub parts : SealParts
  pub have : HaveParts key sig parts
  pub top : Signed parts.top (key_bytes parts.low) parts.top_sig
  pub low : Signed parts.low msg parts.low_sig
