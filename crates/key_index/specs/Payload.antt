-- The payload of the part Key.
use Rattle.std.specs.Prelude.{◌≡◌, ℕ, List, ◌++◌, length}
use Rattle.std.specs.Int.{w32, to_be_bytes}
use Rattle.lm_ots.specs.OtsKind as ots_kind
use Rattle.lms_tree.specs.LmsKind.{type_word}
use Rattle.lms_tree.specs.SecretKey.{SecretData}

-- The numbers of the types, I and SEED.
abbrev pub payload_of : SecretData → List ℕ
payload_of secret = to_be_bytes w32 (type_word secret.lms) ++ to_be_bytes w32 (ots_kind.type_word secret.ots) ++ secret.ident ++ secret.start

-- The bytes are the payload of this key, whose I has 16 bytes and whose SEED has 32.
pub record IsPayload (bytes : List ℕ) (secret : SecretData) : Type 0 where
  pub spelled : bytes ≡ payload_of secret
  pub ident : length secret.ident ≡ 16
  pub start : length secret.start ≡ 32
