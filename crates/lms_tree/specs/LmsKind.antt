-- The parameters of the LMS types with SHA-256 (RFC 8554, section 5.1).
use Rattle.std.specs.Prelude.{◌≡◌, ℕ, ◌+◌, ◌*◌, ◌^◌}
use Rattle.lm_ots.specs.OtsKind as ots_kind
use Rattle.lm_ots.specs.declared.ots_type.OtsType.{OtsType}
use Rattle.update_model.specs.declared.author_key.AuthorKey.{AuthorKey}
use Rattle.lms_tree.specs.declared.lms_type.LmsType.{LmsType}
use Rattle.lms_tree.specs.declared.lms_type.LmsType.TheVariants.{H5, H10, H15}

-- the type's number
abbrev pub type_word : LmsType → ℕ
type_word H5 = 5
type_word H10 = 6
type_word H15 = 7

-- h, the levels of the tree above its leaves
abbrev pub height : LmsType → ℕ
height H5 = 5
height H10 = 10
height H15 = 15

-- the leaves, each of which signs once
abbrev pub leaf_count : LmsType → ℕ
leaf_count lms = 2 ^ height lms

-- the bytes of a signature: q, the LM-OTS signature, the type's number and a digest of each level
abbrev pub signature_length : LmsType → OtsType → ℕ
signature_length lms ots = 8 + ots_kind.signature_length ots + 32 * height lms

-- the key has these two types
pub record HasTypes (key : AuthorKey) (lms : LmsType) (ots : OtsType) : Type 0 where
  pub tree : key.lms ≡ type_word lms
  pub one_time : key.ots ≡ ots_kind.type_word ots
