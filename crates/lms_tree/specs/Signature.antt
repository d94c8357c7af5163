-- Signatures, their parts, and which are valid (RFC 8554, section 5.4).
use Rattle.std.specs.Prelude.{◌≡◌, ℕ, ◌+◌, ◌*◌, ◌<◌, List, length, take, drop}
use Rattle.std.specs.Int.{w32, from_be_bytes}
use Rattle.lm_ots.specs.OtsKind as ots_kind
use Rattle.lm_ots.specs.OneTime.{IsOfType, candidate_value}
use Rattle.lm_ots.specs.declared.ots_type.OtsType.{OtsType}
use Rattle.update_model.specs.declared.author_key.AuthorKey.{AuthorKey}
use Rattle.lms_tree.specs.declared.lms_type.LmsType.{LmsType}
use Rattle.lms_tree.specs.LmsKind.{HasTypes, height, leaf_count, signature_length, type_word}
use Rattle.lms_tree.specs.Tree.{climbed, leaf_node}

-- q
abbrev pub leaf_number : List ℕ → ℕ
leaf_number sig = from_be_bytes w32 (take 4 sig)

-- the LM-OTS signature
abbrev pub one_time_part : OtsType → List ℕ → List ℕ
one_time_part ots sig = take (ots_kind.signature_length ots) (drop 4 sig)

-- the LMS type's number
abbrev pub tree_word : OtsType → List ℕ → ℕ
tree_word ots sig = from_be_bytes w32 (take 4 (drop (4 + ots_kind.signature_length ots) sig))

-- path[level], the sibling's value on this level above the leaves
abbrev pub path_value : OtsType → List ℕ → ℕ → List ℕ
path_value ots sig level = take 32 (drop (8 + ots_kind.signature_length ots + 32 * level) sig)

-- the bytes have the parts of a signature of these types, by a leaf that there is
pub record HasForm (lms : LmsType) (ots : OtsType) (sig : List ℕ) : Type 0 where
  pub len : length sig ≡ signature_length lms ots
  pub leaf : leaf_number sig < leaf_count lms
  pub one_time : IsOfType ots (one_time_part ots sig)
  pub tree : tree_word ots sig ≡ type_word lms

-- the root that a signature of a message leads to: its one-time signature leads to a leaf's value, and
-- the path from there to the root
abbrev pub candidate_root : LmsType → OtsType → List ℕ → List ℕ → List ℕ → List ℕ
candidate_root lms ots ident msg sig =
    let q = leaf_number sig in
    let value = candidate_value ots ident q msg (one_time_part ots sig) in
    climbed ident (path_value ots sig) (leaf_count lms + q) (leaf_node ident (leaf_count lms + q) value) (height lms)

-- the bytes are a valid signature of the message under the key
pub record Signed (key : AuthorKey) (msg sig : List ℕ) : Type 0 where
  pub lms : LmsType
  pub ots : OtsType
  pub types : HasTypes key lms ots
  pub form : HasForm lms ots sig
  pub root : candidate_root lms ots key.ident msg sig ≡ key.root
