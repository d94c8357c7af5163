-- Secret keys, their public keys, and the signatures that they make (RFC 8554, sections 5.2 to 5.4 and
-- Appendix A).
use Rattle.std.specs.Prelude.{◌≡◌, ℕ, ◌+◌, ◌*◌, ◌/◌, ◌^◌, ◌<◌, List, [], ◌++◌, length, slice_index_or}
use Rattle.std.specs.Int.{w32, to_be_bytes}
use Rattle.lm_ots.specs.OtsKind as ots_kind
use Rattle.lm_ots.specs.Joined.{joined}
use Rattle.lm_ots.specs.OneTime.{public_value, signature_of}
use Rattle.lm_ots.specs.declared.ots_type.OtsType.{OtsType}
use Rattle.update_model.specs.declared.author_key.AuthorKey.{AuthorKey}
use Rattle.lms_tree.specs.declared.lms_type.LmsType.{LmsType}
use Rattle.lms_tree.specs.LmsKind.{height, leaf_count, type_word}
use Rattle.lms_tree.specs.Tree.{inner_node, leaf_node, node_of, root_of, sibling}

-- what a key is made from: its types, I and SEED
pub record SecretData : Type 0 where
  pub lms : LmsType
  pub ots : OtsType
  pub ident : List ℕ
  pub start : List ℕ

-- the one-time public value of leaf q
abbrev pub value_of_leaf : SecretData → ℕ → List ℕ
value_of_leaf secret q = public_value secret.ots secret.ident q secret.start

-- the public key: the types' numbers, I and the root of the tree over all leaves
abbrev pub public_key : SecretData → AuthorKey
public_key secret = record {
  lms = type_word secret.lms;
  ots = ots_kind.type_word secret.ots;
  ident = secret.ident;
  root = root_of secret.ident (value_of_leaf secret) (height secret.lms);
}

-- the siblings of the nodes from leaf q up to the root, one for each level
abbrev pub path_of : SecretData → ℕ → List ℕ
path_of secret q =
    joined (λ level. node_of secret.ident (value_of_leaf secret) (height secret.lms) level (sibling ((leaf_count secret.lms + q) / 2 ^ level))) (height secret.lms)

-- leaf q's signature of a message, with C
abbrev pub signature_by : SecretData → ℕ → List ℕ → List ℕ → List ℕ
signature_by secret q c msg =
    to_be_bytes w32 q ++ signature_of secret.ots secret.ident q secret.start c msg
    ++ to_be_bytes w32 (type_word secret.lms) ++ path_of secret q

-- the list holds at place r the value of node r, from the leaves' public values up; place 0 is free
pub record IsTree (ident : List ℕ) (values : ℕ → List ℕ) (leaves : ℕ) (nodes : List (List ℕ)) : Type 0 where
  pub len : length nodes ≡ 2 * leaves
  pub at_leaf : (q : ℕ) → q < leaves → slice_index_or nodes (leaves + q) [] ≡ leaf_node ident (leaves + q) (values q)
  pub at_inner : (r : ℕ) → 0 < r → r < leaves
      → slice_index_or nodes r [] ≡ inner_node ident r (slice_index_or nodes (2 * r) []) (slice_index_or nodes (2 * r + 1) [])
