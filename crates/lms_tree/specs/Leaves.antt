-- The leaves of a tree, computed in parts.
use Rattle.std.specs.Prelude.{◌≡◌, ℕ, ◌+◌, ◌<◌, List, [], length, slice_index_or}
use Rattle.lms_tree.specs.LmsKind.{leaf_count}
use Rattle.lms_tree.specs.SecretKey.{SecretData, value_of_leaf}
use Rattle.lms_tree.specs.Tree.{leaf_node}

-- the value of the node of leaf q
abbrev pub leaf_value : SecretData → ℕ → List ℕ
leaf_value secret q = leaf_node secret.ident (leaf_count secret.lms + q) (value_of_leaf secret q)

-- the values of the nodes of so many leaves from one on, in order
pub record AreLeaves (secret : SecretData) (first count : ℕ) (values : List (List ℕ)) : Type 0 where
  pub len : length values ≡ count
  pub at : (i : ℕ) → i < count → slice_index_or values i [] ≡ leaf_value secret (first + i)
