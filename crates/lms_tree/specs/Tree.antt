-- The tree of a key and paths through it (RFC 8554, sections 5.3 and 5.4). Node 1 is the root, the
-- children of node r are 2 r and 2 r + 1, and the leaves are the nodes from 2 ^ h on.
use Rattle.std.specs.Prelude.{ℕ, zero, suc, ◌+◌, ◌-◌, ◌*◌, ◌/◌, ◌%◌, ◌^◌, ◌==◌, List, [], ◌∷◌, ◌++◌, if◌then◌else◌}
use Rattle.std.specs.Int.{w32, to_be_bytes}
use Rattle.sha2.specs.Sha256.{sha256}

-- D_LEAF
abbrev pub leaf_tag : List ℕ
leaf_tag = 0x82 ∷ 0x82 ∷ []

-- D_INTR
abbrev pub inner_tag : List ℕ
inner_tag = 0x83 ∷ 0x83 ∷ []

-- the value of a leaf, from its one-time public value
abbrev pub leaf_node : List ℕ → ℕ → List ℕ → List ℕ
leaf_node ident r value = sha256 (ident ++ to_be_bytes w32 r ++ leaf_tag ++ value)

-- the value of a node, from those of its children
abbrev pub inner_node : List ℕ → ℕ → List ℕ → List ℕ → List ℕ
inner_node ident r left right = sha256 (ident ++ to_be_bytes w32 r ++ inner_tag ++ left ++ right)

-- T[r], the value of node r on this level above the leaves, in the tree of height h whose leaf q has
-- the one-time public value `values q`
unfoldable pub node_of : List ℕ → (ℕ → List ℕ) → ℕ → ℕ → ℕ → List ℕ
node_of ident values h zero r = leaf_node ident r (values (r - 2 ^ h))
node_of ident values h (suc level) r =
    inner_node ident r (node_of ident values h level (2 * r)) (node_of ident values h level (2 * r + 1))

-- T[1]
abbrev pub root_of : List ℕ → (ℕ → List ℕ) → ℕ → List ℕ
root_of ident values h = node_of ident values h h 1

-- the node with the same parent: an even node's is on its right, an odd node's on its left
abbrev pub sibling : ℕ → ℕ
sibling r = if r % 2 == 0 then r + 1 else r - 1

-- the value of node r's parent, from the values of r and its sibling
abbrev pub parent_of : List ℕ → ℕ → List ℕ → List ℕ → List ℕ
parent_of ident r value beside =
    if r % 2 == 0 then inner_node ident (r / 2) value beside else inner_node ident (r / 2) beside value

-- the value this many levels above leaf r, whose own value is `leaf`, by a path that gives the sibling
-- on each level
unfoldable pub climbed : List ℕ → (ℕ → List ℕ) → ℕ → List ℕ → ℕ → List ℕ
climbed ident path r leaf zero = leaf
climbed ident path r leaf (suc level) =
    parent_of ident (r / 2 ^ level) (climbed ident path r leaf level) (path level)
