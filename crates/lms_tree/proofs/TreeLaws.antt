-- A path from a leaf leads to the root, and a list of nodes holds the tree's values.
use Rattle.std.proofs.Common.{◌≡◌, ◌<◌, ◌≤◌, ◌⊎◌, inl, inr, ℕ, zero, suc, ◌+◌, ◌-◌, ◌*◌, ◌/◌, ◌%◌, ◌^◌, List, [], ◌++◌, length, refl, sym, ap, ◌∙◌, arith, add-one, get_or, set, get_or-set_other, get_or-set_same}
use Rattle.std.proofs.Math.Nat.{div-div-eq-div-mul, div-lt_iff_lt-mul, le-div_iff_mul-le, mul-le-mul_left, one-le-pow, pow-suc}
use Rattle.std.proofs.lemmas.Nat.{pow-add}
use Rattle.std.proofs.lemmas.Bool.{cases_lt}
use Rattle.std.specs.Prelude.{slice_index_or}
use Rattle.std.specs.Int.{w32, to_be_bytes}
use Rattle.sha2.proofs.Facts256.{length-sha256}
use Rattle.lms_tree.specs.Tree.{climbed, inner_node, inner_tag, leaf_node, leaf_tag, node_of, parent_of, sibling}
use Rattle.lms_tree.specs.SecretKey.{IsTree}

pub length-node_of : (ident : List ℕ) (values : ℕ → List ℕ) (h level r : ℕ) → length (node_of ident values h level r) ≡ 32
unfolding node_of
length-node_of ident values h zero r = length-sha256 (ident ++ to_be_bytes w32 r ++ leaf_tag ++ values (r - 2 ^ h))
length-node_of ident values h (suc level) r =
    length-sha256 (ident ++ to_be_bytes w32 r ++ inner_tag ++ node_of ident values h level (2 * r) ++ node_of ident values h level (2 * r + 1))

even_or_odd : (n : ℕ) → (n % 2 ≡ 0) ⊎ (n % 2 ≡ 1)
even_or_odd n = elim (cases_lt (n % 2) 1) [ inl h ↦ inl (omega arith) | inr h ↦ inr (omega arith) ]

-- a node and its sibling give the node above them
parent_is : (ident : List ℕ) (values : ℕ → List ℕ) (h level n : ℕ)
    → parent_of ident n (node_of ident values h level n) (node_of ident values h level (sibling n)) ≡ node_of ident values h (suc level) (n / 2)
unfolding node_of
parent_is ident values h level n =
    elim (even_or_odd n) [
      | inl even ↦ let left : n ≡ 2 * (n / 2) = omega arith in let right : n + 1 ≡ 2 * (n / 2) + 1 = omega arith in rw even (both (n / 2) n (n + 1) left right)
      | inr odd ↦ let left : n - 1 ≡ 2 * (n / 2) = omega arith in let right : n ≡ 2 * (n / 2) + 1 = omega arith in rw odd (both (n / 2) (n - 1) n left right)
    ]
  where
    both : (m a b : ℕ) → a ≡ 2 * m → b ≡ 2 * m + 1
        → inner_node ident m (node_of ident values h level a) (node_of ident values h level b) ≡ inner_node ident m (node_of ident values h level (2 * m)) (node_of ident values h level (2 * m + 1))
    both m a b p q = cc

halved : (leaf level : ℕ) → leaf / 2 ^ level / 2 ≡ leaf / 2 ^ suc level
halved leaf level = div-div-eq-div-mul leaf (2 ^ level) 2 ∙ ap (λ (n : ℕ). leaf / n) (sym (pow-suc 2 level))

-- by a path of the tree's own values, each level's value is the node's
pub climbed_is : (ident : List ℕ) (values path : ℕ → List ℕ) (h leaf : ℕ) (value : List ℕ) (level : ℕ)
    → value ≡ node_of ident values h 0 leaf
    → ((k : ℕ) → k < level → path k ≡ node_of ident values h k (sibling (leaf / 2 ^ k)))
    → climbed ident path leaf value level ≡ node_of ident values h level (leaf / 2 ^ level)
unfolding climbed
climbed_is ident values path h leaf value zero own beside =
    let whole : leaf ≡ leaf / 2 ^ 0 = omega arith in
    own ∙ ap (node_of ident values h 0) whole
climbed_is ident values path h leaf value (suc level) own beside =
    let before = climbed_is ident values path h leaf value level own (λ k below. beside k (omega arith)) in
    let next = beside level (omega arith) in
    ap (λ (v : List ℕ). parent_of ident (leaf / 2 ^ level) v (path level)) before
    ∙ ap (λ (v : List ℕ). parent_of ident (leaf / 2 ^ level) (node_of ident values h level (leaf / 2 ^ level)) v) next
    ∙ parent_is ident values h level (leaf / 2 ^ level)
    ∙ ap (node_of ident values h (suc level)) (halved leaf level)

-- half as many nodes, twice as wide
doubled : (w p p2 n : ℕ) → p2 ≡ p * 2 → w * p2 ≡ n → 2 * w * p ≡ n
doubled w p p2 n e f = omega (arith, ap (λ (x : ℕ). w * x) e)

-- the nodes of one level are those from w up to 2 w, where w nodes of this level make the tree
pub tree_holds : (ident : List ℕ) (values : ℕ → List ℕ) (h : ℕ) (nodes : List (List ℕ)) → IsTree ident values (2 ^ h) nodes
    → (level w r : ℕ) → w * 2 ^ level ≡ 2 ^ h → w ≤ r → r < 2 * w → slice_index_or nodes r [] ≡ node_of ident values h level r
unfolding node_of
tree_holds ident values h nodes tree zero w r all low high =
    let width : w ≡ 2 ^ h = omega arith in
    let place : 2 ^ h + (r - 2 ^ h) ≡ r = omega arith in
    ap (λ (i : ℕ). slice_index_or nodes i []) (sym place) ∙ tree.at_leaf (r - 2 ^ h) (omega arith)
    ∙ ap (λ (i : ℕ). leaf_node ident i (values (r - 2 ^ h))) place
tree_holds ident values h nodes tree (suc level) w r all low high =
    let children : 2 * w * 2 ^ level ≡ 2 ^ h = doubled w (2 ^ level) (2 ^ suc level) (2 ^ h) (pow-suc 2 level) all in
    let some : 1 ≤ 2 ^ h = one-le-pow h 2 (omega arith) in
    let one : 1 ≤ 2 ^ level = one-le-pow level 2 (omega arith) in
    let left = tree_holds ident values h nodes tree level (2 * w) (2 * r) children (omega arith) (omega arith) in
    let right = tree_holds ident values h nodes tree level (2 * w) (2 * r + 1) children (omega arith) (omega arith) in
    tree.at_inner r (positive w r (2 ^ suc level) (2 ^ h) some all low) (inside w r (2 ^ level) (2 ^ h) one children high)
    ∙ ap (λ (v : List ℕ). inner_node ident r v (slice_index_or nodes (2 * r + 1) [])) left
    ∙ ap (λ (v : List ℕ). inner_node ident r (node_of ident values h level (2 * r)) v) right
  where
    positive : (w r p n : ℕ) → 1 ≤ n → w * p ≡ n → w ≤ r → 0 < r
    positive zero r p n some all low = absurd (omega arith)
    positive (suc w) r p n some all low = omega arith

    inside : (w r p n : ℕ) → 1 ≤ p → 2 * w * p ≡ n → r < 2 * w → r < n
    inside w r p n some all high = grind (arith, some, all, high)

-- one level more of a climb
pub climbed_more : (ident : List ℕ) (path : ℕ → List ℕ) (r : ℕ) (leaf : List ℕ) (level node : ℕ) (value beside : List ℕ)
    → node ≡ r / 2 ^ level → value ≡ climbed ident path r leaf level → beside ≡ path level
    → parent_of ident node value beside ≡ climbed ident path r leaf (level + 1)
unfolding climbed
climbed_more ident path r leaf level node value beside e1 e2 e3 =
    ap (λ (n : ℕ). parent_of ident n value beside) e1
    ∙ ap (λ (v : List ℕ). parent_of ident (r / 2 ^ level) v beside) e2
    ∙ ap (λ (v : List ℕ). parent_of ident (r / 2 ^ level) (climbed ident path r leaf level) v) e3
    ∙ ap (climbed ident path r leaf) (sym (add-one level))

pub climbed_none : (ident : List ℕ) (path : ℕ → List ℕ) (r : ℕ) (leaf : List ℕ) → leaf ≡ climbed ident path r leaf 0
unfolding climbed
climbed_none ident path r leaf = refl

pub halved_more : (leaf level node : ℕ) → node ≡ leaf / 2 ^ level → node / 2 ≡ leaf / 2 ^ (level + 1)
halved_more leaf level node e =
    ap (λ (n : ℕ). n / 2) e ∙ halved leaf level ∙ ap (λ (n : ℕ). leaf / 2 ^ n) (sym (add-one level))

-- paths that agree below a level
pub climbed_same : (ident : List ℕ) (p p' : ℕ → List ℕ) (r : ℕ) (leaf : List ℕ) (level : ℕ) → ((k : ℕ) → p k ≡ p' k) → climbed ident p r leaf level ≡ climbed ident p' r leaf level
unfolding climbed
climbed_same ident p p' r leaf zero same = refl
climbed_same ident p p' r leaf (suc level) same =
    ap (λ (v : List ℕ). parent_of ident (r / 2 ^ level) v (p level)) (climbed_same ident p p' r leaf level same)
    ∙ ap (parent_of ident (r / 2 ^ level) (climbed ident p' r leaf level)) (same level)

-- the value of a node that is no leaf stands in the list
abbrev pub InnerAt : List ℕ → List (List ℕ) → ℕ → Type 0
InnerAt ident nodes m = get_or nodes m [] ≡ inner_node ident m (get_or nodes (2 * m) []) (get_or nodes (2 * m + 1) [])

-- a node that is written below those that were
pub inner_more : (ident : List ℕ) (nodes : List (List ℕ)) (leaves r : ℕ) (v : List ℕ) → 0 < r → r < leaves → length nodes ≡ 2 * leaves
    → v ≡ inner_node ident r (get_or nodes (2 * r) []) (get_or nodes (2 * r + 1) [])
    → ((m : ℕ) → r < m → m < leaves → InnerAt ident nodes m)
    → (m : ℕ) → r ≤ m → m < leaves → InnerAt ident (set nodes r v) m
inner_more ident nodes leaves r v some below len is above m low high =
    both _ _ _ _ _ (get_or-set_other nodes r (2 * m) v [] (omega arith)) (get_or-set_other nodes r (2 * m + 1) v [] (omega arith))
    (elim (cases_lt r m) [
      | inl later ↦ get_or-set_other nodes r m v [] (omega arith) ∙ above m later high
      | inr same ↦
          let here : m ≡ r = omega arith in
          ap (λ (i : ℕ). get_or (set nodes r v) i []) here ∙ get_or-set_same nodes r v [] (omega arith) ∙ is
          ∙ ap (λ (i : ℕ). inner_node ident i (get_or nodes (2 * i) []) (get_or nodes (2 * i + 1) [])) (sym here)
    ])
  where
    both : (x left left' right right' : List ℕ) → left' ≡ left → right' ≡ right → x ≡ inner_node ident m left right → x ≡ inner_node ident m left' right'
    both x left left' right right' p q e = e ∙ ap (λ (y : List ℕ). inner_node ident m y right) (sym p) ∙ ap (λ (y : List ℕ). inner_node ident m left' y) (sym q)

-- where the nodes of a level, above leaves, stand: from w up to 2 w, a sibling beside each
pub beside_on_level : (h level q : ℕ) → level < h → q < 2 ^ h
    → (w : ℕ) × (w * 2 ^ level ≡ 2 ^ h) × (w ≤ sibling ((2 ^ h + q) / 2 ^ level)) × (sibling ((2 ^ h + q) / 2 ^ level) < 2 * w)
beside_on_level h level q low below =
    let up : ℕ = h - (level + 1) in
    let parts : 2 ^ up * (2 ^ suc level) ≡ 2 ^ h = sym (pow-add 2 up (suc level)) ∙ ap (λ (n : ℕ). 2 ^ n) (omega arith) in
    let all : 2 * 2 ^ up * 2 ^ level ≡ 2 ^ h = doubled (2 ^ up) (2 ^ level) (2 ^ suc level) (2 ^ h) (pow-suc 2 level) parts in
    let some : 0 < 2 ^ level = omega (arith, one-le-pow level 2 (omega arith)) in
    let from : 2 * 2 ^ up ≤ (2 ^ h + q) / 2 ^ level = (le-div_iff_mul-le some).1 (omega arith) in
    let to : (2 ^ h + q) / 2 ^ level < 2 * (2 * 2 ^ up) = (div-lt_iff_lt-mul some).1 (twice (2 ^ up) (2 ^ level) (2 ^ h) q all below) in
    let ends = within (2 ^ up) ((2 ^ h + q) / 2 ^ level) from to in
    (2 * 2 ^ up, all, ends.0, ends.1)
  where
    twice : (w p n q : ℕ) → 2 * w * p ≡ n → q < n → n + q < 2 * (2 * w) * p
    twice w p n q e f = omega arith

    within : (w n : ℕ) → 2 * w ≤ n → n < 2 * (2 * w) → (2 * w ≤ sibling n) × (sibling n < 2 * (2 * w))
    within w n a b = elim (even_or_odd n) [ inl even ↦ rw even (omega arith, omega arith) | inr odd ↦ rw odd (omega arith, omega arith) ]

pub beside_in_list : (h level q : ℕ) → level < h → q < 2 ^ h → sibling ((2 ^ h + q) / 2 ^ level) < 2 * 2 ^ h
beside_in_list h level q low below =
    let at = beside_on_level h level q low below in
    narrower at.0 (2 ^ level) (2 ^ h) (sibling ((2 ^ h + q) / 2 ^ level)) (one-le-pow level 2 (omega arith)) at.1 at.3
  where
    narrower : (w p n s : ℕ) → 1 ≤ p → w * p ≡ n → s < 2 * w → s < 2 * n
    narrower w p n s some all high = omega (arith, mul-le-mul_left w some)
