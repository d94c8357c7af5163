-- Signatures that are made are valid, and valid signatures have their key's length.
use Rattle.std.proofs.Common.{◌≡◌, ◌<◌, ◌≤◌, ℕ, ◌+◌, ◌-◌, ◌*◌, ◌/◌, ◌^◌, List, ◌++◌, length, take, drop, refl, sym, ap, ◌∙◌, arith, append_assoc, append-nil, length-append, lit<}
use Rattle.std.proofs.lemmas.List.{drop_all, drop_at, drop-drop, get_or-take, take_at}
use Rattle.std.proofs.lemmas.Nat.{from_be_bytes-to_be_bytes_4}
use Rattle.std.specs.Int.{w32, to_be_bytes, from_be_bytes}
use Rattle.byteorder.specs.Endian.{big_number}
use Rattle.lm_ots.specs.OtsKind as ots_kind
use Rattle.lm_ots.specs.OneTime.{candidate_value, signature_of}
use Rattle.lm_ots.specs.declared.ots_type.OtsType.{OtsType}
use Rattle.lm_ots.specs.declared.ots_type.OtsType.TheVariants.{W1, W2, W4, W8}
use Rattle.lm_ots.proofs.JoinedLaws.{joined-at, joined-length}
use Rattle.lm_ots.proofs.OneTimeLaws.{own_form, own_value}
use Rattle.update_model.specs.Form.{IsKnownKey, ots_length, tree_height}
use Rattle.update_model.specs.Form as model
use Rattle.update_model.specs.declared.author_key.AuthorKey.{AuthorKey}
use Rattle.lms_tree.specs.declared.lms_type.LmsType.{LmsType}
use Rattle.lms_tree.specs.declared.lms_type.LmsType.TheVariants.{H5, H10, H15}
use Rattle.lms_tree.specs.LmsKind.{HasTypes, height, leaf_count, signature_length, type_word}
use Rattle.lms_tree.specs.Tree.{climbed, leaf_node, node_of, root_of, sibling}
use Rattle.lms_tree.specs.Signature.{HasForm, Signed, candidate_root, leaf_number, one_time_part, path_value, tree_word}
use Rattle.lms_tree.specs.SecretKey.{SecretData, path_of, public_key, signature_by, value_of_leaf}
use Rattle.lms_tree.proofs.TreeLaws.{climbed_is, length-node_of}

known_tree : (lms : LmsType) → (5 ≤ type_word lms) × (type_word lms ≤ 7)
known_tree H5 = (omega arith, omega arith)
known_tree H10 = (omega arith, omega arith)
known_tree H15 = (omega arith, omega arith)

known_one_time : (ots : OtsType) → (1 ≤ ots_kind.type_word ots) × (ots_kind.type_word ots ≤ 4)
known_one_time W1 = (omega arith, omega arith)
known_one_time W2 = (omega arith, omega arith)
known_one_time W4 = (omega arith, omega arith)
known_one_time W8 = (omega arith, omega arith)

same_height : (lms : LmsType) → tree_height (type_word lms) ≡ height lms
same_height H5 = refl
same_height H10 = refl
same_height H15 = refl

same_one_time : (ots : OtsType) → ots_length (ots_kind.type_word ots) ≡ ots_kind.signature_length ots
same_one_time W1 = refl
same_one_time W2 = refl
same_one_time W4 = refl
same_one_time W8 = refl

pub known_types : (key : AuthorKey) (lms : LmsType) (ots : OtsType) → HasTypes key lms ots → IsKnownKey key
known_types key lms ots types = record {
  lms = rw types.tree (known_tree lms);
  ots = rw types.one_time (known_one_time ots);
}

-- the two counts of a signature's bytes
pub same_length : (key : AuthorKey) (lms : LmsType) (ots : OtsType) → HasTypes key lms ots → model.signature_length key ≡ signature_length lms ots
same_length key lms ots types =
    total (ots_length key.ots) (ots_kind.signature_length ots) (tree_height key.lms) (height lms) (ap ots_length types.one_time ∙ same_one_time ots) (ap tree_height types.tree ∙ same_height lms)
  where
    total : (a b c d : ℕ) → a ≡ b → c ≡ d → 8 + a + 32 * c ≡ 8 + b + 32 * d
    total a b c d p q = omega arith

-- a signature in its four parts
record Parts (sig : List ℕ) (lms : LmsType) (ots : OtsType) (q : ℕ) (one path : List ℕ) : Type 0 where
  pub leaf : leaf_number sig ≡ q
  pub one_time : one_time_part ots sig ≡ one
  pub tree : tree_word ots sig ≡ type_word lms
  pub path_part : drop (8 + ots_kind.signature_length ots) sig ≡ path
  pub len : length sig ≡ 8 + ots_kind.signature_length ots + length path

type_word-fits : (lms : LmsType) → type_word lms < 2 ^ 32
type_word-fits H5 = omega arith
type_word-fits H10 = omega arith
type_word-fits H15 = omega arith

parts_of : (lms : LmsType) (ots : OtsType) (q : ℕ) (one path : List ℕ) → q < 2 ^ 32 → length one ≡ ots_kind.signature_length ots
    → Parts (to_be_bytes w32 q ++ one ++ to_be_bytes w32 (type_word lms) ++ path) lms ots q one path
parts_of lms ots q one path fits size =
    let number : List ℕ = to_be_bytes w32 q in
    let word : List ℕ = to_be_bytes w32 (type_word lms) in
    let sig : List ℕ = number ++ one ++ word ++ path in
    let n : ℕ = ots_kind.signature_length ots in
    let front : length (number ++ one ++ word) ≡ 8 + n = omega (arith, length-append (number ++ one) word, length-append number one, size) in
    record {
      leaf = from_be_bytes-to_be_bytes_4 q fits;
      one_time = ap (take n) (append_assoc one word path) ∙ take_at one (word ++ path) n size;
      tree = ap (λ (xs : List ℕ). from_be_bytes w32 (take 4 xs)) (sym (drop-drop n 4 sig) ∙ ap (drop n) (append_assoc one word path) ∙ drop_at one (word ++ path) n size)
          ∙ from_be_bytes-to_be_bytes_4 (type_word lms) (type_word-fits lms);
      path_part = drop_at (number ++ one ++ word) path (8 + n) front;
      len = omega (arith, length-append (number ++ one ++ word) path, front);
    }

leaf-fits : (lms : LmsType) (q : ℕ) → q < leaf_count lms → q < 2 ^ 32
leaf-fits H5 q below = omega arith
leaf-fits H10 q below = omega arith
leaf-fits H15 q below = omega arith

-- the root stands h levels above each leaf
at_root : (lms : LmsType) (q : ℕ) → q < leaf_count lms → (leaf_count lms + q) / 2 ^ height lms ≡ 1
at_root H5 q below = omega arith
at_root H10 q below = omega arith
at_root H15 q below = omega arith

length-path_of : (secret : SecretData) (q : ℕ) → length (path_of secret q) ≡ 32 * height secret.lms
length-path_of secret q =
    joined-length _ 32 (height secret.lms) (λ level. length-node_of secret.ident (value_of_leaf secret) (height secret.lms) level (sibling ((leaf_count secret.lms + q) / 2 ^ level)))

made_parts : (secret : SecretData) (q : ℕ) (c msg : List ℕ) → q < leaf_count secret.lms → length c ≡ 32
    → Parts (signature_by secret q c msg) secret.lms secret.ots q (signature_of secret.ots secret.ident q secret.start c msg) (path_of secret q)
made_parts secret q c msg below size =
    parts_of secret.lms secret.ots q (signature_of secret.ots secret.ident q secret.start c msg) (path_of secret q) (leaf-fits secret.lms q below)
    (own_form secret.ots secret.ident secret.start c msg q size).len

made_form : (secret : SecretData) (q : ℕ) (c msg : List ℕ) → q < leaf_count secret.lms → length c ≡ 32 → HasForm secret.lms secret.ots (signature_by secret q c msg)
made_form secret q c msg below size =
    let parts = made_parts secret q c msg below size in
    let path = length-path_of secret q in
    record {
      len = omega (arith, parts.len, path);
      leaf = rw parts.leaf below;
      one_time = rw parts.one_time (own_form secret.ots secret.ident secret.start c msg q size);
      tree = parts.tree;
    }

-- path[level] of a signature that was made
made_path : (secret : SecretData) (q : ℕ) (c msg : List ℕ) → q < leaf_count secret.lms → length c ≡ 32 → (level : ℕ) → level < height secret.lms
    → path_value secret.ots (signature_by secret q c msg) level
    ≡ node_of secret.ident (value_of_leaf secret) (height secret.lms) level (sibling ((leaf_count secret.lms + q) / 2 ^ level))
made_path secret q c msg below size level low =
    let parts = made_parts secret q c msg below size in
    ap (take 32) (sym (drop-drop (32 * level) (8 + ots_kind.signature_length secret.ots) (signature_by secret q c msg)) ∙ ap (drop (32 * level)) parts.path_part)
    ∙ joined-at _ 32 (height secret.lms) level (λ level. length-node_of secret.ident (value_of_leaf secret) (height secret.lms) level (sibling ((leaf_count secret.lms + q) / 2 ^ level))) low

made_root : (secret : SecretData) (q : ℕ) (c msg : List ℕ) → q < leaf_count secret.lms → length c ≡ 32
    → candidate_root secret.lms secret.ots secret.ident msg (signature_by secret q c msg) ≡ root_of secret.ident (value_of_leaf secret) (height secret.lms)
unfolding node_of
made_root secret q c msg below size =
    let sig : List ℕ = signature_by secret q c msg in
    let parts = made_parts secret q c msg below size in
    let leaf : ℕ = leaf_count secret.lms + q in
    let climb : ℕ → List ℕ → List ℕ = λ n value. climbed secret.ident (path_value secret.ots sig) (leaf_count secret.lms + n) (leaf_node secret.ident (leaf_count secret.lms + n) value) (height secret.lms) in
    let place : leaf - 2 ^ height secret.lms ≡ q = omega arith in
    let own : leaf_node secret.ident leaf (value_of_leaf secret q) ≡ node_of secret.ident (value_of_leaf secret) (height secret.lms) 0 leaf =
    ap (λ (n : ℕ). leaf_node secret.ident leaf (value_of_leaf secret n)) (sym place) in
    ap (λ (n : ℕ). climb n (candidate_value secret.ots secret.ident n msg (one_time_part secret.ots sig))) parts.leaf
    ∙ ap (λ (one : List ℕ). climb q (candidate_value secret.ots secret.ident q msg one)) parts.one_time
    ∙ ap (climb q) (own_value secret.ots secret.ident secret.start c msg q size)
    ∙ climbed_is secret.ident (value_of_leaf secret) (path_value secret.ots sig) (height secret.lms) leaf (leaf_node secret.ident leaf (value_of_leaf secret q)) (height secret.lms) own (made_path secret q c msg below size)
    ∙ ap (node_of secret.ident (value_of_leaf secret) (height secret.lms) (height secret.lms)) (at_root secret.lms q below)

pub made_signed : (secret : SecretData) (q : ℕ) (c msg : List ℕ) → q < leaf_count secret.lms → length c ≡ 32 → Signed (public_key secret) msg (signature_by secret q c msg)
made_signed secret q c msg below size = record {
  lms = secret.lms;
  ots = secret.ots;
  types = record { tree = refl; one_time = refl };
  form = made_form secret q c msg below size;
  root = made_root secret q c msg below size;
}

-- a number that is read from the front of a list
pub read_word : (xs : List ℕ) → big_number 4 xs ≡ from_be_bytes w32 (take 4 xs)
read_word xs =
    let a = get_or-take 4 xs 0 0 (lit< tt) in
    let b = get_or-take 4 xs 1 0 (lit< tt) in
    let c = get_or-take 4 xs 2 0 (lit< tt) in
    let d = get_or-take 4 xs 3 0 (lit< tt) in
    omega arith

-- a signature that was written part by part
pub joined_parts : (a a' b b' c c' d d' : List ℕ) → a ≡ a' → b ≡ b' → c ≡ c' → d ≡ d' → a ++ (b ++ (c ++ d)) ≡ a' ++ b' ++ c' ++ d'
joined_parts a a' b b' c c' d d' e1 e2 e3 e4 = rw (e1, e2, e3, e4) (sym (simp append_assoc))

-- a number that was written over four bytes
pub written_word : (n : ℕ) (now old : List ℕ) → length old ≡ 4 → now ≡ to_be_bytes w32 n ++ drop 4 old → now ≡ to_be_bytes w32 n
written_word n now old len e = e ∙ ap (λ (xs : List ℕ). to_be_bytes w32 n ++ xs) (drop_all 4 old (omega arith)) ∙ append-nil (to_be_bytes w32 n)
