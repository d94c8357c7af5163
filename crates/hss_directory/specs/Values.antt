-- Two-level keys as their callers see them.
use Rattle.std.specs.Prelude.{◌≡◌, ℕ, ◌++◌, List, Option, Some, IfSome, IsNone, IsSome, IsTrue, codes}
use Rattle.std.specs.Fmt.{decimal}
use Rattle.bec_disk.specs.Disk.{EveryImage, IsImage}
use Rattle.lms_tree.specs.SecretKey.{public_key}
use Rattle.lms_tree.specs.Signature.{Signed, leaf_number}
use Rattle.key_index.specs.KeyState.{IsLast, KeyState}
use Rattle.key_index.specs.Used.{IsUsed, least_unused}
use Rattle.hss_chain.specs.Keys.{key_bytes}

-- A lower key: its directory, the top index that signed it, the key, and the top key's signature of it.
pub record LowerState : Type 0 where
  pub dir : List ℕ
  pub index : ℕ
  pub key : KeyState
  pub top_sig : List ℕ

-- A two-level key: the directory of the top key, that key, and the current lower key where there is one.
pub record HssState : Type 0 where
  pub dir : List ℕ
  pub top : KeyState
  pub lower : Option LowerState

-- the directory of the lower key that the top index n signs: the top key's, a dot, and n in decimal
unfoldable pub low_dir : List ℕ → ℕ → List ℕ
low_dir dir n = dir ++ (codes "." ++ decimal n)

-- what the part Peers of a lower key's directory holds behind its gate: the top key's signature of that key, and the key
abbrev pub vouching_bytes : List ℕ → KeyState → List ℕ
vouching_bytes top_sig key = top_sig ++ key_bytes (public_key key.secret)

-- The top key signed this lower key, under the index that it tried last, or, where this store tried none, the greatest used one. A crash leaves
-- that index used.
pub record IsCurrent (dir : List ℕ) (top : KeyState) (lower : LowerState) : Type 0 where
  pub place : lower.dir ≡ low_dir dir lower.index
  pub signed : Signed (public_key top.secret) (key_bytes (public_key lower.key.secret)) lower.top_sig
  pub leaf : leaf_number lower.top_sig ≡ lower.index
  pub last : IsLast top (Some lower.index)
  pub used : IsTrue top.parts.used.tells → EveryImage top.parts.used.now (IsUsed lower.index)

-- The current lower key, where there is one, is one that the top key signed.
abbrev pub IsSound : HssState → Type 0
IsSound hss = IfSome hss.lower (λ lower. IsCurrent hss.dir hss.top lower)

-- An index of the key is not used.
abbrev pub HasLeft : KeyState → Type 0
HasLeft key = IsSome (least_unused key.taken)

-- Every index of the key is used.
abbrev pub IsSpent : KeyState → Type 0
IsSpent key = IsNone (least_unused key.taken)

-- There is no current lower key, or it is spent.
abbrev pub LacksLower : HssState → Type 0
LacksLower hss = IfSome hss.lower (λ lower. IsSpent lower.key)

-- What is read of the part Used is what a crash might leave of it.
abbrev pub IsReadable : KeyState → Type 0
IsReadable key = IsTrue key.parts.used.tells → IsImage key.parts.used.now key.parts.used.seen
