-- The current lower key, as an opening finds it.
use Rattle.std.specs.Prelude.{◌≡◌, ◌⊎◌, ◌++◌, ℕ, List, Option, Some, None, IsTrue}
use Rattle.update_model.specs.declared.author_key.AuthorKey.{AuthorKey}
use Rattle.bec_disk.specs.declared.gated.Gated.TheVariants.{Absent, Damaged, Whole}
use Rattle.bec_disk.specs.declared.part.Part.TheVariants.{Key, Used}
use Rattle.bec_disk.specs.Shelf.{ShelfState}
use Rattle.lms_tree.specs.SecretKey.{SecretData, public_key}
use Rattle.lms_tree.specs.Signature.{Signed, leaf_number}
use Rattle.key_index.specs.KeyState.{IsLast, KeyState}
use Rattle.key_directory.specs.Keys.{IsBadKey, IsNoKey, ReadsAsKey, TakesKey}
use Rattle.key_directory.specs.Parts.{part_in, reading}
use Rattle.hss_chain.specs.Keys.{key_bytes}
use Rattle.hss_directory.specs.Peers.{ReadsPeers, peers_in}
use Rattle.hss_directory.specs.Values.{LowerState, low_dir}
use Rattle.hss_directory.specs.declared.fault.HssFault.{HssFault}
use Rattle.hss_directory.specs.declared.fault.HssFault.TheVariants.{Disk, KeyThere, NoKey, BadKey, Spent, Memory}

-- The payload is the top key's signature of this lower key, by this index, and the key.
pub record VouchesFor (top low : AuthorKey) (index : ℕ) (payload sig : List ℕ) : Type 0 where
  pub payload_is : payload ≡ sig ++ key_bytes low
  pub signed : Signed top (key_bytes low) sig
  pub leaf : leaf_number sig ≡ index

-- The current lower key is that of the top index that was used last, where there is one and the part Peers of its directory is not absent.
pub data FindsLower (dir : List ℕ) (top : KeyState) (before : ShelfState) (lower : Option LowerState) (after : ShelfState) : Type 0 where
  none_used : IsLast top None → lower ≡ None → after ≡ before → FindsLower dir top before lower after
  unrecorded : (index : ℕ) → IsLast top (Some index) → (IsTrue before.tells → peers_in before (low_dir dir index) ≡ Absent) → ReadsPeers before (low_dir dir index) after
      → lower ≡ None → FindsLower dir top before lower after
  recorded : (found : LowerState) (mid : ShelfState) (payload : List ℕ) → IsLast top (Some found.index) → found.dir ≡ low_dir dir found.index
      → (IsTrue before.tells → peers_in before found.dir ≡ Whole payload) → ReadsPeers before found.dir mid → TakesKey mid found.dir found.key after
      → VouchesFor (public_key top.secret) (public_key found.key.secret) found.index payload found.top_sig → lower ≡ Some found → FindsLower dir top before lower after

-- The parts Key and Used are of no key that this payload vouches for.
abbrev pub AreUnvouched : AuthorKey → ℕ → List ℕ → Option (List ℕ) → Option (List ℕ) → Type 0
AreUnvouched top index payload key used =
    IsNoKey key ⊎ (IsBadKey key used ⊎ ((secret : SecretData) × ReadsAsKey key used secret × ((sig : List ℕ) → VouchesFor top (public_key secret) index payload sig → ⊥)))

-- Why no lower key was taken that this payload vouches for.
abbrev pub IsUnvouchedCause : AuthorKey → ℕ → List ℕ → Option (List ℕ) → Option (List ℕ) → HssFault → Type 0
IsUnvouchedCause top index payload key used BadKey = AreUnvouched top index payload key used
IsUnvouchedCause top index payload key used Disk = Unit {0}
IsUnvouchedCause top index payload key used Memory = Unit {0}
IsUnvouchedCause top index payload key used KeyThere = ⊥
IsUnvouchedCause top index payload key used NoKey = ⊥
IsUnvouchedCause top index payload key used Spent = ⊥

-- What stands behind the gate of the part Peers of this directory is damaged, or vouches for no key that the parts Key and Used are of.
abbrev pub IsUnfound : ShelfState → List ℕ → AuthorKey → ℕ → Type 0
IsUnfound shelf dir top index = (peers_in shelf dir ≡ Damaged)
    ⊎ ((payload : List ℕ) × (peers_in shelf dir ≡ Whole payload) × AreUnvouched top index payload (reading (part_in shelf dir Key)) (reading (part_in shelf dir Used)))

-- Why the lower key of the top index that was used last was not found.
abbrev pub IsUnfoundCause : ShelfState → List ℕ → KeyState → HssFault → Type 0
IsUnfoundCause shelf dir top BadKey = (index : ℕ) × IsLast top (Some index) × IsUnfound shelf (low_dir dir index) (public_key top.secret) index
IsUnfoundCause shelf dir top Disk = Unit {0}
IsUnfoundCause shelf dir top Memory = Unit {0}
IsUnfoundCause shelf dir top KeyThere = ⊥
IsUnfoundCause shelf dir top NoKey = ⊥
IsUnfoundCause shelf dir top Spent = ⊥
