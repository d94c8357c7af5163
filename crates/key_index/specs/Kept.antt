-- What a store of one-time keys keeps true.
use Rattle.std.specs.Prelude.{◌≡◌, ℕ, ◌<◌, ◌≤◌, ◌^◌, Bool, true, false, not, IsTrue, List, length, count_by, slice_index_or}
use Rattle.std.specs.List.{position_or_len}
use Rattle.bec_disk.specs.Disk.{DiskState, EveryImage, Moment}
use Rattle.lms_tree.specs.LmsKind.{leaf_count}
use Rattle.lms_tree.specs.SecretKey.{SecretData}
use Rattle.key_index.specs.Used.{IsUnused}

-- Of these indices, `next` is the least that is not used, or their number, and `left` are not used.
pub record AreIndices (used : List Bool) (next left : ℕ) : Type 0 where
  pub few : length used ≤ 2 ^ 15
  pub cursor : next ≡ position_or_len not used
  pub rest : left ≡ count_by not used

-- Each index that is not used in the store is unused on the disk, whatever a crash leaves of it.
abbrev pub AreFree : List Bool → Moment → Type 0
AreFree taken moment = (index : ℕ) → index < length taken → slice_index_or taken index true ≡ false → EveryImage moment (IsUnused index)

-- There is a `bool` for each index of the key, and those that are not used are unused on the disk.
pub record IsStore (used : DiskState) (secret : SecretData) (taken : List Bool) : Type 0 where
  pub long : length taken ≡ leaf_count secret.lms
  pub free : IsTrue used.tells → AreFree taken used.now
