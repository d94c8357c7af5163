-- What a log keeps on its disk.
use Rattle.std.specs.Prelude.{◌≡◌, ℕ, ◌≤◌, Bool, false, List, ◌++◌, length, take, IsTrue}
use Rattle.bec_bytes.specs.Framed.{stream_of}
use Rattle.bec_disk.specs.Disk.{DiskState, EveryImage, IsSameDisk, IsSettled, LeavesOnly}
use Rattle.update_model.specs.Rule.{RuleData}
use Rattle.update_log.specs.Logset.{BeginsWith, IsLogset}
use Rattle.update_check.specs.Members.{AreMembers}

-- A log: its disk and the disk's faults, how many bytes are acknowledged, how many were cut when it was opened, and whether
-- other bytes may stand behind the acknowledged ones.
pub record LogState : Type 0 where
  pub disk : DiskState
  pub faults : ℕ
  pub end : ℕ
  pub dropped : ℕ
  pub is_unsure : Bool

-- The bytes that are acknowledged.
abbrev pub acknowledged : LogState → List ℕ
acknowledged log = take log.end log.disk.seen

-- The acknowledged bytes are the records of these members.
pub record IsLogOf (members : List (List ℕ)) (log : LogState) : Type 0 where
  pub end : log.end ≡ length (stream_of members)
  pub acknowledged : IsTrue log.disk.tells → acknowledged log ≡ stream_of members

-- The acknowledged members, followed by the batch, are a closed list under some rule.
abbrev pub IsNextBatch : LogState → List (List ℕ) → Type 0
IsNextBatch log batch = (rule : RuleData) × ((members : List (List ℕ)) × IsLogOf members log × AreMembers rule (members ++ batch))

-- The disk has the acknowledged bytes and no others, and is settled.
abbrev pub IsClean : ℕ → DiskState → Type 0
IsClean end disk = IsSettled disk × (length disk.seen ≡ end)

-- What a disk keeps of a log: the first bytes are there and stay whatever a crash leaves, and where the log is sure there are
-- no others.
pub record IsKept (end : ℕ) (is_unsure : Bool) (disk : DiskState) : Type 0 where
  pub long : end ≤ length disk.seen
  pub stays : EveryImage disk.now (BeginsWith (take end disk.seen))
  pub sure : is_unsure ≡ false → IsClean end disk

-- It is the same disk, and the list that it stood for stands in front of it at each moment of a run.
pub record KeepsLogset (rule : RuleData) (old new : DiskState) : Type 0 where
  pub disk : IsSameDisk old new
  pub any_moment : (members : List (List ℕ)) → (IsTrue old.tells → IsLogset rule old.seen members) → LeavesOnly old new (BeginsWith (stream_of members))
