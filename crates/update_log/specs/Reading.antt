-- Reading a disk from front to back, record by record.
use Rattle.std.specs.Prelude.{◌≡◌, ℕ, ◌+◌, ◌^◌, ◌<◌, ◌≤◌, true, false, Bool, List, [], ◌∷◌, ◌++◌, All, length, drop, IsTrue, Vec, Some, None}
use Rattle.std.specs.declared.option.Option.{Option}
use Rattle.std.specs.declared.alloc.Global.{Global}
use Rattle.bec_bytes.specs.Framed.{HoldsPiece, framed, stream_of}
use Rattle.bec_disk.specs.Disk.{DiskState}
use Rattle.update_model.specs.Rule.{RuleData}
use Rattle.update_codec.specs.declared.limits.TheConstants.{UPDATE_LIMIT}
use Rattle.update_check.specs.Members.{AreMembers}
use Rattle.update_log.specs.declared.piece_reader.TheConstants.{PIECE}

-- What was read of a disk and not yet taken, up to where it was read, and how many bytes stand behind that.
pub record ReaderState : Type 0 where
  pub ahead : List ℕ
  pub at : ℕ
  pub unread : ℕ

-- What is left of these bytes.
abbrev pub left_of : ReaderState → List ℕ → List ℕ
left_of reader bytes = reader.ahead ++ drop reader.at bytes

-- How many bytes are left.
abbrev pub count_left : ReaderState → ℕ
count_left reader = length reader.ahead + reader.unread

-- It reads this disk.
abbrev pub IsOver : ReaderState → DiskState → Type 0
IsOver reader disk = IsTrue disk.tells → reader.at + reader.unread ≡ length disk.seen

-- The room for what is read, and what stands in it.
pub record HasRoom (size from to at unread : ℕ) : Type 0 where
  pub room : size ≡ PIECE
  pub order : from ≤ to
  pub within : to ≤ size
  pub behind : to ≤ from + at
  pub fits : at + unread < 2 ^ 64

-- The record that stands at the front, which is taken; or none can be.
abbrev pub FindsRecord : List ℕ → List ℕ → Option (Vec ℕ Global) → Type 0
FindsRecord before after (Some r) = HoldsPiece UPDATE_LIMIT before r.items after
FindsRecord before after None = (r rest : List ℕ) → HoldsPiece UPDATE_LIMIT before r rest → ⊥

-- The records stand at the front, one behind another and each within the limit, and then the rest.
pub record HoldsRecords (before : List ℕ) (records : List (List ℕ)) (after : List ℕ) : Type 0 where
  pub short : All (λ r. length r ≤ UPDATE_LIMIT) records
  pub parts : before ≡ stream_of records ++ after

-- The member stands last, or it can't be taken.
abbrev pub TakesOne : RuleData → List (List ℕ) → List ℕ → Bool → List (List ℕ) → Type 0
TakesOne rule old r true new = (new ≡ old ++ r ∷ []) × AreMembers rule new
TakesOne rule old r false new = (new ≡ old) × (AreMembers rule (old ++ r ∷ []) → ⊥)

-- The records stand last up to one that can't be taken.
pub record TakesSome (rule : RuleData) (old records new : List (List ℕ)) : Type 0 where
  pub taken : List (List ℕ)
  pub next : List ℕ
  pub more : List (List ℕ)
  pub parts : records ≡ taken ++ next ∷ more
  pub list : new ≡ old ++ taken
  pub members : AreMembers rule new
  pub refused : AreMembers rule (new ++ next ∷ []) → ⊥

-- One of the records can be taken after those in front of it.
pub record HasNext (rule : RuleData) (old records : List (List ℕ)) : Type 0 where
  pub taken : List (List ℕ)
  pub next : List ℕ
  pub more : List (List ℕ)
  pub parts : records ≡ taken ++ next ∷ more
  pub members : AreMembers rule ((old ++ taken) ++ next ∷ [])

-- All records stand last, or those up to one that can't be taken.
abbrev pub TakesPart : RuleData → List (List ℕ) → List (List ℕ) → Bool → List (List ℕ) → Type 0
TakesPart rule old records true new = (new ≡ old ++ records) × AreMembers rule new
TakesPart rule old records false new = TakesSome rule old records new

-- No record that stands here can be taken after these members.
abbrev pub IsStop : RuleData → List (List ℕ) → List ℕ → Type 0
IsStop rule members rest = (r tail : List ℕ) → rest ≡ framed r ++ tail → AreMembers rule (members ++ r ∷ []) → ⊥

-- The bytes are the records of these members up to a place, and what stands there can't be taken.
abbrev pub StopsAt : RuleData → List ℕ → List (List ℕ) → Type 0
StopsAt rule bytes members = (rest : List ℕ) × (bytes ≡ stream_of members ++ rest) × IsStop rule members rest
