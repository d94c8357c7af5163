-- The front of a disk that a run of calls leaves alone.
use Rattle.std.specs.Prelude.{◌≡◌, ℕ, ◌≤◌, List, [], ◌∷◌, length, take, IsTrue}
use Rattle.bec_disk.specs.Disk.{Moment, DiskState, LeavesOnly}

-- Each of these ranges begins at n or behind it.
abbrev pub AllBehind : ℕ → List (ℕ × ℕ) → Type 0
AllBehind n [] = Unit {0}
AllBehind n (range ∷ ranges) = (n ≤ range.0) × AllBehind n ranges

-- The first n bytes were synced, and nothing since has touched them.
pub record Keeps (n : ℕ) (front : List ℕ) (moment : Moment) : Type 0 where
  pub is_front : take n moment.synced ≡ front
  pub long : n ≤ length moment.synced
  pub longer : n ≤ moment.least
  pub behind : AllBehind n moment.written

-- A run that left the first n bytes alone: they are kept now, and a crash at any moment of it leaves them.
pub record WritesBehind (n : ℕ) (front : List ℕ) (old new : DiskState) : Type 0 where
  pub keeps : IsTrue old.tells → Keeps n front new.now
  pub run : LeavesOnly old new (λ image. take n image ≡ front)
