-- The list of a shared replica, and what it says of the replica.
use Rattle.std.specs.Prelude.{◌≡◌, ℕ, ◌+◌, ◌-◌, ◌^◌, ◌≤◌, ◌==◌, Bool, true, false, List, [], ◌∷◌, ◌++◌, length, map, take, drop, min, Option, Some, None, option_map}
use Rattle.bec_disk.specs.Disk.{IsSameDisk}
use Rattle.bec_disk.specs.Slot.{Slot}
use Rattle.bec_disk.specs.declared.part.Part.{Part}
use Rattle.shared_replica.specs.declared.entry.Entry.{Entry}
use Rattle.shared_replica.specs.declared.entry.Entry.TheVariants.{First, Opened, Added, Fault}
use Rattle.shared_replica.specs.declared.entry.Opening.{Opening}
use Rattle.shared_replica.specs.declared.entry.Run.{Run}
use Rattle.replica.specs.Holding.{IsOnDisk}
use Rattle.replica.specs.Replicas.{ReplicaState}

-- the directory and the part of a disk
abbrev pub place_of : Slot → List ℕ × Part
place_of slot = (slot.dir, slot.part)

-- what the first entry says of a replica
abbrev pub opening_of : ReplicaState → Opening
opening_of replica = record {
  node = replica.node;
  schema = replica.history.schema;
  faults = replica.log.faults;
  tells = replica.log.disk.tells;
  place = option_map place_of replica.log.disk.slot;
}

-- the seat and the act that added the entry
abbrev pub maker_of : Entry → Option (ℕ × ℕ)
maker_of (First opening) = None
maker_of (Opened u) = None
maker_of (Added u seat act) = Some (seat, act)
maker_of (Fault seat act) = Some (seat, act)

-- the updates of a list, in order
abbrev pub updates_of : List Entry → List (List ℕ)
updates_of [] = []
updates_of (First opening ∷ es) = updates_of es
updates_of (Opened u ∷ es) = u ∷ updates_of es
updates_of (Added u seat act ∷ es) = u ∷ updates_of es
updates_of (Fault seat act ∷ es) = updates_of es

abbrev pub one_if : Bool → ℕ
one_if true = 1
one_if false = 0

-- how many updates a seat added
abbrev pub added_by : ℕ → List Entry → ℕ
added_by seat [] = 0
added_by seat (First opening ∷ es) = added_by seat es
added_by seat (Opened u ∷ es) = added_by seat es
added_by seat (Added u maker act ∷ es) = one_if (maker == seat) + added_by seat es
added_by seat (Fault maker act ∷ es) = added_by seat es

-- the number of fault entries
abbrev pub faults_of : List Entry → ℕ
faults_of [] = 0
faults_of (First opening ∷ es) = faults_of es
faults_of (Opened u ∷ es) = faults_of es
faults_of (Added u seat act ∷ es) = faults_of es
faults_of (Fault seat act ∷ es) = faults_of es + 1

-- the fault entry of an act, where it met a fault
abbrev pub faults_by : ℕ → ℕ → Bool → List Entry
faults_by seat act true = Fault seat act ∷ []
faults_by seat act false = []

-- the entries of one act: the updates that it added, and the fault
abbrev pub entries_by : ℕ → ℕ → List (List ℕ) → Bool → List Entry
entries_by seat act [] fault = faults_by seat act fault
entries_by seat act (u ∷ us) fault = Added u seat act ∷ entries_by seat act us fault

-- the entries of acts in order, which share these updates
abbrev pub entries_of : List Run → List (List ℕ) → List Entry
entries_of [] us = []
entries_of (r ∷ rs) us = entries_by r.seat r.act (take r.count us) r.fault ++ entries_of rs (drop r.count us)

-- how many updates acts added, and how many faults they met
abbrev pub counted : List Run → ℕ
counted [] = 0
counted (r ∷ rs) = r.count + counted rs

abbrev pub met : List Run → ℕ
met [] = 0
met (r ∷ rs) = one_if r.fault + met rs

-- the list: what the replica was at the start, the updates that were there, and what acts added since
abbrev pub listed : ReplicaState → ℕ → List Run → List (List ℕ) → List Entry
listed opening opened runs members = First (opening_of opening) ∷ (map Opened (take opened members) ++ entries_of runs (drop opened members))

-- what a stored replica is to its callers: its list, and the replica
pub record Story : Type 0 where
  pub entries : List Entry
  pub store : ReplicaState

-- the count has risen since the start by at least the number of faults, or stands at its last value
abbrev pub HasFaults : ℕ → ℕ → ℕ → Type 0
HasFaults start faults now = min (start + faults) (2 ^ 64 - 1) ≤ now

-- what ties a replica to what it was at the start and to the acts since
pub record IsStored (opening : ReplicaState) (opened : ℕ) (runs : List Run) (faults : ℕ) (replica : ReplicaState) : Type 0 where
  pub node : replica.node ≡ opening.node
  pub schema : replica.history.schema ≡ opening.history.schema
  pub all : opened + counted runs ≡ length replica.history.members
  pub faults_are : met runs ≡ faults
  pub rose : HasFaults opening.log.faults faults replica.log.faults
  pub disk : IsSameDisk opening.log.disk replica.log.disk
  pub on_disk : IsOnDisk replica

-- The replica is as the list says: but for the count of faults the first entry says what it says of this replica, its updates are those of the list, the
-- count of its log has risen for each fault since the start, and a crash at this moment leaves the updates in front of the log.
pub record IsStoreOf (list : List Entry) (store : ReplicaState) : Type 0 where
  pub start : ℕ
  pub rest : List Entry
  pub first : list ≡ First (record (opening_of store) { faults = start }) ∷ rest
  pub updates : updates_of list ≡ store.history.members
  pub faults : HasFaults start (faults_of list) store.log.faults
  pub on_disk : IsOnDisk store
