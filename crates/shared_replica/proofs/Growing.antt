-- A stored replica that grows by an act.
use Rattle.std.proofs.Common.{◌≡◌, ℕ, ◌+◌, ◌≤◌, Bool, true, false, List, [], ◌∷◌, ◌++◌, length, Err, refl, ap, sym, ◌∙◌, subst, arith, append-nil}
use Rattle.shared_replica.specs.declared.entry.Run.{Run}
use Rattle.shared_replica.specs.Acts.{Grows, met_fault}
use Rattle.shared_replica.specs.Entries.{Story, entries_by, one_if, counted, met, listed, IsStored, IsStoreOf, updates_of}
use Rattle.shared_replica.proofs.Lists.{grows_listed, grows_stored, store_of, updates_listed}
use Rattle.replica.specs.declared.make_fault.MakeFault.{MakeFault}
use Rattle.replica.specs.declared.make_fault.MakeFault.TheVariants.{NotListed, TooManyHeads, Invalid, TooLong, Full, Spent, Taken, DiskFault, Memory}
use Rattle.replica.specs.declared.make_fault.Side.TheVariants.{Key, Log}
use Rattle.bec_disk.proofs.Moments.{then_same}
use Rattle.bec_disk.specs.Disk.{IsSameDisk}
use Rattle.replica.specs.Holding.{IsOnDisk}
use Rattle.replica.specs.Replicas.{ReplicaState}
use Rattle.bec_bytes.specs.Causes.{Rose}

abbrev pub story : ReplicaState → ℕ → List Run → ReplicaState → Story
story opening opened runs replica = record { entries = listed opening opened runs replica.history.members; store = replica }

module _ (opening : ReplicaState) (opened : ℕ) (runs : List Run) (faults : ℕ) (replica new : ReplicaState) (is : IsStored opening opened runs faults replica)
    (node : new.node ≡ replica.node) (schema : new.history.schema ≡ replica.history.schema) (later : replica.log.faults ≤ new.log.faults) (disk : IsSameDisk replica.log.disk new.log.disk) (on_disk : IsOnDisk new) where
  -- the act added these updates and met no fault
  module _ (runs' : List Run) (r : Run) (added : List (List ℕ)) (more : runs' ≡ runs ++ r ∷ []) (count : r.count ≡ length added) (members : new.history.members ≡ replica.history.members ++ added) where
    pub added_stored : r.fault ≡ false → IsStored opening opened runs' faults new
    added_stored well = grows_stored opening opened runs runs' faults faults replica new r added is more count (let k : one_if r.fault ≡ 0 = ap one_if well in omega arith) members
        node schema (let h = is.rose in omega arith) disk on_disk

    pub added_grows : (old : Story) → story opening opened runs replica ≡ old → r.fault ≡ false → (fault : Bool) → fault ≡ false → Grows old (story opening opened runs' new) r.seat r.act fault
    added_grows old was well fault none = record {
      added = added;
      members = members ∙ ap (λ s. s.store.history.members ++ added) was;
      entries = grows_listed opening opened runs runs' faults faults replica new r added is more count (let k : one_if r.fault ≡ 0 = ap one_if well in omega arith) members
          ∙ (λ i. (was i).entries ++ entries_by r.seat r.act added ((well ∙ sym none) i));
      before = subst (λ (s : Story). IsStoreOf s.entries s.store) was (store_of _ _ _ _ _ is);
      after = store_of _ _ _ _ _ (added_stored well);
    }

    -- it met a fault behind them
    pub fault_stored : r.fault ≡ true → Rose replica.log.faults new.log.faults → IsStored opening opened runs' (faults + 1) new
    fault_stored ill rose = grows_stored opening opened runs runs' faults (faults + 1) replica new r added is more count (let k : one_if r.fault ≡ 1 = ap one_if ill in omega arith) members
        node schema (let h = is.rose in omega (arith, rose)) disk on_disk

    pub fault_grows : (old : Story) → story opening opened runs replica ≡ old → r.fault ≡ true → Rose replica.log.faults new.log.faults → (fault : Bool) → fault ≡ true → Grows old (story opening opened runs' new) r.seat r.act fault
    fault_grows old was ill rose fault one = record {
      added = added;
      members = members ∙ ap (λ s. s.store.history.members ++ added) was;
      entries = grows_listed opening opened runs runs' faults (faults + 1) replica new r added is more count (let k : one_if r.fault ≡ 1 = ap one_if ill in omega arith) members
          ∙ (λ i. (was i).entries ++ entries_by r.seat r.act added ((ill ∙ sym one) i));
      before = subst (λ (s : Story). IsStoreOf s.entries s.store) was (store_of _ _ _ _ _ is);
      after = store_of _ _ _ _ _ (fault_stored ill rose);
    }

  -- it added nothing
  module _ (runs' : List Run) (same_runs : runs' ≡ runs) (same : new.history.members ≡ replica.history.members) where
    pub nothing_stored : IsStored opening opened runs' faults new
    nothing_stored = record {
      node = node ∙ is.node;
      schema = schema ∙ is.schema;
      all = (λ i. opened + counted (same_runs i)) ∙ is.all ∙ ap length (sym same);
      faults_are = ap met same_runs ∙ is.faults_are;
      rose = let h = is.rose in omega arith;
      disk = then_same opening.log.disk replica.log.disk new.log.disk is.disk disk;
      on_disk = on_disk;
    }

    pub nothing_grows : (old : Story) → story opening opened runs replica ≡ old → (seat act : ℕ) (fault : Bool) → fault ≡ false → Grows old (story opening opened runs' new) seat act fault
    nothing_grows old was seat act fault none = record {
      added = [];
      members = same ∙ ap (λ s. s.store.history.members) was ∙ sym (append-nil _);
      entries = (λ i. listed opening opened (same_runs i) (same i)) ∙ ap (λ s. s.entries) was ∙ sym (append-nil _) ∙ ap (λ f. old.entries ++ entries_by seat act [] f) (sym none);
      before = subst (λ (s : Story). IsStoreOf s.entries s.store) was (store_of _ _ _ _ _ is);
      after = store_of _ _ _ _ _ nothing_stored;
    }

-- a stored replica that an act only looks at
module _ (opening : ReplicaState) (opened : ℕ) (runs : List Run) (faults : ℕ) (replica : ReplicaState) (is : IsStored opening opened runs faults replica) (now : Story) (was : story opening opened runs replica ≡ now) where
  pub known : IsStoreOf now.entries now.store
  known = subst (λ (s : Story). IsStoreOf s.entries s.store) was (store_of _ _ _ _ _ is)

  pub updates_now : replica.history.members ≡ updates_of now.entries
  updates_now = sym (updates_listed _ _ _ _ _ is) ∙ ap (λ s. updates_of s.entries) was

-- no other answer is a fault of the log's disk
pub no_fault : (why : MakeFault) → ¬ (why ≡ DiskFault Log) → met_fault (Err why) ≡ false
no_fault NotListed other = refl
no_fault (TooManyHeads n) other = refl
no_fault (Invalid reason operation) other = refl
no_fault (TooLong len) other = refl
no_fault Full other = refl
no_fault Spent other = refl
no_fault (Taken id) other = refl
no_fault (DiskFault Key) other = refl
no_fault (DiskFault Log) other = absurd (other refl)
no_fault Memory other = refl
