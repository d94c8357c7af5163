-- What `merge` answers over the stores of two directories, and what it leaves.
use Rattle.std.specs.Prelude.{◌≡◌, ◌≢◌, ◌⊎◌, ℕ, ◌≤◌, true, false, List, [], ◌∷◌, ◌++◌, All, Contains, IsTrue, Ok, Err, map}
use Rattle.std.specs.List.{list_any}
use Rattle.row_check.specs.Checksum.{is_luhn}
use Rattle.bec_bytes.specs.Causes.{Rose}
use Rattle.bec_disk.specs.declared.part.Part.TheVariants.{Peers}
use Rattle.bec_disk.specs.declared.part.Part.{Part}
use Rattle.bec_disk.specs.Shelf.{ShelfState}
use Rattle.bec_disk.specs.Slot.{Slot, same_slot, slot}
use Rattle.update_model.specs.Batch.{store_limits}
use Rattle.update_codec.specs.Parts.{entry_of}
use Rattle.session_rules.specs.declared.end.End.TheVariants.{Done, Peer, Full, Store}
use Rattle.session_rules.specs.declared.peer_fault.PeerFault.{PeerFault}
use Rattle.session_rules.specs.Laws.{NoCollision}
use Rattle.sync_session.specs.Carrying.{HasRoom, Syncs, Unites}
use Rattle.sync_session.specs.declared.pair.PairStart.{PairStart}
use Rattle.sync_session.specs.declared.pair.PairEnd.{PairEnd}
use Rattle.peer_memory.specs.declared.peer.Peer.{Peer as PeerEntry}
use Rattle.peer_memory.specs.Payload.{Reads}
use Rattle.peer_memory.specs.Peers.{heads_under}
use Rattle.replica.specs.Holding.{IsWhole}
use Rattle.replica.specs.Replicas.{ReplicaState}
use Rattle.store_directory.specs.Stores.{IsStore, StoreData, StoreRun}
use Rattle.outcomes.specs.declared.refusal.Refusal.{Refusal}
use Rattle.outcomes.specs.declared.refusal.Refusal.TheVariants as refusals
use Rattle.outcomes.specs.Comes.{IsRefused, IsShelfFault, is_done, readings}
use Rattle.outcomes.specs.Outcome.{Outcome}
use Rattle.key_directory.specs.Parts.{IsHome, IsUntouched, KeepsPlaces, part_in}
use Rattle.schema_verdict.specs.Verdict.{Prints}
use Rattle.outcomes.specs.Outside.{Outside}
use Rattle.outcomes.specs.OpenStores.{WorksFrom, opened_store}
use Rattle.outcomes.specs.StoreAnswers.{HasStore, Readings, RefusesStore}
use Rattle.outcomes.specs.Texts.{merged_text}
use Rattle.store_directory.specs.Remembering.{memory_in, RemembersIn, touched}

-- how the session of two stores begins: of each its database and its node, and what its directory remembers of the other
abbrev pub start_of : StoreData → StoreData → List PeerEntry → List PeerEntry → PairStart
start_of one other peers peers_other = record {
  database_a = one.schema.rule.database;
  database_b = other.schema.rule.database;
  node_a = one.node;
  node_b = other.node;
  old_a = heads_under peers other.node;
  old_b = heads_under peers_other one.node;
}

-- How a session ended is told: what each store gained, and the turns; or why it ended otherwise.
pub data TellsEnd (ended : PairEnd) (outcome : Outcome) : Type 0 where
  done : ended.a ≡ Done → Prints outcome (merged_text ended.gained_a ended.gained_b ended.turns) → TellsEnd ended outcome
  peer : (fault : PeerFault) → ended.a ≡ Peer fault → outcome ≡ Err (refusals.Peer fault) → TellsEnd ended outcome
  full : ended.a ≡ Full → outcome ≡ Err refusals.Full → TellsEnd ended outcome

-- A session of the two stores was held, and added these to each. Where both have one rule and no two of their updates share an id, it ends done
-- unless one is full, and then both are the union; and none is full where the union is within the limits. Done, each directory remembers what its end
-- does of the other, under the other's node id.
pub record Meets (one other : StoreData) (memory memory_other memory_new memory_other_new : List ℕ) (added added_other : List (List ℕ)) (outcome : Outcome) : Type 0 where
  pub ended : PairEnd
  pub peers : List PeerEntry
  pub peers_other : List PeerEntry
  pub reads : Reads memory peers
  pub reads_other : Reads memory_other peers_other
  pub syncs : Syncs store_limits store_limits one.schema.rule other.schema.rule (start_of one other peers peers_other) one.members other.members ended
      (one.members ++ added) (other.members ++ added_other)
  pub unites : one.schema.rule ≡ other.schema.rule → NoCollision (map entry_of one.members) (map entry_of other.members) → ended.a ≢ Full
      → Unites one.members other.members ended (one.members ++ added) (other.members ++ added_other)
  pub room : NoCollision (map entry_of one.members) (map entry_of other.members) → HasRoom store_limits one.members other.members → HasRoom store_limits other.members one.members → ended.a ≢ Full
  pub tells : TellsEnd ended outcome
  pub remembers : ended.a ≡ Done → RemembersIn peers other.node ended.remembered_a memory_new
  pub remembers_other : ended.a ≡ Done → RemembersIn peers_other one.node ended.remembered_b memory_other_new

-- What was added where the store failed: nothing, before a session; or what the session added that was held, up to its end by the store, or done, and
-- then what is remembered was not kept.
pub data IsStopped (one other : StoreData) (memory memory_other : List ℕ) (added added_other : List (List ℕ)) : Type 0 where
  unheld : added ≡ [] → added_other ≡ [] → IsStopped one other memory memory_other added added_other
  held : (ended : PairEnd) (peers peers_other : List PeerEntry) → Reads memory peers → Reads memory_other peers_other → (ended.a ≡ Store) ⊎ (ended.a ≡ Done)
      → Syncs store_limits store_limits one.schema.rule other.schema.rule (start_of one other peers peers_other) one.members other.members ended
      (one.members ++ added) (other.members ++ added_other)
      → IsStopped one other memory memory_other added added_other

-- This holds where the store failed.
abbrev pub IfStoreFault : Outcome → Type 0 → Type 0
IfStoreFault (Err refusals.StoreFault) P = P
IfStoreFault outcome P = Unit {0}

-- What is answered by what both directories read as: the store of the first or of the second is refused, or they meet.
pub data MergeAnswer (parts parts_other : Readings) (memory memory_other memory_new memory_other_new : List ℕ) (added added_other : List (List ℕ)) (outcome : Outcome) : Type 0 where
  without_first : (refusal : Refusal) → RefusesStore parts refusal → added ≡ [] → added_other ≡ [] → outcome ≡ Err refusal
      → MergeAnswer parts parts_other memory memory_other memory_new memory_other_new added added_other outcome
  without_second : (one : StoreData) (refusal : Refusal) → HasStore parts one → RefusesStore parts_other refusal → added ≡ [] → added_other ≡ [] → outcome ≡ Err refusal
      → MergeAnswer parts parts_other memory memory_other memory_new memory_other_new added added_other outcome
  with_both : (one other : StoreData) → HasStore parts one → HasStore parts_other other → Meets one other memory memory_other memory_new memory_other_new added added_other outcome
      → MergeAnswer parts parts_other memory memory_other memory_new memory_other_new added added_other outcome

-- What `merge` may answer to what both directories read as, whatever they remember and whatever it leaves.
abbrev pub MayMerge : Readings → Readings → Outcome → Type 0
MayMerge parts parts_other outcome = (memory : List ℕ) × (memory_other : List ℕ) × (memory_new : List ℕ) × (memory_other_new : List ℕ) × (added : List (List ℕ)) × (added_other : List (List ℕ))
    × MergeAnswer parts parts_other memory memory_other memory_new memory_other_new added added_other outcome

-- Of these the answers that exclude each other one: a store is refused; or it is done, where both stores have one rule, no two of their updates share an
-- id, and their union is within the limits.
pub data IsSureOfMerge (parts parts_other : Readings) (outcome : Outcome) : Type 0 where
  first_refused : (refusal : Refusal) → RefusesStore parts refusal → outcome ≡ Err refusal → IsSureOfMerge parts parts_other outcome
  second_refused : (one : StoreData) (refusal : Refusal) → HasStore parts one → RefusesStore parts_other refusal → outcome ≡ Err refusal → IsSureOfMerge parts parts_other outcome
  united : (one other : StoreData) → HasStore parts one → HasStore parts_other other → one.schema.rule ≡ other.schema.rule → NoCollision (map entry_of one.members) (map entry_of other.members)
      → HasRoom store_limits one.members other.members → HasRoom store_limits other.members one.members → is_done outcome ≡ true → IsSureOfMerge parts parts_other outcome

-- Every part but these of the two directories is as it was.
abbrev pub KeepsAllButIn : List Part → List ℕ → List Part → List ℕ → ShelfState → ShelfState → Type 0
KeepsAllButIn parts dir parts_other dir_other before after = (other : Slot) → list_any (λ part. same_slot (slot dir part) other) parts ≡ false
    → list_any (λ part. same_slot (slot dir_other part) other) parts_other ≡ false → after.parts other ≡ before.parts other

-- What was added to either list was in one of both.
pub record IsWithin (members members_other added added_other : List (List ℕ)) : Type 0 where
  pub first : All (Contains (members ++ members_other)) added
  pub second : All (Contains (members ++ members_other)) added_other

-- It is done, or a store is refused, or the session ended by a fault of a peer or at a limit.
abbrev pub IsMergeEnd : Outcome → Type 0
IsMergeEnd (Ok text) = Unit {0}
IsMergeEnd (Err refusals.NoStore) = Unit {0}
IsMergeEnd (Err refusals.BadStore) = Unit {0}
IsMergeEnd (Err (refusals.Peer fault)) = Unit {0}
IsMergeEnd (Err refusals.Full) = Unit {0}
IsMergeEnd outcome = ⊥

-- Of the parts Peers of two directories both were at most read.
abbrev pub AreUnremembered : List ℕ → List ℕ → ShelfState → ShelfState → Type 0
AreUnremembered first second before after =
    IsUntouched (part_in before first Peers) (part_in after first Peers) × IsUntouched (part_in before second Peers) (part_in after second Peers)

-- A run of `merge` over two directories. Where the shelf tells what it has, the outcome is the answer to what the parts read as, or a fault came in its
-- place. These were added to each list, in whatever way it ends; where the store failed, they are what the session added up to there. No part but these is touched, and every part is put back. Where it is refused, both
-- parts Peers are at most read. Whether the shelf tells what it has or not, it is done, or refused for one of its own reasons, or a fault came.
pub record MergesStores (first second : List ℕ) (before after : ShelfState) (old new : ℕ) (outcome : Outcome) : Type 0 where
  pub added : List (List ℕ)
  pub added_other : List (List ℕ)
  pub comes : (IsTrue before.tells → MergeAnswer (readings before first) (readings before second) (memory_in before first) (memory_in before second)
      (memory_in after first) (memory_in after second) added added_other outcome) ⊎ IsShelfFault old new outcome
  pub ends : IsMergeEnd outcome ⊎ IsShelfFault old new outcome
  pub peers : IsTrue before.tells → IsRefused outcome → AreUnremembered first second before after
  pub run : IsTrue before.tells → StoreRun is_luhn before after first added (is_done outcome)
  pub run_other : IsTrue before.tells → StoreRun is_luhn before after second added_other (is_done outcome)
  pub within : IsTrue before.tells → (one other : StoreData) → IsStore is_luhn before first one → IsStore is_luhn before second other → IsWithin one.members other.members added added_other
  pub stopped : IsTrue before.tells → (one other : StoreData) → IsStore is_luhn before first one → IsStore is_luhn before second other
      → IfStoreFault outcome (IsStopped one other (memory_in before first) (memory_in before second) added added_other)
  pub others : IsTrue before.tells → KeepsAllButIn touched first touched second before after
  pub home : IsTrue before.tells → IsHome after

-- `merge`, which uses neither the source nor the generator.
pub record Merges {S H R : Type 0} (first second : List ℕ) (before after : Outside S H R) (outcome : Outcome) : Type 0 where
  pub stores : MergesStores first second before.store after.store before.shelf_faults after.shelf_faults outcome
  pub source : after.source ≡ before.source
  pub random : after.random ≡ before.random

-- ---- the same of what is open

-- What may come in place of an answer over two open stores.
abbrev pub IsMergeFault : ℕ → ℕ → ReplicaState → ReplicaState → ReplicaState → ReplicaState → Outcome → Type 0
IsMergeFault faults faults_new one other one_new other_new outcome = (outcome ≡ Err refusals.Memory)
    ⊎ ((outcome ≡ Err refusals.StoreFault) × (Rose faults faults_new ⊎ (Rose one.log.faults one_new.log.faults ⊎ Rose other.log.faults other_new.log.faults)))

-- A merge of two stores that are open. On the shelf it touches the two parts Peers alone. The log of either store has its updates and nothing else
-- where it is done, if both logs had before.
pub record MergesOpen (first second : List ℕ) (before after : ShelfState) (faults faults_new : ℕ) (one other one_new other_new : ReplicaState) (outcome : Outcome) : Type 0 where
  pub added : List (List ℕ)
  pub added_other : List (List ℕ)
  pub comes : (IsTrue before.tells → Meets (opened_store one) (opened_store other) (memory_in before first) (memory_in before second)
      (memory_in after first) (memory_in after second) added added_other outcome) ⊎ IsMergeFault faults faults_new one other one_new other_new outcome
  pub ends : IsMergeEnd outcome ⊎ IsMergeFault faults faults_new one other one_new other_new outcome
  pub peers : IsTrue before.tells → IsRefused outcome → AreUnremembered first second before after
  pub works : IsWhole other → WorksFrom one one_new added (is_done outcome)
  pub works_other : IsWhole one → WorksFrom other other_new added_other (is_done outcome)
  pub slot : one_new.log.disk.slot ≡ one.log.disk.slot
  pub slot_other : other_new.log.disk.slot ≡ other.log.disk.slot
  pub within : IsWithin one.history.members other.history.members added added_other
  pub stopped : IsTrue before.tells → IfStoreFault outcome (IsStopped (opened_store one) (opened_store other) (memory_in before first) (memory_in before second) added added_other)
  pub tells : after.tells ≡ before.tells
  pub places : IsTrue before.tells → KeepsPlaces before after
  pub others : IsTrue before.tells → KeepsAllButIn (Peers ∷ []) first (Peers ∷ []) second before after
  pub later : faults ≤ faults_new
  pub log_later : one.log.faults ≤ one_new.log.faults
  pub log_later_other : other.log.faults ≤ other_new.log.faults

-- What is answered over the first store, which is open, by what the second directory reads as.
pub data BesideAnswer (one : StoreData) (parts_other : Readings) (memory memory_other memory_new memory_other_new : List ℕ) (added added_other : List (List ℕ)) (outcome : Outcome) : Type 0 where
  without : (refusal : Refusal) → RefusesStore parts_other refusal → added ≡ [] → added_other ≡ [] → outcome ≡ Err refusal
      → BesideAnswer one parts_other memory memory_other memory_new memory_other_new added added_other outcome
  with_it : (other : StoreData) → HasStore parts_other other → Meets one other memory memory_other memory_new memory_other_new added added_other outcome
      → BesideAnswer one parts_other memory memory_other memory_new memory_other_new added added_other outcome

-- What may come in place of an answer where the first store is open.
abbrev pub IsBesideFault : ℕ → ℕ → ReplicaState → ReplicaState → Outcome → Type 0
IsBesideFault faults faults_new one one_new outcome = (outcome ≡ Err refusals.Memory) ⊎ ((outcome ≡ Err refusals.StoreFault) × (Rose faults faults_new ⊎ Rose one.log.faults one_new.log.faults))

-- A merge of a store that is open with that of a second directory.
pub record MergesBeside (first second : List ℕ) (before after : ShelfState) (faults faults_new : ℕ) (one one_new : ReplicaState) (outcome : Outcome) : Type 0 where
  pub added : List (List ℕ)
  pub added_other : List (List ℕ)
  pub comes : (IsTrue before.tells → BesideAnswer (opened_store one) (readings before second) (memory_in before first) (memory_in before second)
      (memory_in after first) (memory_in after second) added added_other outcome) ⊎ IsBesideFault faults faults_new one one_new outcome
  pub ends : IsMergeEnd outcome ⊎ IsBesideFault faults faults_new one one_new outcome
  pub peers : IsTrue before.tells → IsRefused outcome → AreUnremembered first second before after
  pub works : WorksFrom one one_new added (is_done outcome)
  pub slot : one_new.log.disk.slot ≡ one.log.disk.slot
  pub run_other : IsWhole one → IsTrue before.tells → StoreRun is_luhn before after second added_other (is_done outcome)
  pub within : IsTrue before.tells → (other : StoreData) → IsStore is_luhn before second other → IsWithin one.history.members other.members added added_other
  pub stopped : IsTrue before.tells → (other : StoreData) → IsStore is_luhn before second other
      → IfStoreFault outcome (IsStopped (opened_store one) other (memory_in before first) (memory_in before second) added added_other)
  pub tells : after.tells ≡ before.tells
  pub places : IsTrue before.tells → KeepsPlaces before after
  pub others : IsTrue before.tells → KeepsAllButIn (Peers ∷ []) first touched second before after
  pub later : faults ≤ faults_new
  pub log_later : one.log.faults ≤ one_new.log.faults
