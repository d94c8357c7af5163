-- What goes on from a moment of a replica to a later one, where it holds updates for a session.
use Rattle.std.specs.Prelude.{◌≡◌, List, ℕ, ◌++◌, [], IsTrue, refl}
use Rattle.std.proofs.Common.{sym, ap, ◌∙◌, append_assoc, append-nil}
use Rattle.std.proofs.lemmas.List.Concat.{flat_map-append}
use Rattle.bec_bytes.specs.Framed.{framed, stream_of}
use Rattle.bec_disk.specs.Disk.{EveryImage, LeavesOnly}
use Rattle.bec_disk.proofs.Moments.{followed_by, stays, weakened}
use Rattle.update_log.specs.Log.{IsClean}
use Rattle.update_log.specs.Logset.{BeginsWith}
use Rattle.replica.specs.Replicas.{IsSameStore, ReplicaState}

-- a crash now leaves the updates of the replica in front of its log
abbrev pub IsOnDisk : ReplicaState → Type 0
IsOnDisk replica = IsTrue replica.log.disk.tells → EveryImage replica.log.disk.now (BeginsWith (stream_of replica.history.members))

-- What goes on from the one moment to the other on the disk: a crash at any moment between leaves the updates that were held in front, and one now
-- leaves those that are held.
pub record KeepsOnDisk (old new : ReplicaState) : Type 0 where
  pub any_moment : LeavesOnly old.log.disk new.log.disk (BeginsWith (stream_of old.history.members))
  pub on_disk : IsOnDisk new

-- It is the same store, and its list grew behind. What a crash left before, it leaves still.
pub record KeepsOn (old new : ReplicaState) : Type 0 where
  pub added : List (List ℕ)
  pub members : new.history.members ≡ old.history.members ++ added
  pub store : IsSameStore old new
  pub disk : IsOnDisk old → KeepsOnDisk old new

-- The log's disk has the records of the updates and no others, and is settled.
abbrev pub IsWhole : ReplicaState → Type 0
IsWhole replica = IsTrue replica.log.disk.tells → IsClean replica.log.end replica.log.disk

-- ---- laws

stream_then : (front behind : List (List ℕ)) → stream_of (front ++ behind) ≡ stream_of front ++ stream_of behind
unfolding stream_of
stream_then front behind = flat_map-append framed front behind

-- what begins with more begins with less
begins_less : (old new added : List (List ℕ)) (image : List ℕ) → new ≡ old ++ added → BeginsWith (stream_of new) image → BeginsWith (stream_of old) image
begins_less old new added image behind begins = (
  stream_of added ++ begins.0,
  begins.1 ∙ ap (λ (l : List (List ℕ)). stream_of l ++ begins.0) behind ∙ ap (λ (l : List ℕ). l ++ begins.0) (stream_then old added)
      ∙ append_assoc (stream_of old) (stream_of added) begins.0,
)

pub keeps_itself : (replica : ReplicaState) → KeepsOn replica replica
keeps_itself replica = record {
  added = [];
  members = sym (append-nil replica.history.members);
  store = record { node = refl; schema = refl };
  disk = λ here. record { any_moment = stays replica.log.disk replica.log.disk (BeginsWith (stream_of replica.history.members)) refl here; on_disk = here };
}

pub keeps_on : (old mid new : ReplicaState) → KeepsOn old mid → KeepsOn mid new → KeepsOn old new
keeps_on old mid new first second = record {
  added = first.added ++ second.added;
  members = second.members ∙ ap (λ (l : List (List ℕ)). l ++ second.added) first.members ∙ append_assoc old.history.members first.added second.added;
  store = record { node = second.store.node ∙ first.store.node; schema = second.store.schema ∙ first.store.schema };
  disk = λ here.
      let one = first.disk here in
      let two = second.disk one.on_disk in
      record {
        any_moment = followed_by old.log.disk mid.log.disk new.log.disk (BeginsWith (stream_of old.history.members)) one.any_moment
            (weakened mid.log.disk new.log.disk (BeginsWith (stream_of mid.history.members)) (BeginsWith (stream_of old.history.members)) two.any_moment
            (λ tells image begins. begins_less old.history.members mid.history.members first.added image first.members begins));
        on_disk = two.on_disk;
      };
}
