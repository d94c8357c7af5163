-- What is done to the list of a store that is open.
use Rattle.std.proofs.Common.{◌≡◌, ℕ, Bool, true, false, List, [], ◌++◌, append-nil, refl, sym, ap, subst, ◌∙◌, IsTrue}
use Rattle.std.proofs.lemmas.Bool.{true≢false}
use Rattle.bec_bytes.specs.Framed.{stream_of}
use Rattle.bec_disk.specs.Disk.{LeavesOnly}
use Rattle.bec_disk.proofs.Moments as moments
use Rattle.update_log.specs.Log.{IsClean}
use Rattle.update_log.specs.Logset.{BeginsWith}
use Rattle.history.specs.Histories.{HistoryData}
use Rattle.replica.specs.Replicas.{ReplicaState}
use Rattle.store_directory.specs.Holding.{WorksOn}
use Rattle.outcomes.specs.OpenStores.{WorksFrom}
use Rattle.store_directory.specs.Standing.{Stands}

pub works_on : (old new : ReplicaState) (added : List (List ℕ)) (done : Bool) → new.history ≡ record { schema = old.history.schema; members = old.history.members ++ added }
    → LeavesOnly old.log.disk new.log.disk (BeginsWith (stream_of old.history.members)) → Stands new
    → ((IsTrue old.log.disk.tells → IsClean old.log.end old.log.disk) → done ≡ true → IsTrue old.log.disk.tells → IsClean new.log.end new.log.disk) → WorksFrom old new added done
works_on old new added done is leaves stands clean = λ was taken same.
    subst (λ (r : ReplicaState). WorksOn (record { schema = taken.schema; schema_faults = taken.schema_faults; replica = r }) new added done) (sym same)
    (record {
      schema = ap (λ (h : HistoryData). h.schema) is;
      members = ap (λ (h : HistoryData). h.members) is;
      closed = stands.history_is.members;
      any_moment = leaves;
      on_disk = stands.on_disk;
      log = λ is_done. stands.log_is;
      clean = λ is_done tells. clean was is_done (moments.told_before old.log.disk new.log.disk leaves.disk tells);
    })

-- a store that is as it was
pub works_not : (replica : ReplicaState) (done : Bool) → Stands replica → WorksFrom replica replica [] done
works_not replica done stands =
    works_on replica replica [] done (ap (λ (l : List (List ℕ)). record { schema = replica.history.schema; members = l }) (sym (append-nil replica.history.members)))
    (moments.stays replica.log.disk replica.log.disk (BeginsWith (stream_of replica.history.members)) refl stands.on_disk) stands (λ was is_done. was)

-- a store whose updates are as they were, whatever became of its log
pub works_failed : (old new : ReplicaState) → new.history ≡ old.history → LeavesOnly old.log.disk new.log.disk (BeginsWith (stream_of old.history.members)) → Stands new → WorksFrom old new [] false
works_failed old new same leaves stands =
    works_on old new [] false (same ∙ ap (λ (l : List (List ℕ)). record { schema = old.history.schema; members = l }) (sym (append-nil old.history.members))) leaves stands (λ was is_done. absurd (true≢false (sym is_done)))
