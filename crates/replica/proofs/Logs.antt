-- What the log of a replica keeps.
use Rattle.std.proofs.Common.{◌≡◌, ℕ, List, ◌++◌, length, map, drop, refl, sym, ap, subst, ◌∙◌, IsTrue}
use Rattle.std.proofs.lemmas.List.{drop_at}
use Rattle.bec_bytes.specs.Framed.{stream_of}
use Rattle.bec_disk.specs.Disk.{EveryImage, LeavesOnly}
use Rattle.bec_disk.proofs.Moments.{stays, weakened, followed_by}
use Rattle.update_log.specs.Log.{LogState, IsLogOf, acknowledged}
use Rattle.update_log.specs.Logset.{BeginsWith}

-- a run that leaves what is acknowledged in front leaves the members there
pub log_leaves : (members : List (List ℕ)) (old new : LogState) → IsLogOf members old → LeavesOnly old.disk new.disk (BeginsWith (acknowledged old)) → LeavesOnly old.disk new.disk (BeginsWith (stream_of members))
log_leaves members old new is run =
    weakened old.disk new.disk (BeginsWith (acknowledged old)) (BeginsWith (stream_of members)) run (λ tells c begins. subst (λ (l : List ℕ). BeginsWith l c) (is.acknowledged tells) begins)

-- and so it does where nothing is written
pub log_stays : (members : List (List ℕ)) (log : LogState) → IsLogOf members log → (IsTrue log.disk.tells → EveryImage log.disk.now (BeginsWith (acknowledged log))) → LeavesOnly log.disk log.disk (BeginsWith (stream_of members))
log_stays members log is keeps = stays log.disk log.disk (BeginsWith (stream_of members)) refl (λ tells. subst (λ (l : List ℕ). EveryImage log.disk.now (BeginsWith l)) (is.acknowledged tells) (keeps tells))

-- two runs of it
pub log_follows : (members : List (List ℕ)) (old mid new : LogState) → LeavesOnly old.disk mid.disk (BeginsWith (stream_of members)) → IsLogOf members mid → LeavesOnly mid.disk new.disk (BeginsWith (acknowledged mid))
    → LeavesOnly old.disk new.disk (BeginsWith (stream_of members))
log_follows members old mid new first is run = followed_by old.disk mid.disk new.disk (BeginsWith (stream_of members)) first (log_leaves members mid new is run)

-- the ids of what was added behind some members
pub ids_behind : {X : Type 0} (f : List ℕ → X) (before after added : List (List ℕ)) (len : ℕ) → after ≡ before ++ added → len ≡ length before → map f (drop len after) ≡ map f added
ids_behind f before after added len behind is = ap (λ (l : List (List ℕ)). map f (drop len l)) behind ∙ ap (map f) (drop_at before added len (sym is))
