-- What a crash leaves in front of a disk.
use Rattle.std.proofs.Common.{◌≡◌, ℕ, ◌+◌, ◌-◌, ◌≤◌, Bool, true, List, [], ◌∷◌, ◌++◌, length, take, drop, refl, sym, ap, subst, ◌∙◌, append-nil, length-append, Result, Ok, Err, arith, IsTrue}
use Rattle.std.specs.Prelude.{OnErr}
use Rattle.std.proofs.lemmas.List.{length-take-le, nil_from_length, take_all, take_at}
use Rattle.std.proofs.Math.Seq.{take-append-add}
use Rattle.bec_bytes.specs.Framed.{stream_of}
use Rattle.bec_disk.specs.Disk.{DiskState, IsImage, IsSameDisk, EveryImage, IsSettled, LeavesOnly}
use Rattle.bec_disk.specs.Images.{IsCut, IsCutFrom}
use Rattle.bec_disk.proofs.Images.{settled_image, cut_settled}
use Rattle.bec_disk.proofs.Moments.{same_disk, stays, weakened, leaves_now, told_before}
use Rattle.update_model.specs.Rule.{RuleData}
use Rattle.update_check.specs.Members.{AreMembers}
use Rattle.update_log.specs.Logset.{BeginsWith, IsLogset}
use Rattle.update_log.specs.Log.{LogState, IsClean, IsKept, IsLogOf, KeepsLogset}
use Rattle.update_log.specs.Reading.{ReaderState, StopsAt, left_of}
use Rattle.update_log.proofs.Gathering.{stream_of-append, length-stream_of-append}
use Rattle.update_log.proofs.Logsets.{same_logset, stop_is_longest}

-- a front of bytes that begin so, no shorter than that
cut_begins : (seen front rest c : List ℕ) (end : ℕ) → seen ≡ front ++ rest → end ≡ length front → IsCut end seen c → BeginsWith front c
cut_begins seen front rest c end parts is cut =
    let all = ap length parts ∙ length-append front rest in
    let long : length front ≤ length c = omega (arith, cut.no_shorter, is, all) in
    let whole : length c ≡ length front + (length c - length front) = omega arith in
    (take (length c - length front) rest, cut.front ∙ ap (take (length c)) parts ∙ ap (λ (k : ℕ). take k (front ++ rest)) whole ∙ take-append-add front rest (length c - length front))

-- ---- opening

-- what was read stands for the members that were taken
pub stop_logset : (rule : RuleData) (bytes : List ℕ) (members : List (List ℕ)) → AreMembers rule members → StopsAt rule bytes members → IsLogset rule bytes members
stop_logset rule bytes members are stop = stop_is_longest rule bytes members stop.0 are stop.1 stop.2

pub whole_seen : (rule : RuleData) (bytes : List ℕ) (members : List (List ℕ)) (end : ℕ) → StopsAt rule bytes members → end ≡ length (stream_of members) → end ≡ length bytes → bytes ≡ stream_of members
whole_seen rule bytes members end stop is all =
    stop.1 ∙ ap (λ (l : List ℕ). stream_of members ++ l) (nil_from_length stop.0 (omega (arith, is, all, ap length stop.1, length-append (stream_of members) stop.0))) ∙ append-nil (stream_of members)

pub cut_seen : (rule : RuleData) (bytes : List ℕ) (members : List (List ℕ)) (end : ℕ) → StopsAt rule bytes members → end ≡ length (stream_of members) → take end bytes ≡ stream_of members
cut_seen rule bytes members end stop is = ap (take end) stop.1 ∙ take_at (stream_of members) stop.0 end (sym is)

-- a reader at the front reads the whole disk
pub stops_on_disk : (rule : RuleData) (reader : ReaderState) (old disk : DiskState) (members : List (List ℕ)) (len : ℕ) → reader ≡ record { ahead = []; at = 0; unread = len } → disk ≡ old
    → (IsTrue disk.tells → StopsAt rule (left_of reader disk.seen) members) → IsTrue old.tells → StopsAt rule old.seen members
stops_on_disk rule reader old disk members len front same stops =
    subst (λ (r : ReaderState). IsTrue old.tells → StopsAt rule (left_of r old.seen) members) front
    (subst (λ (s : DiskState). IsTrue s.tells → StopsAt rule (left_of reader s.seen) members) same stops)

-- nothing was done but reading
pub keeps_read : (rule : RuleData) (old new : DiskState) → (IsTrue old.tells → IsSettled old) → new ≡ old → KeepsLogset rule old new
keeps_read rule old new settled same = record {
  disk = same_disk old new same;
  any_moment = λ members is. stays old new (BeginsWith (stream_of members)) same (λ tells. settled_image old (BeginsWith (stream_of members)) (settled tells) (is tells).begins);
}

-- what stands behind the records was cut
pub keeps_cut : (rule : RuleData) (old mid new : DiskState) (graph : List (List ℕ)) (end : ℕ) → (IsTrue old.tells → IsSettled old) → mid ≡ old → AreMembers rule graph → end ≡ length (stream_of graph)
    → (IsTrue old.tells → StopsAt rule old.seen graph) → LeavesOnly mid new (IsCutFrom mid.now end) → KeepsLogset rule old new
keeps_cut rule old mid new graph end settled same are is stops run =
    let leaves = subst (λ (s : DiskState). LeavesOnly s new (IsCutFrom s.now end)) same run in
    record {
      disk = leaves.disk;
      any_moment = λ members logset. weakened old new (IsCutFrom old.now end) (BeginsWith (stream_of members)) leaves (λ tells c cut.
          let stop = stops tells in
          let one = same_logset rule old.seen members graph (logset tells) (stop_logset rule old.seen graph are stop) in
          subst (λ (l : List (List ℕ)). BeginsWith (stream_of l) c) (sym one) (cut_begins old.seen (stream_of graph) stop.0 c end stop.1 is (cut_settled old end c (settled tells) cut)));
    }

-- ---- what a log keeps

pub clean_kept : (end : ℕ) (is_unsure : Bool) (disk : DiskState) → IsClean end disk → IsKept end is_unsure disk
clean_kept end is_unsure disk clean =
    let size = clean.1 in
    record {
      long = omega (arith, size);
      stays = settled_image disk (BeginsWith (take end disk.seen)) clean.0 ([], sym (take_all end disk.seen (omega (arith, size))) ∙ sym (append-nil (take end disk.seen)));
      sure = λ sure. clean;
    }

-- where every crash leaves these bytes in front, a read has them in front too
pub front_seen : (end : ℕ) (disk : DiskState) (front : List ℕ) → IsImage disk.now disk.seen → EveryImage disk.now (BeginsWith front) → length front ≡ end → take end disk.seen ≡ front
front_seen end disk front reads every size = let begins = every disk.seen reads in ap (take end) begins.1 ∙ take_at front begins.0 end size

pub front_kept : (end : ℕ) (disk : DiskState) (front : List ℕ) → IsImage disk.now disk.seen → EveryImage disk.now (BeginsWith front) → length front ≡ end → IsKept end true disk
front_kept end disk front reads every size =
    let begins = every disk.seen reads in
    record {
      long = omega (arith, size, ap length begins.1, length-append front begins.0);
      stays = subst (λ (l : List ℕ). EveryImage disk.now (BeginsWith l)) (sym (front_seen end disk front reads every size)) every;
      sure = λ sure. absurd (Rattle.std.proofs.lemmas.Bool.true≢false sure);
    }

-- a cut behind what is kept
pub cut_kept : (end : ℕ) (is_unsure : Bool) (old new : DiskState) → (IsTrue old.tells → IsKept end is_unsure old) → LeavesOnly old new (IsCutFrom old.now end) → LeavesOnly old new (BeginsWith (take end old.seen))
cut_kept end is_unsure old new kept run = weakened old new (IsCutFrom old.now end) (BeginsWith (take end old.seen)) run (λ tells c cut.
    let begins = (kept tells).stays cut.0 cut.1 in
    let size = length-take-le end old.seen (kept tells).long in
    cut_begins cut.0 (take end old.seen) begins.0 c end begins.1 (sym size) cut.2)

-- a disk that has what is acknowledged and no more
pub clean_front : (end : ℕ) (disk : DiskState) → IsClean end disk → take end disk.seen ≡ disk.seen
clean_front end disk clean = let size = clean.1 in take_all end disk.seen (omega (arith, size))

-- ---- calls of a log

-- a run that leaves what is acknowledged in front
pub still_kept : (end : ℕ) (is_unsure : Bool) (old new : DiskState) → (IsTrue old.tells → IsKept end is_unsure old) → LeavesOnly old new (BeginsWith (take end old.seen)) → (IsTrue new.tells → IsImage new.now new.seen)
    → IsTrue new.tells → IsKept end true new
still_kept end is_unsure old new kept run reads tells =
    let before = told_before old new run.disk tells in
    front_kept end new (take end old.seen) (reads tells) (leaves_now old new (BeginsWith (take end old.seen)) run before) (length-take-le end old.seen (kept before).long)

-- the log is then of the same members
pub still_log_of : (members : List (List ℕ)) (is_unsure : Bool) (old new : LogState) → new.end ≡ old.end → (IsTrue old.disk.tells → IsKept old.end is_unsure old.disk)
    → LeavesOnly old.disk new.disk (BeginsWith (take old.end old.disk.seen)) → (IsTrue new.disk.tells → IsImage new.disk.now new.disk.seen) → IsLogOf members old → IsLogOf members new
still_log_of members is_unsure old new same kept run reads is = record {
  end = same ∙ is.end;
  acknowledged = λ tells.
      let before = told_before old.disk new.disk run.disk tells in
      let P : List ℕ → Type 0 = BeginsWith (take old.end old.disk.seen) in
      ap (λ (n : ℕ). take n new.disk.seen) same
      ∙ front_seen old.end new.disk (take old.end old.disk.seen) (reads tells) (leaves_now old.disk new.disk P run before) (length-take-le old.end old.disk.seen (kept before).long)
      ∙ is.acknowledged before;
}

-- of a clean disk, what is acknowledged is all
pub leaves_acknowledged : (end : ℕ) (old new : DiskState) → (IsTrue old.tells → IsClean end old) → LeavesOnly old new (BeginsWith old.seen) → LeavesOnly old new (BeginsWith (take end old.seen))
leaves_acknowledged end old new clean run =
    weakened old new (BeginsWith old.seen) (BeginsWith (take end old.seen)) run (λ tells c begins. subst (λ (l : List ℕ). BeginsWith l c) (sym (clean_front end old (clean tells))) begins)

-- a batch behind the members
pub added_log_of : (members batch : List (List ℕ)) (old new : LogState) → IsSameDisk old.disk new.disk → new.end ≡ old.end + length (stream_of batch) → (IsTrue old.disk.tells → IsClean old.end old.disk)
    → (IsTrue old.disk.tells → new.disk.seen ≡ old.disk.seen ++ stream_of batch) → IsLogOf members old → IsLogOf (members ++ batch) new
added_log_of members batch old new same longer clean seen is =
    let end : new.end ≡ length (stream_of (members ++ batch)) = omega (arith, longer, is.end, length-stream_of-append members batch) in
    record {
      end = end;
      acknowledged = λ tells.
          let before = told_before old.disk new.disk same tells in
          let all : new.disk.seen ≡ stream_of (members ++ batch) =
          seen before ∙ ap (λ (l : List ℕ). l ++ stream_of batch) (sym (clean_front old.end old.disk (clean before)) ∙ is.acknowledged before) ∙ sym (stream_of-append members batch) in
          ap (take new.end) all ∙ take_all new.end (stream_of (members ++ batch)) (omega (arith, end));
    }

pub vec_length : (xs items : List ℕ) (len n : ℕ) → length xs ≡ len → length xs ≡ n → length (take len (xs ++ drop (length xs) items)) ≡ n
vec_length xs items len n same is = ap length (take_at xs (drop (length xs) items) len same) ∙ is

pub on_err : {T E : Type 0} (result : Result T E) (P : Type 0) → P → OnErr result P
on_err (Ok value) P is = tt
on_err (Err error) P is = is
