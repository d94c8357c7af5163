-- What a crash leaves at each moment of a call.
use Rattle.std.proofs.Common.{◌≡◌, ◌⊎◌, inl, inr, ℕ, ◌+◌, List, ◌∷◌, length, sym, ◌∙◌, ap, subst, arith, IsTrue, Result, Ok, Err}
use Rattle.bec_disk.specs.Disk.{Moment, DiskState, IsImage, EveryImage, LeavesOnly, IsSettled, Writes, Cuts, Syncs, moments, synced_at, written_at, cut_at}
use Rattle.bec_disk.specs.Images.{IsTornFrom, IsCutFrom}
use Rattle.bec_disk.proofs.Images.{image-synced, image-before_write, image-before_cut, torn-none, cut-none}
use Rattle.bec_disk.proofs.Moments.{newest-same, no_moment, one_moment, leaves_now, followed_by, told}

-- a call after which one moment came, or none
one_call : (old new : DiskState) (m : Moment) (P : List ℕ → Type 0) {X : Type 0} → Rattle.bec_disk.specs.Disk.IsSameDisk old new → (IsTrue old.tells → (moments new ≡ m ∷ moments old) ⊎ (X × (new ≡ old)))
    → (IsTrue old.tells → EveryImage old.now P) → (IsTrue old.tells → EveryImage m P) → LeavesOnly old new P
one_call old new m P same counts first here = record {
  disk = same;
  first = first;
  run = λ tells. elim (counts tells) [
    | inl more ↦ one_moment (moments old) (moments new) m P more (here tells)
    | inr none ↦ no_moment (moments old) (moments new) P (ap moments none.1)
  ];
}

-- a write to any disk, whether it failed or not
pub any_write : {T E : Type 0} (old new : DiskState) (at : ℕ) (bytes : List ℕ) (result : Result T E) → (IsTrue old.tells → IsImage old.now old.seen) → Writes old at bytes result new
    → LeavesOnly old new (IsTornFrom old.now at (at + length bytes))
any_write old new at bytes result reads writes =
    one_call old new (written_at at (length bytes) old.now) (IsTornFrom old.now at (at + length bytes)) writes.disk writes.counts
    (λ tells c image. (c, image, torn-none at (at + length bytes) c))
    (λ tells c image. image-before_write old.now at (length bytes) c (omega (arith, (reads tells).no_shorter, (reads tells).no_longer)) image)

-- a cut of any disk, whether it failed or not
pub any_cut : {T E : Type 0} (old new : DiskState) (len : ℕ) (result : Result T E) → (IsTrue old.tells → IsImage old.now old.seen) → Cuts old len result new
    → LeavesOnly old new (IsCutFrom old.now len)
any_cut old new len result reads cuts =
    one_call old new (cut_at len old.now) (IsCutFrom old.now len) cuts.disk cuts.counts
    (λ tells c image. (c, image, cut-none len c))
    (λ tells c image. image-before_cut old.now len c (omega (arith, (reads tells).no_shorter, (reads tells).no_longer)) image)

-- a sync after a run
pub then_synced : {T E : Type 0} (old mid new : DiskState) (P : List ℕ → Type 0) (result : Result T E) → LeavesOnly old mid P → (IsTrue mid.tells → IsImage mid.now mid.seen) → Syncs mid result new
    → LeavesOnly old new P
then_synced old mid new P result run reads syncs = followed_by old mid new P run record {
  disk = syncs.disk;
  first = λ tells. here (before tells);
  run = λ tells. by_result result (syncs.counts tells) (syncs.failed tells) (reads tells) (before tells);
}
  where
    before : IsTrue mid.tells → IsTrue old.tells
    before tells = Rattle.bec_disk.proofs.Moments.told_before old mid run.disk tells

    here : IsTrue old.tells → EveryImage mid.now P
    here tells = leaves_now old mid P run tells

    by_result : {T E : Type 0} (result : Result T E) → Rattle.std.specs.Prelude.OnOk result (moments new ≡ synced_at mid.seen ∷ moments mid) → Rattle.std.specs.Prelude.OnErr result (new ≡ mid) → IsImage mid.now mid.seen → IsTrue old.tells
        → Rattle.bec_disk.specs.Disk.LeavesSince (moments mid) (moments new) P
    by_result (Ok value) more same is_image tells = one_moment (moments mid) (moments new) (synced_at mid.seen) P more (λ c image. subst P (sym (image-synced mid.seen c image)) (here tells mid.seen is_image))
    by_result (Err error) more same is_image tells = no_moment (moments mid) (moments new) P (ap moments same)

-- after a sync that succeeded the disk is settled
pub synced_settled : (old new : DiskState) → new.seen ≡ old.seen → moments new ≡ synced_at old.seen ∷ moments old → IsSettled new
synced_settled old new seen more = newest-same new.now (synced_at old.seen) new.past (moments old) more ∙ ap synced_at (sym seen)
