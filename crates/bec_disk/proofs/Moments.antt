-- Lists of moments, and what a crash at one of them leaves.
use Rattle.std.proofs.Common.{◌≡◌, ℕ, List, [], ◌∷◌, ◌++◌, sym, ◌∙◌, ap, subst, append_assoc, Bool, IsTrue}
use Rattle.bec_disk.specs.Disk.{Moment, DiskState, EveryImage, AllImages, LeavesSince, LeavesOnly, IsSameDisk, moments}

newest : List Moment → Moment → Moment
newest [] default = default
newest (moment ∷ others) default = moment

-- two lists that are equal begin with the same moment
pub newest-same : (x y : Moment) (xs ys : List Moment) → x ∷ xs ≡ y ∷ ys → x ≡ y
unfolding newest
newest-same x y xs ys e = ap (λ (l : List Moment). newest l x) e

AllImages-map : (ms : List Moment) (P R : List ℕ → Type 0) → ((c : List ℕ) → P c → R c) → AllImages ms P → AllImages ms R
AllImages-map [] P R f each = tt
AllImages-map (m ∷ ms) P R f each = (λ c image. f c (each.0 c image), AllImages-map ms P R f each.1)

AllImages-append : (ms ns : List Moment) (P : List ℕ → Type 0) → AllImages ms P → AllImages ns P → AllImages (ms ++ ns) P
AllImages-append [] ns P a b = b
AllImages-append (m ∷ ms) ns P a b = (a.0, AllImages-append ms ns P a.1 b)

-- no moment came
pub no_moment : (before after : List Moment) (P : List ℕ → Type 0) → after ≡ before → LeavesSince before after P
no_moment before after P same = record { since = []; follow = same; each = tt }

-- one moment came
pub one_moment : (before after : List Moment) (m : Moment) (P : List ℕ → Type 0) → after ≡ m ∷ before → EveryImage m P → LeavesSince before after P
one_moment before after m P more here = record { since = m ∷ []; follow = more; each = (here, tt) }

-- one run after another
pub since_then : (old mid new : List Moment) (P : List ℕ → Type 0) → LeavesSince old mid P → LeavesSince mid new P → LeavesSince old new P
since_then old mid new P a b = record {
  since = b.since ++ a.since;
  follow = b.follow ∙ ap (λ (l : List Moment). b.since ++ l) a.follow ∙ sym (append_assoc b.since a.since old);
  each = AllImages-append b.since a.since P b.each a.each;
}

pub since_weakened : (old new : List Moment) (P R : List ℕ → Type 0) → LeavesSince old new P → ((c : List ℕ) → P c → R c) → LeavesSince old new R
since_weakened old new P R a f = record { since = a.since; follow = a.follow; each = AllImages-map a.since P R f a.each }

-- what a crash may leave now
pub leaves_now : (old new : DiskState) (P : List ℕ → Type 0) → LeavesOnly old new P → IsTrue old.tells → EveryImage new.now P
leaves_now old new P leaves tells = by_since (leaves.run tells).since (leaves.run tells).follow (leaves.run tells).each
  where
    by_since : (since : List Moment) → moments new ≡ since ++ moments old → AllImages since P → EveryImage new.now P
    by_since [] follow each = subst (λ (m : Moment). EveryImage m P) (sym (newest-same new.now old.now new.past old.past follow)) (leaves.first tells)
    by_since (m ∷ since) follow each = subst (λ (x : Moment). EveryImage x P) (sym (newest-same new.now m new.past (since ++ moments old) follow)) each.0

pub same_disk : (old new : DiskState) → new ≡ old → IsSameDisk old new
same_disk old new same = record { tells = ap (λ (s : DiskState). s.tells) same; slot = ap (λ (s : DiskState). s.slot) same }

pub then_same : (old mid new : DiskState) → IsSameDisk old mid → IsSameDisk mid new → IsSameDisk old new
then_same old mid new a b = record { tells = b.tells ∙ a.tells; slot = b.slot ∙ a.slot }

-- a disk that told still tells
pub told : (old new : DiskState) → IsSameDisk old new → IsTrue old.tells → IsTrue new.tells
told old new same tells = subst (λ (b : Bool). IsTrue b) (sym same.tells) tells

-- a disk that tells told before
pub told_before : (old new : DiskState) → IsSameDisk old new → IsTrue new.tells → IsTrue old.tells
told_before old new same tells = subst (λ (b : Bool). IsTrue b) same.tells tells

-- no call yet, or only reads
pub stays : (old new : DiskState) (P : List ℕ → Type 0) → new ≡ old → (IsTrue old.tells → EveryImage old.now P) → LeavesOnly old new P
stays old new P same here = record { disk = same_disk old new same; first = here; run = λ tells. no_moment (moments old) (moments new) P (ap moments same) }

-- one run after another
pub followed_by : (old mid new : DiskState) (P : List ℕ → Type 0) → LeavesOnly old mid P → LeavesOnly mid new P → LeavesOnly old new P
followed_by old mid new P a b = record {
  disk = then_same old mid new a.disk b.disk;
  first = a.first;
  run = λ tells. since_then (moments old) (moments mid) (moments new) P (a.run tells) (b.run (told old mid a.disk tells));
}

pub weakened : (old new : DiskState) (P R : List ℕ → Type 0) → LeavesOnly old new P → (IsTrue old.tells → (c : List ℕ) → P c → R c) → LeavesOnly old new R
weakened old new P R a f = record {
  disk = a.disk;
  first = λ tells c image. f tells c (a.first tells c image);
  run = λ tells. since_weakened (moments old) (moments new) P R (a.run tells) (f tells);
}
