-- A front that is on the disk and left alone.
use Rattle.std.proofs.Common.{◌≡◌, ◌⊎◌, inl, inr, ℕ, ◌<◌, ◌≤◌, List, [], ◌∷◌, length, take, refl, sym, ◌∙◌, ap, subst, arith, IsTrue, Result}
use Rattle.std.proofs.lemmas.List.{get_or-take, length-take-le}
use Rattle.bec_disk.specs.Disk.{Moment, DiskState, IsImage, IsSettled, IsUnwritten, IsSameDisk, Writes, moments, synced_at, written_at}
use Rattle.bec_disk.specs.Front.{AllBehind, Keeps, WritesBehind}
use Rattle.bec_disk.proofs.Images.{same_numbers}
use Rattle.bec_disk.proofs.Moments.{newest-same, no_moment, one_moment, stays, followed_by, told, told_before}

unwritten_before : (n : ℕ) (ranges : List (ℕ × ℕ)) (i : ℕ) → i < n → AllBehind n ranges → IsUnwritten ranges i
unwritten_before n [] i lt behind = tt
unwritten_before n (range ∷ ranges) i lt behind = (inl (omega (arith, behind.0)), unwritten_before n ranges i lt behind.1)

-- a crash leaves a front that is kept
pub image-front : (n : ℕ) (front : List ℕ) (m : Moment) (c : List ℕ) → Keeps n front m → IsImage m c → take n c ≡ front
image-front n front m c keeps image =
    let long : n ≤ length c = omega (arith, keeps.longer, image.no_shorter) in
    let lc : length (take n c) ≡ n = length-take-le n c long in
    let ls : length (take n m.synced) ≡ n = length-take-le n m.synced keeps.long in
    same_numbers (take n c) (take n m.synced) (lc ∙ sym ls)
    (λ i lt. let lt' : i < n = omega (arith, lc) in
    get_or-take n c i 0 lt' ∙ image.kept i (omega (arith, keeps.long)) (omega arith) (unwritten_before n m.written i lt' keeps.behind) ∙ sym (get_or-take n m.synced i 0 lt'))
    ∙ keeps.is_front

pub Keeps-synced : (n : ℕ) (bytes : List ℕ) → n ≤ length bytes → Keeps n (take n bytes) (synced_at bytes)
Keeps-synced n bytes long = record { is_front = refl; long = long; longer = long; behind = tt }

pub Keeps-settled : (n : ℕ) (disk : DiskState) → IsSettled disk → n ≤ length disk.seen → Keeps n (take n disk.seen) disk.now
Keeps-settled n disk settled long = subst (λ (m : Moment). Keeps n (take n disk.seen) m) (sym settled) (Keeps-synced n disk.seen long)

pub Keeps-written : (n : ℕ) (front : List ℕ) (m : Moment) (at k : ℕ) → Keeps n front m → n ≤ at → Keeps n front (written_at at k m)
Keeps-written n front m at k keeps le = record { is_front = keeps.is_front; long = keeps.long; longer = keeps.longer; behind = (le, keeps.behind) }

-- a run that begins with a front that is kept
pub behind-kept : (n : ℕ) (front : List ℕ) (old : DiskState) → (IsTrue old.tells → Keeps n front old.now) → WritesBehind n front old old
behind-kept n front old keeps = record { keeps = keeps; run = stays old old (λ c. take n c ≡ front) refl (λ tells c image. image-front n front old.now c (keeps tells) image) }

-- a call after which one moment came that keeps the front, or none
one_call : (n : ℕ) (front : List ℕ) (old mid new : DiskState) (m : Moment) {X : Type 0} → WritesBehind n front old mid → IsSameDisk mid new
    → (IsTrue mid.tells → (moments new ≡ m ∷ moments mid) ⊎ (X × (new ≡ mid))) → (Keeps n front mid.now → Keeps n front m) → WritesBehind n front old new
one_call n front old mid new m so_far same counts more = record {
  keeps = λ tells. elim (counts (told old mid so_far.run.disk tells)) [
    | inl came ↦ subst (λ (k : Moment). Keeps n front k) (sym (newest-same new.now m new.past (moments mid) came)) (more (so_far.keeps tells))
    | inr none ↦ subst (λ (s : DiskState). Keeps n front s.now) (sym none.1) (so_far.keeps tells)
  ];
  run = followed_by old mid new (λ c. take n c ≡ front) so_far.run record {
    disk = same;
    first = λ tells c image. image-front n front mid.now c (so_far.keeps (told_before old mid so_far.run.disk tells)) image;
    run = λ tells. elim (counts tells) [
      | inl came ↦ one_moment (moments mid) (moments new) m (λ c. take n c ≡ front) came (λ c image. image-front n front m c (more (so_far.keeps (told_before old mid so_far.run.disk tells))) image)
      | inr none ↦ no_moment (moments mid) (moments new) (λ c. take n c ≡ front) (ap moments none.1)
    ];
  };
}

-- a write behind the front
pub behind-write : {T E : Type 0} (n : ℕ) (front : List ℕ) (old mid new : DiskState) (at : ℕ) (bytes : List ℕ) (result : Result T E) → WritesBehind n front old mid → n ≤ at → Writes mid at bytes result new
    → WritesBehind n front old new
behind-write n front old mid new at bytes result so_far le writes =
    one_call n front old mid new (written_at at (length bytes) mid.now) so_far writes.disk writes.counts (λ keeps. Keeps-written n front mid.now at (length bytes) keeps le)
