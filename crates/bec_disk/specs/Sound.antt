-- As a disk in memory reads, a crash may leave it; and so it may what was synced, and a mixture of the two.
use Rattle.std.specs.Prelude.{◌≡◌, ◌⊎◌, ℕ, ◌+◌, ◌-◌, ◌<◌, ◌≤◌, List, [], ◌∷◌, ◌++◌, length, take, drop, nat_le, refl, true, false, max, Bool}
use Rattle.std.proofs.Common.{zero, suc, get_or, arith, ◌∙◌, ap, inl, inr, ⊎_elim, length-append, length-drop}
use Rattle.std.proofs.lemmas.List.{get_or-take, get_or-drop, get_or-append_right, length-take, length-take-le}
use Rattle.std.proofs.lemmas.Bool.{leb-true}
use Rattle.bec_disk.specs.Disk.{Moment, IsImage, synced_at, written_at, cut_at, overwritten}
use Rattle.bec_disk.specs.declared.disk_call.DiskCall.{DiskCall}
use Rattle.bec_disk.specs.declared.disk_call.DiskCall.TheVariants.{Wrote, WriteFailed, Cut, CutFailed, Settled}
use Rattle.bec_disk.specs.Replay.{History, MemDiskState, IsMixed, after_call, replayed, wrote_if, begun_with, state_of}

get_or-append_left : (xs ys : List ℕ) (i : ℕ) → i < length xs → get_or (xs ++ ys) i 0 ≡ get_or xs i 0
get_or-append_left [] ys i lt = absurd (omega arith)
get_or-append_left (x ∷ xs) ys zero lt = refl
get_or-append_left (x ∷ xs) ys (suc i) lt = get_or-append_left xs ys i (omega arith)

-- how long it is then
length-over : (old : List ℕ) (at : ℕ) (bytes : List ℕ) → at ≤ length old → length (overwritten old at bytes) ≡ max (length old) (at + length bytes)
length-over old at bytes le =
    omega (arith, length-append (take at old ++ bytes) (drop (at + length bytes) old), length-append (take at old) bytes, length-take-le at old le, length-drop (at + length bytes) old)

-- outside of the range nothing changes
outside : (old : List ℕ) (at : ℕ) (bytes : List ℕ) (i : ℕ) → at ≤ length old → i < length (overwritten old at bytes) → (i < at) ⊎ (at + length bytes ≤ i) → get_or (overwritten old at bytes) i 0 ≡ get_or old i 0
outside old at bytes i le lt (inl before) =
    let front : length (take at old) ≡ at = length-take-le at old le in
    let lt1 : i < length (take at old) = omega (arith, front) in
    let lt2 : i < length (take at old ++ bytes) = omega (arith, front, length-append (take at old) bytes) in
    get_or-append_left (take at old ++ bytes) (drop (at + length bytes) old) i lt2 ∙ get_or-append_left (take at old) bytes i lt1 ∙ get_or-take at old i 0 before
outside old at bytes i le lt (inr behind) =
    let front : length (take at old ++ bytes) ≡ at + length bytes = omega (arith, length-append (take at old) bytes, length-take-le at old le) in
    let back : (at + length bytes) + (i - (at + length bytes)) ≡ i = omega arith in
    get_or-append_right (take at old ++ bytes) (drop (at + length bytes) old) (at + length bytes) i 0 front behind
    ∙ get_or-drop (at + length bytes) old (i - (at + length bytes)) 0
    ∙ ap (λ (k : ℕ). get_or old k 0) back

-- as the disk reads, a crash may leave it
IsSound : History → Type 0
IsSound disk = IsImage disk.now disk.seen

sound-written : (m : Moment) (seen : List ℕ) (at : ℕ) (bytes : List ℕ) → at ≤ length seen → IsImage m seen → IsImage (written_at at (length bytes) m) (overwritten seen at bytes)
sound-written m seen at bytes le image =
    let long = length-over seen at bytes le in
    record {
      no_shorter = omega (arith, long, image.no_shorter);
      no_longer = omega (arith, long, image.no_longer);
      kept = λ i lt lt' out. outside seen at bytes i le lt' out.0 ∙ image.kept i lt (⊎_elim (λ before. omega arith) (λ behind. omega (arith, long)) out.0) out.1;
    }

sound-failed : (m : Moment) (seen : List ℕ) (at n : ℕ) → IsImage m seen → IsImage (written_at at n m) seen
sound-failed m seen at n image = record { no_shorter = image.no_shorter; no_longer = omega (arith, image.no_longer); kept = λ i lt lt' out. image.kept i lt lt' out.1 }

sound-cut : (m : Moment) (seen : List ℕ) (len : ℕ) → IsImage m seen → IsImage (cut_at len m) (take len seen)
sound-cut m seen len image = record {
  no_shorter = omega (arith, image.no_shorter, length-take len seen);
  no_longer = omega (arith, image.no_longer, length-take len seen);
  kept = λ i lt lt' out. get_or-take len seen i 0 (omega (arith, length-take len seen)) ∙ image.kept i lt (omega (arith, length-take len seen)) out;
}

sound-cut_failed : (m : Moment) (seen : List ℕ) (len : ℕ) → IsImage m seen → IsImage (cut_at len m) seen
sound-cut_failed m seen len image = record { no_shorter = omega (arith, image.no_shorter); no_longer = image.no_longer; kept = image.kept }

sound-synced : (seen : List ℕ) → IsImage (synced_at seen) seen
sound-synced seen = record { no_shorter = omega arith; no_longer = omega arith; kept = λ i lt lt' out. refl }

sound-if : (b : Bool) (disk : History) (at : ℕ) (bytes : List ℕ) → (b ≡ true → at ≤ length disk.seen) → IsSound disk → IsSound (wrote_if b disk at bytes)
unfolding IsSound
sound-if true disk at bytes le sound = sound-written disk.now disk.seen at bytes (le refl) sound
sound-if false disk at bytes le sound = sound

sound-call : (disk : History) (call : DiskCall) → IsSound disk → IsSound (after_call disk call)
unfolding IsSound
sound-call disk (Wrote at bytes) sound = sound-if (nat_le at (length disk.seen)) disk at bytes (leb-true at (length disk.seen)) sound
sound-call disk (WriteFailed at n) sound = sound-failed disk.now disk.seen at n sound
sound-call disk (Cut len) sound = sound-cut disk.now disk.seen len sound
sound-call disk (CutFailed len) sound = sound-cut_failed disk.now disk.seen len sound
sound-call disk Settled sound = sound-synced disk.seen

sound-replayed : (disk : History) (calls : List DiskCall) → IsSound disk → IsSound (replayed disk calls)
sound-replayed disk [] sound = sound
sound-replayed disk (call ∷ calls) sound = sound-replayed (after_call disk call) calls (sound-call disk call sound)

pub replayed-reads : (start : List ℕ) (calls : List DiskCall) → IsImage (replayed (begun_with start) calls).now (replayed (begun_with start) calls).seen
unfolding IsSound
replayed-reads start calls = sound-replayed (begun_with start) calls (sound-synced start)

pub state_reads : (disk : MemDiskState) → IsImage (state_of disk).now (state_of disk).seen
state_reads disk = replayed-reads disk.start disk.calls

-- and so it may what was synced
kept-call : (disk : History) (call : DiskCall) → IsImage disk.now disk.now.synced → IsImage (after_call disk call).now (after_call disk call).now.synced
kept-call disk (Wrote at bytes) kept = kept-if (nat_le at (length disk.seen)) disk at bytes kept
  where
    kept-if : (b : Bool) (disk : History) (at : ℕ) (bytes : List ℕ) → IsImage disk.now disk.now.synced → IsImage (wrote_if b disk at bytes).now (wrote_if b disk at bytes).now.synced
    kept-if true disk at bytes kept = sound-failed disk.now disk.now.synced at (length bytes) kept
    kept-if false disk at bytes kept = kept
kept-call disk (WriteFailed at n) kept = sound-failed disk.now disk.now.synced at n kept
kept-call disk (Cut len) kept = sound-cut_failed disk.now disk.now.synced len kept
kept-call disk (CutFailed len) kept = sound-cut_failed disk.now disk.now.synced len kept
kept-call disk Settled kept = sound-synced disk.seen

still-kept : (disk : History) (calls : List DiskCall) → IsImage disk.now disk.now.synced → IsImage (replayed disk calls).now (replayed disk calls).now.synced
still-kept disk [] kept = kept
still-kept disk (call ∷ calls) kept = still-kept (after_call disk call) calls (kept-call disk call kept)

pub replayed-kept : (start : List ℕ) (calls : List DiskCall) → IsImage (replayed (begun_with start) calls).now (replayed (begun_with start) calls).now.synced
replayed-kept start calls = still-kept (begun_with start) calls (sound-synced start)

-- and so it may a mixture of the two
pub image-mixed : (m : Moment) (seen image : List ℕ) → IsImage m seen → IsImage m m.synced → IsMixed m.synced seen image → IsImage m image
image-mixed m seen image reads kept mixed = record {
  no_shorter = ⊎_elim (λ is. omega (arith, is, kept.no_shorter)) (λ is. omega (arith, is, reads.no_shorter)) mixed.long;
  no_longer = ⊎_elim (λ is. omega (arith, is, kept.no_longer)) (λ is. omega (arith, is, reads.no_longer)) mixed.long;
  kept = λ i lt lt' out. ⊎_elim (λ of_synced. of_synced) (λ of_seen. of_seen.1 ∙ reads.kept i lt of_seen.0 out) (mixed.each i lt' lt);
}
