-- What one more call in the record of a disk in memory does.
use Rattle.std.proofs.Common.{◌≡◌, ◌≢◌, ◌⊎◌, inl, inr, ⊎_elim, ℕ, ◌+◌, ◌-◌, ◌<◌, ◌≤◌, Bool, true, false, List, [], ◌∷◌, ◌++◌, length, take, get_or, refl, sym, ◌∙◌, ap, subst, arith, Some, Ok, Err}
use Rattle.std.proofs.lemmas.List.{take_more}
use Rattle.std.specs.Prelude.{nat_le, if◌then◌else◌, Option}
use Rattle.std.proofs.lemmas.Bool.Decides.{nat_tests}
use Rattle.bec_bytes.specs.Causes.{one_more}
use Rattle.bec_disk.specs.Disk.{Moment, IsImage, handed_out, Writes, Cuts, Syncs, overwritten, written_at}
use Rattle.bec_disk.specs.Plan.{PlanState, IsToFail}
use Rattle.bec_disk.specs.Slot.{Slot}
use Rattle.bec_disk.specs.Replay.{History, MemDiskState, IsMixed, IsNoted, IsRecorded, state_of, settled_as, begun_with, goes_to, wrote_if, after_call, replayed, seen_after, shown}
use Rattle.bec_disk.specs.Sound.{replayed-reads, replayed-kept, image-mixed}
use Rattle.bec_disk.specs.declared.disk_call.DiskCall.{DiskCall}
use Rattle.bec_disk.specs.declared.disk_call.DiskCall.TheVariants.{Wrote, WriteFailed, Cut, CutFailed, Settled}

pub replayed-push : (history : History) (calls : List DiskCall) (call : DiskCall) → replayed history (calls ++ call ∷ []) ≡ after_call (replayed history calls) call
replayed-push history [] call = refl
replayed-push history (first ∷ calls) call = replayed-push (after_call history first) calls call

-- a record to which this call was added
pub added : (history : History) (old new : List DiskCall) (call : DiskCall) → new ≡ old ++ call ∷ [] → replayed history new ≡ after_call (replayed history old) call
added history old new call is = ap (replayed history) is ∙ replayed-push history old call

-- a record to which it was added where there was room
pub noted : (history : History) (old new : List DiskCall) (plan later : PlanState) (call : DiskCall) → IsNoted call old new plan later
    → (replayed history new ≡ after_call (replayed history old) call) ⊎ (replayed history new ≡ replayed history old)
noted history old new plan later call (inl is) = inl (added history old new call is.0)
noted history old new plan later call (inr is) = inr (ap (replayed history) is.0)

-- a call that was to fail came to its moment, or that it did not is counted
pub failed_recorded : (was : MemDiskState) (calls : List DiskCall) (mid plan : PlanState) (call : DiskCall) (moment : Moment)
    → (let before = replayed (begun_with was.start) was.calls in (after_call before call).now ∷ (after_call before call).past ≡ moment ∷ before.now ∷ before.past)
    → mid.unrecorded ≡ was.plan.unrecorded → (true ≡ true → IsToFail was.plan) → IsNoted call was.calls calls mid plan
    → IsRecorded was moment (record was { calls = calls; plan = plan })
failed_recorded was calls mid plan call moment is same fails (inl came) = record {
  failed = λ to_fail. inl (ap (λ (h : History). h.now ∷ h.past) (added (begun_with was.start) was.calls calls call came.0) ∙ is, ap (λ (p : PlanState). p.unrecorded) came.1 ∙ same);
  passed = λ passes. absurd (passes (fails refl));
}
failed_recorded was calls mid plan call moment is same fails (inr none) = record {
  failed = λ to_fail. inr (ap (λ (p : PlanState). p.unrecorded) none.1 ∙ ap one_more same);
  passed = λ passes. absurd (passes (fails refl));
}

-- a write that begins at or before the end
pub after_write : (history : History) (at : ℕ) (bytes : List ℕ) → at ≤ length history.seen → after_call history (Wrote at bytes) ≡ goes_to history (overwritten history.seen at bytes) (written_at at (length bytes) history.now)
after_write history at bytes le = ap (λ (b : Bool). wrote_if b history at bytes) (within at (length history.seen) le)
  where
    within : (m n : ℕ) → m ≤ n → nat_le m n ≡ true
    within m n le = grind (arith, nat_tests)

pub wrote : {E : Type 0} (slot : Option Slot) (old new : History) (at : ℕ) (bytes : List ℕ) → at ≤ length old.seen → new ≡ after_call old (Wrote at bytes)
    → Writes {E = E} (shown slot old) at bytes (Ok (tt {0})) (shown slot new)
wrote slot old new at bytes le is =
    let same = is ∙ after_write old at bytes le in
    record {
      disk = record { tells = refl; slot = refl };
      seen = λ tells. ap (λ (h : History). h.seen) same;
      counts = λ tells. inl (ap (λ (h : History). h.now ∷ h.past) same);
    }

pub write_failed : {T E : Type 0} (slot : Option Slot) (old new : History) (at : ℕ) (bytes : List ℕ) (error : E) → (new ≡ after_call old (WriteFailed at (length bytes))) ⊎ (new ≡ old)
    → Writes {T = T} (shown slot old) at bytes (Err error) (shown slot new)
write_failed slot old new at bytes error is = record {
  disk = record { tells = refl; slot = refl };
  seen = λ tells. tt {0};
  counts = λ tells. ⊎_elim (λ came. inl (ap (λ (h : History). h.now ∷ h.past) came)) (λ none. inr (refl, ap (shown slot) none)) is;
}

pub was_cut : {E : Type 0} (slot : Option Slot) (old new : History) (len : ℕ) → new ≡ after_call old (Cut len) → Cuts {E = E} (shown slot old) len (Ok (tt {0})) (shown slot new)
was_cut slot old new len is = record {
  disk = record { tells = refl; slot = refl };
  seen = λ tells. ap (λ (h : History). h.seen) is;
  counts = λ tells. inl (ap (λ (h : History). h.now ∷ h.past) is);
}

pub cut_failed : {T E : Type 0} (slot : Option Slot) (old new : History) (len : ℕ) (error : E) → (new ≡ after_call old (CutFailed len)) ⊎ (new ≡ old) → Cuts {T = T} (shown slot old) len (Err error) (shown slot new)
cut_failed slot old new len error is = record {
  disk = record { tells = refl; slot = refl };
  seen = λ tells. tt {0};
  counts = λ tells. ⊎_elim (λ came. inl (ap (λ (h : History). h.now ∷ h.past) came)) (λ none. inr (refl, ap (shown slot) none)) is;
}

pub was_synced : {E : Type 0} (slot : Option Slot) (old new : History) → new ≡ after_call old Settled → Syncs {E = E} (shown slot old) (Ok (tt {0})) (shown slot new)
was_synced slot old new is = record {
  disk = record { tells = refl; slot = refl };
  seen = λ tells. ap (λ (h : History). h.seen) is;
  counts = λ tells. ap (λ (h : History). h.now ∷ h.past) is;
  failed = λ tells. tt {0};
}

-- what is read after a call that failed
pub unseen : (old new : History) (call : DiskCall) → (after_call old call).seen ≡ old.seen → (new ≡ after_call old call) ⊎ (new ≡ old) → new.seen ≡ old.seen
unseen old new call same (inl is) = ap (λ (h : History). h.seen) is ∙ same
unseen old new call same (inr is) = ap (λ (h : History). h.seen) is

-- what is read after a call
pub seen-after : (history : History) (call : DiskCall) → (after_call history call).seen ≡ seen_after history.seen call
seen-after history (Wrote at bytes) = by_test (nat_le at (length history.seen))
  where
    by_test : (b : Bool) → (wrote_if b history at bytes).seen ≡ (if b then overwritten history.seen at bytes else history.seen)
    by_test true = refl
    by_test false = refl
seen-after history (WriteFailed at n) = refl
seen-after history (Cut len) = refl
seen-after history (CutFailed len) = refl
seen-after history Settled = refl

-- what was synced last, after a call that syncs nothing
pub still_synced : (history : History) (call : DiskCall) → call ≢ Settled → (after_call history call).now.synced ≡ history.now.synced
still_synced history (Wrote at bytes) other = by_test (nat_le at (length history.seen))
  where
    by_test : (b : Bool) → (wrote_if b history at bytes).now.synced ≡ history.now.synced
    by_test true = refl
    by_test false = refl
still_synced history (WriteFailed at n) other = refl
still_synced history (Cut len) other = refl
still_synced history (CutFailed len) other = refl
still_synced history Settled other = absurd (other refl)

-- the call behind the first ones
pub replayed-more : (history : History) (calls : List DiskCall) (i : ℕ) (default : DiskCall) → i < length calls → replayed history (take (i + 1) calls) ≡ after_call (replayed history (take i calls)) (get_or calls i default)
replayed-more history calls i default lt = added history (take i calls) (take (i + 1) calls) (get_or calls i default) (take_more calls i default lt)

-- where the last of the first calls synced
pub last_settled : (history : History) (calls : List DiskCall) (count : ℕ) (default : DiskCall) → 0 < count → count ≤ length calls → get_or calls (count - 1) default ≡ Settled
    → (replayed history (take count calls)).now.synced ≡ (replayed history (take count calls)).seen
last_settled history calls count default some within is =
    let back : (count - 1) + 1 ≡ count = omega (arith, some) in
    let one_more = replayed-more history calls (count - 1) default (omega (arith, some, within)) in
    let then_is = ap (λ (n : ℕ). replayed history (take n calls)) (sym back) ∙ one_more ∙ ap (after_call (replayed history (take (count - 1) calls))) is in
    subst (λ (h : History). h.now.synced ≡ h.seen) (sym then_is) refl

-- and where it did not
pub last_other : (history : History) (calls : List DiskCall) (count : ℕ) (default : DiskCall) → 0 < count → count ≤ length calls → get_or calls (count - 1) default ≢ Settled
    → (replayed history (take count calls)).now.synced ≡ (replayed history (take (count - 1) calls)).now.synced
last_other history calls count default some within other =
    let back : (count - 1) + 1 ≡ count = omega (arith, some) in
    let one_more = replayed-more history calls (count - 1) default (omega (arith, some, within)) in
    ap (λ (n : ℕ). (replayed history (take n calls)).now.synced) (sym back) ∙ ap (λ (h : History). h.now.synced) one_more
    ∙ still_synced (replayed history (take (count - 1) calls)) (get_or calls (count - 1) default) other

-- one call more was done to the bytes
pub replayed-step : (history : History) (calls : List DiskCall) (i : ℕ) (call : DiskCall) (bytes new : List ℕ) → i < length calls → call ≡ get_or calls i call → bytes ≡ (replayed history (take i calls)).seen → new ≡ seen_after bytes call
    → new ≡ (replayed history (take (i + 1) calls)).seen
replayed-step history calls i call bytes new lt is reads did =
    let before = replayed history (take i calls) in
    did ∙ ap (λ (l : List ℕ). seen_after l call) reads ∙ sym (seen-after before call) ∙ ap (λ (x : DiskCall). (after_call before x).seen) is
    ∙ sym (ap (λ (h : History). h.seen) (replayed-more history calls i call lt))

-- a mixture of what was synced last and of what is read
pub mixed_image : (start : List ℕ) (calls : List DiskCall) (synced bytes image : List ℕ) → synced ≡ (replayed (begun_with start) calls).now.synced → bytes ≡ (replayed (begun_with start) calls).seen → IsMixed synced bytes image
    → IsImage (replayed (begun_with start) calls).now image
mixed_image start calls synced bytes image is reads mixed =
    let history = replayed (begun_with start) calls in
    image-mixed history.now history.seen image (replayed-reads start calls) (replayed-kept start calls)
    (subst (λ (l : List ℕ). IsMixed l history.seen image) is (subst (λ (l : List ℕ). IsMixed synced l image) reads mixed))

-- a disk that is handed out
pub settled_handed : (slot : Slot) (disk : MemDiskState) → state_of (settled_as slot disk) ≡ handed_out slot (state_of disk)
settled_handed slot disk = ap (shown (Some slot)) (replayed-push (begun_with disk.start) disk.calls Settled)
