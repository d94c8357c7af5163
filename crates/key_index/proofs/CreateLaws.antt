-- What is left of the parts of a key when it is created, or not.
use Rattle.std.proofs.Common.{◌≡◌, inl, inr, ℕ, zero, suc, List, ◌∷◌, length, refl, sym, ◌∙◌, ap, subst, ◌⊎◌, Bool, IsTrue, Result, Ok, Err, arith}
use Rattle.std.specs.Prelude.{false, replicate, IsErr, None}
use Rattle.std.proofs.Math.Nat.{le_trans}
use Rattle.std.proofs.lemmas.Bool.{true≢false}
use Rattle.std.proofs.lemmas.List.{length-replicate}
use Rattle.bec_disk.specs.Disk.{DiskState, IsSameDisk, IsSettled, LeavesOnly}
use Rattle.bec_disk.specs.Gated.{IsOldOrNew, gated_of, whole_of}
use Rattle.bec_disk.specs.declared.gated.Gated.TheVariants.{Absent}
use Rattle.bec_disk.proofs.Images.{settled_image}
use Rattle.bec_disk.proofs.Moments.{same_disk, stays, told_before}
use Rattle.bec_disk.specs.declared.disk_error.DiskError.{DiskError}
use Rattle.bec_disk.specs.declared.disk_error.DiskError.TheVariants as disk
use Rattle.lms_tree.specs.LmsKind.{leaf_count}
use Rattle.lms_tree.specs.SecretKey.{SecretData}
use Rattle.key_index.specs.Creating.{Creating, CreatesKey, IsOnDisk, RefusesToCreate, WritesParts}
use Rattle.key_index.specs.Faults.{creating_kind}
use Rattle.key_index.specs.declared.faults.CreateKeyKind.TheVariants as creating
use Rattle.key_index.specs.KeyState.{KeyParts, KeyState, AreLater, AreSame, AreSettled, OneRose}
use Rattle.key_index.specs.Kept.{IsStore}
use Rattle.key_index.specs.Payload.{payload_of}
use Rattle.key_index.specs.Used.{none_used, used_in}
use Rattle.key_index.proofs.OpenLaws.{settled_free}

-- a settled part that was left alone stands for what it stood for
pub left_alone : (old new : DiskState) (payload : List ℕ) → new ≡ old → (IsTrue old.tells → IsSettled old) → LeavesOnly old new (IsOldOrNew old.seen payload)
left_alone old new payload same settled =
    stays old new (IsOldOrNew old.seen payload) same (λ tells. settled_image old (IsOldOrNew old.seen payload) (settled tells) (inr (inr refl)))

-- nothing was written
pub nothing_written : (secret : SecretData) (old new : KeyParts) → AreSettled old → AreSame old new → AreLater old new → Creating secret old new
nothing_written secret old new settled same later = record {
  there = λ tells there. same;
  any_moment = left_alone old.key new.key (payload_of secret) same.key_same settled.key_settled;
  order = λ tells. inl same.key_same;
  used_disk = same_disk old.used new.used same.used_same;
  later = later;
}

-- a refusal before anything was written
pub refused_early : (secret : SecretData) (old new : KeyParts) (error : DiskError) → AreSettled old → AreSame old new → AreLater old new → (error ≡ disk.DiskFault → OneRose old new) → RefusesToCreate secret old (creating_kind error) new
refused_early secret old new disk.DiskFault settled same later failed = record {
  creating = nothing_written secret old new settled same later;
  key_there = λ tells why. absurd cc;
  same = λ why. same;
  disk_fault = λ why. failed refl;
}
refused_early secret old new disk.Memory settled same later failed = record {
  creating = nothing_written secret old new settled same later;
  key_there = λ tells why. absurd cc;
  same = λ why. same;
  disk_fault = λ why. absurd cc;
}

-- Key was not written, since Used failed
pub used_failed : {T E : Type 0} (payload : List ℕ) (n : ℕ) (old new : KeyParts) (result : Result T E) → IsErr result → AreSettled old → new.key ≡ old.key → IsSameDisk old.used new.used → AreLater old new → OneRose old new
    → WritesParts payload n old result new
used_failed payload n old new (Ok value) err settled same disk later rose = absurd (true≢false (sym err))
used_failed payload n old new (Err error) err settled same disk later rose = record {
  any_moment = left_alone old.key new.key payload same settled.key_settled;
  order = λ tells. inl same;
  used_disk = disk;
  key = λ tells. tt;
  used = λ tells. tt;
  later = later;
  failed = rose;
}

-- the parts were written where Key was absent and nothing had been written before
wrote : {T E : Type 0} (secret : SecretData) (old mid new : KeyParts) (payload : List ℕ) (n : ℕ) (result : Result T E) → AreSame old mid → AreLater old mid → (IsTrue old.key.tells → gated_of old.key.seen ≡ Absent)
    → payload ≡ payload_of secret → n ≡ leaf_count secret.lms → WritesParts payload n mid result new → Creating secret old new
wrote secret old mid new payload n result same later absent spelled long writes = record {
  there = λ tells there. absurd (there (absent tells));
  any_moment = subst (λ (bytes : List ℕ). LeavesOnly old.key new.key (IsOldOrNew old.key.seen bytes)) spelled (subst (λ (s : DiskState). LeavesOnly s new.key (IsOldOrNew s.seen payload)) same.key_same writes.any_moment);
  order = λ tells.
      let before = subst (λ (s : DiskState). IsTrue s.tells) (sym same.used_same) tells in
      subst (λ (k : ℕ). (new.key ≡ old.key) ⊎ IsOnDisk (none_used k) new.used) long (subst (λ (s : DiskState). (new.key ≡ s) ⊎ IsOnDisk (none_used n) new.used) same.key_same (writes.order before));
  used_disk = subst (λ (s : DiskState). IsSameDisk s new.used) same.used_same writes.used_disk;
  later = record { key_later = le_trans later.key_later writes.later.key_later; used_later = le_trans later.used_later writes.later.used_later };
}

-- a disk failed while the parts were written
pub writing_failed : {T E : Type 0} (secret : SecretData) (old mid new : KeyParts) (payload : List ℕ) (n : ℕ) (error : E) → AreSame old mid → AreLater old mid → (IsTrue old.key.tells → gated_of old.key.seen ≡ Absent)
    → payload ≡ payload_of secret → n ≡ leaf_count secret.lms → WritesParts {T = T} payload n mid (Err error) new → RefusesToCreate secret old creating.DiskFault new
writing_failed secret old mid new payload n error same later absent spelled long writes = record {
  creating = wrote secret old mid new payload n (Err error) same later absent spelled long writes;
  key_there = λ tells why. absurd cc;
  same = λ why. absurd (why refl);
  disk_fault = λ why. elim writes.failed [
    | inl key ↦ inl (omega (arith, later.key_later, key))
    | inr used ↦ inr (omega (arith, later.used_later, used))
  ];
}

-- the parts were written
pub parts_written : {T E : Type 0} (secret : SecretData) (old mid : KeyParts) (store : KeyState) (payload : List ℕ) (n : ℕ) (value : T) → AreSame old mid → AreLater old mid → (IsTrue old.key.tells → gated_of old.key.seen ≡ Absent)
    → payload ≡ payload_of secret → n ≡ leaf_count secret.lms → WritesParts {E = E} payload n mid (Ok value) store.parts → store.secret ≡ secret → store.taken ≡ replicate (leaf_count secret.lms) false
    → store.tried ≡ None → CreatesKey secret old store
parts_written secret old mid store payload n value same later absent spelled long writes made taken tried = record {
  creating = wrote secret old mid store.parts payload n (Ok value) same later absent spelled long writes;
  absent = absent;
  made = made;
  key = λ tells. subst (λ (bytes : List ℕ). IsOnDisk (whole_of bytes) store.parts.key) spelled (writes.key (subst (λ (s : DiskState). IsTrue s.tells) (sym same.key_same) tells));
  used = λ tells. subst (λ (k : ℕ). IsOnDisk (none_used k) store.parts.used) long (writes.used (subst (λ (s : DiskState). IsTrue s.tells) (sym same.used_same) tells));
  taken = taken;
  tried = tried;
}

-- bytes that are 0 for each of n indices
pub unused_count : (bytes : List ℕ) (n : ℕ) → bytes ≡ none_used n → length bytes ≡ n
unused_count bytes n is = ap length is ∙ length-replicate n 0

-- no error of a disk says that there is a key
pub not_there : (error : DiskError) → creating_kind error ≡ creating.KeyThere → ⊥
not_there disk.DiskFault why = absurd cc
not_there disk.Memory why = absurd cc

none_are_used : (n : ℕ) → used_in (none_used n) ≡ replicate n false
none_are_used zero = refl
none_are_used (suc n) = ap (λ (l : List Bool). false ∷ l) (none_are_used n)

-- a key that was created is a store
pub new_store : (secret : SecretData) (old : KeyParts) (store : KeyState) → CreatesKey secret old store → IsStore store.parts.used store.secret store.taken
new_store secret old store made = record {
  long = ap length made.taken ∙ length-replicate (leaf_count secret.lms) false ∙ ap (λ (s : SecretData). leaf_count s.lms) (sym made.made);
  free = λ tells.
      let used = made.used (told_before old.used store.parts.used made.creating.used_disk tells) in
      settled_free store.parts.used store.taken used.settled (made.taken ∙ sym (none_are_used (leaf_count secret.lms)) ∙ ap used_in (sym used.seen));
}
