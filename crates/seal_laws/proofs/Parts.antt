-- What is done to the two parts of one directory's key.
use Rattle.std.proofs.Common.{◌≡◌, inl, inr, ℕ, List, [], ◌∷◌, ◌++◌, refl, sym, ◌∙◌, ap, subst, arith, IsTrue, Option, Some, None, Result, Ok, length}
use Rattle.std.specs.Prelude.{◌≢◌, ◌+◌, ◌≤◌, ◌==◌, Bool, true, false, if◌then◌else◌, take, drop}
use Rattle.std.proofs.lemmas.Bool.Decides.{nat_tests}
use Rattle.std.proofs.lemmas.List.{append_cancel_right}
use Rattle.byteorder.specs.Endian.{big_bytes, big_number}
use Rattle.bec_disk.specs.Disk.{AllImages, DiskState, EveryImage, IsSettled, LeavesSince, Moment, handed_out, moments}
use Rattle.bec_disk.specs.Gated.{gated_of, whole_of}
use Rattle.bec_disk.specs.declared.gated.Gated.TheVariants.{Absent, Damaged, Whole}
use Rattle.bec_disk.specs.Shelf.{PartState, absent, moments_of, out, stands}
use Rattle.bec_disk.specs.Slot.{Slot}
use Rattle.bec_disk.proofs.Images.{settled_image}
use Rattle.bec_disk.proofs.Moments.{leaves_now, newest-same, no_moment, one_moment, since_weakened}
use Rattle.lms_tree.specs.SecretKey.{SecretData}
use Rattle.key_index.specs.Creating.{CreatesKey}
use Rattle.key_index.specs.KeyState.{KeyParts, KeyState}
use Rattle.key_index.specs.Lives.{IsThere, SomeImage}
use Rattle.key_index.specs.Payload.{payload_of}
use Rattle.key_index.specs.Reserving.{Reserves}
use Rattle.key_index.specs.Used.{IsUsed}
use Rattle.key_index.specs.declared.reserve.Reserve.{Reserve}
use Rattle.key_directory.specs.Parts.{IsHanded, IsUntouched, seen_in}
use Rattle.hss_directory.specs.Values.{IsReadable}
use Rattle.hss_directory.proofs.Lowers.{key_alone}
use Rattle.seal_laws.specs.Acts.{MayBeLeft}
use Rattle.seal_laws.specs.Worlds.{IsLeftWith, key_of, used_of}

-- ---- keys that are there

gate_open : (rest : List ℕ) → 4 ≤ length rest
    → gated_of (1 ∷ rest) ≡ (if length (1 ∷ rest) == 5 + big_number 4 (take 4 rest) then Whole (drop 4 rest) else Damaged)
gate_open rest long = grind (arith, nat_tests)

whole_or_damaged : (b : Bool) (payload : List ℕ) → (if b then Whole payload else Damaged) ≡ Absent → ⊥
whole_or_damaged true payload is = cc
whole_or_damaged false payload is = cc

whole_there : (payload : List ℕ) → IsThere (whole_of payload)
whole_there payload is =
    let rest : List ℕ = big_bytes 4 (length payload) ++ payload in
    whole_or_damaged (length (1 ∷ rest) == 5 + big_number 4 (take 4 rest)) (drop 4 rest) (sym (gate_open rest (omega arith)) ∙ is)

pub held_there : (payload bytes : List ℕ) → gated_of bytes ≡ Whole payload → IsThere bytes
held_there payload bytes whole none = cc

-- ---- what is known of a directory

-- The part stands, it reads with P, and whatever a crash leaves of it has P.
abbrev pub Fixed : PartState → (List ℕ → Type 0) → Type 0
Fixed absent P = ⊥
Fixed out P = ⊥
Fixed (stands part) P = P part.seen × EveryImage part.now P

-- An open key tells what it has and is there, and its parts are handed out.
pub record IsOpenKey (key : KeyState) (key_at used_at : PartState) : Type 0 where
  pub key_tells : IsTrue key.parts.key.tells
  pub used_tells : IsTrue key.parts.used.tells
  pub settled : IsSettled key.parts.key
  pub there : IsThere key.parts.key.seen
  pub key_out : key_at ≡ out
  pub used_out : used_at ≡ out

-- What is open is such a key.
abbrev pub IsWell : Option KeyState → PartState → PartState → Type 0
IsWell None key_at used_at = Unit {0}
IsWell (Some key) key_at used_at = IsOpenKey key key_at used_at

-- The key is there, and the index used, whatever a crash leaves.
abbrev pub StaysIn : ℕ → Option KeyState → PartState → PartState → Type 0
StaysIn index None key_at used_at = Fixed key_at IsThere × Fixed used_at (IsUsed index)
StaysIn index (Some key) key_at used_at = EveryImage key.parts.key.now IsThere × EveryImage key.parts.used.now (IsUsed index)

-- From one state of a directory to the next, an index that stays used does so at each moment.
pub record Goes (held : Option KeyState) (key_at used_at : PartState) (next : Option KeyState) (key_now used_now : PartState) : Type 0 where
  pub well : IsWell held key_at used_at → IsWell next key_now used_now
  pub stays : (index : ℕ) → IsWell held key_at used_at → StaysIn index held key_at used_at → StaysIn index next key_now used_now
  pub key_since : (index : ℕ) → IsWell held key_at used_at → StaysIn index held key_at used_at → LeavesSince (moments_of (key_of held key_at)) (moments_of (key_of next key_now)) IsThere
  pub used_since : (index : ℕ) → IsWell held key_at used_at → StaysIn index held key_at used_at
      → LeavesSince (moments_of (used_of held used_at)) (moments_of (used_of next used_now)) (IsUsed index)

-- ---- nothing is done

goes_on_as : (held : Option KeyState) (key_at used_at : PartState) → Goes held key_at used_at held key_at used_at
goes_on_as held key_at used_at = record {
  well = λ well. well;
  stays = λ index well stays. stays;
  key_since = λ index well stays. no_moment (moments_of (key_of held key_at)) (moments_of (key_of held key_at)) IsThere refl;
  used_since = λ index well stays. no_moment (moments_of (used_of held used_at)) (moments_of (used_of held used_at)) (IsUsed index) refl;
}

pub goes_same : (held next : Option KeyState) (key_at key_now used_at used_now : PartState) → next ≡ held → key_now ≡ key_at → used_now ≡ used_at → Goes held key_at used_at next key_now used_now
goes_same held next key_at key_now used_at used_now same key used =
    subst (λ (h : Option KeyState). Goes held key_at used_at h key_now used_now) (sym same)
    (subst (λ (p : PartState). Goes held key_at used_at held p used_now) (sym key)
    (subst (λ (p : PartState). Goes held key_at used_at held key_at p) (sym used) (goes_on_as held key_at used_at)))

-- ---- parts are at most read

now_since : (old new : DiskState) (P : List ℕ → Type 0) → EveryImage old.now P → LeavesSince (moments old) (moments new) P → EveryImage new.now P
now_since old new P first leaves = by leaves.since leaves.follow leaves.each
  where
    by : (since : List Moment) → moments new ≡ since ++ moments old → AllImages since P → EveryImage new.now P
    by [] follow each = subst (λ (m : Moment). EveryImage m P) (sym (newest-same new.now old.now new.past old.past follow)) first
    by (m ∷ since) follow each = subst (λ (x : Moment). EveryImage x P) (sym (newest-same new.now m new.past (since ++ moments old) follow)) each.0

since_read : (old new : PartState) (P : List ℕ → Type 0) → Fixed old P → IsUntouched old new → LeavesSince (moments_of old) (moments_of new) P
since_read absent new P fixed read = absurd fixed
since_read out new P fixed read = absurd fixed
since_read (stands old) absent P fixed read = absurd read
since_read (stands old) out P fixed read = absurd read
since_read (stands old) (stands new) P fixed read = since_weakened (moments old) (moments new) (λ image. image ≡ old.seen) P read.1 (λ c is. subst P (sym is) fixed.0)

fixed_read : (old new : PartState) (P : List ℕ → Type 0) → Fixed old P → IsUntouched old new → Fixed new P
fixed_read absent new P fixed read = absurd fixed
fixed_read out new P fixed read = absurd fixed
fixed_read (stands old) absent P fixed read = absurd read
fixed_read (stands old) out P fixed read = absurd read
fixed_read (stands old) (stands new) P fixed read = (subst P (sym read.0) fixed.0, now_since old new P fixed.1 (since_read (stands old) (stands new) P fixed read))

still_out : (old new : PartState) → old ≡ out → IsUntouched old new → new ≡ out
still_out old new is read = subst (λ (p : PartState). IsUntouched p new) is read

pub goes_read : (held : Option KeyState) (key_at key_now used_at used_now : PartState) → IsUntouched key_at key_now → IsUntouched used_at used_now → Goes held key_at used_at held key_now used_now
goes_read None key_at key_now used_at used_now key used = record {
  well = λ well. well;
  stays = λ index well stays. (fixed_read key_at key_now IsThere stays.0 key, fixed_read used_at used_now (IsUsed index) stays.1 used);
  key_since = λ index well stays. since_read key_at key_now IsThere stays.0 key;
  used_since = λ index well stays. since_read used_at used_now (IsUsed index) stays.1 used;
}
goes_read (Some open_key) key_at key_now used_at used_now key used = record {
  well = λ well. record {
    key_tells = well.key_tells;
    used_tells = well.used_tells;
    settled = well.settled;
    there = well.there;
    key_out = still_out key_at key_now well.key_out key;
    used_out = still_out used_at used_now well.used_out used;
  };
  stays = λ index well stays. stays;
  key_since = λ index well stays. no_moment (moments open_key.parts.key) (moments open_key.parts.key) IsThere refl;
  used_since = λ index well stays. no_moment (moments open_key.parts.used) (moments open_key.parts.used) (IsUsed index) refl;
}

-- ---- a key is taken

-- A part that stood is handed out as this disk.
pub record IsTaken (at : PartState) (disk : DiskState) : Type 0 where
  pub place : Slot
  pub part : DiskState
  pub stood : at ≡ stands part
  pub handed : disk ≡ handed_out place part

taken_now : (at : PartState) (disk : DiskState) (P : List ℕ → Type 0) → IsTaken at disk → Fixed at P → EveryImage disk.now P
taken_now at disk P taken fixed =
    let here : Fixed (stands taken.part) P = subst (λ (p : PartState). Fixed p P) taken.stood fixed in
    subst (λ (d : DiskState). EveryImage d.now P) (sym taken.handed) (settled_image (handed_out taken.place taken.part) P refl here.0)

taken_since : (at : PartState) (disk : DiskState) (P : List ℕ → Type 0) → IsTaken at disk → Fixed at P → LeavesSince (moments_of at) (moments disk) P
taken_since at disk P taken fixed =
    one_moment (moments_of at) (moments disk) disk.now P
    (ap moments taken.handed ∙ ap (λ (l : List Moment). (handed_out taken.place taken.part).now ∷ l) (sym (ap moments_of taken.stood)) ∙ ap (λ (m : Moment). m ∷ moments_of at) (sym (ap (λ (d : DiskState). d.now) taken.handed)))
    (taken_now at disk P taken fixed)

pub goes_taken : (key : KeyState) (key_at key_now used_at used_now : PartState) → IsTaken key_at key.parts.key → IsTaken used_at key.parts.used → IsThere key.parts.key.seen → key_now ≡ out → used_now ≡ out
    → Goes None key_at used_at (Some key) key_now used_now
goes_taken key key_at key_now used_at used_now of_key of_used there key_out used_out = record {
  well = λ well. record {
    key_tells = subst (λ (d : DiskState). IsTrue d.tells) (sym of_key.handed) refl;
    used_tells = subst (λ (d : DiskState). IsTrue d.tells) (sym of_used.handed) refl;
    settled = subst IsSettled (sym of_key.handed) refl;
    there = there;
    key_out = key_out;
    used_out = used_out;
  };
  stays = λ index well stays. (taken_now key_at key.parts.key IsThere of_key stays.0, taken_now used_at key.parts.used (IsUsed index) of_used stays.1);
  key_since = λ index well stays. taken_since key_at key.parts.key IsThere of_key stays.0;
  used_since = λ index well stays. taken_since used_at key.parts.used (IsUsed index) of_used stays.1;
}

-- ---- a key is made, or is not: where one is there, none is made

not_there : (place : Slot) (at : PartState) (disk : DiskState) → IsHanded place at disk → gated_of disk.seen ≡ Absent → Fixed at IsThere → ⊥
not_there place absent disk handed none fixed = fixed
not_there place out disk handed none fixed = fixed
not_there place (stands part) disk handed none fixed = fixed.0 (sym (ap (λ (d : DiskState). gated_of d.seen) handed) ∙ none)

pub handed_tells : (place : Slot) (at : PartState) (disk : DiskState) → IsHanded place at disk → IsTrue disk.tells
handed_tells place absent disk handed = subst (λ (d : DiskState). IsTrue d.tells) (sym handed) refl
handed_tells place out disk handed = absurd handed
handed_tells place (stands part) disk handed = subst (λ (d : DiskState). IsTrue d.tells) (sym handed) refl

pub goes_made : (secret : SecretData) (key : KeyState) (parts : KeyParts) (place : Slot) (key_at key_now used_at used_now : PartState) → IsHanded place key_at parts.key → CreatesKey secret parts key
    → IsTrue key.parts.key.tells → IsTrue key.parts.used.tells → key_now ≡ out → used_now ≡ out → Goes None key_at used_at (Some key) key_now used_now
goes_made secret key parts place key_at key_now used_at used_now handed creates key_tells used_tells key_out used_out =
    let tells = handed_tells place key_at parts.key handed in
    let on_disk = creates.key tells in
    let none : Fixed key_at IsThere → ⊥ = not_there place key_at parts.key handed (creates.absent tells) in
    record {
      well = λ well. record {
        key_tells = key_tells;
        used_tells = used_tells;
        settled = on_disk.settled;
        there = subst IsThere (sym on_disk.seen) (whole_there (payload_of secret));
        key_out = key_out;
        used_out = used_out;
      };
      stays = λ index well stays. absurd (none stays.0);
      key_since = λ index well stays. absurd (none stays.0);
      used_since = λ index well stays. absurd (none stays.0);
    }

fixed_gate : (at : PartState) → Fixed at IsThere → gated_of (seen_in at) ≢ Absent
fixed_gate absent fixed = absurd fixed
fixed_gate out fixed = absurd fixed
fixed_gate (stands part) fixed = fixed.0

pub goes_unmade : (key_at key_now used_at used_now : PartState) → (gated_of (seen_in key_at) ≢ Absent → IsUntouched key_at key_now × (used_now ≡ used_at)) → Goes None key_at used_at None key_now used_now
goes_unmade key_at key_now used_at used_now there = record {
  well = λ well. well;
  stays = λ index well stays.
      let same = there (fixed_gate key_at stays.0) in
      (fixed_read key_at key_now IsThere stays.0 same.0, subst (λ (p : PartState). Fixed p (IsUsed index)) (sym same.1) stays.1);
  key_since = λ index well stays. since_read key_at key_now IsThere stays.0 (there (fixed_gate key_at stays.0)).0;
  used_since = λ index well stays. no_moment (moments_of used_at) (moments_of used_now) (IsUsed index) (ap moments_of (there (fixed_gate key_at stays.0)).1);
}

-- ---- an open key tries an index

pub goes_tried : (key next : KeyState) (result : Result ℕ Reserve) (key_at key_now used_at used_now : PartState) → Reserves key result next → key_now ≡ key_at → used_now ≡ used_at
    → Goes (Some key) key_at used_at (Some next) key_now used_now
goes_tried key next result key_at key_now used_at used_now reserves key_same used_same =
    let alone : next.parts.key ≡ key.parts.key = (key_alone key next result reserves).0 in
    record {
      well = λ well. record {
        key_tells = subst (λ (d : DiskState). IsTrue d.tells) (sym alone) well.key_tells;
        used_tells = subst (λ (b : Bool). IsTrue b) (sym reserves.disk.tells) well.used_tells;
        settled = subst IsSettled (sym alone) well.settled;
        there = subst (λ (d : DiskState). IsThere d.seen) (sym alone) well.there;
        key_out = key_same ∙ well.key_out;
        used_out = used_same ∙ well.used_out;
      };
      stays = λ index well stays. (
        subst (λ (d : DiskState). EveryImage d.now IsThere) (sym alone) stays.0,
        leaves_now key.parts.used next.parts.used (IsUsed index) (reserves.kept index (λ _. stays.1)) well.used_tells,
      );
      key_since = λ index well stays. no_moment (moments key.parts.key) (moments next.parts.key) IsThere (ap moments alone);
      used_since = λ index well stays. (reserves.kept index (λ _. stays.1)).run well.used_tells;
    }

-- the one that it answers stays used from then on
pub signed_stays : (key next : KeyState) (index : ℕ) (key_at used_at : PartState) → Reserves key (Ok index) next → IsOpenKey key key_at used_at
    → EveryImage next.parts.key.now IsThere × EveryImage next.parts.used.now (IsUsed index)
signed_stays key next index key_at used_at reserves well = (
  subst (λ (d : DiskState). EveryImage d.now IsThere) (sym (key_alone key next (Ok index) reserves).0) (settled_image key.parts.key IsThere well.settled well.there),
  (reserves.reserved well.used_tells).used,
)

-- ---- a key is put back

pub goes_back : (key : KeyState) (key_at key_now used_at used_now : PartState) → key_now ≡ stands key.parts.key → used_now ≡ stands key.parts.used → IsReadable key
    → Goes (Some key) key_at used_at None key_now used_now
goes_back key key_at key_now used_at used_now key_back used_back readable = record {
  well = λ well. tt;
  stays = λ index well stays. (
    subst (λ (p : PartState). Fixed p IsThere) (sym key_back) (well.there, stays.0),
    subst (λ (p : PartState). Fixed p (IsUsed index)) (sym used_back) (stays.1 key.parts.used.seen (readable well.used_tells), stays.1),
  );
  key_since = λ index well stays. no_moment (moments key.parts.key) (moments_of key_now) IsThere (ap moments_of key_back);
  used_since = λ index well stays. no_moment (moments key.parts.used) (moments_of used_now) (IsUsed index) (ap moments_of used_back);
}

-- ---- a crash

pub left_with_key : (index : ℕ) (held : Option KeyState) (key_at used_at : PartState) → StaysIn index held key_at used_at → IsLeftWith (key_of held key_at) IsThere
left_with_key index None absent used_at stays = absurd stays.0
left_with_key index None out used_at stays = absurd stays.0
left_with_key index None (stands part) used_at stays = stays.0.1
left_with_key index (Some key) key_at used_at stays = stays.0

pub left_with_used : (index : ℕ) (held : Option KeyState) (key_at used_at : PartState) → StaysIn index held key_at used_at → IsLeftWith (used_of held used_at) (IsUsed index)
left_with_used index None key_at absent stays = absurd stays.1
left_with_used index None key_at out stays = absurd stays.1
left_with_used index None key_at (stands part) stays = stays.1.1
left_with_used index (Some key) key_at used_at stays = stays.1

-- what holds of whatever a crash leaves at these moments, and at one before, holds of these bytes
one_of : (since : List Moment) (now : Moment) (P : List ℕ → Type 0) (image : List ℕ) → AllImages since P → EveryImage now P → SomeImage (since ++ now ∷ []) image → P image
one_of [] now P image each first (inl is) = first image is
one_of [] now P image each first (inr none) = absurd none
one_of (m ∷ since) now P image each first (inl is) = each.0 image is
one_of (m ∷ since) now P image each first (inr other) = one_of since now P image each.1 first other

pub left_fixed : (old new after : PartState) (P : List ℕ → Type 0) → IsLeftWith old P → LeavesSince (moments_of old) (moments_of new) P → MayBeLeft old new after → Fixed after P
left_fixed absent new after P first leaves left = absurd first
left_fixed out new after P first leaves left = absurd first
left_fixed (stands old) new after P first leaves left =
    let same : leaves.since ≡ left.since = append_cancel_right leaves.since left.since (moments old) (sym leaves.follow ∙ left.follow) in
    let here : P left.disk.seen = one_of left.since old.now P left.disk.seen (subst (λ (since : List Moment). AllImages since P) same leaves.each) first left.moment in
    subst (λ (p : PartState). Fixed p P) (sym left.there) (here, settled_image left.disk P left.settled here)
