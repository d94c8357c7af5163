-- A directory that is opened and put back.
use Rattle.std.proofs.Common.{◌≡◌, ◌≢◌, ℕ, Bool, true, false, List, [], ◌∷◌, append-nil, refl, sym, ◌∙◌, subst, IfSome, IsTrue, None, Option, Some}
use Rattle.std.specs.Prelude.{◌||◌}
use Rattle.std.specs.List.{list_any}
use Rattle.std.proofs.lemmas.Bool.{true≢false}
use Rattle.bec_bytes.specs.Framed.{stream_of}
use Rattle.bec_disk.specs.declared.part.Part.TheVariants.{Schema, Updates, Key, Used}
use Rattle.bec_disk.specs.Disk.{handed_out}
use Rattle.bec_disk.specs.Shelf.{PartState, ShelfState, absent, out, stands as standing}
use Rattle.bec_disk.specs.Slot.{Slot, same_slot, slot}
use Rattle.bec_disk.proofs.Moments as moments
use Rattle.row_check.specs.Checksum.{is_luhn}
use Rattle.update_log.specs.Logset.{BeginsWith}
use Rattle.key_index.specs.KeyState.{KeyState}
use Rattle.replica.specs.Replicas.{ReplicaState}
use Rattle.key_directory.specs.declared.key_refusal.KeyRefusal.{KeyRefusal}
use Rattle.key_directory.specs.Keys.{IsKeyCause, IsKeyRefusalCause, LetsKeyGo}
use Rattle.key_directory.specs.Parts.{IsUntouched, part_in, reading}
use Rattle.key_directory.proofs.Places.{place_again, stands-not-out}
use Rattle.key_directory.proofs.Putting.{slot_of, told}
use Rattle.store_directory.specs.declared.opening.Needs.TheVariants as needed
use Rattle.store_directory.specs.Holding.{LetsGo, OpenData, PutsStore, TakesStore, WorksOn}
use Rattle.store_directory.specs.Opening.{Closes, ClosesStore, IsKeyIn, IsKeyOut, LetsAllGo, Opens}
use Rattle.store_directory.specs.Standing.{Stands}
use Rattle.store_directory.specs.Stores.{IsStore, StoreData, StoreRun}
use Rattle.store_directory.proofs.Readings.{OneSchema}
use Rattle.store_directory.proofs.Working.{read_before, store_of, worked_run}

-- ---- places

-- a part that was at most read is in its place if it was
pub in_place : (old new : PartState) → IsUntouched old new → old ≢ out → new ≢ out
in_place (standing old) (standing new) same place = stands-not-out (standing new) new refl
in_place (standing old) absent same place = absurd same
in_place (standing old) out same place = absurd same
in_place absent new same place = λ e. place (sym same ∙ e)
in_place out new same place = absurd (place refl)

-- a place that is none of four is none of the first two, and none of the last two
first_two : (a b c d : Bool) → a || (b || (c || (d || false))) ≡ false → a || (b || false) ≡ false
first_two true b c d e = absurd (true≢false e)
first_two false true c d e = absurd (true≢false e)
first_two false false c d e = refl

last_two : (a b c d : Bool) → a || (b || (c || (d || false))) ≡ false → c || (d || false) ≡ false
last_two true b c d e = absurd (true≢false e)
last_two false true c d e = absurd (true≢false e)
last_two false false c d e = e

pub of_four_first : (dir : List ℕ) (other : Slot) → list_any (λ part. same_slot (slot dir part) other) (Schema ∷ Updates ∷ Key ∷ Used ∷ []) ≡ false
    → list_any (λ part. same_slot (slot dir part) other) (Schema ∷ Updates ∷ []) ≡ false
of_four_first dir other = first_two (same_slot (slot dir Schema) other) (same_slot (slot dir Updates) other) (same_slot (slot dir Key) other) (same_slot (slot dir Used) other)

pub of_four_last : (dir : List ℕ) (other : Slot) → list_any (λ part. same_slot (slot dir part) other) (Schema ∷ Updates ∷ Key ∷ Used ∷ []) ≡ false
    → list_any (λ part. same_slot (slot dir part) other) (Key ∷ Used ∷ []) ≡ false
of_four_last dir other = last_two (same_slot (slot dir Schema) other) (same_slot (slot dir Updates) other) (same_slot (slot dir Key) other) (same_slot (slot dir Used) other)

-- ---- disks

-- the disks of a store that is taken are those of its parts, whatever was done to other parts
pub disks_of : (dir : List ℕ) (before opened closing : ShelfState) (taken : OpenData) (now : ReplicaState) → TakesStore is_luhn before dir taken opened → closing.tells ≡ opened.tells
    → now.log.disk.slot ≡ taken.replica.log.disk.slot
    → (IsTrue opened.tells → (part_in closing dir Schema ≡ part_in opened dir Schema) × (part_in closing dir Updates ≡ part_in opened dir Updates)) → IsTrue closing.tells
    → ((taken.schema.slot ≡ Some (slot dir Schema)) × (part_in closing dir Schema ≡ out)) × ((now.log.disk.slot ≡ Some (slot dir Updates)) × (part_in closing dir Updates ≡ out))
disks_of dir before opened closing taken now takes same same_slot_now kept tells =
    let opened_tells : IsTrue opened.tells = told closing.tells opened.tells (sym same) tells in
    let before_tells : IsTrue before.tells = told opened.tells before.tells (sym takes.tells) opened_tells in
    let s = takes.schema before_tells in
    let u = takes.updates before_tells in (
      (slot_of (slot dir Schema) s.0 taken.schema s.2, (kept opened_tells).0 ∙ takes.schema_out before_tells),
      (same_slot_now ∙ u.3.disk.slot ∙ slot_of (slot dir Updates) u.0 (handed_out (slot dir Updates) u.0) refl, (kept opened_tells).1 ∙ takes.updates_out before_tells),
    )

-- ---- a store that is put back as it was taken

works_none : (before opened : ShelfState) (dir : List ℕ) (taken : OpenData) (done : Bool) → TakesStore is_luhn before dir taken opened → Stands taken.replica → IsTrue before.tells → WorksOn taken taken.replica [] done
works_none before opened dir taken done takes stands tells =
    let members = taken.replica.history.members in record {
      schema = refl;
      members = sym (append-nil members);
      closed = stands.history_is.members;
      any_moment = moments.stays taken.replica.log.disk taken.replica.log.disk (BeginsWith (stream_of members)) refl stands.on_disk;
      on_disk = stands.on_disk;
      log = λ is_done. stands.log_is;
      clean = λ is_done log_tells. (takes.updates tells).2.clean refl;
    }

pub unworked_run : OneSchema → (before opened closing after : ShelfState) (dir : List ℕ) (taken : OpenData) (done : Bool) → IsTrue before.tells → IsTrue closing.tells → TakesStore is_luhn before dir taken opened
    → Stands taken.replica → PutsStore closing dir taken.schema taken.replica.log.disk after → StoreRun is_luhn before after dir [] done
unworked_run one before opened closing after dir taken done tells tells' takes stands puts =
    worked_run one is_luhn before opened closing after dir taken taken.replica [] done tells tells' takes (works_none before opened dir taken done takes stands tells) puts

-- ---- refusals

-- the parts of the key are in their places where the store is taken
pub key_still_in : (before opened : ShelfState) (dir : List ℕ) (taken : OpenData) → (IsTrue before.tells → IsKeyIn needed.StoreAndKey before dir) → TakesStore is_luhn before dir taken opened → IsTrue opened.tells
    → IsKeyIn needed.StoreAndKey opened dir
key_still_in before opened dir taken key_in takes tells =
    let is_in = key_in (told opened.tells before.tells (sym takes.tells) tells) in (
      subst (λ (p : PartState). p ≢ out) (sym (takes.others (slot dir Key) refl)) is_in.0,
      subst (λ (p : PartState). p ≢ out) (sym (takes.others (slot dir Used) refl)) is_in.1,
    )

-- the key was refused, and the store put back
module _ (before opened closing : ShelfState) (dir : List ℕ) (taken : OpenData) (takes : TakesStore is_luhn before dir taken opened) where
  pub store_beside : LetsKeyGo opened dir closing → IsTrue closing.tells
      → ((taken.schema.slot ≡ Some (slot dir Schema)) × (part_in closing dir Schema ≡ out)) × ((taken.replica.log.disk.slot ≡ Some (slot dir Updates)) × (part_in closing dir Updates ≡ out))
  store_beside lets = disks_of dir before opened closing taken taken.replica takes lets.tells refl (λ tells. (lets.others tells (slot dir Schema) refl, lets.others tells (slot dir Updates) refl))

  pub key_refused : OneSchema → (after : ShelfState) → (IsTrue before.tells → IsKeyIn needed.StoreAndKey before dir) → Stands taken.replica → LetsKeyGo opened dir closing
      → PutsStore closing dir taken.schema taken.replica.log.disk after → LetsAllGo needed.StoreAndKey before dir after
  key_refused one after key_in stands lets puts = record {
    tells = puts.tells ∙ lets.tells ∙ takes.tells;
    run = λ tells. unworked_run one before opened closing after dir taken false tells (closing_told tells) takes stands puts;
    key = λ tells.
        subst (λ (p : PartState). IsUntouched p (part_in after dir Key)) (takes.others (slot dir Key) refl)
        (subst (λ (p : PartState). IsUntouched (part_in opened dir Key) p) (sym (puts.others (closing_told tells) (slot dir Key) refl)) (lets.key_part (opened_told tells)));
    used = λ tells.
        subst (λ (p : PartState). IsUntouched p (part_in after dir Used)) (takes.others (slot dir Used) refl)
        (subst (λ (p : PartState). IsUntouched (part_in opened dir Used) p) (sym (puts.others (closing_told tells) (slot dir Used) refl)) (lets.used_part (opened_told tells)));
    others = λ tells other away.
        puts.others (closing_told tells) other (of_four_first dir other away) ∙ lets.others (opened_told tells) other (of_four_last dir other away) ∙ takes.others other (of_four_first dir other away);
    places = λ tells place here. place_again Schema Updates dir after
        (stands-not-out (part_in after dir Schema) taken.schema (puts.schema_back (closing_told tells)))
        (stands-not-out (part_in after dir Updates) taken.replica.log.disk (puts.updates_back (closing_told tells))) place
        (λ away. subst (λ (p : PartState). p ≢ out) (sym (puts.others (closing_told tells) place away)) (place_again Key Used dir closing
        (in_place (part_in opened dir Key) (part_in closing dir Key) (lets.key_part (opened_told tells)) (key_still_in before opened dir taken key_in takes (opened_told tells)).0)
        (in_place (part_in opened dir Used) (part_in closing dir Used) (lets.used_part (opened_told tells)) (key_still_in before opened dir taken key_in takes (opened_told tells)).1) place
        (λ far. subst (λ (p : PartState). p ≢ out) (sym (lets.others (opened_told tells) place far ∙ takes.others place away)) here)));
  }
    where
      opened_told : IsTrue before.tells → IsTrue opened.tells
      opened_told tells = told before.tells opened.tells takes.tells tells

      closing_told : IsTrue before.tells → IsTrue closing.tells
      closing_told tells = told opened.tells closing.tells lets.tells (opened_told tells)

-- why the key was refused, by what the directory had
pub key_cause : (before opened : ShelfState) (dir : List ℕ) (taken : OpenData) (why : KeyRefusal) → TakesStore is_luhn before dir taken opened → (IsTrue opened.tells → IsKeyCause opened dir why) → IsTrue before.tells
    → ((store : StoreData) × IsStore is_luhn before dir store) × IsKeyCause before dir why
key_cause before opened dir taken why takes cause tells = (
  (store_of taken.replica, read_before is_luhn before opened dir taken tells takes),
  subst (λ (p : PartState). IsKeyRefusalCause (reading p) (reading (part_in before dir Used)) why) (takes.others (slot dir Key) refl)
      (subst (λ (p : PartState). IsKeyRefusalCause (reading (part_in opened dir Key)) (reading p) why) (takes.others (slot dir Used) refl) (cause (told before.tells opened.tells takes.tells tells))),
)

-- ---- a directory that is opened for its store alone

-- the store was taken, and no key
pub store_opened : (before after : ShelfState) (dir : List ℕ) (store : OpenData) (key : Option KeyState) → Opens needed.Store before dir store key after → TakesStore is_luhn before dir store after × (key ≡ None)
store_opened before after dir store None takes = (takes, refl)
store_opened before after dir store (Some key) takes = absurd takes

-- and is put back
pub store_closed : (before after : ShelfState) (faults faults_new : ℕ) (dir : List ℕ) (store : OpenData) (key : Option KeyState) → key ≡ None → Closes before faults dir store key after faults_new
    → ClosesStore before faults dir store after faults_new
store_closed before after faults faults_new dir store key none closes = subst (λ (k : Option KeyState). Closes before faults dir store k after faults_new) none closes

-- where no key was taken, none is to be put back
pub no_key_out : (shelf : ShelfState) (dir : List ℕ) (key : Option KeyState) → key ≡ None → IfSome key (IsKeyOut shelf dir)
no_key_out shelf dir key none = subst (λ (k : Option KeyState). IfSome k (IsKeyOut shelf dir)) (sym none) tt

-- where nothing was opened, no store was taken
pub no_store_taken : (before after : ShelfState) (dir : List ℕ) → LetsAllGo needed.Store before dir after → LetsGo is_luhn before dir after
no_store_taken before after dir lets = record { tells = lets.tells; run = lets.run; others = lets.others; places = lets.places }
