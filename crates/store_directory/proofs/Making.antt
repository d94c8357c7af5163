-- Making a store of two parts of a directory.
use Rattle.std.proofs.Common.{◌≡◌, ◌⊎◌, inl, inr, ℕ, ◌<◌, ◌^◌, List, [], ◌++◌, length, refl, ◌∙◌, ap, subst, IsTrue, OnOk, Result, Ok, Err, Some}
use Rattle.bec_disk.specs.declared.part.Part.{Part}
use Rattle.bec_disk.specs.declared.part.Part.TheVariants.{Schema, Updates}
use Rattle.bec_disk.specs.Disk.{DiskState, IsSameDisk, IsSettled}
use Rattle.bec_disk.specs.Gated.{gated_of, whole_of}
use Rattle.bec_disk.specs.declared.disk_fault.DiskFault.{DiskFault as DiskFailed}
use Rattle.bec_disk.proofs.Gates.{gated-whole}
use Rattle.bec_disk.specs.Shelf.{PartState, ShelfState, absent, out, stands}
use Rattle.bec_disk.specs.Slot.{Slot, same_slot, slot}
use Rattle.schema.specs.Data.{Meaning}
use Rattle.key_index.specs.Creating.{IsOnDisk}
use Rattle.schema.specs.Data.{Meaning}
use Rattle.replica.specs.Opening.{Creating, IsCreateCause, IsCreated}
use Rattle.replica.specs.declared.create_fault.CreateKind.{CreateKind}
use Rattle.replica.specs.declared.create_fault.CreateKind.TheVariants.{BadSchema, DiskFault, Memory, NotConfluent, NotEmpty}
use Rattle.store_directory.specs.Holding.{OpenData}
use Rattle.key_directory.specs.Parts.{HandsOutAny, IsHanded, part_in, reading}
use Rattle.store_directory.specs.Making.{IsNewStoreCause, MakesStore}
use Rattle.store_directory.specs.Memory.{behind, remembered_in}
use Rattle.key_directory.proofs.Places.{neither}
use Rattle.key_directory.proofs.Putting.{PutsAny, told}
use Rattle.key_directory.proofs.Making.{handed_slot}

-- The causes of a creation, by what the part Schema read as.
pub cause_before : (ask : Meaning) (place : Slot) (old : PartState) (disk : DiskState) (text : List ℕ) (why : CreateKind) → IsHanded place old disk → IsNewStoreCause ask (Some disk.seen) text why → IsNewStoreCause ask (reading old) text why
cause_before ask place absent disk text NotEmpty is cause = λ _. cause (ap (λ (d : DiskState). gated_of d.seen) is)
cause_before ask place absent disk text (BadSchema fault) is cause = (tt, cause.1)
cause_before ask place absent disk text (NotConfluent declared which example) is cause = (tt, cause.1)
cause_before ask place absent disk text DiskFault is cause = tt
cause_before ask place absent disk text Memory is cause = tt
cause_before ask place out disk text why is cause = absurd is
cause_before ask place (stands part) disk text why is cause = subst (λ (d : DiskState). IsNewStoreCause ask (Some d.seen) text why) is cause

pub create_cause : (ask : Meaning) (schema : DiskState) (text : List ℕ) (why : CreateKind) → IsTrue schema.tells → IsCreateCause ask schema text why → IsNewStoreCause ask (Some schema.seen) text why
create_cause ask schema text NotEmpty tells cause = cause tells
create_cause ask schema text (BadSchema fault) tells cause = (cause.0 tells, cause.1)
create_cause ask schema text (NotConfluent declared which example) tells cause = (cause.0 tells, cause.1)
create_cause ask schema text DiskFault tells cause = tt
create_cause ask schema text Memory tells cause = tt

-- the part Updates is empty where the part Schema is touched
pub order_of : (schema schema_new updates updates_new : DiskState) → (schema_new ≡ schema) ⊎ (IsTrue updates.tells → IsSettled updates_new × (updates_new.seen ≡ [])) → IsTrue updates.tells → (schema_new ≡ schema) ⊎ IsOnDisk [] updates_new
order_of schema schema_new updates updates_new (inl same) tells = inl same
order_of schema schema_new updates updates_new (inr empty) tells = inr (record { seen = (empty tells).1; settled = (empty tells).0 })

-- Both parts were handed out, and a store was created of them.
pub makes_store : (ask : Meaning) (before mid after : ShelfState) (dir node text : List ℕ) (schema updates : DiskState) (store : OpenData) → HandsOutAny before (slot dir Schema) schema mid → HandsOutAny mid (slot dir Updates) updates after
    → IsCreated ask schema updates node text store.replica store.schema → Creating schema updates (node ++ text) store.schema store.replica.log.disk → MakesStore ask before dir node text store after
makes_store ask before mid after dir node text schema updates store h1 h2 created creating = record {
  tells = h2.tells ∙ h1.tells;
  schema_tells = creating.schema_moments.disk.tells ∙ h1.disk_tells;
  updates_tells = creating.updates_disk.tells ∙ h2.disk_tells ∙ h1.tells;
  created = λ tells. (
    schema,
    updates,
    h1.part tells,
    subst (λ (p : PartState). IsHanded (slot dir Updates) p updates) (h1.others (slot dir Updates) refl) (h2.part (told before.tells mid.tells h1.tells tells)),
    created,
    creating,
  );
  schema_out = λ tells. h2.others (slot dir Schema) refl ∙ h1.is_out tells;
  updates_out = λ tells. h2.is_out (told before.tells mid.tells h1.tells tells);
  others = λ other away.
      let two = neither (same_slot (slot dir Schema) other) (same_slot (slot dir Updates) other) away in
      h2.others other two.1 ∙ h1.others other two.0;
}

pub made_written : (before mid after : ShelfState) (dir : List ℕ) (part : Part) (found disk : DiskState) (payload : List ℕ) (result : Result (Unit {0}) DiskFailed) → length payload < 2 ^ 32
    → HandsOutAny before (slot dir part) found mid → IsSameDisk found disk → (IsTrue found.tells → OnOk result (disk.seen ≡ whole_of payload)) → PutsAny mid disk after
    → IsTrue before.tells → OnOk result (remembered_in (reading (part_in after dir part)) ≡ payload)
made_written before mid after dir part found disk payload (Err fault) fits hands same written puts tells = tt
made_written before mid after dir part found disk payload (Ok done) fits hands same written puts tells =
    let back : part_in after dir part ≡ stands disk =
    (puts (slot dir part) (same.slot ∙ handed_slot (slot dir part) (before.parts (slot dir part)) found (hands.part tells))).part (told before.tells mid.tells hands.tells tells) in
    let seen : disk.seen ≡ whole_of payload = written (told before.tells found.tells hands.disk_tells tells) in
    ap (λ (p : PartState). remembered_in (reading p)) back ∙ ap (λ (bytes : List ℕ). behind (gated_of bytes)) seen ∙ ap behind (gated-whole payload fits)
