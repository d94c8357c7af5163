-- What a run over a store leaves of its directory.
use Rattle.std.proofs.Common.{◌≡◌, ◌≢◌, inr, ℕ, Bool, true, false, List, [], ◌∷◌, ◌++◌, refl, sym, ◌∙◌, ap, subst, IsTrue, Some, Option, arith}
use Rattle.std.specs.List.{list_any}
use Rattle.std.proofs.lemmas.List.{take_all}
use Rattle.bec_bytes.specs.Framed.{stream_of}
use Rattle.bec_disk.specs.declared.part.Part.TheVariants.{Schema, Updates}
use Rattle.bec_disk.specs.Disk.{DiskState, EveryImage, LeavesOnly, handed_out}
use Rattle.bec_disk.specs.Shelf.{PartState, ShelfState, out, stands}
use Rattle.bec_disk.specs.Slot.{Slot, same_slot, slot}
use Rattle.bec_disk.proofs.Moments as moments
use Rattle.schema.specs.Data.{Meaning, SchemaData}
use Rattle.update_check.specs.Members.{AreMembers}
use Rattle.update_log.specs.Log.{IsClean, IsLogOf, LogState}
use Rattle.update_log.specs.Logset.{BeginsWith, IsLogset}
use Rattle.update_log.proofs.Logsets.{records_logset}
use Rattle.replica.specs.Opening.{IsOpened, KeepsStore}
use Rattle.replica.specs.Replicas.{ReplicaState}
use Rattle.store_directory.specs.Holding.{HoldsOn, OpenData, PutsStore, TakesStore, WorksOn}
use Rattle.key_directory.specs.Parts.{IfStands, IsHome, part_in, reading}
use Rattle.store_directory.specs.Stores.{HoldsList, HoldsRun, IsStore, KeepsList, ReadsAs, StoreData, StoreRun, with_added}
use Rattle.key_directory.proofs.Handing.{handed_since, put_untouched}
use Rattle.key_directory.proofs.Places.{home_again, stands-not-out}
use Rattle.key_directory.proofs.Putting.{reads_handed, told}
use Rattle.store_directory.proofs.Readings.{OneSchema, same_store}

-- the store that was opened
abbrev pub store_of : ReplicaState → StoreData
store_of replica = record { node = replica.node; schema = replica.history.schema; members = replica.history.members }

-- a clean log has the records of its members, and nothing else
clean_stream : (log : LogState) (members : List (List ℕ)) → IsTrue log.disk.tells → IsLogOf members log → IsClean log.end log.disk → log.disk.seen ≡ stream_of members
clean_stream log members tells is clean = sym (take_all log.end log.disk.seen (omega (arith, clean.1))) ∙ is.acknowledged tells

-- what a directory that was opened had
pub read_before : (ask : Meaning) (before after : ShelfState) (dir : List ℕ) (taken : OpenData) → IsTrue before.tells → TakesStore ask before dir taken after → IsStore ask before dir (store_of taken.replica)
read_before ask before after dir taken tells takes =
    let s = takes.schema tells in
    let u = takes.updates tells in
    let as_updates : ReadsAs ask (Some taken.schema.seen) (reading (part_in before dir Updates)) (store_of taken.replica) =
    subst (λ (r : Option (List ℕ)). ReadsAs ask (Some taken.schema.seen) r (store_of taken.replica)) (sym (ap reading u.1))
    (u.2.declared (told before.tells taken.schema.tells takes.schema_tells tells), u.2.list refl) in
    subst (λ (r : Option (List ℕ)). ReadsAs ask r (reading (part_in before dir Updates)) (store_of taken.replica))
    (sym (reads_handed (slot dir Schema) s.0 taken.schema (part_in before dir Schema) s.1 s.2)) as_updates

-- The list of the store that was opened.
list_of_opened : (ask : Meaning) (place : Slot) (part : DiskState) (taken : OpenData) (now : ReplicaState) (added : List (List ℕ)) (done : Bool) → IsTrue taken.schema.tells
    → IsOpened ask taken.schema (handed_out place part) taken.replica → KeepsStore ask taken.schema (handed_out place part) taken.replica.log.disk → WorksOn taken now added done
    → KeepsList (store_of taken.replica) added (stands part) (stands now.log.disk)
list_of_opened ask place part taken now added done tells opened keeps works =
    let members = taken.replica.history.members in
    let P = BeginsWith (stream_of members) in
    let opening : LeavesOnly (handed_out place part) taken.replica.log.disk P = keeps.any_moment tells taken.replica.node taken.replica.history.schema members (opened.declared tells) opened.list in
    let whole : LeavesOnly (handed_out place part) now.log.disk P = moments.followed_by (handed_out place part) taken.replica.log.disk now.log.disk P opening works.any_moment in
    record {
      closed = subst (λ (d : SchemaData). AreMembers d.rule (members ++ added)) works.schema (subst (λ (l : List (List ℕ)). AreMembers now.history.schema.rule l) works.members works.closed);
      any_moment = handed_since place part now.log.disk P whole;
      from_now = inr (subst (λ (l : List (List ℕ)). EveryImage now.log.disk.now (BeginsWith (stream_of l))) works.members (works.on_disk (moments.told (handed_out place part) now.log.disk whole.disk refl)));
    }

-- what was done at each moment, at the end alone
holds_on : (taken : OpenData) (now : ReplicaState) (added : List (List ℕ)) (done : Bool) → WorksOn taken now added done → HoldsOn taken.replica now added done
holds_on taken now added done works =
    record { schema = works.schema; members = works.members; closed = works.closed; disk = works.any_moment.disk; on_disk = works.on_disk; log = works.log; clean = works.clean }

pub holds_run : (ask : Meaning) (before after : ShelfState) (dir : List ℕ) (added : List (List ℕ)) (done : Bool) → StoreRun ask before after dir added done → HoldsRun ask before after dir added done
holds_run ask before after dir added done run = record {
  list = λ store is. let kept = run.list store is in record { closed = kept.closed; from_now = kept.from_now };
  reads = run.reads;
  schema = run.schema;
}

-- A run over the store of a directory: the store is taken, something is done to it and to other parts, and its parts are put back.
module _ (one : OneSchema) (ask : Meaning) (before opened closing after : ShelfState) (dir : List ℕ) (taken : OpenData) (now : ReplicaState) (added : List (List ℕ)) (done : Bool)
    (tells : IsTrue before.tells) (tells' : IsTrue closing.tells) (takes : TakesStore ask before dir taken opened) (puts : PutsStore closing dir taken.schema now.log.disk after) where
  schema_told : IsTrue taken.schema.tells
  schema_told = told before.tells taken.schema.tells takes.schema_tells tells

  same : (store : StoreData) → IsStore ask before dir store → store_of taken.replica ≡ store
  same store is = same_store one ask (reading (part_in before dir Schema)) (reading (part_in before dir Updates)) (store_of taken.replica) store (read_before ask before opened dir taken tells takes) is

  module _ (holds : HoldsOn taken.replica now added done) where
    log_told : IsTrue now.log.disk.tells
    log_told = told before.tells now.log.disk.tells (holds.disk.tells ∙ takes.updates_tells) tells

    held : HoldsList (store_of taken.replica) added (part_in before dir Updates) (part_in after dir Updates)
    held = record {
      closed =
          subst (λ (d : SchemaData). AreMembers d.rule (taken.replica.history.members ++ added)) holds.schema
          (subst (λ (l : List (List ℕ)). AreMembers now.history.schema.rule l) holds.members holds.closed);
      from_now = inr (subst (λ (p : PartState). IfStands p (λ part. EveryImage part.now (BeginsWith (stream_of (taken.replica.history.members ++ added))))) (sym (puts.updates_back tells'))
          (subst (λ (l : List (List ℕ)). EveryImage now.log.disk.now (BeginsWith (stream_of l))) holds.members (holds.on_disk log_told)));
    }

    again : done ≡ true → IsStore ask after dir (with_added (store_of taken.replica) added)
    again is_done =
        let stream = clean_stream now.log now.history.members log_told (holds.log is_done) (holds.clean is_done log_told) in
        let logset : IsLogset now.history.schema.rule now.log.disk.seen now.history.members =
        subst (λ (bytes : List ℕ). IsLogset now.history.schema.rule bytes now.history.members) (sym stream) (records_logset now.history.schema.rule now.history.members holds.closed) in
        let as_taken : IsLogset taken.replica.history.schema.rule now.log.disk.seen (taken.replica.history.members ++ added) =
        subst (λ (d : SchemaData). IsLogset d.rule now.log.disk.seen (taken.replica.history.members ++ added)) holds.schema
        (subst (λ (l : List (List ℕ)). IsLogset now.history.schema.rule now.log.disk.seen l) holds.members logset) in
        let as_updates : ReadsAs ask (Some taken.schema.seen) (reading (part_in after dir Updates)) (with_added (store_of taken.replica) added) =
        subst (λ (r : Option (List ℕ)). ReadsAs ask (Some taken.schema.seen) r (with_added (store_of taken.replica) added)) (sym (ap reading (puts.updates_back tells')))
        ((takes.updates tells).2.declared schema_told, as_taken) in
        subst (λ (r : Option (List ℕ)). ReadsAs ask r (reading (part_in after dir Updates)) (with_added (store_of taken.replica) added)) (sym (ap reading (puts.schema_back tells'))) as_updates

    -- of which the end is told
    pub held_run : HoldsRun ask before after dir added done
    held_run = record {
      list = λ store is. subst (λ (s : StoreData). HoldsList s added (part_in before dir Updates) (part_in after dir Updates)) (same store is) held;
      reads = λ is_done store is. subst (λ (s : StoreData). IsStore ask after dir (with_added s added)) (same store is) (again is_done);
      schema = put_untouched (slot dir Schema) (takes.schema tells).0 taken.schema (part_in before dir Schema) (part_in after dir Schema) (takes.schema tells).1 (takes.schema tells).2 (puts.schema_back tells');
    }

-- The same, of which each moment is told.
pub worked_run : OneSchema → (ask : Meaning) (before opened closing after : ShelfState) (dir : List ℕ) (taken : OpenData) (now : ReplicaState) (added : List (List ℕ)) (done : Bool)
    → IsTrue before.tells → IsTrue closing.tells → TakesStore ask before dir taken opened → WorksOn taken now added done → PutsStore closing dir taken.schema now.log.disk after
    → StoreRun ask before after dir added done
worked_run one ask before opened closing after dir taken now added done tells tells' takes works puts = record {
  list = λ store is. subst (λ (s : StoreData). KeepsList s added (part_in before dir Updates) (part_in after dir Updates))
      (same_store one ask (reading (part_in before dir Schema)) (reading (part_in before dir Updates)) (store_of taken.replica) store (read_before ask before opened dir taken tells takes) is) list;
  reads = run.reads;
  schema = run.schema;
}
  where
    run : HoldsRun ask before after dir added done
    run = held_run one ask before opened closing after dir taken now added done tells tells' takes puts (holds_on taken now added done works)

    list : KeepsList (store_of taken.replica) added (part_in before dir Updates) (part_in after dir Updates)
    list =
        subst (λ (p : PartState). KeepsList (store_of taken.replica) added p (part_in after dir Updates)) (sym (takes.updates tells).1)
        (subst (λ (p : PartState). KeepsList (store_of taken.replica) added (stands (takes.updates tells).0) p) (sym (puts.updates_back tells'))
        (list_of_opened ask (slot dir Updates) (takes.updates tells).0 taken now added done (told before.tells taken.schema.tells takes.schema_tells tells) (takes.updates tells).2 (takes.updates tells).3 works))

-- After it no part is handed out, where no other part is before the store is put back.
pub home_after_store : (closing after : ShelfState) (dir : List ℕ) (schema updates : DiskState) → IsTrue closing.tells → PutsStore closing dir schema updates after
    → ((other : Slot) → list_any (λ part. same_slot (slot dir part) other) (Schema ∷ Updates ∷ []) ≡ false → closing.parts other ≢ out) → IsHome after
home_after_store closing after dir schema updates tells puts others =
    home_again Schema Updates dir after (stands-not-out (part_in after dir Schema) schema (puts.schema_back tells)) (stands-not-out (part_in after dir Updates) updates (puts.updates_back tells))
    (λ other away. subst (λ (p : PartState). p ≢ out) (sym (puts.others tells other away)) (others other away))
