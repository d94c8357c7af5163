-- What a directory has once a store that was made is put back.
use Rattle.std.proofs.Common.{◌≡◌, ◌⊎◌, inl, inr, ℕ, ◌<◌, ◌^◌, List, [], ◌++◌, length, refl, sym, ◌∙◌, ap, subst, arith, IsTrue, Some, Option, length-append}
use Rattle.bec_bytes.specs.Framed.{stream_of}
use Rattle.bec_disk.specs.declared.gated.Gated.TheVariants.{Whole}
use Rattle.bec_disk.specs.declared.part.Part.TheVariants.{Updates}
use Rattle.bec_disk.specs.Disk.{DiskState, IsSettled}
use Rattle.bec_disk.specs.Gated.{gated_of, whole_of}
use Rattle.bec_disk.specs.Shelf.{ShelfState}
use Rattle.bec_disk.proofs.Gates.{gated-whole}
use Rattle.schema.specs.Data.{Meaning, SchemaData}
use Rattle.confluence_test.specs.Taking.{TakesSchema}
use Rattle.update_check.specs.Members.{AreMembers}
use Rattle.update_log.specs.Logset.{IsLogset}
use Rattle.update_log.proofs.Logsets.{records_logset}
use Rattle.replica.specs.Opening.{Creating, IsCreated}
use Rattle.replica.specs.Payload.{DeclaresStore}
use Rattle.store_directory.specs.Holding.{OpenData, PutsStore}
use Rattle.store_directory.specs.Making.{MakesStore}
use Rattle.key_directory.specs.Parts.{part_in, reading}
use Rattle.store_directory.specs.Stores.{IsStore, ReadsAs, StoreData}
use Rattle.key_directory.proofs.Putting.{told}
use Rattle.key_directory.proofs.Readings.{whole-not-absent}

stream-none : stream_of [] ≡ []
unfolding stream_of
stream-none = refl

-- A store of this node and schema, without updates.
abbrev pub empty_store : List ℕ → SchemaData → StoreData
empty_store node schema = record { node = node; schema = schema; members = [] }

-- the part Schema that was written declares it
declared : (ask : Meaning) (node text seen : List ℕ) (schema : SchemaData) → length node ≡ 32 → TakesSchema ask text schema → seen ≡ whole_of (node ++ text) → DeclaresStore ask seen node schema
declared ask node text seen schema size taken is =
    let text_is : schema.text ≡ text = ap (λ (s : SchemaData). s.text) taken.declares.1.3 in
    let small : length (node ++ text) < 2 ^ 32 = omega (arith, length-append node text, size, taken.declares.0) in
    record {
      whole = ap gated_of is ∙ gated-whole (node ++ text) small ∙ ap (λ (t : List ℕ). Whole (node ++ t)) (sym text_is);
      size = size;
      taken = subst (λ (t : List ℕ). TakesSchema ask t schema) (sym text_is) taken;
    }

-- a store that was made
module _ (ask : Meaning) (before made : ShelfState) (dir node text : List ℕ) (store : OpenData) (size : length node ≡ 32) (tells : IsTrue before.tells) (makes : MakesStore ask before dir node text store made) where
  created : IsCreated ask (makes.created tells).0 (makes.created tells).1 node text store.replica store.schema
  created = (makes.created tells).4

  creating : Creating (makes.created tells).0 (makes.created tells).1 (node ++ text) store.schema store.replica.log.disk
  creating = (makes.created tells).5

  schema_told : IsTrue (makes.created tells).0.tells
  schema_told = told before.tells (makes.created tells).0.tells (sym creating.schema_moments.disk.tells ∙ makes.schema_tells) tells

  updates_told : IsTrue (makes.created tells).1.tells
  updates_told = told before.tells (makes.created tells).1.tells (sym creating.updates_disk.tells ∙ makes.updates_tells) tells

  is_whole : gated_of store.schema.seen ≡ Whole (node ++ store.replica.history.schema.text)
  is_whole = (declared ask node text store.schema.seen store.replica.history.schema size created.taken (created.seen schema_told)).whole

  filled : IsSettled store.replica.log.disk × (store.replica.log.disk.seen ≡ [])
  filled = by creating.order
    where
      by : (store.schema ≡ (makes.created tells).0) ⊎ (IsTrue (makes.created tells).1.tells → IsSettled store.replica.log.disk × (store.replica.log.disk.seen ≡ [])) → IsSettled store.replica.log.disk × (store.replica.log.disk.seen ≡ [])
      by (inl same) = absurd (whole-not-absent store.schema.seen (node ++ store.replica.history.schema.text) is_whole (ap (λ (d : DiskState). gated_of d.seen) same ∙ created.absent schema_told))
      by (inr fills) = fills updates_told

  logset : AreMembers store.replica.history.schema.rule store.replica.history.members → IsLogset store.replica.history.schema.rule store.replica.log.disk.seen []
  logset closed = subst (λ (bytes : List ℕ). IsLogset store.replica.history.schema.rule bytes []) (stream-none ∙ sym filled.1)
      (records_logset store.replica.history.schema.rule [] (subst (λ (l : List (List ℕ)). AreMembers store.replica.history.schema.rule l) (created.members updates_told) closed))

  -- Both its parts are on the disk.
  pub made_settled : IsSettled store.schema × IsSettled store.replica.log.disk
  made_settled = (created.settled schema_told, filled.0)

  -- Put back, it is what the directory has.
  pub made_is_store : (closing after : ShelfState) → IsTrue closing.tells → AreMembers store.replica.history.schema.rule store.replica.history.members → PutsStore closing dir store.schema store.replica.log.disk after
      → IsStore ask after dir (empty_store node store.replica.history.schema)
  made_is_store closing after tells' closed puts =
      let as_updates : ReadsAs ask (Some store.schema.seen) (reading (part_in after dir Updates)) (empty_store node store.replica.history.schema) =
      subst (λ (r : Option (List ℕ)). ReadsAs ask (Some store.schema.seen) r (empty_store node store.replica.history.schema)) (sym (ap reading (puts.updates_back tells')))
      (declared ask node text store.schema.seen store.replica.history.schema size created.taken (created.seen schema_told), logset closed) in
      subst (λ (r : Option (List ℕ)). ReadsAs ask r (reading (part_in after dir Updates)) (empty_store node store.replica.history.schema)) (sym (ap reading (puts.schema_back tells'))) as_updates
