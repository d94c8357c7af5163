-- Taking the two parts of a store, and putting them back.
use Rattle.std.proofs.Common.{◌≡◌, ◌≢◌, ℕ, List, [], ◌∷◌, refl, sym, ◌∙◌, ap, subst, IsTrue, Some, Option}
use Rattle.std.proofs.lemmas.Bool.{false≢true}
use Rattle.bec_disk.specs.declared.part.Part.TheVariants.{Schema, Updates}
use Rattle.bec_disk.specs.Disk.{DiskState}
use Rattle.bec_disk.specs.Shelf.{HandsOut, PartState, PutsBack, ShelfState, out, stands}
use Rattle.bec_disk.specs.Slot.{same_slot, slot}
use Rattle.schema.specs.Data.{Meaning}
use Rattle.replica.specs.Opening.{KeepsStore}
use Rattle.store_directory.specs.Holding.{LetsGo, LetsUpdatesGo, PutsStore}
use Rattle.key_directory.specs.Parts.{KeepsAllBut, part_in, reading}
use Rattle.store_directory.specs.Stores.{IsStore, KeepsList, ReadsAs, StoreData}
use Rattle.key_directory.proofs.Handing.{put_untouched}
use Rattle.store_directory.proofs.Handing.{list_after_opening}
use Rattle.key_directory.proofs.Places.{place_again, neither, stands-not-out}
use Rattle.key_directory.proofs.Putting.{PutsAny, reads_handed, slot_of, told}

pub puts_store : (before mid after : ShelfState) (dir : List ℕ) (schema updates : DiskState) → (IsTrue before.tells → schema.slot ≡ Some (slot dir Schema)) → (IsTrue before.tells → updates.slot ≡ Some (slot dir Updates))
    → mid.tells ≡ before.tells → after.tells ≡ mid.tells → PutsAny before updates mid → PutsAny mid schema after → PutsStore before dir schema updates after
puts_store before mid after dir schema updates of_schema of_updates t1 t2 a b = record {
  tells = t2 ∙ t1;
  schema_back = λ tells. (b (slot dir Schema) (of_schema tells)).part (told before.tells mid.tells t1 tells);
  updates_back = λ tells. (b (slot dir Schema) (of_schema tells)).others (slot dir Updates) refl ∙ (a (slot dir Updates) (of_updates tells)).part tells;
  others = λ tells other away.
      let two = neither (same_slot (slot dir Schema) other) (same_slot (slot dir Updates) other) away in
      (b (slot dir Schema) (of_schema tells)).others other two.0 ∙ (a (slot dir Updates) (of_updates tells)).others other two.1;
}

-- The part Updates is put back where it opened as no store.
pub lets_updates_go : (ask : Meaning) (before mid after : ShelfState) (dir : List ℕ) (schema updates disk : DiskState) → HandsOut before (slot dir Updates) updates mid → KeepsStore ask schema updates disk
    → after.tells ≡ mid.tells → PutsAny mid disk after → LetsUpdatesGo ask before dir schema after
lets_updates_go ask before mid after dir schema updates disk hands keeps t2 puts = record {
  tells = t2 ∙ hands.tells;
  list = λ tells schema_tells store reads.
      let there = (hands.part tells).1 in
      subst (λ (p : PartState). KeepsList store [] p (part_in after dir Updates)) (sym there)
      (subst (λ (p : PartState). KeepsList store [] (stands (hands.part tells).0) p) (sym (back tells))
      (list_after_opening ask (slot dir Updates) schema (hands.part tells).0 updates disk store (hands.part tells).2 keeps schema_tells
      (subst (λ (r : Option (List ℕ)). ReadsAs ask (Some schema.seen) r store) (ap reading there) reads)));
  in_place = λ tells. stands-not-out (part_in after dir Updates) disk (back tells);
  others = λ tells other away. (puts (slot dir Updates) (of_updates tells)).others other away ∙ hands.others other away;
}
  where
    of_updates : IsTrue before.tells → disk.slot ≡ Some (slot dir Updates)
    of_updates tells = keeps.disk.slot ∙ slot_of (slot dir Updates) (hands.part tells).0 updates (hands.part tells).2

    back : IsTrue before.tells → part_in after dir Updates ≡ stands disk
    back tells = (puts (slot dir Updates) (of_updates tells)).part (told before.tells mid.tells hands.tells tells)

-- The part Schema is put back where no store was taken.
pub lets_store_go : (ask : Meaning) (before out_schema done after : ShelfState) (dir : List ℕ) (schema disk : DiskState) → HandsOut before (slot dir Schema) schema out_schema → LetsUpdatesGo ask out_schema dir schema done
    → disk ≡ schema → after.tells ≡ done.tells → PutsAny done disk after → LetsGo ask before dir after
lets_store_go ask before out_schema done after dir schema disk hands go same t3 puts = record {
  tells = t3 ∙ go.tells ∙ hands.tells;
  run = λ tells. record {
    list = λ store reads. kept tells store reads;
    reads = λ e. absurd (false≢true e);
    schema = put_untouched (slot dir Schema) (hands.part tells).0 disk (part_in before dir Schema) (part_in after dir Schema) (hands.part tells).1 (same ∙ (hands.part tells).2) (back tells);
  };
  others = λ tells other away. elsewhere tells other away;
  places = λ tells place here. place_again Schema Updates dir after (stands-not-out (part_in after dir Schema) disk (back tells))
      (subst (λ (p : PartState). p ≢ out) (sym (updates_kept tells)) (go.in_place (told before.tells out_schema.tells hands.tells tells)))
      place (λ away. subst (λ (p : PartState). p ≢ out) (sym (elsewhere tells place away)) here);
}
  where
    put : IsTrue before.tells → PutsBack done (slot dir Schema) disk after
    put tells = puts (slot dir Schema) (ap (λ (d : DiskState). d.slot) same ∙ slot_of (slot dir Schema) (hands.part tells).0 schema (hands.part tells).2)

    told_out : IsTrue before.tells → IsTrue out_schema.tells
    told_out tells = told before.tells out_schema.tells hands.tells tells

    back : IsTrue before.tells → part_in after dir Schema ≡ stands disk
    back tells = (put tells).part (told out_schema.tells done.tells go.tells (told_out tells))

    updates_kept : IsTrue before.tells → part_in after dir Updates ≡ part_in done dir Updates
    updates_kept tells = (put tells).others (slot dir Updates) refl

    kept : IsTrue before.tells → (store : StoreData) → IsStore ask before dir store → KeepsList store [] (part_in before dir Updates) (part_in after dir Updates)
    kept tells store reads =
        let updates_there : part_in out_schema dir Updates ≡ part_in before dir Updates = hands.others (slot dir Updates) refl in
        let as_schema : ReadsAs ask (Some schema.seen) (reading (part_in before dir Updates)) store =
        subst (λ (r : Option (List ℕ)). ReadsAs ask r (reading (part_in before dir Updates)) store)
        (reads_handed (slot dir Schema) (hands.part tells).0 schema (part_in before dir Schema) (hands.part tells).1 (hands.part tells).2) reads in
        let as_out = subst (λ (p : PartState). ReadsAs ask (Some schema.seen) (reading p) store) (sym updates_there) as_schema in
        subst (λ (p : PartState). KeepsList store [] p (part_in after dir Updates)) updates_there
        (subst (λ (p : PartState). KeepsList store [] (part_in out_schema dir Updates) p) (sym (updates_kept tells))
        (go.list (told_out tells) (told before.tells schema.tells hands.disk_tells tells) store as_out))

    elsewhere : IsTrue before.tells → KeepsAllBut (Schema ∷ Updates ∷ []) dir before after
    elsewhere tells other away =
        let two = neither (same_slot (slot dir Schema) other) (same_slot (slot dir Updates) other) away in
        (put tells).others other two.0 ∙ go.others (told_out tells) other two.1 ∙ hands.others other two.0
