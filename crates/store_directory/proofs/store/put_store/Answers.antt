use Rattle.std.proofs.Common.{◌≡◌, refl, sym, ◌∙◌, ap, subst}
use Rattle.bec_disk.specs.declared.part.Part.TheVariants.{Schema, Updates}
use Rattle.bec_disk.specs.Disk.{DiskState}
use Rattle.bec_disk.specs.Slot.{slot}
use Rattle.store_directory.specs.Holding.{OpenData, PutsStore}
use Rattle.key_directory.proofs.Putting.{out_still, told}
use Rattle.store_directory.proofs.Putting.{puts_store}
use Rattle.store_directory.proofs.store.put_store.Goals as goal

pub put_back-requires : goal.put_back-requires
put_back-requires g c tells = (
  slot c.args.dir.now Updates,
  ap (λ (d : DiskState). d.slot) c.into_parts-log.ensures.state ∙ ap (λ (o : OpenData). o.replica.log.disk.slot) c.store.view_is ∙ (c.requires.updates_of tells).0,
  (c.requires.updates_of tells).1,
)

pub put_back-requires-2 : goal.put_back-requires-2
put_back-requires-2 g c tells =
    let before = g.H.Shelf.state c.args.shelf.now in
    let mid = g.H.Shelf.state c.put_back.new.self in
    let t = told mid.tells before.tells (sym {a = mid.tells} {b = before.tells} c.put_back.ensures.tells) tells in
    let of_updates = ap (λ (d : DiskState). d.slot) c.into_parts-log.ensures.state ∙ ap (λ (o : OpenData). o.replica.log.disk.slot) c.store.view_is ∙ (c.requires.updates_of t).0 in (
      slot c.args.dir.now Schema,
      ap (λ (o : OpenData). o.schema.slot) c.store.view_is ∙ (c.requires.schema_of t).0,
      out_still before mid (g.H.D.Disk.state c.into_parts-log.result.0) (slot c.args.dir.now Updates) (slot c.args.dir.now Schema) of_updates refl c.put_back.ensures.puts (c.requires.schema_of t).1,
    )

pub returns-clause-puts : goal.returns-clause-puts
returns-clause-puts g c =
    let before = g.H.Shelf.state c.args.shelf.now in
    let mid = g.H.Shelf.state c.put_back.new.self in
    let after = g.H.Shelf.state c.put_back-2.new.self in
    let schema = g.H.D.Disk.state c.store.inside.schema in
    let updates = g.H.D.Disk.state c.into_parts-log.result.0 in
    let same_schema : schema ≡ c.args.store.schema = ap (λ (o : OpenData). o.schema) c.store.view_is in
    let same_updates : updates ≡ c.args.store.replica.log.disk = c.into_parts-log.ensures.state ∙ ap (λ (o : OpenData). o.replica.log.disk) c.store.view_is in
    subst (λ (d : DiskState). PutsStore before c.args.dir.now d c.args.store.replica.log.disk after) same_schema
    (subst (λ (d : DiskState). PutsStore before c.args.dir.now schema d after) same_updates
    (puts_store before mid after c.args.dir.now schema updates
    (λ tells. ap (λ (d : DiskState). d.slot) same_schema ∙ (c.requires.schema_of tells).0)
    (λ tells. ap (λ (d : DiskState). d.slot) same_updates ∙ (c.requires.updates_of tells).0)
    c.put_back.ensures.tells c.put_back-2.ensures.tells c.put_back.ensures.puts c.put_back-2.ensures.puts))
