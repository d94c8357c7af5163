use Rattle.std.proofs.Common.{◌≡◌, refl, sym, ◌∙◌, ap, subst}
use Rattle.bec_disk.specs.declared.part.Part.TheVariants.{Key, Used}
use Rattle.bec_disk.specs.Slot.{slot}
use Rattle.key_index.specs.KeyState.{KeyParts, parts_of}
use Rattle.key_directory.specs.Keys.{PutsKey}
use Rattle.key_directory.proofs.Putting.{out_still, puts_key, told}
use Rattle.key_directory.proofs.key.put_key.Goals as goal

pub put_back-requires-2 : goal.put_back-requires-2
put_back-requires-2 g c tells =
    let before = g.H.Shelf.state c.args.shelf.now in
    let mid = g.H.Shelf.state c.put_back.new.self in
    let t = told mid.tells before.tells (sym {a = mid.tells} {b = before.tells} c.put_back.ensures.tells) tells in
    let of_used = ap (λ (p : KeyParts). p.used.slot) c.into_disks-key.ensures ∙ (c.requires.used_of t).0 in (
      slot c.args.dir.now Key,
      ap (λ (p : KeyParts). p.key.slot) c.into_disks-key.ensures ∙ (c.requires.key_of t).0,
      out_still before mid (g.H.D.Disk.state c.into_disks-key.result.1) (slot c.args.dir.now Used) (slot c.args.dir.now Key) of_used refl c.put_back.ensures.puts (c.requires.key_of t).1,
    )

pub returns-clause-puts : goal.returns-clause-puts
returns-clause-puts g c =
    let before = g.H.Shelf.state c.args.shelf.now in
    let mid = g.H.Shelf.state c.put_back.new.self in
    let after = g.H.Shelf.state c.put_back-2.new.self in
    let parts = parts_of g.H.D.Disk.state g.H.D.Counted.faults c.into_disks-key.result.0 c.into_disks-key.result.1 in
    let same : parts ≡ c.args.key.parts = c.into_disks-key.ensures in
    subst (λ (p : KeyParts). PutsKey before c.args.dir.now p after) same
    (puts_key before mid after c.args.dir.now parts
    (λ tells. ap (λ (p : KeyParts). p.key.slot) same ∙ (c.requires.key_of tells).0)
    (λ tells. ap (λ (p : KeyParts). p.used.slot) same ∙ (c.requires.used_of tells).0)
    c.put_back.ensures.tells c.put_back-2.ensures.tells c.put_back.ensures.puts c.put_back-2.ensures.puts)
