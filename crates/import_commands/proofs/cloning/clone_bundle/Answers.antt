use Rattle.std.proofs.Common.{refl, rules}
use Rattle.std.proofs.lemmas.Result.{err_from_is_err_and}
use Rattle.bec_disk.specs.declared.part.Part.TheVariants.{Schema}
use Rattle.bec_disk.specs.Slot.{slot}
use Rattle.outcomes.specs.Outside.{outside}
use Rattle.import_commands.specs.Cloning.{imported, there, unknown}
use Rattle.import_commands.specs.Importing.{IsNotThere, IsThere, LooksThere}
use Rattle.import_commands.proofs.Looking.{home_looked, look_failed}
use Rattle.import_commands.proofs.cloning.clone_bundle.Goals as goal

pub is_there-requires : goal.is_there-requires
is_there-requires g c tells = c.requires tells (slot c.args.dir.now Schema)

pub import-requires : goal.import-requires
import-requires g c =
    let e = c.is_there.ensures in
    let looks : LooksThere c.args.dir.now (g.H.Shelf.state c.args.outside.now.shelf) (g.H.Shelf.state c.is_there.new.shelf) (g.H.Counted.faults c.args.outside.now.shelf) (g.H.Counted.faults c.is_there.new.shelf) =
    record { tells = e.tells; untouched = e.untouched; others = e.others; later = e.later } in
    home_looked c.args.dir.now (g.H.Shelf.state c.args.outside.now.shelf) (g.H.Shelf.state c.is_there.new.shelf) (g.H.Counted.faults c.args.outside.now.shelf) (g.H.Counted.faults c.is_there.new.shelf) c.requires looks

pub returns-in_err-is_there : goal.returns-in_err-is_there
returns-in_err-is_there g c =
    let p = err_from_is_err_and c.from_residual.result c.from_residual.ensures.1 in
    let e = c.is_there.ensures in
    let looks : LooksThere c.args.dir.now (g.H.Shelf.state c.args.outside.now.shelf) (g.H.Shelf.state c.is_there.new.shelf) (g.H.Counted.faults c.args.outside.now.shelf) (g.H.Counted.faults c.is_there.new.shelf) =
    record { tells = e.tells; untouched = e.untouched; others = e.others; later = e.later } in
    rw (p.1, p.2) (unknown looks (look_failed (g.H.Counted.faults c.args.outside.now.shelf) (g.H.Counted.faults c.is_there.new.shelf) c.in_err-is_there.field-0.0 (λ is. c.in_err-is_there.ensures.failed (search rules)))
    (record { source = refl; left = refl; faults = refl; random = refl; stream = refl }))

pub returns-then-branch : goal.returns-then-branch
returns-then-branch g c =
    let e = c.is_there.ensures in
    let looks : LooksThere c.args.dir.now (g.H.Shelf.state c.args.outside.now.shelf) (g.H.Shelf.state c.is_there.new.shelf) (g.H.Counted.faults c.args.outside.now.shelf) (g.H.Counted.faults c.is_there.new.shelf) =
    record { tells = e.tells; untouched = e.untouched; others = e.others; later = e.later } in
    let is : IsThere c.args.dir.now (g.H.Shelf.state c.args.outside.now.shelf) = search rules in
    there looks is (record { source = refl; left = refl; faults = refl; random = refl; stream = refl }) refl

pub returns : goal.returns
returns g c =
    let e = c.is_there.ensures in
    let looks : LooksThere c.args.dir.now (g.H.Shelf.state c.args.outside.now.shelf) (g.H.Shelf.state c.is_there.new.shelf) (g.H.Counted.faults c.args.outside.now.shelf) (g.H.Counted.faults c.is_there.new.shelf) =
    record { tells = e.tells; untouched = e.untouched; others = e.others; later = e.later } in
    let none : IsNotThere c.args.dir.now (g.H.Shelf.state c.args.outside.now.shelf) = search rules in
    let between = outside g.S.Source.left g.S.Counted.faults g.H.Shelf.state g.H.Counted.faults g.R.Rng.stream c.args.outside.now.input c.is_there.new.shelf c.args.outside.now.random in
    imported between looks none (record { source = refl; left = refl; faults = refl; random = refl; stream = refl }) c.import.ensures
