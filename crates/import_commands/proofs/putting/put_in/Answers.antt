use Rattle.std.proofs.Common.{◌≡◌, IsTrue, List, [], refl, rules, subst, sym, ℕ}
use Rattle.std.proofs.lemmas.Result.{err_from_is_err_and}
use Rattle.bec_disk.specs.declared.part.Part.TheVariants.{Schema}
use Rattle.bec_disk.specs.Slot.{slot}
use Rattle.key_directory.proofs.Putting.{told}
use Rattle.key_directory.specs.Parts.{part_in}
use Rattle.import_commands.specs.Importing.{IsNotThere, IsThere, LooksThere, made, not_made, taken, unknown}
use Rattle.import_commands.specs.Taking.{ContentsData, TakesInto}
use Rattle.import_commands.proofs.Looking.{home_looked, look_failed, none_still}
use Rattle.import_commands.proofs.NewStores.{home_made}
use Rattle.import_commands.proofs.putting.put_in.Goals as goal

pub is_there-requires : goal.is_there-requires
is_there-requires g c tells = c.requires.home tells (slot c.args.dir.now Schema)

pub take_into-requires-clause-home : goal.take_into-requires-clause-home
take_into-requires-clause-home g c =
    let e = c.is_there.ensures in
    let looks : LooksThere c.args.dir.now (g.H.Shelf.state c.args.shelf.now) (g.H.Shelf.state c.is_there.new.shelf) (g.H.Counted.faults c.args.shelf.now) (g.H.Counted.faults c.is_there.new.shelf) =
    record { tells = e.tells; untouched = e.untouched; others = e.others; later = e.later } in
    home_looked c.args.dir.now (g.H.Shelf.state c.args.shelf.now) (g.H.Shelf.state c.is_there.new.shelf) (g.H.Counted.faults c.args.shelf.now) (g.H.Counted.faults c.is_there.new.shelf) c.requires.home looks

pub make_empty-requires-clause-home : goal.make_empty-requires-clause-home
make_empty-requires-clause-home g c =
    let e = c.is_there.ensures in
    let looks : LooksThere c.args.dir.now (g.H.Shelf.state c.args.shelf.now) (g.H.Shelf.state c.is_there.new.shelf) (g.H.Counted.faults c.args.shelf.now) (g.H.Counted.faults c.is_there.new.shelf) =
    record { tells = e.tells; untouched = e.untouched; others = e.others; later = e.later } in
    home_looked c.args.dir.now (g.H.Shelf.state c.args.shelf.now) (g.H.Shelf.state c.is_there.new.shelf) (g.H.Counted.faults c.args.shelf.now) (g.H.Counted.faults c.is_there.new.shelf) c.requires.home looks

pub make_empty-requires-clause-none : goal.make_empty-requires-clause-none
make_empty-requires-clause-none g c tells =
    let e = c.is_there.ensures in
    let none : IsNotThere c.args.dir.now (g.H.Shelf.state c.args.shelf.now) = search rules in
    let was : IsTrue (g.H.Shelf.state c.args.shelf.now).tells = told (g.H.Shelf.state c.is_there.new.shelf).tells (g.H.Shelf.state c.args.shelf.now).tells (sym e.tells) tells in
    none_still (part_in (g.H.Shelf.state c.args.shelf.now) c.args.dir.now Schema) (part_in (g.H.Shelf.state c.is_there.new.shelf) c.args.dir.now Schema) (e.untouched was) (none was)

pub make_empty-requires-clause-text : goal.make_empty-requires-clause-text
make_empty-requires-clause-text g c = c.requires.text

pub take_into-requires-2-clause-home : goal.take_into-requires-2-clause-home
take_into-requires-2-clause-home g c =
    home_made c.args.contents.text.items c.args.dir.now (g.R.Rng.stream c.args.random.now) (g.R.Rng.stream c.make_empty.new.random) (g.H.Shelf.state c.is_there.new.shelf) (g.H.Shelf.state c.make_empty.new.shelf)
    (g.H.Counted.faults c.is_there.new.shelf) (g.H.Counted.faults c.make_empty.new.shelf) _ c.in_ok-lines.ensures

pub returns-in_err-is_there : goal.returns-in_err-is_there
returns-in_err-is_there g c =
    let p = err_from_is_err_and c.from_residual.result c.from_residual.ensures.1 in
    let e = c.is_there.ensures in
    let looks : LooksThere c.args.dir.now (g.H.Shelf.state c.args.shelf.now) (g.H.Shelf.state c.is_there.new.shelf) (g.H.Counted.faults c.args.shelf.now) (g.H.Counted.faults c.is_there.new.shelf) =
    record { tells = e.tells; untouched = e.untouched; others = e.others; later = e.later } in
    rw (p.1, p.2) (unknown looks (look_failed (g.H.Counted.faults c.args.shelf.now) (g.H.Counted.faults c.is_there.new.shelf) c.in_err-is_there.field-0.0 (λ is. c.in_err-is_there.ensures.failed (search rules))) refl)

pub returns-then-branch : goal.returns-then-branch
returns-then-branch g c =
    let e = c.is_there.ensures in
    let looks : LooksThere c.args.dir.now (g.H.Shelf.state c.args.shelf.now) (g.H.Shelf.state c.is_there.new.shelf) (g.H.Counted.faults c.args.shelf.now) (g.H.Counted.faults c.is_there.new.shelf) =
    record { tells = e.tells; untouched = e.untouched; others = e.others; later = e.later } in
    let contents : ContentsData = record { text = c.args.contents.text.items; updates = c.args.contents.updates.items } in
    let is : IsThere c.args.dir.now (g.H.Shelf.state c.args.shelf.now) = search rules in
    let empty : c.new.result.items ≡ [] = search rules in
    taken (g.H.Shelf.state c.is_there.new.shelf) (g.H.Counted.faults c.is_there.new.shelf) looks is
    (subst (λ (l : List ℕ). TakesInto contents l c.args.dir.now (g.H.Shelf.state c.is_there.new.shelf) (g.H.Shelf.state c.take_into.new.shelf) (g.H.Counted.faults c.is_there.new.shelf)
    (g.H.Counted.faults c.take_into.new.shelf) c.take_into.result) empty c.take_into.ensures) refl

pub returns-in_err-lines : goal.returns-in_err-lines
returns-in_err-lines g c =
    let p = err_from_is_err_and c.from_residual-in_err-lines.result c.from_residual-in_err-lines.ensures.1 in
    let e = c.is_there.ensures in
    let looks : LooksThere c.args.dir.now (g.H.Shelf.state c.args.shelf.now) (g.H.Shelf.state c.is_there.new.shelf) (g.H.Counted.faults c.args.shelf.now) (g.H.Counted.faults c.is_there.new.shelf) =
    record { tells = e.tells; untouched = e.untouched; others = e.others; later = e.later } in
    let none : IsNotThere c.args.dir.now (g.H.Shelf.state c.args.shelf.now) = search rules in
    rw (p.1, p.2) (not_made (g.H.Shelf.state c.is_there.new.shelf) (g.H.Counted.faults c.is_there.new.shelf) c.in_err-lines.field-0.0 looks none c.in_err-lines.ensures refl)

pub returns : goal.returns
returns g c =
    let e = c.is_there.ensures in
    let looks : LooksThere c.args.dir.now (g.H.Shelf.state c.args.shelf.now) (g.H.Shelf.state c.is_there.new.shelf) (g.H.Counted.faults c.args.shelf.now) (g.H.Counted.faults c.is_there.new.shelf) =
    record { tells = e.tells; untouched = e.untouched; others = e.others; later = e.later } in
    let none : IsNotThere c.args.dir.now (g.H.Shelf.state c.args.shelf.now) = search rules in
    made (g.H.Shelf.state c.is_there.new.shelf) (g.H.Shelf.state c.make_empty.new.shelf) (g.H.Counted.faults c.is_there.new.shelf) (g.H.Counted.faults c.make_empty.new.shelf) c.in_ok-lines.lines
    looks none c.in_ok-lines.ensures c.take_into-2.ensures
