use Rattle.std.proofs.Common.{List, ap, refl, rules, subst, sym, ℕ}
use Rattle.std.proofs.lemmas.Result.{err_from_is_err_and}
use Rattle.bec_disk.specs.declared.part.Part.TheVariants.{Schema}
use Rattle.bec_disk.specs.Slot.{slot}
use Rattle.schema.specs.Data.{SchemaData}
use Rattle.import_commands.specs.Cloning.{lacks, put, there, unknown}
use Rattle.import_commands.specs.Importing.{IsNotThere, IsThere, LooksThere, PutsIn}
use Rattle.import_commands.proofs.Looking.{home_looked, look_failed}
use Rattle.import_commands.proofs.cloning.clone_store.Goals as goal

pub is_there-requires : goal.is_there-requires
is_there-requires g c tells = c.requires tells (slot c.args.dir.now Schema)

pub store_contents-requires : goal.store_contents-requires
store_contents-requires g c =
    let e = c.is_there.ensures in
    let looks : LooksThere c.args.dir.now (g.H.Shelf.state c.args.shelf.now) (g.H.Shelf.state c.is_there.new.shelf) (g.H.Counted.faults c.args.shelf.now) (g.H.Counted.faults c.is_there.new.shelf) =
    record { tells = e.tells; untouched = e.untouched; others = e.others; later = e.later } in
    home_looked c.args.dir.now (g.H.Shelf.state c.args.shelf.now) (g.H.Shelf.state c.is_there.new.shelf) (g.H.Counted.faults c.args.shelf.now) (g.H.Counted.faults c.is_there.new.shelf) c.requires looks

pub put_in-requires-clause-text : goal.put_in-requires-clause-text
put_in-requires-clause-text g c = (c.in_ok-contents.ensures.copies.0, c.in_ok-contents.ensures.copies.2)

pub returns-in_err-is_there : goal.returns-in_err-is_there
returns-in_err-is_there g c =
    let p = err_from_is_err_and c.from_residual.result c.from_residual.ensures.1 in
    let e = c.is_there.ensures in
    let looks : LooksThere c.args.dir.now (g.H.Shelf.state c.args.shelf.now) (g.H.Shelf.state c.is_there.new.shelf) (g.H.Counted.faults c.args.shelf.now) (g.H.Counted.faults c.is_there.new.shelf) =
    record { tells = e.tells; untouched = e.untouched; others = e.others; later = e.later } in
    rw (p.1, p.2) (unknown looks (look_failed (g.H.Counted.faults c.args.shelf.now) (g.H.Counted.faults c.is_there.new.shelf) c.in_err-is_there.field-0.0 (λ is. c.in_err-is_there.ensures.failed (search rules))) refl)

pub returns-then-branch : goal.returns-then-branch
returns-then-branch g c =
    let e = c.is_there.ensures in
    let looks : LooksThere c.args.dir.now (g.H.Shelf.state c.args.shelf.now) (g.H.Shelf.state c.is_there.new.shelf) (g.H.Counted.faults c.args.shelf.now) (g.H.Counted.faults c.is_there.new.shelf) =
    record { tells = e.tells; untouched = e.untouched; others = e.others; later = e.later } in
    let is : IsThere c.args.dir.now (g.H.Shelf.state c.args.shelf.now) = search rules in
    there looks is refl refl

pub returns-in_err-contents : goal.returns-in_err-contents
returns-in_err-contents g c =
    let p = err_from_is_err_and c.from_residual-in_err-contents.result c.from_residual-in_err-contents.ensures.1 in
    let e = c.is_there.ensures in
    let looks : LooksThere c.args.dir.now (g.H.Shelf.state c.args.shelf.now) (g.H.Shelf.state c.is_there.new.shelf) (g.H.Counted.faults c.args.shelf.now) (g.H.Counted.faults c.is_there.new.shelf) =
    record { tells = e.tells; untouched = e.untouched; others = e.others; later = e.later } in
    let none : IsNotThere c.args.dir.now (g.H.Shelf.state c.args.shelf.now) = search rules in
    rw (p.1, p.2) (lacks (g.H.Shelf.state c.is_there.new.shelf) (g.H.Counted.faults c.is_there.new.shelf) c.in_err-contents.field-0.0 looks none c.in_err-contents.ensures.lacks refl refl)

pub returns : goal.returns
returns g c =
    let e = c.is_there.ensures in
    let looks : LooksThere c.args.dir.now (g.H.Shelf.state c.args.shelf.now) (g.H.Shelf.state c.is_there.new.shelf) (g.H.Counted.faults c.args.shelf.now) (g.H.Counted.faults c.is_there.new.shelf) =
    record { tells = e.tells; untouched = e.untouched; others = e.others; later = e.later } in
    let none : IsNotThere c.args.dir.now (g.H.Shelf.state c.args.shelf.now) = search rules in
    let contents = c.in_ok-contents.contents in
    let copies = c.in_ok-contents.ensures.copies in
    put (g.H.Shelf.state c.is_there.new.shelf) (g.H.Shelf.state c.store_contents.new.shelf) (g.H.Counted.faults c.is_there.new.shelf) (g.H.Counted.faults c.store_contents.new.shelf)
    copies.0 contents.updates.items looks none copies.1 c.in_ok-contents.ensures.keeps
    (subst (λ (t : List ℕ). PutsIn (record { text = t; updates = contents.updates.items }) c.args.dir.now (g.R.Rng.stream c.args.random.now) (g.R.Rng.stream c.put_in.new.random)
    (g.H.Shelf.state c.store_contents.new.shelf) (g.H.Shelf.state c.put_in.new.shelf) (g.H.Counted.faults c.store_contents.new.shelf) (g.H.Counted.faults c.put_in.new.shelf) c.put_in.result)
    (sym (ap (λ (s : SchemaData). s.text) copies.2.taken.declares.1.3)) c.put_in.ensures)
