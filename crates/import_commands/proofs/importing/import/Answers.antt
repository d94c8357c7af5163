use Rattle.std.proofs.Common.{List, ap, refl, subst, sym, ℕ}
use Rattle.std.proofs.lemmas.Result.{err_from_is_err_and}
use Rattle.schema.specs.Data.{SchemaData}
use Rattle.import_commands.specs.Importing.{PutsIn, put, refused}
use Rattle.import_commands.proofs.importing.import.Goals as goal

pub put_in-requires-clause-text : goal.put_in-requires-clause-text
put_in-requires-clause-text g c = (c.in_ok-contents.ensures.held.0, c.in_ok-contents.ensures.held.2)

pub returns-in_err-contents : goal.returns-in_err-contents
returns-in_err-contents g c =
    let p = err_from_is_err_and c.from_residual.result c.from_residual.ensures.1 in
    rw (p.1, p.2) (refused c.in_err-contents.field-0.0 c.in_err-contents.ensures.refused (record { shelf = refl; store = refl; shelf_faults = refl; random = refl; stream = refl }) refl)

pub returns : goal.returns
returns g c =
    let contents = c.in_ok-contents.contents in
    let held = c.in_ok-contents.ensures.held in
    put held.0 contents.updates.items held.1
    (subst (λ (t : List ℕ). PutsIn (record { text = t; updates = contents.updates.items }) c.args.dir.now (g.R.Rng.stream c.args.outside.now.random) (g.R.Rng.stream c.put_in.new.random)
    (g.H.Shelf.state c.args.outside.now.shelf) (g.H.Shelf.state c.put_in.new.shelf) (g.H.Counted.faults c.args.outside.now.shelf) (g.H.Counted.faults c.put_in.new.shelf) c.put_in.result)
    (sym (ap (λ (s : SchemaData). s.text) held.2.taken.declares.1.3)) c.put_in.ensures)
