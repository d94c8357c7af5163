use Rattle.std.proofs.Common.{sym, ap, ◌∙◌, refl}
use Rattle.tuple_state.specs.declared.inserted.Inserted.{Inserted}
use Rattle.tuple_state.proofs.Marks.{ok_gives}
use Rattle.tuple_state.proofs.Marks.{fresh_take, places_step}
use Rattle.tuple_state.proofs.parents.add_places.Goals as goal

pub remove_places-requires-clause-fresh : goal.remove_places-requires-clause-fresh
remove_places-requires-clause-fresh c = fresh_take c.args.rows.now c.args.inserted.now c.loop-number.number c.requires.fresh

pub loop-number-preserved : goal.loop-number-preserved
loop-number-preserved c name =
    let updates = ok_gives c.insert.result (sym c.is_err.ensures.value ∙ c.if-is_err.false) c.insert.ensures.updates in
    places_step c.args.rows.now c.args.inserted.now c.loop-number.number c.index-inserted-number.result _ name _ _ _ c.requires.fresh c.loop-number-test.true
    c.index-inserted-number.is (c.loop-number.invariant name) refl (ap (λ (row : Inserted). row.name) (sym c.index-inserted-number.is)) (updates.0 name)
