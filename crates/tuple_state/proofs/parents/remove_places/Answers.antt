use Rattle.std.proofs.Common.{◌≡◌, ◌+◌, ◌-◌, length, get_or, sym, ap, ◌∙◌, arith}
use Rattle.tuple_state.specs.declared.inserted.Inserted.{Inserted}
use Rattle.tuple_state.proofs.Marks.{places_back}
use Rattle.tuple_state.proofs.parents.remove_places.Goals as goal

pub loop-number-preserved : goal.loop-number-preserved
loop-number-preserved c name =
    let taken = c.args.taken.now in
    let n = length taken - (c.loop-number.number + 1) in
    let at : length taken - 1 - c.loop-number.number ≡ n = omega arith in
    places_back c.args.rows.now taken n (length taken - c.loop-number.number) c.index-taken-taken.result _ name _ _ c.requires.fresh
    (omega (arith, c.loop-number-test.true)) (omega (arith, c.loop-number-test.true)) (c.index-taken-taken.is ∙ ap (λ k. get_or taken k c.index-taken-taken.result) at) (c.loop-number.invariant name)
    (ap (λ (row : Inserted). row.name) (sym c.index-taken-taken.is)) (c.remove.ensures.updates.0 name)
