use Rattle.std.proofs.Common.{◌≡◌, ap, ap₂, sym, ◌∙◌, ◌++◌, ◌∷◌, [], List, arith}
use Rattle.std.proofs.lemmas.List.{map_more}
use Rattle.tuple_state.specs.declared.shape.Shape.{Shape}
use Rattle.tuple_state.specs.State.{shape_of}
use Rattle.tuple_state.proofs.Lookups.{get_or_from}
use Rattle.tuple_state.proofs.shapes.shapes_of.Goals as goal

pub loop-number-preserved : goal.loop-number-preserved
loop-number-preserved c =
    let tables = c.args.schema.now.tables in
    let table = c.table-table.result.now in
    let got = get_or_from tables c.loop-number.number table table c.table-table.ensures in
    let element : ◌≡◌ {A = Shape} (record { columns = c.from_vec.result; kept = table.kept }) (shape_of table) =
    λ i. record { columns = (c.from_vec.ensures ∙ c.in_ok-columns.ensures ∙ c.as_slice.ensures) i; kept = table.kept } in
    c.in_ok-push.ensures.items
    ∙ ap₂ (λ (xs : List Shape) (x : Shape). xs ++ x ∷ []) c.loop-number.invariant (element ∙ ap shape_of (sym got))
    ∙ sym (map_more shape_of tables c.loop-number.number table (omega (arith, c.loop-number-test.true, c.tables-number-end.ensures.number)))
