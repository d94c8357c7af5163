use Rattle.std.proofs.Common.{◌∙◌, List, [], ◌∷◌, ◌++◌, ap, ap₂, map, sym}
use Rattle.std.proofs.lemmas.List.{map-append, map_more}
use Rattle.update_model.specs.declared.value.Value.{Value}
use Rattle.query.specs.declared.item.Key.{Key}
use Rattle.query_answer.specs.Rows.{shown_row, told}
use Rattle.query_answer.specs.Values.{value_of}
use Rattle.query_answer.proofs.picking.keys_of.Goals as goal

pub loop-key-preserved : goal.loop-key-preserved
loop-key-preserved c = λ lists are.
    let f : Key → Value = λ key. value_of lists (shown_row c.args.row.now) key.source in
    ap (map told) c.in_ok-push.ensures.items
    ∙ map-append told c.loop-key.values.items (c.value_of.result ∷ [])
    ∙ ap₂ (λ (xs : List Value) (x : Value). xs ++ x ∷ []) (c.loop-key.invariant lists are) (c.value_of.ensures lists are)
    ∙ sym (map_more f c.args.keys.now c.loop-key.key-index _ c.loop-key-test.true)
