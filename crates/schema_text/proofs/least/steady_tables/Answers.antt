use Rattle.std.proofs.Common.{◌≡◌, Bool, List, ap, ◌∙◌}
use Rattle.schema.specs.Least.{is_steady_behind, targets_of}
use Rattle.schema_text.proofs.Steadiness.{steady_step}
use Rattle.schema_text.proofs.least.steady_tables.Goals as goal

pub loop-number-preserved : goal.loop-number-preserved
loop-number-preserved c =
    let it = c.index-tables-number.result in
    let own = c.in_ok-steady.ensures ∙ ap (λ (k : List Bool). is_steady_behind k it.kept (targets_of it.columns)) c.as_slice.ensures.value in
    c.in_ok-push.ensures.items
    ∙ steady_step c.args.tables.now c.loop-number.number it c.loop-number.known.items _ c.loop-number-test.true c.index-tables-number.is c.loop-number.invariant own
