use Rattle.std.proofs.Common.{◌∙◌, []}
use Rattle.query_answer.specs.Rows.{shown_row}
use Rattle.query_answer.proofs.Seeing.{seen_more}
use Rattle.query_answer.proofs.asking.seen_values.Goals as goal

pub loop-slot-preserved : goal.loop-slot-preserved
loop-slot-preserved c =
    let row = shown_row c.args.row.now in
    let before = c.loop-slot.invariant in (
      (seen_more [] row c.args.slots.now c.loop-slot.slot-index _ c.loop-slot.values.items c.push.new.self.items c.value.result.now c.in_ok-seen.field-0 ⊥
          c.loop-slot-test.true c.in_ok-push.ensures.items c.in_ok-seen.ensures (λ never. absurd never) (before.0, λ never. absurd never)).0,
      λ lists are.
          (seen_more lists row c.args.slots.now c.loop-slot.slot-index _ c.loop-slot.values.items c.push.new.self.items c.value.result.now c.in_ok-seen.field-0 (Unit {0})
          c.loop-slot-test.true c.in_ok-push.ensures.items c.in_ok-seen.ensures (λ u. c.value.ensures ∙ c.value_of-found.ensures lists are) (before.0, λ u. before.1 lists are)).1 tt,
    )
