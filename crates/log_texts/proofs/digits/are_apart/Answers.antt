use Rattle.std.proofs.Common.{◌∙◌, [], sym}
use Rattle.log_texts.proofs.Marks.{starts_next}
use Rattle.log_texts.proofs.Tried.{apart_next, apart_not}
use Rattle.log_texts.proofs.digits.are_apart.Goals as goal

pub returns-then-contains_key : goal.returns-then-contains_key
returns-then-contains_key c =
    sym (apart_not c.args.digits c.args.ids.now c.loop-position.position (record { 0 = [] }) c.in_ok-start.start.items (search) (search) c.in_ok-start.ensures
    (sym (c.loop-position.invariant.1 c.in_ok-start.start) ∙ sym c.contains_key.ensures ∙ c.if-contains_key.true))

pub loop-position-preserved : goal.loop-position-preserved
loop-position-preserved c = (
  apart_next c.args.digits c.args.ids.now c.loop-position.position (record { 0 = [] }) c.in_ok-start.start.items (search) (search) c.in_ok-start.ensures
      (sym (c.loop-position.invariant.1 c.in_ok-start.start) ∙ sym c.contains_key.ensures ∙ c.if-contains_key.false) c.loop-position.invariant.0,
  starts_next c.args.digits c.args.ids.now c.loop-position.position (record { 0 = [] }) c.loop-position.known c.insert.new.self c.in_ok-start.start (search) (search) c.in_ok-start.ensures
      c.loop-position.invariant.1 c.in_ok-insert.ensures.updates,
)
