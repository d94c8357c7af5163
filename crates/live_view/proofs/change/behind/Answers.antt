use Rattle.std.proofs.Common.{List, sym, subst}
use Rattle.std.proofs.lemmas.List.{take_rest}
use Rattle.live_view.specs.Changes.{Line}
use Rattle.live_view.proofs.Those.{ArePassed, pass_first, pass_next}
use Rattle.live_view.proofs.change.behind.Goals as goal

pub loop-rest-init : goal.loop-rest-init
loop-rest-init c = pass_first c.args.lines.now c.args.line.now

pub loop-rest-preserved : goal.loop-rest-preserved
loop-rest-preserved c =
    subst (ArePassed c.args.lines.now c.args.line.now) (sym (take_rest c.loop-rest.rest.now 1))
    (pass_next c.args.lines.now c.args.line.now c.loop-rest.rest.now c.loop-rest.invariant (c.begins_before.ensures.yes c.loop-rest-test.true))

pub returns : goal.returns
returns c = record {
  passed = c.loop-rest.invariant.passed;
  parts = c.loop-rest.invariant.parts;
  before = c.loop-rest.invariant.before;
  stops = c.begins_before.ensures.no c.loop-rest-test.false;
}
