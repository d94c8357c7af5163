use Rattle.std.proofs.Common.{◌≡◌, List, drop, sym, subst}
use Rattle.live_view.specs.Changes.{AreMissing, Line}
use Rattle.live_view.proofs.Those.{IsTold, told_first, told_step, told_end, up_step}
use Rattle.live_view.proofs.change.not_among.Goals as goal

pub loop-line-init : goal.loop-line-init
loop-line-init c = record {
  told = subst (IsTold c.args.lines.now c.args.others.now c.args.lines.now c.args.others.now) (sym c.new-left.ensures.items) (told_first c.args.lines.now c.args.others.now c.requires.others);
  up = c.requires.lines;
}

pub loop-line-preserved : goal.loop-line-preserved
loop-line-preserved c = record {
  told = told_step c.args.lines.now c.args.others.now c.loop-line.rest.now c.loop-line.left.items _ c.line-item.result c.behind-rest.result.now c.loop-line.line-index c.loop-line-test.true c.line-item.is
      c.loop-line.invariant.up c.loop-line.invariant.told c.behind-rest.ensures c.in_ok-add_missing.ensures;
  up = up_step c.args.lines.now c.line-item.result c.loop-line.line-index c.loop-line-test.true c.line-item.is c.loop-line.invariant.up;
}

pub returns : goal.returns
returns c = subst (AreMissing c.args.others.now c.args.lines.now) (sym c.from_vec.ensures) (told_end c.args.lines.now c.args.others.now c.loop-line.rest.now c.loop-line.left.items c.loop-line.line-index c.loop-line-test.false c.loop-line.invariant.told)
