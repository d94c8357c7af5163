use Rattle.std.proofs.Common.{drop}
use Rattle.live_view.specs.Named.{RiseByName}
use Rattle.live_view.proofs.Those.{IsTold}
use Rattle.live_view.proofs.change.not_among.Given as goal

abbrev pub invariant-loop-line : goal.invariant-loop-line
invariant-loop-line l = record {
  told : IsTold l.lines l.others (drop l.line-index l.lines) l.rest l.left.items;
  up : RiseByName (drop l.line-index l.lines);
}
