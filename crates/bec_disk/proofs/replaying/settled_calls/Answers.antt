use Rattle.std.proofs.Common.{◌∙◌, arith}
use Rattle.bec_disk.specs.Replay.{begun_with}
use Rattle.bec_disk.proofs.Records.{last_settled, last_other}
use Rattle.bec_disk.proofs.replaying.settled_calls.Goals as goal

pub loop-count-preserved : goal.loop-count-preserved
loop-count-preserved c = record {
  within = omega (arith, c.loop-count.invariant.within);
  synced = λ start. c.loop-count.invariant.synced start
      ∙ last_other (begun_with start) c.args.calls.now c.loop-count.count _ c.loop-count-test.true c.loop-count.invariant.within c.in_default.not-Settled;
}

pub returns-in-Settled-clause-synced : goal.returns-in-Settled-clause-synced
returns-in-Settled-clause-synced c start =
    c.loop-count.invariant.synced start ∙ last_settled (begun_with start) c.args.calls.now c.loop-count.count _ c.loop-count-test.true c.loop-count.invariant.within c.in-Settled.is
