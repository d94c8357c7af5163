use Rattle.std.proofs.Common.{◌-◌, take, drop, sym, ◌∙◌, arith}
use Rattle.lm_ots.proofs.ChainLaws.{stepped_next, stepped_none}
use Rattle.lm_ots.proofs.chain_message.ChainMessage.run.Goals as goal

pub loop-j-preserved : goal.loop-j-preserved
loop-j-preserved c =
    let next = stepped_next (take 22 c.loop-j.self.bytes) (drop 23 c.loop-j.self.bytes) c.loop-j.j c.args.to c.loop-j-test.true in
    record {
      chain = c.step.ensures.chain ∙ c.loop-j.invariant.chain;
      left = rw (c.step.ensures.chain, c.step.ensures.value) (sym next ∙ c.loop-j.invariant.left);
    }

pub returns-clause-value : goal.returns-clause-value
returns-clause-value c =
    sym (stepped_none (take 22 c.loop-j.self.bytes) (drop 23 c.loop-j.self.bytes) c.loop-j.j (c.args.to - c.loop-j.j) (omega arith))
    ∙ c.loop-j.invariant.left
