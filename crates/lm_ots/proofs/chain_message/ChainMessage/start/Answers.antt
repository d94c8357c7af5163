use Rattle.std.proofs.Common.{lit≤, ◌∙◌}
use Rattle.lm_ots.proofs.Blocks.{shorter_front}
use Rattle.lm_ots.proofs.chain_message.ChainMessage.start.Goals as goal

pub returns-clause-leaf : goal.returns-clause-leaf
returns-clause-leaf c = shorter_front 20 22 _ _ (lit≤ tt) c.step.ensures.chain ∙ c.choose.ensures.leaf
