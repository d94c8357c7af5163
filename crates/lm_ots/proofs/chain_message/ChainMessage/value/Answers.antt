use Rattle.std.proofs.Common.{arith}
use Rattle.lm_ots.proofs.Blocks.{mid_to_end}
use Rattle.lm_ots.proofs.chain_message.ChainMessage.value.Goals as goal

pub returns-clause-value : goal.returns-clause-value
returns-clause-value c = mid_to_end 23 32 c.args.self.now.bytes (omega arith)
