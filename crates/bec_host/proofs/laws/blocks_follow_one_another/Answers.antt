use Rattle.bec_host.proofs.Blocks.{next_block}
use Rattle.bec_host.proofs.laws.blocks_follow_one_another.Goals as goal

pub returns : goal.returns
returns c = next_block
