use Rattle.std.proofs.Common.{arith}
use Rattle.ancestry.proofs.Keeping.{size_fits, sizes_in, sizes_out}
use Rattle.ancestry.proofs.clock.count.Goals as goal

pub overflow_add-sizes : goal.overflow_add-sizes
overflow_add-sizes c = size_fits c.args.members.now c.args.sizes.now c.args.chain c.requires.sized c.requires.few c.if-chain-lt-CHAINS.true

pub returns-then-chain-lt-CHAINS : goal.returns-then-chain-lt-CHAINS
returns-then-chain-lt-CHAINS c = sizes_in c.args.members.now c.args.preds.now c.args.chain c.args.sizes.now c.requires.sized c.requires.joined c.if-chain-lt-CHAINS.true

pub returns-else-chain-lt-CHAINS : goal.returns-else-chain-lt-CHAINS
returns-else-chain-lt-CHAINS c = sizes_out c.args.members.now c.args.preds.now c.args.chain c.args.sizes.now c.requires.sized c.requires.joined (omega arith)
