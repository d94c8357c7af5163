use Rattle.std.proofs.Common.{arith}
use Rattle.ancestry.proofs.Merging.{own_count_fits, tells_in, tells_out}
use Rattle.ancestry.proofs.clock.ends.Goals as goal

pub overflow_add-result : goal.overflow_add-result
overflow_add-result c = own_count_fits c.args.members.now c.args.clocks.now c.args.p _ _ c.requires.clocked c.requires.few c.requires.held c.if-chain-lt-CHAINS.true

pub returns-then-chain-lt-CHAINS : goal.returns-then-chain-lt-CHAINS
returns-then-chain-lt-CHAINS c = tells_in c.args.members.now c.args.clocks.now c.args.sizes.now c.args.p _ c.requires.lower c.requires.clocked c.requires.sized c.requires.held c.if-chain-lt-CHAINS.true

pub returns-else-chain-lt-CHAINS : goal.returns-else-chain-lt-CHAINS
returns-else-chain-lt-CHAINS c = tells_out c.args.members.now c.args.clocks.now c.args.p _ c.requires.clocked c.requires.held (omega arith)
