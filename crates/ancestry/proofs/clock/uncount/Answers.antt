use Rattle.std.proofs.Common.{◌≡◌, arith, subst, take, []}
use Rattle.ancestry.specs.declared.clock.Clock.{Clock}
use Rattle.ancestry.specs.Clocked.{AreSizes}
use Rattle.ancestry.proofs.Keeping.{uncount_some, uncount_in, uncount_out}
use Rattle.ancestry.proofs.clock.uncount.Goals as goal

abbrev none : Clock
none = record { chain = 0; counts = [] }

pub overflow_sub-sizes : goal.overflow_sub-sizes
overflow_sub-sizes c = uncount_some c.args.members.now c.args.clocks.now c.loop-position.sizes c.loop-position.position _ c.requires.clocked (omega arith) (omega arith) c.loop-position.invariant.1 c.if-chain-lt-CHAINS.true

pub loop-position-preserved-then-chain-lt-CHAINS : goal.loop-position-preserved-then-chain-lt-CHAINS
loop-position-preserved-then-chain-lt-CHAINS c = (
  omega arith,
  uncount_in c.args.members.now c.args.clocks.now c.loop-position.sizes c.loop-position.position none c.requires.clocked (omega arith) (omega arith) c.loop-position.invariant.1 c.if-chain-lt-CHAINS.true,
)

pub loop-position-preserved : goal.loop-position-preserved
loop-position-preserved c = (
  omega arith,
  uncount_out c.args.members.now c.args.clocks.now c.loop-position.sizes c.loop-position.position none c.requires.clocked (omega arith) (omega arith) c.loop-position.invariant.1 (omega arith),
)

pub returns : goal.returns
returns c =
    let end : c.loop-position.position ≡ c.args.len = omega (arith, c.loop-position.invariant.0) in
    subst (λ n. AreSizes (take n c.args.members.now) c.loop-position.sizes) end c.loop-position.invariant.1
