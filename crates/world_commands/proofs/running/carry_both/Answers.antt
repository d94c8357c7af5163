use Rattle.std.proofs.Common.{refl}
use Rattle.row_check.specs.Checksum.{is_luhn}
use Rattle.world_commands.proofs.Doing.{both_ways}
use Rattle.world_commands.proofs.running.carry_both.Goals as goal

pub returns-then-forward-clause-happens : goal.returns-then-forward-clause-happens
returns-then-forward-clause-happens c =
    both_ways is_luhn c.args.session c.args.world.now c.carry.new.world c.carry-2.new.world c.in_ok-forward.forward c.in_ok-back.back c.in_ok-forward.forward (rw c.if-forward.true refl)
    c.in_ok-forward.ensures.happens c.in_ok-back.ensures.happens

pub returns-else-forward-clause-happens : goal.returns-else-forward-clause-happens
returns-else-forward-clause-happens c =
    both_ways is_luhn c.args.session c.args.world.now c.carry.new.world c.carry-2.new.world c.in_ok-forward.forward c.in_ok-back.back c.in_ok-back.back (rw c.if-forward.false refl)
    c.in_ok-forward.ensures.happens c.in_ok-back.ensures.happens
