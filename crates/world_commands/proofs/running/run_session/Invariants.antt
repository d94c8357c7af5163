use Rattle.std.proofs.Common.{◌≡◌, false}
use Rattle.row_check.specs.Checksum.{is_luhn}
use Rattle.world_commands.proofs.Doing.{Rounds}
use Rattle.world_commands.proofs.running.run_session.Given as goal

-- the rounds so far
abbrev pub invariant-rounds : goal.invariant-rounds
invariant-rounds l = record {
  runs : l.world.is_over ≡ false;
  rounds : Rounds is_luhn l.session l.fn.world l.world;
}
