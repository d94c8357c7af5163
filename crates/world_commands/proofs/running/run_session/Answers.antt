use Rattle.std.proofs.Common.{Bool, subst}
use Rattle.row_check.specs.Checksum.{is_luhn}
use Rattle.world_commands.proofs.Doing.{Round, rounds_begin, rounds_end, rounds_go}
use Rattle.world_commands.proofs.running.run_session.Goals as goal

pub rounds-init : goal.rounds-init
rounds-init c = record { runs = c.requires; rounds = rounds_begin is_luhn c.args.session c.args.world.now }

pub returns-then-not-found-clause-happens : goal.returns-then-not-found-clause-happens
returns-then-not-found-clause-happens c =
    rounds_end is_luhn c.args.session c.args.world.now c.rounds.world c.carry_both.new.world c.rounds.invariant.rounds
    (subst (λ (f : Bool). Round is_luhn c.args.session c.rounds.world f c.carry_both.new.world) c.if-not-found.true c.in_ok-found.ensures.happens)

pub rounds-preserved : goal.rounds-preserved
rounds-preserved c = record {
  runs = c.in_ok-found.ensures.runs;
  rounds = rounds_go is_luhn c.args.session c.args.world.now c.rounds.world c.carry_both.new.world c.rounds.invariant.rounds
      (subst (λ (f : Bool). Round is_luhn c.args.session c.rounds.world f c.carry_both.new.world) c.if-not-found.false c.in_ok-found.ensures.happens);
}
