use Rattle.std.proofs.Common.{◌∙◌}
use Rattle.sync_session.proofs.Turning.{turn_empty}
use Rattle.sync_session.proofs.hello.first_turn.Goals as goal

pub asking-requires-clause-rising : goal.asking-requires-clause-rising
asking-requires-clause-rising c = (turn_empty c.args.have c.from_vec.result (c.from_vec.ensures ∙ c.new.ensures.items)).rising
