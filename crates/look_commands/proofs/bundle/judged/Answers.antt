use Rattle.outcomes.specs.Rules.{rules_of}
use Rattle.look_commands.proofs.bundle.judged.Goals as goal

pub replay-requires-after_bounds : goal.replay-requires-after_bounds
replay-requires-after_bounds c κs = c.accepted_is_unlimited.ensures (rules_of c.args.schema) c.requires
