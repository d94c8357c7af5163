use Rattle.std.proofs.Common.{◌∙◌}
use Rattle.world_rules.proofs.Drawing.{after_key, holds_made}
use Rattle.world_rules.proofs.creating.draw_key.Goals as goal

pub returns-in-Ok-clause-holds : goal.returns-in-Ok-clause-holds
returns-in-Ok-clause-holds c =
    holds_made c.args.types.lms c.args.types.ots c.args.words.now c.new-key.result c.new-used.result c.in-Ok.key c.new-key.ensures c.new-used.ensures c.in-Ok.ensures.creates

pub returns-in-Ok-clause-drawn : goal.returns-in-Ok-clause-drawn
returns-in-Ok-clause-drawn c = c.in-Ok.ensures.drawn ∙ after_key c.args.words.now
