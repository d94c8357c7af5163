use Rattle.std.proofs.Common.{sym, ◌∙◌}
use Rattle.bec_disk.proofs.Records.{mixed_image}
use Rattle.bec_disk.proofs.replaying.crash_image.Goals as goal

pub returns-clause-image : goal.returns-clause-image
returns-clause-image c =
    mixed_image c.args.start.now c.args.calls.now _ _ _ (c.in_ok-synced.ensures ∙ sym (c.settled_calls-settled.ensures.synced c.args.start.now)) c.requires c.in_ok-image.ensures.mixed

pub returns-clause-synced : goal.returns-clause-synced
returns-clause-synced c zero =
    c.in_ok-image.ensures.synced zero ∙ c.in_ok-synced.ensures ∙ sym (c.settled_calls-settled.ensures.synced c.args.start.now)
