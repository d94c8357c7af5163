use Rattle.std.proofs.Common.{◌≡◌}
use Rattle.mem_holder.specs.Holders.{limits_of}
use Rattle.sync_session.specs.Kept.{BelongsTo}
use Rattle.tests_of_updates.proofs.sessions.hear_all.Given as goal

abbrev pub invariant-frames : goal.invariant-frames
invariant-frames l = record {
  belongs : BelongsTo (limits_of l.holder.most) l.holder.rule l.talk.session l.holder.members;
  rule : l.holder.rule ≡ l.initial.holder.rule;
}
