use Rattle.shared_replica.proofs.Turns.{acts, gives}
use Rattle.shared_replica.proofs.shared.Shared.make.Goals as goal

pub give-requires-clause-added : goal.give-requires-clause-added
give-requires-clause-added g c = gives c.take-held.result.0 c.take-held.result.1 _ _ _ _ c.take-held.ensures.value c.seat.ensures c.act.ensures c.make-answer.ensures.grows

pub returns-clause-act : goal.returns-clause-act
returns-clause-act g c = let t = c.take-held.ensures in (
  c.take-held.result.1.entries,
  c.take-held.result.1.store,
  c.make-answer.new.self.store,
  acts c.take-held.result.0 c.take-held.result.1 c.make-answer.new.self _ _ _ t.value c.seat.ensures c.act.ensures c.make-answer.ensures.grows c.args.pass c.give.result t.lock t.seen t.number t.act t.unused t.alone t.others c.give.ensures,
  c.make-answer.ensures.made,
  c.make-answer.ensures.refused,
  c.make-answer.ensures.same,
)
