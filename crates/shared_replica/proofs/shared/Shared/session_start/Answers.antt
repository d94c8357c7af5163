use Rattle.std.proofs.Common.{refl}
use Rattle.shared_replica.proofs.Turns.{acts, gives, looks}
use Rattle.shared_replica.proofs.shared.Shared.session_start.Goals as goal

pub give-requires-clause-added : goal.give-requires-clause-added
give-requires-clause-added g c = let s = c.take-held.result.1 in
    gives c.take-held.result.0 s s _ _ _ c.take-held.ensures.value refl refl (looks s _ _ c.session_start-answer.ensures.list)

pub returns : goal.returns
returns g c = let t = c.take-held.ensures in let s = c.take-held.result.1 in let e = c.session_start-answer.ensures in (
  s.entries,
  s.store,
  acts c.take-held.result.0 s s _ _ _ t.value refl refl (looks s _ _ e.list) c.args.pass c.give.result t.lock t.seen t.number t.act t.unused t.alone t.others c.give.ensures,
  e.starts,
  e.belongs,
)
