use Rattle.std.proofs.Common.{refl}
use Rattle.shared_replica.proofs.Turns.{acts, all_below, gives, looks}
use Rattle.shared_replica.proofs.shared.Shared.fetch_some.Goals as goal

pub give-requires-clause-added : goal.give-requires-clause-added
give-requires-clause-added g c = let s = c.take-held.result.1 in
    gives c.take-held.result.0 s s _ _ _ c.take-held.ensures.value refl refl (looks s _ _ c.fetch_some-answer.ensures.list)

pub fetch_some-answer-requires : goal.fetch_some-answer-requires
fetch_some-answer-requires g c = all_below _ _ _ c.args.positions.now c.take-held.ensures.seen c.take-held.ensures.value c.requires.seen

pub returns : goal.returns
returns g c = let t = c.take-held.ensures in let s = c.take-held.result.1 in (
  s.entries,
  s.store,
  acts c.take-held.result.0 s s _ _ _ t.value refl refl (looks s _ _ c.fetch_some-answer.ensures.list) c.args.pass c.give.result t.lock t.seen t.number t.act t.unused t.alone t.others c.give.ensures,
  c.fetch_some-answer.ensures.piece,
)
