use Rattle.std.proofs.Common.{◌∙◌, ap, length, refl, sym}
use Rattle.shared_replica.specs.Entries.{updates_of}
use Rattle.shared_replica.proofs.Turns.{acts, gives, looks}
use Rattle.shared_replica.proofs.shared.Shared.len.Goals as goal

pub give-requires-clause-added : goal.give-requires-clause-added
give-requires-clause-added g c = let s = c.take-held.result.1 in
    gives c.take-held.result.0 s s _ _ _ c.take-held.ensures.value refl refl (looks s _ _ c.len-answer.ensures.list)

pub returns-clause-act : goal.returns-clause-act
returns-clause-act g c = let t = c.take-held.ensures in let s = c.take-held.result.1 in (
  s.entries,
  s.store,
  acts c.take-held.result.0 s s _ _ _ t.value refl refl (looks s _ _ c.len-answer.ensures.list) c.args.pass c.give.result t.lock t.seen t.number t.act t.unused t.alone t.others c.give.ensures,
)

pub returns-clause-value : goal.returns-clause-value
returns-clause-value g c = c.len-answer.ensures.value ∙ ap (λ k. length (updates_of k.seen)) (sym c.give.ensures)
