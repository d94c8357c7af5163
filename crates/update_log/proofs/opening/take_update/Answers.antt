use Rattle.std.proofs.Common.{refl}
use Rattle.update_log.proofs.Scanning.{memory_is_next, takes_new, known_stops, refused_stops}
use Rattle.update_log.proofs.opening.take_update.Goals as goal

pub returns-in-Ok-New-clause-taken : goal.returns-in-Ok-New-clause-taken
returns-in-Ok-New-clause-taken c =
    takes_new c.args._rule.now c.args.graph.now c.add.new.self c.args.update c.args.update c.in-Ok-New._position c.requires.members c.requires.checked refl
    (rw c.in-Ok-New.field-0-is at c.in-Ok-New.ensures.answer) (rw c.in-Ok-New.field-0-is at c.in-Ok-New.ensures.list)

pub returns-in-Ok-Known-clause-taken : goal.returns-in-Ok-Known-clause-taken
returns-in-Ok-Known-clause-taken c = (
  rw c.in-Ok-Known.field-0-is at c.in-Ok-Known.ensures.list,
  known_stops c.args._rule.now c.args.graph.now c.args.update c.args.update c.in-Ok-Known._position refl (rw c.in-Ok-Known.field-0-is at c.in-Ok-Known.ensures.answer),
)

pub returns-clause-taken : goal.returns-clause-taken
returns-clause-taken c = (
  c.in-Err.ensures.list,
  refused_stops c.args._rule.now c.args.graph.now c.args.update c.args.update c.in-Err.refused.why refl c.in-Err.ensures.answer c.in_default.not-Memory,
)

pub returns-in-Memory-clause-memory : goal.returns-in-Memory-clause-memory
returns-in-Memory-clause-memory c =
    memory_is_next c.args._rule.now c.args.graph.now c.args.update c.requires.members c.requires.checked (rw c.in-Memory.is at c.in-Err.ensures.answer)
