use Rattle.std.proofs.Common.{map}
use Rattle.ready_batch.proofs.Answering.{known_held, full_over}
use Rattle.ready_batch.proofs.tried.try_member.Goals as goal

pub returns-in-Ok-Known-clause-tells : goal.returns-in-Ok-Known-clause-tells
returns-in-Ok-Known-clause-tells g c =
    let answer = rw c.in-Ok-Known.field-0-is at c.in-Ok-Known.ensures.answer in
    let list = rw c.in-Ok-Known.field-0-is at c.in-Ok-Known.ensures.list in
    (list, known_held (map g.M.Member.entry c.args.graph.now) (g.M.Member.entry c.args.member) _ answer)

pub returns-in-Full-clause-full : goal.returns-in-Full-clause-full
returns-in-Full-clause-full g c _ =
    let answer = rw c.in-Full.is at c.in-Err.ensures.answer in
    let over = full_over (map g.M.Member.entry c.args.graph.now) (g.M.Member.entry c.args.member) c.len.ensures.closed answer in
    rw c.in-Err.ensures.list over

pub returns-in-Memory-clause-memory : goal.returns-in-Memory-clause-memory
returns-in-Memory-clause-memory g c _ = rw c.in-Memory.is at c.in-Err.ensures.answer
