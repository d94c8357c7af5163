use Rattle.replica.proofs.Declaring.{keeps_store}
use Rattle.replica.proofs.opening.open_store.Goals as goal

pub returns-in-Ok-open_declared-clause-any_moment : goal.returns-in-Ok-open_declared-clause-any_moment
returns-in-Ok-open_declared-clause-any_moment g c =
    let declared = c.in-Ok.declared in
    keeps_store g.L.Relation.answer (g.D.Disk.state c.args.schema.now) (g.D.Disk.state c.args.updates) c.in-Ok-open_declared.replica.log.disk declared.node declared.schema
    c.one_schema.ensures c.in-Ok.ensures.declared c.in-Ok-open_declared.ensures.any_moment

pub returns-in-Err-open_declared-clause-any_moment_err : goal.returns-in-Err-open_declared-clause-any_moment_err
returns-in-Err-open_declared-clause-any_moment_err g c =
    let declared = c.in-Ok.declared in
    keeps_store g.L.Relation.answer (g.D.Disk.state c.args.schema.now) (g.D.Disk.state c.args.updates) (g.D.Disk.state c.in-Err-open_declared.field-0.updates) declared.node declared.schema
    c.one_schema.ensures c.in-Ok.ensures.declared c.in-Err-open_declared.ensures.any_moment_err
