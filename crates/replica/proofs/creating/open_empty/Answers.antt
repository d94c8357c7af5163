use Rattle.bec_disk.proofs.Moments.{told}
use Rattle.replica.proofs.Creates.{empty_logset}
use Rattle.replica.proofs.creating.open_empty.Goals as goal

pub returns-in-Ok-open_declared-clause-members : goal.returns-in-Ok-open_declared-clause-members
returns-in-Ok-open_declared-clause-members g c = λ tells.
    let old = g.D.Disk.state c.args.updates in
    let new = g.D.Disk.state c.cut_synced.new.disk in
    empty_logset c.args.declared.schema.rule new.seen c.in-Ok-open_declared.replica.history.members c.one_logset.ensures c.whole_logset.ensures (c.in-Ok.ensures.cut tells)
    (c.in-Ok-open_declared.ensures.list (told old new c.cut_synced.ensures.any_moment.disk tells))
