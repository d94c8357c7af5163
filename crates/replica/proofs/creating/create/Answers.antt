use Rattle.std.proofs.Common.{◌++◌}
use Rattle.replica.proofs.Creates.{creating_nothing}
use Rattle.replica.proofs.creating.create.Goals as goal

pub returns-in-Err-clause-creating_err : goal.returns-in-Err-clause-creating_err
returns-in-Err-clause-creating_err g c =
    creating_nothing (g.D.Disk.state c.args.schema.now) (g.D.Disk.state c.plan_store.new.part) (g.D.Disk.state c.args.updates) (c.args.node ++ c.args.text.now) c.requires.schema c.plan_store.ensures.same
