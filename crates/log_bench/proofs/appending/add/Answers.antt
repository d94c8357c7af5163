use Rattle.log_bench.proofs.Grown.{grows_by}
use Rattle.log_bench.proofs.appending.add.Goals as goal

pub returns-in-Ok : goal.returns-in-Ok
returns-in-Ok c = grows_by c.args.rule.now c.args.graph.now c.add.new.self c.in_ok-checked.checked c.in-Ok._added c.requires c.in_ok-checked.ensures.found c.in-Ok.ensures.list
