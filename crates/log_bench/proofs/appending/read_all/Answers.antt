use Rattle.log_bench.proofs.Grown.{grows_none, grows_on}
use Rattle.log_bench.proofs.appending.read_all.Goals as goal

pub records-init : goal.records-init
records-init g c = grows_none c.args.rule.now c.args.graph.now c.requires

pub records-preserved : goal.records-preserved
records-preserved g c = grows_on c.args.rule.now c.args.graph.now c.records.graph c.add.new.graph c.records.invariant c.in_ok-add-in-Whole.ensures
