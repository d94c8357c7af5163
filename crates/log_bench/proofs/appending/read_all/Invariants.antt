use Rattle.log_bench.specs.Growing.{Grows}
use Rattle.log_bench.proofs.appending.read_all.Given as goal

abbrev pub invariant-records : goal.invariant-records
invariant-records g l = Grows l.rule l.fn.graph l.graph
