use Rattle.bloom_summary.proofs.Summaries.{AreSoFar}
use Rattle.bloom_summary.proofs.summary.Summary.of.Given as goal

abbrev pub invariant-loop-id : goal.invariant-loop-id
invariant-loop-id l = AreSoFar l.ids l.id-index l.bytes.items
