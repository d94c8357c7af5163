use Rattle.bloom_summary.proofs.Summaries.{one_summary}
use Rattle.bloom_summary.proofs.laws.one_summary.Goals as goal

pub returns : goal.returns
returns c ids bytes others a b = one_summary ids bytes others a b
