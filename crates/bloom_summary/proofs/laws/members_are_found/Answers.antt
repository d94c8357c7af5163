use Rattle.bloom_summary.proofs.Summaries.{members_are_found}
use Rattle.bloom_summary.proofs.laws.members_are_found.Goals as goal

pub returns : goal.returns
returns c ids bytes id summary there = members_are_found ids bytes id summary there
