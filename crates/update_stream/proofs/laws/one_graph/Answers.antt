use Rattle.update_stream.proofs.Once.{whole_once}
use Rattle.update_stream.proofs.laws.one_graph.Goals as goal

pub returns : goal.returns
returns c given input members others a b = whole_once given input members others a b
