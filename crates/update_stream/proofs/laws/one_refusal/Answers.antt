use Rattle.update_stream.proofs.Once.{refused_once}
use Rattle.update_stream.proofs.laws.one_refusal.Goals as goal

pub returns : goal.returns
returns c given input rest other m n fault another a b = refused_once c.one_cause.ensures c.no_cause.ensures given input rest other m n fault another a b
