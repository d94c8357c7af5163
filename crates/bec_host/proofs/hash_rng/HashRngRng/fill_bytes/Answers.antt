use Rattle.rand_core.proofs.StepsLemmas.{meets_fill_bytes}
use Rattle.bec_host.proofs.hash_rng.HashRngRng.fill_bytes.Goals as goal

pub returns : goal.returns
returns c = meets_fill_bytes _ _ _ _ _ c.fill.ensures
