use Rattle.std.proofs.Common.{◌∙◌, ap, ℕ, List, w64}
use Rattle.std.specs.Int.{from_le_bytes}
use Rattle.rand_core.proofs.StepsLemmas.{meets_next_u64}
use Rattle.bec_host.specs.HashStream.{HashState}
use Rattle.bec_host.proofs.hash_rng.HashRngRng.next_u64.Goals as goal

pub returns : goal.returns
returns c = meets_next_u64 _ _ _ _ (ap (λ n. (n, c.fill.new.rng)) c.from_le_bytes.ensures ∙ ap (λ (p : List ℕ × HashState). (from_le_bytes w64 p.0, p.1)) c.fill.ensures)
