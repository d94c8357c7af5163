use Rattle.std.proofs.Common.{◌∙◌, ap, ℕ, List, w32}
use Rattle.std.specs.Int.{from_le_bytes}
use Rattle.rand_core.proofs.StepsLemmas.{meets_next_u32}
use Rattle.bec_host.specs.HashStream.{HashState}
use Rattle.bec_host.proofs.hash_rng.HashRngRng.next_u32.Goals as goal

pub returns : goal.returns
returns c = meets_next_u32 _ _ _ _ (ap (λ n. (n, c.fill.new.rng)) c.from_le_bytes.ensures ∙ ap (λ (p : List ℕ × HashState). (from_le_bytes w32 p.0, p.1)) c.fill.ensures)
