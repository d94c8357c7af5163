use Rattle.bloom_summary.proofs.SetBits.{set_bit}
use Rattle.bloom_summary.proofs.bits.set.Goals as goal

pub returns : goal.returns
returns c j = set_bit c.args.bytes.now c.args.k c.requires j
