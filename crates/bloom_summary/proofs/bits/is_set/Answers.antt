use Rattle.std.proofs.Common.{◌/◌, ◌-◌, ◌%◌, ◌==◌, ap, get_or}
use Rattle.std.proofs.lemmas.Nat.Bits.{shr_and_one}
use Rattle.bloom_summary.specs.Bloom.{is_bit_set}
use Rattle.bloom_summary.proofs.bits.is_set.Goals as goal

pub returns : goal.returns
unfolding is_bit_set
returns c = ap (λ b. b == 1) (shr_and_one (get_or c.args.bytes.now (c.args.k / 8) 0) (7 - c.args.k % 8))
