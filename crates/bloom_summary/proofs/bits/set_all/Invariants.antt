use Rattle.std.proofs.Common.{◌≡◌, ℕ, ◌*◌, ◌||◌, ◌==◌, length, take}
use Rattle.std.specs.List.{list_any}
use Rattle.bloom_summary.specs.Bloom.{is_bit_set, position_at, offsets}
use Rattle.bloom_summary.proofs.bits.set_all.Given as goal

abbrev pub invariant-loop-offset : goal.invariant-loop-offset
invariant-loop-offset l = (j : ℕ) → is_bit_set l.bytes j ≡ (is_bit_set l.fn.bytes j || list_any (λ offset. position_at (8 * length l.fn.bytes) l.fn.id offset == j) (take l.offset-index offsets))
