use Rattle.std.proofs.Common.{ℕ, List, ◌*◌, ◌||◌, ◌==◌, ◌∙◌, length, take_all, ap, arith}
use Rattle.std.specs.List.{list_any}
use Rattle.bloom_summary.specs.Bloom.{is_bit_set, is_position, position_at, offsets}
use Rattle.bloom_summary.proofs.Summaries.{one_more_word}
use Rattle.bloom_summary.proofs.bits.set_all.Goals as goal

pub loop-offset-preserved : goal.loop-offset-preserved
loop-offset-preserved c =
    one_more_word (8 * length c.args.bytes.now) c.args.id.now c.args.bytes.now c.loop-offset.bytes c.set.new.bytes c.loop-offset.offset-index (omega arith) c.loop-offset.invariant
    (λ j. c.set.ensures j ∙ ap (λ p. is_bit_set c.loop-offset.bytes j || (p == j)) c.position.ensures.value)

pub returns : goal.returns
unfolding is_position
returns c = λ j.
    c.loop-offset.invariant j
    ∙ ap (λ (xs : List ℕ). is_bit_set c.args.bytes.now j || list_any (λ offset. position_at (8 * length c.args.bytes.now) c.args.id.now offset == j) xs)
    (take_all c.loop-offset.offset-index offsets c.loop-offset-test.false)
