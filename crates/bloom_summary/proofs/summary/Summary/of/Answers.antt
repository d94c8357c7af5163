use Rattle.std.proofs.Common.{◌≡◌, ◌+◌, ◌*◌, ◌/◌, ℕ, List, length, sym, subst, replicate, arith}
use Rattle.bloom_summary.proofs.Summaries.{AreSoFar, none_so_far, all_bits}
use Rattle.update_model.specs.Block.{AreBytes}
use Rattle.bloom_summary.proofs.summary.Summary.of.Goals as goal

pub loop-id-init : goal.loop-id-init
loop-id-init c =
    let zeros : c.in_ok-bytes.bytes.items ≡ replicate c.div_ceil.result 0 = c.in_ok-bytes.ensures.items_if_clones_equal (λ y is. is) in
    let count : c.div_ceil.result ≡ (10 * length c.args.ids.now + 7) / 8 = omega (arith, c.div_ceil.ensures) in
    subst (λ (bytes : List ℕ). AreSoFar c.args.ids.now 0 bytes) (sym zeros) (none_so_far c.args.ids.now c.div_ceil.result count)

pub returns : goal.returns
returns c = all_bits c.args.ids.now c.loop-id.id-index c.loop-id.bytes.items c.loop-id-test.false (subst AreBytes c.as_slice.ensures.value c.are_bytes.ensures) c.loop-id.invariant
