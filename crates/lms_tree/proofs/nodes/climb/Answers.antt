use Rattle.std.proofs.Common.{◌≡◌, ◌+◌, ◌-◌, ◌*◌, ℕ, take, drop, ap, ◌∙◌, arith}
use Rattle.lms_tree.proofs.TreeLaws.{climbed_more, climbed_none, halved_more}
use Rattle.lms_tree.proofs.nodes.climb.Goals as goal

pub loop-level-init : goal.loop-level-init
loop-level-init c = record { place = omega arith; so_far = climbed_none _ _ _ _ }

pub loop-level-preserved : goal.loop-level-preserved
loop-level-preserved c =
    let size : 32 * c.from-place.result + 32 - 32 * c.from-place.result ≡ 32 = omega arith in
    let place : 32 * c.from-place.result ≡ 32 * c.loop-level.level = omega arith in
    record {
      place = halved_more c.args.r c.loop-level.level c.loop-level.node c.loop-level.invariant.place;
      so_far = c.parent_of-value.ensures
          ∙ climbed_more c.args.ident.now (λ level. take 32 (drop (32 * level) c.args.path.now)) c.args.r c.args.leaf c.loop-level.level c.loop-level.node c.loop-level.value _
          c.loop-level.invariant.place c.loop-level.invariant.so_far
          (ap (λ (n : ℕ). take n (drop (32 * c.from-place.result) c.args.path.now)) size ∙ ap (λ (n : ℕ). take 32 (drop n c.args.path.now)) place);
    }
