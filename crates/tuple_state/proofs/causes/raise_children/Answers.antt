use Rattle.std.proofs.Common.{◌≡◌, ℕ, ◌+◌, ◌-◌, ◌==◌, ◌<◌, length, ap, ◌∙◌, subst, sym, arith}
use Rattle.std.specs.Prelude.{count_by}
use Rattle.tuple_state.specs.Causes.{one_at, times_of}
use Rattle.tuple_state.specs.Links.{IsBelow, numbers_from}
use Rattle.tuple_state.proofs.Linking.{below_more, link_there}
use Rattle.tuple_state.proofs.Raising.{left_more, numbers_counted, one_here, raised_none, raised_then, rising_there, times_fewer}
use Rattle.tuple_state.proofs.causes.raise_children.Goals as goal

pub loop-next-init : goal.loop-next-init
loop-next-init c =
    let links = c.args.children.now.links in
    let same : (k : ℕ) → count_by (λ n. n == k) (numbers_from links c.newest-next.result) ≡ times_of links c.args.place k = λ k. ap (count_by (λ n. n == k)) c.newest-next.ensures.numbers ∙ numbers_counted c.args.place k links in
    record {
      below = c.newest-next.ensures.below;
      left = λ k. let s = same k in omega (arith, s);
      raised = raised_none links _ _ (λ k. times_of links c.args.place k - count_by (λ n. n == k) (numbers_from links c.newest-next.result)) (λ k. let s = same k in omega (arith, s));
      room = omega arith;
    }

pub raise-requires-clause-inside : goal.raise-requires-clause-inside
raise-requires-clause-inside c =
    let links = c.args.children.now.links in
    let below : c.in-Some.index < length links = subst (λ o. IsBelow o (length links)) c.in-Some.is c.loop-next.invariant.below in
    let it = link_there links c.in-Some.index below in
    let number = c.number.ensures it.0 it.1 in
    let lt = rising_there 0 (length c.args.causes.now) links c.in-Some.index it.0 c.requires.rising it.1 in
    omega (arith, number, lt, c.loop-next.auto.causes)

pub raise-requires-clause-few : goal.raise-requires-clause-few
raise-requires-clause-few c =
    let links = c.args.children.now.links in
    let below : c.in-Some.index < length links = subst (λ o. IsBelow o (length links)) c.in-Some.is c.loop-next.invariant.below in
    let it = link_there links c.in-Some.index below in
    let number = c.number.ensures it.0 it.1 in
    let n = c.number.result in
    let more = left_more links n c.in-Some.index it.0.number c.loop-next.next c.older-next.result c.in-Some.is (c.older-next.ensures.numbers it.0 it.1) in
    let one = ap (λ m. one_at m n) (sym number) ∙ one_here n in
    let count = c.loop-next.invariant.raised.count n in
    let left = c.loop-next.invariant.left n in
    let few = c.requires.few n in
    let fewer = times_fewer links c.args.place n in
    omega (arith, more, one, count, left, few, fewer)

pub loop-next-preserved : goal.loop-next-preserved
loop-next-preserved c =
    let links = c.args.children.now.links in
    let below : c.in-Some.index < length links = subst (λ o. IsBelow o (length links)) c.in-Some.is c.loop-next.invariant.below in
    let it = link_there links c.in-Some.index below in
    let number = c.number.ensures it.0 it.1 in
    let more : (k : ℕ) → count_by (λ n. n == k) (numbers_from links c.loop-next.next) ≡ count_by (λ n. n == k) (numbers_from links c.older-next.result) + one_at it.0.number k = λ k. left_more links k c.in-Some.index it.0.number c.loop-next.next c.older-next.result c.in-Some.is (c.older-next.ensures.numbers it.0 it.1) in
    record {
      below = below_more c.older-next.result c.in-Some.index (length links) c.older-next.ensures.below (omega (arith, below));
      left = λ k. let m = more k in let l = c.loop-next.invariant.left k in omega (arith, m, l);
      raised = raised_then links (λ k. times_of links c.args.place k - count_by (λ n. n == k) (numbers_from links c.loop-next.next)) (one_at c.number.result)
          (λ k. times_of links c.args.place k - count_by (λ n. n == k) (numbers_from links c.older-next.result)) _ _ _ _ _ _ c.loop-next.invariant.raised (c.raise.ensures.raised links)
          (λ k. let m = more k in let l = c.loop-next.invariant.left k in let o = ap (λ x. one_at x k) number in omega (arith, m, l, o));
      room = omega (arith, c.loop-next.invariant.room, c.raise.ensures.room);
    }
