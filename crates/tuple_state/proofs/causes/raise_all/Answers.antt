use Rattle.std.proofs.Common.{◌+◌, List, [], get_or, subst, take, arith}
use Rattle.std.specs.Prelude.{count_by}
use Rattle.std.proofs.lemmas.List.{take_all}
use Rattle.std.proofs.lemmas.List.Sums.{sum_by_more, sum_by_more_le}
use Rattle.tuple_state.specs.Causes.{Raised, one_at}
use Rattle.tuple_state.specs.Links.{is_of}
use Rattle.tuple_state.specs.declared.links.Link.{Link}
use Rattle.tuple_state.proofs.Raising.{one_here, raised_then, unit}
use Rattle.tuple_state.proofs.causes.raise_all.Goals as goal

pub raise-requires-clause-few : goal.raise-requires-clause-few
raise-requires-clause-few c =
    let links = c.args.links.now in
    let i = c.loop-link.link-index in
    let nobody : Link = record { place = 0; number = 0 } in
    let place = (get_or links i nobody).place in
    let so_far = (c.loop-link.invariant.raised []).count place in
    let more = sum_by_more_le (λ (l : Link). unit (is_of place l)) links i nobody c.loop-link-test.true in
    let one = one_here place in
    let few = c.requires.few place in
    omega (arith, so_far, more, one, few)

pub raise-requires-clause-room : goal.raise-requires-clause-room
raise-requires-clause-room c =
    let work = (c.loop-link.invariant.raised []).work in
    omega (arith, work, c.requires.room, c.loop-link.invariant.room)

pub loop-link-preserved : goal.loop-link-preserved
loop-link-preserved c =
    let links = c.args.links.now in
    let i = c.loop-link.link-index in
    let nobody : Link = record { place = 0; number = 0 } in
    record {
      raised = λ all.
          raised_then all (λ k. count_by (is_of k) (take i links)) (one_at (get_or links i nobody).place) (λ k. count_by (is_of k) (take (i + 1) links)) _ _ _ _ _ _ (c.loop-link.invariant.raised all) (c.raise.ensures.raised all)
          (λ k. sum_by_more (λ (l : Link). unit (is_of k l)) links i nobody c.loop-link-test.true);
      room = omega (arith, c.loop-link.invariant.room, c.raise.ensures.room);
    }

pub returns-clause-raised : goal.returns-clause-raised
returns-clause-raised c all =
    subst (λ (l : List Link). Raised all (λ k. count_by (is_of k) l) c.args.causes.now c.args.pending.now.items c.loop-link.causes c.loop-link.pending.items)
    (take_all c.loop-link.link-index c.args.links.now c.loop-link-test.false) (c.loop-link.invariant.raised all)
