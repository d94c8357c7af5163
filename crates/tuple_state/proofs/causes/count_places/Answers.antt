use Rattle.std.proofs.Common.{get_or, arith}
use Rattle.std.proofs.lemmas.List.Sums.{sum_by_more_le}
use Rattle.tuple_state.specs.Links.{is_of}
use Rattle.tuple_state.specs.declared.links.Link.{Link}
use Rattle.tuple_state.proofs.Raising.{one_here, unit}
use Rattle.tuple_state.proofs.causes.count_places.Goals as goal

pub overflow_add-causes : goal.overflow_add-causes
overflow_add-causes c =
    let links = c.args.links.now in
    let i = c.loop-link.link-index in
    let nobody : Link = record { place = 0; number = 0 } in
    let place = (get_or links i nobody).place in
    let so_far = c.loop-link.invariant place in
    let more = sum_by_more_le (λ (l : Link). unit (is_of place l)) links i nobody c.loop-link-test.true in
    let one = one_here place in
    let few = c.requires.few place in
    omega (arith, so_far, more, one, few)
