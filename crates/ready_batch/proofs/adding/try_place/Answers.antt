use Rattle.std.proofs.Common.{inr, map, sym, ◌∙◌}
use Rattle.ready_batch.proofs.Parking.{places_next}
use Rattle.ready_batch.proofs.Placing.{of_batch, added_slots, added_from, placed_added, placed_parked, passed_over, put_back, map_last, taken_other, taken_gone}
use Rattle.ready_batch.proofs.Waves.{longer_by_one}
use Rattle.ready_batch.proofs.adding.try_place.Goals as goal

pub returns-in_err-try_member-clause-full : goal.returns-in_err-try_member-clause-full
returns-in_err-try_member-clause-full g c full batch are =
    let there = sym c.take_left.ensures.left ∙ c.in-Some.is in
    let error = rw full at c.from_residual.ensures in
    let same = error.1 in
    let was = c.in_err-try_member.was in
    (c.in-Some.member, of_batch g.M.Member.entry (map g.M.Member.entry c.args.graph.now) batch c.args.slots.now.items c.args.place c.in-Some.member are there, c.try_member.ensures.full (cc))

pub returns-in_err-extend_from_slice-in-Added-clause-from :
    goal.returns-in_err-extend_from_slice-in-Added-clause-from
returns-in_err-extend_from_slice-in-Added-clause-from g c batch are =
    let there = sym c.take_left.ensures.left ∙ c.in-Some.is in
    let tells = rw c.in-Added.is at c.in_ok-try_member.ensures.tells in
    added_from g.M.Member.entry c.args.graph.now c.try_member.new.graph batch c.args.slots.now.items c.args.place c.in-Some.member are there tells.0

pub returns-in-Known-clause-placed : goal.returns-in-Known-clause-placed
returns-in-Known-clause-placed g c batch others are placed =
    let slots = c.args.slots.now.items in
    let place = c.args.place in
    let there = sym c.take_left.ensures.left ∙ c.in-Some.is in
    let tells = rw c.in-Known.is at c.in_ok-try_member.ensures.tells in
    rw tells.0 (passed_over g.M.Member.entry (map g.M.Member.entry c.args.graph.now) batch slots c.take_left.new.slots.items c.args.parked.now place others c.args.next.now.items
    (taken_other slots c.take_left.new.slots.items place c.take_left.ensures.gone) (taken_gone slots c.take_left.new.slots.items place c.in-Some.member there c.take_left.ensures.gone) placed)

pub returns-in_ok-extend_from_slice-in-Added-clause-slots :
    goal.returns-in_ok-extend_from_slice-in-Added-clause-slots
returns-in_ok-extend_from_slice-in-Added-clause-slots g c batch are =
    let there = sym c.take_left.ensures.left ∙ c.in-Some.is in
    let tells = rw c.in-Added.is at c.in_ok-try_member.ensures.tells in
    added_slots g.M.Member.entry c.args.graph.now c.try_member.new.graph batch c.args.slots.now.items c.take_left.new.slots.items c.args.place c.in-Some.member are there c.take_left.ensures.gone tells.0

pub returns-in_ok-extend_from_slice-in-Added-clause-from :
    goal.returns-in_ok-extend_from_slice-in-Added-clause-from
returns-in_ok-extend_from_slice-in-Added-clause-from g c batch are =
    let there = sym c.take_left.ensures.left ∙ c.in-Some.is in
    let tells = rw c.in-Added.is at c.in_ok-try_member.ensures.tells in
    added_from g.M.Member.entry c.args.graph.now c.try_member.new.graph batch c.args.slots.now.items c.args.place c.in-Some.member are there tells.0

pub returns-in_ok-extend_from_slice-in-Added-clause-placed :
    goal.returns-in_ok-extend_from_slice-in-Added-clause-placed
returns-in_ok-extend_from_slice-in-Added-clause-placed g c batch others are placed =
    let slots = c.args.slots.now.items in
    let taken = c.take_left.new.slots.items in
    let place = c.args.place in
    let there = sym c.take_left.ensures.left ∙ c.in-Some.is in
    let tells = rw c.in-Added.is at c.in_ok-try_member.ensures.tells in
    placed_added g.M.Member.entry (map g.M.Member.entry c.args.graph.now) (map g.M.Member.entry c.try_member.new.graph) batch slots taken c.args.parked.now c.release-released.new.parked place others
    c.args.next.now.items c.extend_from_slice.new.self.items c.release-released.result.items c.in-Some.member c.in-Added.id
    (taken_other slots taken place c.take_left.ensures.gone) (taken_gone slots taken place c.in-Some.member there c.take_left.ensures.gone)
    placed (map_last g.M.Member.entry c.args.graph.now c.try_member.new.graph c.in-Some.member tells.0) tells.1
    (places_next c.args.next.now.items c.extend_from_slice.new.self.items c.deref.result.now c.release-released.result.items c.in_ok-extend_from_slice-in-Added.ensures.items c.deref.ensures.value)
    c.release-released.ensures

pub returns-in_ok-park-in-Lacks-clause-placed : goal.returns-in_ok-park-in-Lacks-clause-placed
returns-in_ok-park-in-Lacks-clause-placed g c batch others are placed =
    let slots = c.args.slots.now.items in
    let taken = c.take_left.new.slots.items in
    let place = c.args.place in
    let there = sym c.take_left.ensures.left ∙ c.in-Some.is in
    let tells = rw c.in-Lacks.is at c.in_ok-try_member.ensures.tells in
    rw (c.note.ensures, tells.0, tells.1) (placed_parked g.M.Member.entry (map g.M.Member.entry c.args.graph.now) batch slots _ c.args.parked.now c.park.new.parked place others c.args.next.now.items c.in-Some.member c.in-Lacks.id
    are there (put_back slots taken place c.in-Some.member there c.take_left.ensures.gone) placed tells.2 tells.3 c.in_ok-park-in-Lacks.ensures.noted c.in_ok-park-in-Lacks.ensures.kept)

pub returns-in_ok-extend_from_slice-in-Added-clause-further :
    goal.returns-in_ok-extend_from_slice-in-Added-clause-further
returns-in_ok-extend_from_slice-in-Added-clause-further g c =
    let tells = rw c.in-Added.is at c.in_ok-try_member.ensures.tells in
    inr (longer_by_one c.args.graph.now c.try_member.new.graph c.in-Some.member tells.0)
