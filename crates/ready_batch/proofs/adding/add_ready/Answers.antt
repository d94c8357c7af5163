use Rattle.std.proofs.Common.{map, sym, subst, arith}
use Rattle.ready_batch.specs.Steps.{AreSlots, IsOver}
use Rattle.ready_batch.proofs.Completion.{too_much}
use Rattle.ready_batch.proofs.Ending.{adds_ready, first_slots}
use Rattle.ready_batch.proofs.adding.add_ready.Goals as goal

pub returns-clause-adds : goal.returns-clause-adds
returns-clause-adds g c =
    let batch = c.args.batch.items in
    let are = subst (AreSlots g.M.Member.entry (map g.M.Member.entry c.args.graph.now) batch) (sym c.in_ok-slots.ensures) (first_slots g.M.Member.entry (map g.M.Member.entry c.args.graph.now) batch) in
    let from = c.add_waves.ensures.from batch are in
    let stuck = c.in_ok-add_waves.ensures.stuck batch are (λ i lt. c.in_ok-wave.ensures i (omega (arith, lt, c.len.ensures, c.args.batch.ok.0))) in
    adds_ready g.M.Member.entry c.args.graph.now batch c.add_waves.new.graph _ from.0 c.add_waves.new.slots.items (c.in_ok-add_waves.ensures.slots batch are) stuck c.len-2.ensures.closed from.1 from.2 c.in_ok-left_over.ensures

pub returns-in_err-add_waves-clause-full : goal.returns-in_err-add_waves-clause-full
returns-in_err-add_waves-clause-full g c full =
    let batch = c.args.batch.items in
    let are = subst (AreSlots g.M.Member.entry (map g.M.Member.entry c.args.graph.now) batch) (sym c.in_ok-slots.ensures) (first_slots g.M.Member.entry (map g.M.Member.entry c.args.graph.now) batch) in
    let from = c.add_waves.ensures.from batch are in
    let error = rw full at c.from_residual-in_err-add_waves.ensures in
    let same = error.1 in
    let was = c.in_err-add_waves.was in
    let over = c.add_waves.ensures.full (cc) batch are in
    too_much g.M.Member.entry c.args.graph.now batch from.0 over.0 from.2 over.1
    (subst (λ l. IsOver (map g.M.Member.entry l) (g.M.Member.entry over.0)) from.1 over.2)
