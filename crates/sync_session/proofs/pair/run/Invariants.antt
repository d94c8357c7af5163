use Rattle.sync_session.specs.Carrying.{start_of, Going, IsUnrefused}
use Rattle.sync_session.proofs.Rounds.{rounds_left}
use Rattle.sync_session.proofs.pair.run.Given as goal

abbrev pub invariant-rounds : goal.invariant-rounds
invariant-rounds g l =
    (g.A.Holder.keeps l.fn.a l.a) × (g.B.Holder.keeps l.fn.b l.b)
    × (g.A.Holder.is_whole l.fn.a → g.B.Holder.is_whole l.fn.b → IsUnrefused l.out → g.A.Holder.is_whole l.a × g.B.Holder.is_whole l.b)
    × Going (start_of l.fn.session_a l.fn.session_b) (g.A.Holder.limits l.fn.a) (g.B.Holder.limits l.fn.b) (g.A.Holder.rule l.fn.a) (g.B.Holder.rule l.fn.b) (g.A.Holder.members l.fn.a) (g.B.Holder.members l.fn.b) (g.A.Counted.faults l.fn.a) (g.B.Counted.faults l.fn.b)
    l.session_a (g.A.Holder.members l.a) (g.A.Holder.limits l.a) (g.A.Holder.rule l.a) (g.A.Counted.faults l.a)
    l.session_b (g.B.Holder.members l.b) (g.B.Holder.limits l.b) (g.B.Holder.rule l.b) (g.B.Counted.faults l.b) l.out

abbrev pub decreases-rounds : goal.decreases-rounds
decreases-rounds g l = rounds_left l.out l.session_a l.session_b
