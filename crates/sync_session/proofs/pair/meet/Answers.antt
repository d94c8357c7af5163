use Rattle.session_rules.specs.declared.role.Role.TheVariants.{Initiator}
use Rattle.sync_session.specs.Carrying.{start_of}
use Rattle.sync_session.proofs.Sessions.{first_goes, first_moves, first_whole, well_fresh}
use Rattle.sync_session.proofs.Starting.{fresh_opened, fresh_role, starts_at}
use Rattle.sync_session.proofs.pair.meet.Goals as goal

pub open-requires : goal.open-requires
open-requires g c = fresh_role Initiator c.args.session_a.now c.requires.fresh_a

pub returns-in_err-first-clause-keeps : goal.returns-in_err-first-clause-keeps
returns-in_err-first-clause-keeps g c = g.B.Holder.keeps_itself c.args.b.now

pub hand_hello-requires : goal.hand_hello-requires
hand_hello-requires g c = well_fresh (g.B.Holder.limits c.args.b.now) (g.B.Holder.rule c.args.b.now) c.args.session_b.now (g.B.Holder.members c.args.b.now) c.len-2.ensures.held c.requires.fresh_b

pub returns-clause-moves : goal.returns-clause-moves
returns-clause-moves g c = first_moves (start_of c.args.session_a.now c.args.session_b.now) (g.A.Holder.limits c.args.a.now) (g.B.Holder.limits c.args.b.now) (g.A.Holder.rule c.args.a.now) (g.B.Holder.rule c.args.b.now) (g.A.Holder.members c.args.a.now) (g.B.Holder.members c.args.b.now) (g.A.Counted.faults c.args.a.now) (g.B.Counted.faults c.args.b.now)
    c.open.new.self c.args.session_b.now c.in_ok-first.first (starts_at c.args.session_a.now (g.A.Holder.members c.args.a.now) c.open.new.self c.in_ok-first.first c.requires.fresh_a c.in_ok-first.ensures.starts) (fresh_opened c.args.session_b.now (g.B.Holder.members c.args.b.now) c.requires.fresh_b)
    (g.B.Holder.limits c.hand_hello.new.to) (g.B.Holder.rule c.hand_hello.new.to) (g.B.Holder.members c.hand_hello.new.to) (g.B.Counted.faults c.hand_hello.new.to) c.hand_hello.ensures.moves

pub returns-clause-going : goal.returns-clause-going
returns-clause-going g c = first_goes (start_of c.args.session_a.now c.args.session_b.now) (g.A.Holder.limits c.args.a.now) (g.B.Holder.limits c.args.b.now) (g.A.Holder.rule c.args.a.now) (g.B.Holder.rule c.args.b.now) (g.A.Holder.members c.args.a.now) (g.B.Holder.members c.args.b.now) (g.A.Counted.faults c.args.a.now) (g.B.Counted.faults c.args.b.now)
    c.open.new.self c.args.session_b.now c.in_ok-first.first (starts_at c.args.session_a.now (g.A.Holder.members c.args.a.now) c.open.new.self c.in_ok-first.first c.requires.fresh_a c.in_ok-first.ensures.starts) (fresh_opened c.args.session_b.now (g.B.Holder.members c.args.b.now) c.requires.fresh_b)
    (g.B.Holder.limits c.hand_hello.new.to) (g.B.Holder.rule c.hand_hello.new.to) (g.B.Holder.members c.hand_hello.new.to) (g.B.Counted.faults c.hand_hello.new.to) c.hand_hello.ensures.moves
    c.hand_hello.new.session c.hand_hello.result c.hand_hello.ensures.handed c.len.ensures.held c.len-2.ensures.held c.in_ok-first.ensures.belongs c.hand_hello.ensures.well c.hand_hello.ensures.store

pub returns-clause-whole : goal.returns-clause-whole
returns-clause-whole g c = λ held. first_whole (start_of c.args.session_a.now c.args.session_b.now) (g.A.Holder.limits c.args.a.now) (g.B.Holder.limits c.args.b.now) (g.A.Holder.rule c.args.a.now) (g.B.Holder.rule c.args.b.now) (g.A.Holder.members c.args.a.now) (g.B.Holder.members c.args.b.now) (g.A.Counted.faults c.args.a.now) (g.B.Counted.faults c.args.b.now)
    c.open.new.self c.args.session_b.now c.in_ok-first.first (starts_at c.args.session_a.now (g.A.Holder.members c.args.a.now) c.open.new.self c.in_ok-first.first c.requires.fresh_a c.in_ok-first.ensures.starts) (fresh_opened c.args.session_b.now (g.B.Holder.members c.args.b.now) c.requires.fresh_b)
    (g.B.Holder.limits c.hand_hello.new.to) (g.B.Holder.rule c.hand_hello.new.to) (g.B.Holder.members c.hand_hello.new.to) (g.B.Counted.faults c.hand_hello.new.to) c.hand_hello.ensures.moves
    c.hand_hello.new.session c.hand_hello.result c.hand_hello.ensures.handed (g.B.Holder.is_whole c.hand_hello.new.to) (c.hand_hello.ensures.whole held)
