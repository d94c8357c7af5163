use Rattle.sync_session.specs.Kept.{Kept}
use Rattle.sync_session.specs.Starts.{StartsAs}
use Rattle.std.proofs.Common.{subst}
use Rattle.sync_session.proofs.Starting.{fresh_is, fresh_role}
use Rattle.sync_session.proofs.session.Session.start.Goals as goal

pub open-requires : goal.open-requires
open-requires g c = fresh_role c.args.role c.fresh-session.result (fresh_is c.args.role c.args.database c.args.node c.args.recalled c.fresh-session.result c.fresh-session.ensures)

pub returns-clause-starts : goal.returns-clause-starts
returns-clause-starts g c =
    subst (λ (k : Kept). StartsAs k.state.role k.state.database k.state.node k.state.old (g.H.Holder.members c.args.holder.now) c.open.new.self c.in_ok-out.out) c.fresh-session.ensures c.in_ok-out.ensures.starts
