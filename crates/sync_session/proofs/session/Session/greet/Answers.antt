use Rattle.std.proofs.Common.{map, subst, sym, IfOk}
use Rattle.update_codec.specs.Parts.{entry_of}
use Rattle.sync_session.specs.Kept.{Kept, GreetsOver, with_peer}
use Rattle.sync_session.proofs.session.Session.greet.Goals as goal

pub returns-clause-greets : goal.returns-clause-greets
returns-clause-greets g c =
    subst (λ (k : Kept). IfOk c.answer_hello-answer.result (λ out. GreetsOver (map entry_of (g.H.Holder.members c.args.holder.now)) c.args.hello c.args.self.now (with_peer c.args.hello k) out)) (sym c.self.view_is) c.answer_hello-answer.ensures.greets
