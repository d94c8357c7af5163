use Rattle.std.proofs.Common.{◌∙◌, length, sym, ap}
use Rattle.sync_session.specs.Kept.{Kept}
use Rattle.sync_session.proofs.Starting.{initiator_belongs, responder_belongs}
use Rattle.sync_session.proofs.Sending.{none_within, silent_sends}
use Rattle.sync_session.proofs.session.Session.open.Goals as goal

pub returns-in-Responder-clause-within : goal.returns-in-Responder-clause-within
returns-in-Responder-clause-within g c = none_within (g.H.Holder.members c.args.holder.now) c.silent.result.send (silent_sends c.silent.result c.silent.ensures)

pub returns-in-Responder-clause-belongs : goal.returns-in-Responder-clause-belongs
returns-in-Responder-clause-belongs g c =
    let state = c.args.self.now.state in
    responder_belongs (g.H.Holder.limits c.args.holder.now) (g.H.Holder.rule c.args.holder.now) state.role state.database state.node state.old (g.H.Holder.members c.args.holder.now) c.args.self.now
    c.len.ensures.held (sym (ap (λ (k : Kept). k.state.role) c.self.view_is) ∙ c.in-Responder.is) c.requires

pub returns-in_ok-own-in-Initiator-clause-belongs : goal.returns-in_ok-own-in-Initiator-clause-belongs
returns-in_ok-own-in-Initiator-clause-belongs g c =
    let state = c.args.self.now.state in
    let members = g.H.Holder.members c.args.holder.now in
    initiator_belongs state.role state.database state.node state.old members _ c.in_ok-own-in-Initiator.own
    (sym (ap (λ (k : Kept). k.state.role) c.self.view_is) ∙ c.in-Initiator.is) c.in_ok-own-in-Initiator.ensures.hello
    (ap (λ (k : Kept). record k { state = record k.state { turns = 1 } })
    (c.self-in-Initiator.view_is ∙ c.in_ok-own-in-Initiator.ensures.state ∙ ap (λ (k : Kept). record k { below = length members; heads = c.in_ok-own-in-Initiator.own.heads }) c.requires))
    (g.H.Holder.limits c.args.holder.now) (g.H.Holder.rule c.args.holder.now) c.len.ensures.held
