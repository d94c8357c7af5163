use Rattle.std.proofs.Common.{◌∙◌, sym}
use Rattle.sync_session.proofs.Stepping.{gained_few, not_over, ordered, over_is, runs, stays_belonging}
use Rattle.sync_session.proofs.Quiet.{silent_not_store}
use Rattle.sync_session.proofs.Sending.{none_within, silent_sends}
use Rattle.sync_session.proofs.session.Session.step.Goals as goal

pub returns-then-is_over-clause-steps : goal.returns-then-is_over-clause-steps
returns-then-is_over-clause-steps g c =
    over_is (g.H.Holder.limits c.args.holder.now) c.args.self.now (g.H.Holder.members c.args.holder.now) c.args.frame c.silent.result (sym c.is_over.ensures ∙ c.if-is_over.true) c.silent.ensures

pub take-requires-clause-running : goal.take-requires-clause-running
take-requires-clause-running g c =
    let fine = not_over c.args.self.now.failed c.args.self.now.state.ended (sym c.is_over.ensures ∙ c.if-is_over.false) in
    runs (g.H.Holder.limits c.args.holder.now) (g.H.Holder.rule c.args.holder.now) c.args.self.now (g.H.Holder.members c.args.holder.now) c.len.ensures.held (c.requires.belongs fine.0) fine.1

pub take-requires-clause-gained : goal.take-requires-clause-gained
take-requires-clause-gained g c =
    let fine = not_over c.args.self.now.failed c.args.self.now.state.ended (sym c.is_over.ensures ∙ c.if-is_over.false) in
    gained_few (g.H.Holder.limits c.args.holder.now) (g.H.Holder.rule c.args.holder.now) c.args.self.now (g.H.Holder.members c.args.holder.now) (c.requires.belongs fine.0)

pub take-requires-clause-stands : goal.take-requires-clause-stands
take-requires-clause-stands g c = (c.requires.belongs (not_over c.args.self.now.failed c.args.self.now.state.ended (sym c.is_over.ensures ∙ c.if-is_over.false)).0).stands

pub take-requires-clause-rising : goal.take-requires-clause-rising
take-requires-clause-rising g c =
    let fine = not_over c.args.self.now.failed c.args.self.now.state.ended (sym c.is_over.ensures ∙ c.if-is_over.false) in
    ordered (g.H.Holder.limits c.args.holder.now) (g.H.Holder.rule c.args.holder.now) c.args.self.now (g.H.Holder.members c.args.holder.now) c.len.ensures.held (c.requires.belongs fine.0)

pub returns-in-Ok-clause-belongs : goal.returns-in-Ok-clause-belongs
returns-in-Ok-clause-belongs g c =
    stays_belonging (g.H.Holder.limits c.args.holder.now) (g.H.Holder.rule c.args.holder.now) c.args.self.now c.take.new.self (g.H.Holder.members c.args.holder.now) (g.H.Holder.members c.take.new.holder) c.args.frame c.in-Ok.out
    (sym c.is_over.ensures ∙ c.if-is_over.false) c.requires.belongs c.in-Ok.ensures.takes c.in-Ok.ensures.stands

pub returns-then-is_over-clause-store : goal.returns-then-is_over-clause-store
returns-then-is_over-clause-store g c = λ is. absurd (silent_not_store c.silent.result c.silent.ensures is)

pub returns-then-is_over-clause-within : goal.returns-then-is_over-clause-within
returns-then-is_over-clause-within g c = none_within (g.H.Holder.members c.args.holder.now) c.silent.result.send (silent_sends c.silent.result c.silent.ensures)
