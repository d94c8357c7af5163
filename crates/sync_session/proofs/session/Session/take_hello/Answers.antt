use Rattle.std.proofs.Common.{◌≡◌, ◌<◌, List, All, length, map}
use Rattle.update_codec.specs.Parts.{entry_of}
use Rattle.sync_session.specs.Kept.{GreetsOver, Stands, out_of, with_hello}
use Rattle.sync_session.specs.Wants.{SeeksToo}
use Rattle.session_rules.specs.Steps.{silent}
use Rattle.update_model.specs.Entry.{Entry}
use Rattle.std.proofs.lemmas.Result.{IfOk-weaker}
use Rattle.sync_session.proofs.Standing.{stands_end, stands_hello, stands_greeting, on_both, on_ok_both}
use Rattle.session_rules.specs.declared.end.End.TheVariants.{Peer}
use Rattle.sync_session.proofs.Sending.{closing_sends, none_within, silent_sends}
use Rattle.sync_session.proofs.session.Session.take_hello.Goals as goal

pub returns-in-Some-clause-stands : goal.returns-in-Some-clause-stands
returns-in-Some-clause-stands g c = stands_end _ c.args.self.now c.end.new.self c.end.ensures.state _ _ c.requires.stands

pub returns-in-Initiator-clause-stands : goal.returns-in-Initiator-clause-stands
returns-in-Initiator-clause-stands g c =
    on_ok_both c.hear.result (c.hear.new.self ≡ with_hello c.args.hello c.hear.new.self.sought c.args.self.now) (SeeksToo c.args.self.now.sought c.args.hello.heads c.hear.new.self.sought)
    (Stands (g.H.Holder.rule c.args.holder.now) c.hear.new.self (g.H.Holder.members c.args.holder.now))
    (λ is too. stands_hello c.args.hello c.args.self.now c.hear.new.self c.hear.new.self.sought is too _ _ c.requires.stands) c.hear.ensures.state c.hear.ensures.sought

pub returns-in-Responder-clause-stands : goal.returns-in-Responder-clause-stands
returns-in-Responder-clause-stands g c =
    on_both c.greet.result (λ out. GreetsOver (map entry_of (g.H.Holder.members c.args.holder.now)) c.args.hello c.args.self.now c.greet.new.self out) (c.greet.new.self.below ≡ length (g.H.Holder.members c.args.holder.now))
    (Stands (g.H.Holder.rule c.args.holder.now) c.greet.new.self (g.H.Holder.members c.args.holder.now))
    (λ out greets all. stands_greeting c.args.hello c.args.self.now c.greet.new.self out (g.H.Holder.rule c.args.holder.now) (g.H.Holder.members c.args.holder.now) greets all c.requires.stands)
    c.greet.ensures.greets c.greet.ensures.below

pub returns-in-Some-clause-within : goal.returns-in-Some-clause-within
returns-in-Some-clause-within g c = none_within (g.H.Holder.members c.args.holder.now) c.end.result.send (closing_sends (Peer _) c.end.result c.end.ensures.out)

pub returns-in-Initiator-clause-within : goal.returns-in-Initiator-clause-within
returns-in-Initiator-clause-within g c =
    IfOk-weaker c.hear.result (λ out. (list : List Entry) → out_of list out ≡ silent) (λ out. All (λ p. p < length (g.H.Holder.members c.args.holder.now)) out.send)
    (λ out says. none_within (g.H.Holder.members c.args.holder.now) out.send (silent_sends out says)) c.hear.ensures.out
