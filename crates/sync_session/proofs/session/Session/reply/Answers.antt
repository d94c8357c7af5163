use Rattle.std.proofs.Common.{◌∙◌, ◌<◌, refl, ap, map, Some, None, ◌&&◌, if◌then◌else◌, All, length, sym, subst, ℕ, List}
use Rattle.update_codec.specs.Parts.{entry_of}
use Rattle.session_rules.specs.declared.end.End.TheVariants.{Done}
use Rattle.sync_session.specs.Kept.{Kept, turn_of}
use Rattle.sync_frames.specs.Payload.{TurnData}
use Rattle.sync_session.proofs.Settling.{replied_to, seeking_replied}
use Rattle.sync_session.proofs.session.Session.reply.Goals as goal

pub returns-clause-replies : goal.returns-clause-replies
returns-clause-replies g c =
    replied_to (map entry_of (g.H.Holder.members c.args.holder.now)) c.args.first (turn_of c.args.turn.now) (turn_of c.args.own) c.args.self.now c.await_answers.new.self _ _ c.in_ok-send.send.items c.ending-end.result
    c.in_ok-send.ensures.exact c.in_ok-await_answers.ensures refl c.from_vec.ensures refl refl
    (c.ending-end.ensures ∙ ap (λ (t : TurnData). if t.have && c.turn.inside.have then Some Done else None) c.own.view_is ∙ ap (λ (t : TurnData). if c.args.own.have && t.have then Some Done else None) c.turn.view_is)
    (ap (λ (k : Kept). record k { state = record k.state { ended = c.ending-end.result } }) c.self.view_is)

pub returns-clause-within : goal.returns-clause-within
returns-clause-within g c = subst (λ (ps : List ℕ). All (λ p. p < length (g.H.Holder.members c.args.holder.now)) ps) (sym c.from_vec.ensures) c.in_ok-send.ensures.within

pub returns-clause-seeks : goal.returns-clause-seeks
returns-clause-seeks g c =
    seeking_replied (map entry_of (g.H.Holder.members c.args.holder.now)) (turn_of c.args.turn.now) (turn_of c.args.own) c.args.self.now c.await_answers.new.self _ c.ending-end.result
    c.requires.settled c.requires.left c.in_ok-await_answers.ensures
    (ap (λ (k : Kept). record k { state = record k.state { ended = c.ending-end.result } }) c.self.view_is)
