use Rattle.std.proofs.Common.{◌∙◌, ap, false, ◌+◌}
use Rattle.std.specs.BTreeSet.{keys}
use Rattle.session_rules.specs.State.{Answers}
use Rattle.sync_session.specs.Kept.{Kept, turn_of}
use Rattle.sync_frames.specs.Payload.{TurnData}
use Rattle.sync_session.proofs.Settling.{awaited, joins_at}
use Rattle.sync_session.proofs.session.Session.await_answers.Goals as goal

pub returns : goal.returns
returns c =
    awaited (turn_of c.args.turn.now) (turn_of c.args.own.now) c.args.self.now _ (keys c.join.new.set) (keys c.join-2.new.set) c.from_vec.result.items c.own.inside.have
    (joins_at _ c.args.self.now.state.asked c.as_slice.result.now c.args.own.now.needs (keys c.join.new.set) c.in_ok-join.ensures (ap (λ (k : Kept). k.state.asked) c.self.view_is) (c.as_slice.ensures ∙ ap (λ (t : TurnData). t.needs) c.own.view_is))
    (joins_at _ c.args.self.now.state.peer_asked c.as_slice-2.result.now c.args.turn.now.needs (keys c.join-2.new.set) c.in_ok-join-2.ensures (ap (λ (k : Kept). k.state.peer_asked) c.self.view_is) (c.as_slice-2.ensures ∙ ap (λ (t : TurnData). t.needs) c.turn.view_is))
    (ap (λ (t : TurnData). t.have) c.own.view_is) (c.from_vec.ensures.items ∙ c.in_ok-from_slice.ensures.items ∙ c.as_slice-3.ensures ∙ ap (λ (t : TurnData). t.needs) c.own.view_is)
    (ap (λ (k : Kept). record k { state = record k.state { reading = Answers c.from_vec.result.items; began = false; items = 0; turns = k.state.turns + 1; sent_have = c.own.inside.have; asked = keys c.join.new.set; peer_asked = keys c.join-2.new.set } }) c.self.view_is)
