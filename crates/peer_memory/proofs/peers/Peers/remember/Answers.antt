use Rattle.std.proofs.Common.{List, ◌++◌, ◌∷◌, [], ap, subst, sym, ◌∙◌, arith}
use Rattle.sync_frames.specs.Payload.{AreIds}
use Rattle.session_rules.specs.Steps.{AreLeast}
use Rattle.update_model.specs.declared.update_id.UpdateId.{UpdateId}
use Rattle.update_model.specs.Graph.{has}
use Rattle.peer_memory.specs.declared.peer.Peer.{Peer}
use Rattle.peer_memory.specs.Peers.{others, with_room}
use Rattle.peer_memory.proofs.Rooms.{kept}
use Rattle.peer_memory.proofs.peers.Peers.remember.Goals as goal

pub invariant_of-self-2 : goal.invariant_of-self-2
invariant_of-self-2 c =
    let peer : Peer = record { name = c.args.name; heads = c.from_vec-heads.result } in
    let old : List Peer = c.self.inside.entries.items in
    let ids : List UpdateId = c.from_vec-heads.result in
    kept old c.push.new.self.items peer (has c.args.ids.now) c.self.invariant (omega arith)
    (subst AreIds c.as_slice.ensures c.are_ids.ensures)
    (subst (AreLeast (has c.args.ids.now) 4096) (sym c.from_vec-heads.ensures) c.in_ok-least_of.ensures)
    (c.in_ok-push.ensures.items ∙ ap (λ (rest : List Peer). rest ++ peer ∷ []) (c.make_room.ensures.rest
    ∙ ap (λ (l : List Peer). with_room (others c.as_slice-2.result.now l)) c.in_ok-reserve.ensures.items ∙ ap (λ n. with_room (others n old)) c.as_slice-2.ensures))
