use Rattle.std.proofs.Common.{◌≡◌, ◌∙◌, ◌++◌, ◌∷◌, [], ◌+◌, ◌*◌, ℕ, List, length, ap, subst}
use Rattle.std.specs.Int.{w16, w32, to_be_bytes}
use Rattle.sync_frames.specs.declared.frame.Frame.TheVariants as frames
use Rattle.sync_frames.specs.Payload.{TurnData, AreIds, spelled_ids}
use Rattle.sync_frames.specs.Stream.{Spells}
use Rattle.sync_frames.proofs.Written.{turn_written, turn_steps, flag_of_bool}
use Rattle.sync_frames.proofs.writing.write_turn.Goals as goal

pub returns : goal.returns
returns c =
    let turn : TurnData = record { have = c.turn.inside.have; needs = c.turn.inside.needs } in
    let needs = c.as_slice-needs.ensures in
    let len : ℕ = 3 + 32 * length c.as_slice-needs.result.now in
    let bytes : List ℕ = c.put_ids.new.out.items in
    let written = turn_steps (3 ∷ to_be_bytes w32 len) (c.from.result ∷ []) (to_be_bytes w16 (length c.as_slice-needs.result.now)) (spelled_ids c.as_slice-needs.result.now)
    c.in_ok-out.out.items c.push.new.self.items c.put_u16.new.out.items bytes c.in_ok-out.ensures c.in_ok-push.ensures.items c.in_ok-put_u16.ensures c.in_ok-put_ids.ensures.items in
    subst (λ (t : TurnData). Spells (frames.Turn t) bytes) c.turn.view_is
    (turn_written turn len c.from.result bytes c.turn.invariant (subst AreIds needs c.in_ok-put_ids.ensures.ids)
    (ap (λ ids. 3 + 32 * length ids) needs) (c.from.ensures ∙ flag_of_bool c.turn.inside.have)
    (subst (λ ids. bytes ≡ (((3 ∷ to_be_bytes w32 len) ++ c.from.result ∷ []) ++ to_be_bytes w16 (length ids)) ++ spelled_ids ids) needs written))
