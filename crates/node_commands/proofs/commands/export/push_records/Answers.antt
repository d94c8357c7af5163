use Rattle.std.proofs.Common.{◌∙◌, ◌++◌, ◌<◌, ◌^◌, ℕ, List, ap, append-nil, length, subst, sym}
use Rattle.bec_bytes.specs.Framed.{framed}
use Rattle.bec_bytes.proofs.Frames.{stream_of-nil}
use Rattle.node_commands.proofs.Records.{member_short, one_record}
use Rattle.node_commands.proofs.commands.export.push_records.Goals as goal

pub loop-position-init : goal.loop-position-init
loop-position-init g c = rw stream_of-nil (sym (append-nil c.args.bytes.now.items))

pub push_framed-requires : goal.push_framed-requires
push_framed-requires g c =
    let history = c.args.replica.now.history in
    subst (λ (w : List ℕ). length w < 2 ^ 32) (sym c.bytes.ensures)
    (member_short history.schema.rule history.members c.loop-position.position c.update_at.result.now c.each_stands.ensures.history_is.members c.update_at.ensures)

pub loop-position-preserved : goal.loop-position-preserved
loop-position-preserved g c =
    c.in_ok-push_framed.ensures ∙ ap (λ (w : List ℕ). c.loop-position.bytes.items ++ framed w) c.bytes.ensures
    ∙ one_record c.loop-position.bytes.items c.args.bytes.now.items c.args.replica.now.history.members c.loop-position.position c.update_at.result.now c.update_at.ensures c.loop-position.invariant
