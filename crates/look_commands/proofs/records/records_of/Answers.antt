use Rattle.std.proofs.Common.{◌∙◌, sym, []}
use Rattle.bec_bytes.proofs.Frames.{stream_of-nil}
use Rattle.node_commands.proofs.Records.{one_record}
use Rattle.look_commands.proofs.records.records_of.Goals as goal

pub loop-position-init : goal.loop-position-init
loop-position-init c = c.new-records.ensures.items ∙ sym stream_of-nil

pub loop-position-preserved : goal.loop-position-preserved
loop-position-preserved c =
    c.in_ok-push_record.ensures ∙ one_record c.loop-position.records.items [] c.args.graph.now c.loop-position.position c.at-update.result.now c.at-update.ensures c.loop-position.invariant
