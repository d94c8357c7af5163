use Rattle.std.specs.Prelude.{option_map}
use Rattle.std.specs.BTreeMap.{get}
use Rattle.key_audit.specs.Walk.{is_by, one_time_cmp, pair_data}
use Rattle.key_audit.proofs.Noting.{walked_more}
use Rattle.key_audit.proofs.walk.find_pairs.Goals as goal

pub loop-position-preserved : goal.loop-position-preserved
loop-position-preserved g c key =
    walked_more (is_by key) (g.H.Holder.members c.args.holder.now) c.loop-position.position c.update_at.result.now (option_map pair_data (get one_time_cmp c.loop-position.found key))
    (option_map pair_data (get one_time_cmp c.note.new.found key)) c.update_at.ensures (c.loop-position.invariant key) (c.in_ok-note.ensures key)
