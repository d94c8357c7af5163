use Rattle.std.proofs.Common.{◌≡◌, take, map}
use Rattle.std.specs.BTreeMap.{keys}
use Rattle.update_codec.specs.Parts.{entry_of}
use Rattle.update_model.specs.declared.update_id.UpdateId.{UpdateId as Id}
use Rattle.update_model.specs.Graph.{has, holds, byte_count}
use Rattle.sync_session.proofs.pending.waiting_after.Given as goal

abbrev pub invariant-loop-update : goal.invariant-loop-update
invariant-loop-update l = record {
  indexed : (q : Id) → has (keys l.ids) q ≡ holds (map entry_of (take l.update-index l.update-items)) q;
  counted : l.bytes ≡ byte_count (map entry_of (take l.update-index l.update-items));
}
