use Rattle.std.proofs.Common.{◌≡◌, ℕ, ◌+◌, ap, subst, true, cond, length, arith, List, map, leb-true}
use Rattle.std.specs.BTreeMap.{keys}
use Rattle.session_rules.proofs.Words.{and_both}
use Rattle.update_codec.specs.Parts.{entry_of}
use Rattle.update_model.specs.declared.limits.TheConstants.{MAX_BYTES}
use Rattle.update_model.specs.declared.update_id.UpdateId.{UpdateId}
use Rattle.update_model.specs.Entry.{same_id}
use Rattle.update_model.specs.Graph.{has, byte_count}
use Rattle.sync_session.proofs.Indexing.{front_bytes, put_front, byte_front}
use Rattle.sync_session.proofs.Wanting.{put_key}
use Rattle.sync_session.proofs.pending.waiting_after.Goals as goal

pub overflow_add-bytes : goal.overflow_add-bytes
overflow_add-bytes c =
    let all = c.deref-update-items.ensures.value in
    let more = byte_front c.deref-update-items.result.now c.loop-update.update-index c.update-item.result c.loop-update.bytes c.update-item.is c.loop-update-test.true c.loop-update.invariant.counted in
    let within = front_bytes c.deref-update-items.result.now (c.loop-update.update-index + 1) in
    let few = leb-true (byte_count (map entry_of c.args.waiting.items)) MAX_BYTES (and_both _ _ c.requires).1 in
    let same = ap (λ (xs : List (List ℕ)). byte_count (map entry_of xs)) all in
    let long = ap length c.bytes.ensures in
    omega arith

pub loop-update-preserved : goal.loop-update-preserved
loop-update-preserved c = record {
  indexed = λ q. put_front c.loop-update.ids c.insert.new.self c.deref-update-items.result.now c.loop-update.update-index c.update-item.result q c.update-item.is c.loop-update-test.true
      (subst (λ (i : UpdateId). has (keys c.insert.new.self) q ≡ cond (same_id i q) true (has (keys c.loop-update.ids) q)) c.id.ensures (put_key c.loop-update.ids c.insert.new.self _ _ q (c.in_ok-insert.ensures.updates.0 q))) (c.loop-update.invariant.indexed q);
  counted = rw c.bytes.ensures (byte_front c.deref-update-items.result.now c.loop-update.update-index c.update-item.result c.loop-update.bytes c.update-item.is c.loop-update-test.true c.loop-update.invariant.counted);
}
