use Rattle.std.proofs.Common.{◌≡◌, sym, ap, subst, true, cond, length, arith}
use Rattle.std.specs.BTreeMap.{keys}
use Rattle.update_model.specs.declared.update_id.UpdateId.{UpdateId}
use Rattle.update_model.specs.Entry.{same_id}
use Rattle.update_model.specs.Graph.{has}
use Rattle.sync_session.specs.Pending.{PendingData, has_room_for}
use Rattle.sync_session.proofs.Indexing.{indexed_more, indexed_same, bytes_fit}
use Rattle.std.specs.Map.{keys_of}
use Rattle.sync_session.proofs.Wanting.{put_key}
use Rattle.sync_session.proofs.pending.Pending.gather.Goals as goal

pub invariant_of-self-in_err-insert : goal.invariant_of-self-in_err-insert
invariant_of-self-in_err-insert c = indexed_same c.self.inside.waiting.items c.self.inside.gathered.items _ c.self.inside.ids c.insert.new.self c.self.inside.bytes c.self.invariant c.reserve.ensures.items (ap keys_of c.in_err-insert.ensures.err)

pub overflow_add-self : goal.overflow_add-self
overflow_add-self c =
    let room = subst (λ (p : PendingData). has_room_for p c.args.update ≡ true) (sym c.self.view_is) c.requires in
    let all = indexed_more c.self.inside.waiting.items c.self.inside.gathered.items c.self.inside.ids c.insert.new.self c.self.inside.bytes c.args.update c.self.invariant
    (λ q. subst (λ (i : UpdateId). has (keys c.insert.new.self) q ≡ cond (same_id i q) true (has (keys c.self.inside.ids) q)) c.id.ensures (put_key c.self.inside.ids c.insert.new.self _ _ q (c.in_ok-insert.ensures.updates.0 q))) room in
    let few = bytes_fit _ _ _ _ all in
    let long = ap length c.bytes.ensures in
    omega arith

pub invariant_of-self-2 : goal.invariant_of-self-2
invariant_of-self-2 c =
    let room = subst (λ (p : PendingData). has_room_for p c.args.update ≡ true) (sym c.self.view_is) c.requires in
    let all = indexed_more c.self.inside.waiting.items c.self.inside.gathered.items c.self.inside.ids c.insert.new.self c.self.inside.bytes c.args.update c.self.invariant
    (λ q. subst (λ (i : UpdateId). has (keys c.insert.new.self) q ≡ cond (same_id i q) true (has (keys c.self.inside.ids) q)) c.id.ensures (put_key c.self.inside.ids c.insert.new.self _ _ q (c.in_ok-insert.ensures.updates.0 q))) room in
    let added = rw (c.unwrap.ensures, c.reserve.ensures.items) at c.push.ensures.items in
    rw (added, c.bytes.ensures) all
