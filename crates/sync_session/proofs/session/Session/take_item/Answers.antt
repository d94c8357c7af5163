use Rattle.std.proofs.Common.{◌≡◌, ◌∙◌, ◌<◌, sym, true, false, subst}
use Rattle.update_codec.specs.Parts.{entry_of}
use Rattle.session_rules.specs.declared.limits.TheConstants.{MAX_ITEMS}
use Rattle.sync_session.specs.Kept.{Kept}
use Rattle.sync_session.specs.Pending.{has_room_for}
use Rattle.sync_session.proofs.Items.{item_ends, item_again, item_new, item_full, fault_from, repeated_is}
use Rattle.sync_session.proofs.Standing.{stands_end, stands_again, stands_new}
use Rattle.session_rules.specs.declared.end.End.TheVariants.{Full, Peer}
use Rattle.sync_session.proofs.Sending.{closing_sends, silent_sends}
use Rattle.sync_session.proofs.session.Session.take_item.Goals as goal

pub count_item-requires-clause-few : goal.count_item-requires-clause-few
count_item-requires-clause-few c = subst (λ (k : Kept). k.state.items < MAX_ITEMS) c.self.view_is c.in_default.ensures.few

pub gather-requires-clause-few : goal.gather-requires-clause-few
gather-requires-clause-few c = subst (λ (k : Kept). k.state.items < MAX_ITEMS) c.self.view_is c.in_default.ensures.few

pub returns-in-Some-clause-takes : goal.returns-in-Some-clause-takes
returns-in-Some-clause-takes c limits start list =
    item_ends limits start list c.args.self.now c.end.new.self (entry_of c.args.update) c.end.result c.in-Some.fault
    (fault_from start c.args.self.now _ (entry_of c.args.update) c.item_fault.result c.id-id.result c.self.view_is c.id-id.ensures c.item_fault.ensures.fault ∙ c.in-Some.is)
    c.end.ensures.state c.end.ensures.out

pub returns-in-Some-clause-stands : goal.returns-in-Some-clause-stands
returns-in-Some-clause-stands c rule members checked stands = stands_end _ c.args.self.now c.end.new.self c.end.ensures.state rule members stands

pub returns-then-is_repeated-clause-takes : goal.returns-then-is_repeated-clause-takes
returns-then-is_repeated-clause-takes c limits start list =
    item_again limits start list c.args.self.now c.count_item.new.self (entry_of c.args.update) c.silent.result
    (fault_from start c.args.self.now _ (entry_of c.args.update) c.item_fault.result c.id-id.result c.self.view_is c.id-id.ensures c.item_fault.ensures.fault ∙ c.in_default.is)
    c.is_repeated.ensures.within (repeated_is c.args.self.now c.id-id.result (entry_of c.args.update).id c.is_repeated.result true c.id-id.ensures c.is_repeated.ensures.there c.if-is_repeated.true) c.count_item.ensures c.silent.ensures

pub returns-then-is_repeated-clause-stands : goal.returns-then-is_repeated-clause-stands
returns-then-is_repeated-clause-stands c rule members checked stands = stands_again c.args.self.now c.count_item.new.self c.count_item.ensures rule members stands

pub returns-then-not-has_room-clause-takes : goal.returns-then-not-has_room-clause-takes
returns-then-not-has_room-clause-takes c limits start list =
    item_full limits start list c.args.self.now c.end-then-not-has_room.new.self c.args.update c.end-then-not-has_room.result
    (fault_from start c.args.self.now _ (entry_of c.args.update) c.item_fault.result c.id-id.result c.self.view_is c.id-id.ensures c.item_fault.ensures.fault ∙ c.in_default.is)
    (sym (subst (λ (k : Kept). c.has_room.result ≡ has_room_for k.pending c.args.update) c.self.view_is c.has_room.ensures) ∙ c.if-not-has_room.true)
    (repeated_is c.args.self.now c.id-id.result (entry_of c.args.update).id c.is_repeated.result false c.id-id.ensures c.is_repeated.ensures.there c.if-is_repeated.false)
    c.end-then-not-has_room.ensures.state c.end-then-not-has_room.ensures.out

pub returns-then-not-has_room-clause-stands : goal.returns-then-not-has_room-clause-stands
returns-then-not-has_room-clause-stands c rule members checked stands = stands_end _ c.args.self.now c.end-then-not-has_room.new.self c.end-then-not-has_room.ensures.state rule members stands

pub returns-clause-takes : goal.returns-clause-takes
returns-clause-takes c limits start list =
    item_new limits start list c.args.self.now c.gather.new.self c.gather.new.self.sought c.args.update c.silent-2.result
    (fault_from start c.args.self.now _ (entry_of c.args.update) c.item_fault.result c.id-id.result c.self.view_is c.id-id.ensures c.item_fault.ensures.fault ∙ c.in_default.is)
    (sym (subst (λ (k : Kept). c.has_room.result ≡ has_room_for k.pending c.args.update) c.self.view_is c.has_room.ensures) ∙ c.if-not-has_room.false)
    (repeated_is c.args.self.now c.id-id.result (entry_of c.args.update).id c.is_repeated.result false c.id-id.ensures c.is_repeated.ensures.there c.if-is_repeated.false)
    c.in_ok-gather.ensures.state c.silent-2.ensures

pub returns-clause-stands : goal.returns-clause-stands
returns-clause-stands c rule members checked stands = stands_new c.args.update c.args.self.now c.gather.new.self c.gather.new.self.sought c.in_ok-gather.ensures.state c.in_ok-gather.ensures.sought rule members checked stands

pub returns-in-Some-clause-nothing : goal.returns-in-Some-clause-nothing
returns-in-Some-clause-nothing c = closing_sends (Peer _) c.end.result c.end.ensures.out

pub returns-then-is_repeated-clause-nothing : goal.returns-then-is_repeated-clause-nothing
returns-then-is_repeated-clause-nothing c = silent_sends c.silent.result c.silent.ensures

pub returns-then-not-has_room-clause-nothing : goal.returns-then-not-has_room-clause-nothing
returns-then-not-has_room-clause-nothing c = closing_sends Full c.end-then-not-has_room.result c.end-then-not-has_room.ensures.out

pub returns-clause-nothing : goal.returns-clause-nothing
returns-clause-nothing c = silent_sends c.silent-2.result c.silent-2.ensures
