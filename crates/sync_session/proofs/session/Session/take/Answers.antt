use Rattle.std.proofs.Common.{sym, subst, map, IfOk}
use Rattle.std.proofs.lemmas.Result.{IfOk-weaker, on_ok_weaker}
use Rattle.update_codec.specs.Parts.{entry_of}
use Rattle.update_model.specs.Batch.{Limits}
use Rattle.session_rules.specs.Steps.{Takes}
use Rattle.session_rules.specs.State as state
use Rattle.sync_session.specs.declared.checked_frame.CheckedFrame.{CheckedFrame}
use Rattle.sync_session.specs.Kept.{IsFrameUnder, frame_of, hello_of, number_of, out_of, seen}
use Rattle.sync_session.proofs.Standing.{stands_end}
use Rattle.sync_session.proofs.Stepping.{answer_seen, take_seen}
use Rattle.std.proofs.Common.{◌≡◌, ◌<◌, [], All, List, length}
use Rattle.update_model.specs.Entry.{Entry}
use Rattle.session_rules.specs.declared.end.End.TheVariants.{Peer}
use Rattle.sync_session.specs.Kept.{whole}
use Rattle.sync_session.proofs.Quiet.{closed_not_store, plain_not_store, store_free}
use Rattle.sync_session.proofs.Keeping.{whole_anyway}
use Rattle.sync_session.proofs.Sending.{closing_sends, none_within}
use Rattle.sync_session.proofs.session.Session.take.Goals as goal

pub returns-in-Hello-clause-takes : goal.returns-in-Hello-clause-takes
returns-in-Hello-clause-takes g c =
    let members = g.H.Holder.members c.args.holder.now in
    subst (λ (f : CheckedFrame). IfOk c.take_hello.result (λ out. Takes (g.H.Holder.limits c.args.holder.now) (seen members c.args.self.now) (map entry_of members) (frame_of f) (seen members c.take_hello.new.self) (out_of (map entry_of members) out) (map entry_of members))) (sym c.in-Hello.is)
    (IfOk-weaker c.take_hello.result (λ out. (limits : Limits) → Takes limits (seen members c.args.self.now) (map entry_of members) (state.Hello (hello_of c.in-Hello.hello)) (seen members c.take_hello.new.self) (out_of (map entry_of members) out) (map entry_of members))
    (λ out. Takes (g.H.Holder.limits c.args.holder.now) (seen members c.args.self.now) (map entry_of members) (state.Hello (hello_of c.in-Hello.hello)) (seen members c.take_hello.new.self) (out_of (map entry_of members) out) (map entry_of members))
    (λ out t. t (g.H.Holder.limits c.args.holder.now)) c.take_hello.ensures.takes)

pub returns-in-OtherVersion-clause-stands : goal.returns-in-OtherVersion-clause-stands
returns-in-OtherVersion-clause-stands g c = stands_end _ c.args.self.now c.end.new.self c.end.ensures.state _ _ c.requires.stands

pub returns-in-Item-clause-takes : goal.returns-in-Item-clause-takes
returns-in-Item-clause-takes g c =
    let members = g.H.Holder.members c.args.holder.now in
    subst (λ (f : CheckedFrame). IfOk c.take_item.result (λ out. Takes (g.H.Holder.limits c.args.holder.now) (seen members c.args.self.now) (map entry_of members) (frame_of f) (seen members c.take_item.new.self) (out_of (map entry_of members) out) (map entry_of members))) (sym c.in-Item.is)
    (answer_seen (g.H.Holder.limits c.args.holder.now) (g.H.Holder.members c.args.holder.now) c.args.self.now c.take_item.new.self (state.Item (entry_of c.in-Item.update)) c.take_item.result c.take_item.ensures.below c.take_item.ensures.takes)

pub returns-in-Item-clause-stands : goal.returns-in-Item-clause-stands
returns-in-Item-clause-stands g c =
    on_ok_weaker c.take_item.result (λ f. f (g.H.Holder.rule c.args.holder.now) (g.H.Holder.members c.args.holder.now) (subst (IsFrameUnder (g.H.Holder.rule c.args.holder.now)) c.in-Item.is c.requires.under) c.requires.stands) c.take_item.ensures.stands

pub returns-in-BadItem-clause-takes : goal.returns-in-BadItem-clause-takes
returns-in-BadItem-clause-takes g c =
    let members = g.H.Holder.members c.args.holder.now in
    subst (λ (f : CheckedFrame). Takes (g.H.Holder.limits c.args.holder.now) (seen members c.args.self.now) (map entry_of members) (frame_of f) (seen members c.take_bad_item.new.self) (out_of (map entry_of members) c.take_bad_item.result) (map entry_of members)) (sym c.in-BadItem.is)
    (take_seen (g.H.Holder.limits c.args.holder.now) (g.H.Holder.members c.args.holder.now) c.args.self.now c.take_bad_item.new.self (state.BadItem (number_of c.in-BadItem.fault)) c.take_bad_item.result c.take_bad_item.ensures.below
    (c.take_bad_item.ensures.takes (g.H.Holder.limits c.args.holder.now)))

pub returns-in-BadItem-clause-stands : goal.returns-in-BadItem-clause-stands
returns-in-BadItem-clause-stands g c = c.take_bad_item.ensures.stands (g.H.Holder.rule c.args.holder.now) (g.H.Holder.members c.args.holder.now) c.requires.stands

pub returns-in-BadFrame-clause-stands : goal.returns-in-BadFrame-clause-stands
returns-in-BadFrame-clause-stands g c = stands_end _ c.args.self.now c.end-in-BadFrame.new.self c.end-in-BadFrame.ensures.state _ _ c.requires.stands

pub returns-in-Hello-clause-store : goal.returns-in-Hello-clause-store
returns-in-Hello-clause-store g c =
    let members = g.H.Holder.members c.args.holder.now in
    store_free c.take_hello.result (λ out. (limits : Limits) → Takes limits (seen members c.args.self.now) (map entry_of members) (state.Hello (hello_of c.in-Hello.hello)) (seen members c.take_hello.new.self) (out_of (map entry_of members) out) (map entry_of members)) _
    (λ out t. plain_not_store (g.H.Holder.limits c.args.holder.now) _ _ _ (state.Hello (hello_of c.in-Hello.hello)) (out_of (map entry_of members) out) _ tt (t (g.H.Holder.limits c.args.holder.now))) c.take_hello.ensures.takes

pub returns-in-OtherVersion-clause-store : goal.returns-in-OtherVersion-clause-store
returns-in-OtherVersion-clause-store g c = λ is. absurd (closed_not_store (Peer _) c.end.result (λ h. cc) c.end.ensures.out is)

pub returns-in-Item-clause-store : goal.returns-in-Item-clause-store
returns-in-Item-clause-store g c =
    store_free c.take_item.result (λ out. (limits : Limits) (start list : List Entry) → Takes limits (whole start c.args.self.now) list (state.Item (entry_of c.in-Item.update)) (whole start c.take_item.new.self) (out_of list out) list) _
    (λ out t. plain_not_store (g.H.Holder.limits c.args.holder.now) (whole [] c.args.self.now) (whole [] c.take_item.new.self) [] (state.Item (entry_of c.in-Item.update)) (out_of [] out) [] tt (t (g.H.Holder.limits c.args.holder.now) [] [])) c.take_item.ensures.takes

pub returns-in-BadItem-clause-store : goal.returns-in-BadItem-clause-store
returns-in-BadItem-clause-store g c =
    λ is. absurd (plain_not_store (g.H.Holder.limits c.args.holder.now) (whole [] c.args.self.now) (whole [] c.take_bad_item.new.self) [] (state.BadItem (number_of c.in-BadItem.fault)) (out_of [] c.take_bad_item.result) [] tt (c.take_bad_item.ensures.takes (g.H.Holder.limits c.args.holder.now) [] []) is)

pub returns-in-BadFrame-clause-store : goal.returns-in-BadFrame-clause-store
returns-in-BadFrame-clause-store g c = λ is. absurd (closed_not_store (Peer _) c.end-in-BadFrame.result (λ h. cc) c.end-in-BadFrame.ensures.out is)

pub returns-in-Item-clause-keeps : goal.returns-in-Item-clause-keeps
returns-in-Item-clause-keeps g c = g.H.Holder.keeps_itself c.args.holder.now

pub returns-in-Item-clause-whole : goal.returns-in-Item-clause-whole
returns-in-Item-clause-whole g c = λ held. whole_anyway c.take_item.result (g.H.Holder.is_whole c.args.holder.now) held

pub returns-in-OtherVersion-clause-within : goal.returns-in-OtherVersion-clause-within
returns-in-OtherVersion-clause-within g c = none_within (g.H.Holder.members c.args.holder.now) c.end.result.send (closing_sends (Peer _) c.end.result c.end.ensures.out)

pub returns-in-Item-clause-within : goal.returns-in-Item-clause-within
returns-in-Item-clause-within g c =
    let members = g.H.Holder.members c.args.holder.now in
    IfOk-weaker c.take_item.result (λ out. out.send ≡ []) (λ out. All (λ p. p < length members) out.send) (λ out none. none_within members out.send none) c.take_item.ensures.nothing

pub returns-in-BadItem-clause-within : goal.returns-in-BadItem-clause-within
returns-in-BadItem-clause-within g c = none_within (g.H.Holder.members c.args.holder.now) c.take_bad_item.result.send c.take_bad_item.ensures.nothing

pub returns-in-BadFrame-clause-within : goal.returns-in-BadFrame-clause-within
returns-in-BadFrame-clause-within g c = none_within (g.H.Holder.members c.args.holder.now) c.end-in-BadFrame.result.send (closing_sends (Peer _) c.end-in-BadFrame.result c.end-in-BadFrame.ensures.out)
