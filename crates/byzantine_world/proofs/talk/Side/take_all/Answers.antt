use Rattle.std.proofs.Common.{rules, ◌≡◌, List, [], ◌∷◌, ◌++◌, sym, ap, ◌∙◌, append_assoc}
use Rattle.std.proofs.lemmas.List.{nil_from_length}
use Rattle.std.specs.Vec.Iter.{into_iter_items}
use Rattle.sync_session.specs.declared.checked_frame.CheckedFrame.{CheckedFrame}
use Rattle.byzantine_world.proofs.Fed.{all_taken, taken_members, taken_sound, taken_under, takes_more, takes_none}
use Rattle.byzantine_world.proofs.talk.Side.take_all.Goals as goal

pub frames-init : goal.frames-init
frames-init c = ([], sym c.into_iter-frames.ensures.rest, takes_none c.args.site.now c.args.self.now c.requires.sound c.requires.members)

pub take-requires-clause-sound : goal.take-requires-clause-sound
take-requires-clause-sound c = taken_sound c.args.site.now c.frames.site c.args.self.now c.frames.self c.frames.invariant.0 c.frames.invariant.2

pub take-requires-clause-members : goal.take-requires-clause-members
take-requires-clause-members c = taken_members c.args.site.now c.frames.site c.args.self.now c.frames.self c.frames.invariant.0 c.frames.invariant.2

pub take-requires-clause-under : goal.take-requires-clause-under
take-requires-clause-under c =
    let e : into_iter_items c.frames.frames ≡ c.in-Some.frame ∷ into_iter_items c.next.new.self = search rules in
    taken_under c.args.site.now c.frames.site c.args.self.now c.frames.self c.frames.invariant.0 c.frames.invariant.2 c.args.heard.items (into_iter_items c.next.new.self) c.in-Some.frame c.requires.under
    (c.frames.invariant.1 ∙ ap (λ (xs : List CheckedFrame). c.frames.invariant.0 ++ xs) e)

pub frames-preserved : goal.frames-preserved
frames-preserved c =
    let e : into_iter_items c.frames.frames ≡ c.in-Some.frame ∷ into_iter_items c.next.new.self = search rules in (
      c.frames.invariant.0 ++ c.in-Some.frame ∷ [],
      c.frames.invariant.1 ∙ ap (λ (xs : List CheckedFrame). c.frames.invariant.0 ++ xs) e ∙ sym (append_assoc c.frames.invariant.0 (c.in-Some.frame ∷ []) (into_iter_items c.next.new.self)),
      takes_more c.args.site.now c.frames.site c.take.new.site c.args.self.now c.frames.self c.take.new.self c.frames.invariant.0 c.in-Some.frame c.in_ok-take.field-0 c.frames.invariant.2 c.in_ok-take.ensures.takes,
    )

pub frames-preserved-in_ok-take : goal.frames-preserved-in_ok-take
frames-preserved-in_ok-take c =
    let e : into_iter_items c.frames.frames ≡ c.in-Some.frame ∷ into_iter_items c.next.new.self = search rules in (
      c.frames.invariant.0 ++ c.in-Some.frame ∷ [],
      c.frames.invariant.1 ∙ ap (λ (xs : List CheckedFrame). c.frames.invariant.0 ++ xs) e ∙ sym (append_assoc c.frames.invariant.0 (c.in-Some.frame ∷ []) (into_iter_items c.next.new.self)),
      takes_more c.args.site.now c.frames.site c.take.new.site c.args.self.now c.frames.self c.take.new.self c.frames.invariant.0 c.in-Some.frame c.in_ok-take.field-0 c.frames.invariant.2 c.in_ok-take.ensures.takes,
    )

pub returns : goal.returns
returns c =
    let e = nil_from_length (into_iter_items c.frames.frames) (sym c.frames.frames.rest.ok.0 ∙ c.in_default.ensures.cases.0) in
    record { takes = all_taken c.args.site.now c.frames.site c.args.self.now c.frames.self c.frames.invariant.0 c.frames.invariant.2 c.args.heard.items (into_iter_items c.frames.frames) c.frames.invariant.1 e }
