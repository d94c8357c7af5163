use Rattle.std.proofs.Common.{◌≡◌, ◌<◌, refl, ap, subst, sym, ◌∙◌, All, length}
use Rattle.std.proofs.lemmas.List.Elements.{All-head}
use Rattle.std.specs.VecDeque.{deque_items}
use Rattle.sync_session.specs.Kept.{IsFrameUnder}
use Rattle.byzantine_world.specs.Taking.{cut_code_if, view_of}
use Rattle.byzantine_world.proofs.Taking.{reads_frame}
use Rattle.byzantine_world.proofs.carrying.read_frame.Goals.{then-is_broken_off, else-is_broken_off}
use Rattle.byzantine_world.proofs.carrying.read_frame.Goals as goal
use Rattle.world_rules.specs.Happens.{is_broken_off}
use Rattle.world_rules.specs.Worlds.{SiteData}

pub take-requires-clause-sound : goal.take-requires-clause-sound
take-requires-clause-sound c = (c.requires 0).sound

pub take-requires-clause-members : goal.take-requires-clause-members
take-requires-clause-members c = (c.requires 0).members

pub take-requires-clause-under : goal.take-requires-clause-under
take-requires-clause-under c =
    let P = IsFrameUnder c.args.site.now.store.history.schema.rule in
    All-head P c.in-Some.frame (deque_items c.pop_front.new.self) (subst (All P) c.in-Some.ensures.items (c.requires 0).arriving)

pub remember-requires-clause-there : goal.remember-requires-clause-there
remember-requires-clause-there c = subst (λ n. c.args.other < n) (ap (λ (s : SiteData). length s.remembered) (sym c.in_ok-out.ensures.takes.site_is)) (c.requires 0).there

pub returns : goal.returns
returns c reader =
    let side = c.take.new.self in
    let peer : c.if-is_broken_off.peer ≡ cut_code_if (is_broken_off side.ended) c.args.peer.now = elim c.if-is_broken_off.branch [
      | then-is_broken_off w ↦ w.peer-is ∙ w.cut.ensures ∙ ap (λ b. cut_code_if b c.args.peer.now) (sym (sym c.is_broken_off.ensures ∙ w.if-is_broken_off.true))
      | else-is_broken_off w ↦ w.peer-is ∙ ap (λ b. cut_code_if b c.args.peer.now) (sym (sym c.is_broken_off.ensures ∙ w.if-is_broken_off.false))
    ] in (
      reads_frame c.args.site.now c.take.new.site c.remember.new.self
          (view_of reader c.args.other c.args.end.now c.args.peer.now (deque_items c.args.arriving.now) (deque_items c.args.leaving.now))
          (view_of reader c.args.other side c.if-is_broken_off.peer (deque_items c.pop_front.new.self) (deque_items c.put_frames.new.leaving))
          c.in-Some.frame c.in_ok-out.out (sym c.is_over.ensures ∙ c.if-is_over.false) c.in-Some.ensures.items c.in_ok-out.ensures.takes c.in_ok-remember.ensures.remembers c.in_ok-remember.ensures.same
          refl refl peer c.in_ok-put_frames.ensures.put c.in_ok-put_frames.ensures.under,
      refl,
    )
