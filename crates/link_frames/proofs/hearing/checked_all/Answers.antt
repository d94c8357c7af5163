use Rattle.std.proofs.Common.{◌≡◌, ◌∷◌, ◌++◌, [], List, Vec, map, sym, ap, subst, ◌∙◌, append_assoc, append-nil}
use Rattle.std.proofs.lemmas.List.{nil_from_length}
use Rattle.std.specs.declared.alloc.Global.{Global}
use Rattle.std.specs.Vec.Iter.{into_iter_items}
use Rattle.record_check.specs.Records.{bytes_of}
use Rattle.sync_frames.specs.declared.frame.Frame.{Frame}
use Rattle.sync_session.specs.Kept.{frame_of}
use Rattle.link_frames.specs.Hearing.{AllArrive}
use Rattle.link_frames.proofs.Checking.{Checks, checks_all, checks_plain, checks_run}
use Rattle.link_frames.proofs.hearing.checked_all.Goals as goal

pub loop-frame-preserved-in-Continue-branch-3 : goal.loop-frame-preserved-in-Continue-branch-3
loop-frame-preserved-in-Continue-branch-3 g c =
    let rule = c.args.rule.now in
    let steps = rw c.in-Some.is at c.next.ensures.steps in
    let whole = checks_run rule c.loop-frame.yielded (bytes_of c.loop-frame.run.items) c.loop-frame.all.items c.put_checked.new.all.items c.loop-frame.invariant.checks c.in_ok-put_checked-in-Ok.ensures.puts in
    record {
      checks = subst (λ (l : List (Vec _ Global)). Checks rule (c.loop-frame.yielded ++ c.in-Some.frame ∷ []) (bytes_of l) c.push.new.self.items) (sym c.put_checked.ensures.none)
          (checks_plain rule c.loop-frame.yielded c.in-Some.frame c.in-Ok.frame c.put_checked.new.all.items c.push.new.self.items whole c.in-Ok.ensures c.in_ok-push-in-Ok.ensures.items);
      left = c.loop-frame.invariant.left ∙ ap (λ (l : List Frame). c.loop-frame.yielded ++ l) steps.0 ∙ sym (append_assoc c.loop-frame.yielded (c.in-Some.frame ∷ []) (into_iter_items c.next.new.self));
    }

pub returns-clause-arrives : goal.returns-clause-arrives
returns-clause-arrives g c =
    let none = nil_from_length (into_iter_items c.loop-frame.frame-iterator) (sym c.loop-frame.frame-iterator.rest.ok.0 ∙ (rw c.in-None.is at c.next.ensures.steps).0) in
    let all : c.loop-frame.yielded ≡ c.args.frames.items = sym (c.loop-frame.invariant.left ∙ ap (λ (l : List Frame). c.loop-frame.yielded ++ l) none ∙ append-nil c.loop-frame.yielded) in
    let whole = checks_run c.args.rule.now c.loop-frame.yielded (bytes_of c.loop-frame.run.items) c.loop-frame.all.items c.put_checked-2.new.all.items c.loop-frame.invariant.checks c.in_ok-put_checked.ensures.puts in
    subst (λ (l : List Frame). AllArrive c.args.rule.now l (map frame_of c.put_checked-2.new.all.items)) all (checks_all c.args.rule.now c.loop-frame.yielded c.put_checked-2.new.all.items whole)

pub returns-clause-under : goal.returns-clause-under
returns-clause-under g c =
    (checks_run c.args.rule.now c.loop-frame.yielded (bytes_of c.loop-frame.run.items) c.loop-frame.all.items c.put_checked-2.new.all.items c.loop-frame.invariant.checks c.in_ok-put_checked.ensures.puts).under
