use Rattle.std.proofs.Common.{All, ap, subst, sym, ◌∙◌}
use Rattle.std.specs.VecDeque.{deque_items}
use Rattle.sync_session.specs.Kept.{IsFrameUnder}
use Rattle.byzantine_world.proofs.Taking.{pushed_under}
use Rattle.byzantine_world.proofs.carrying.put_frames.Goals.{in-Some+in_ok-push_back, in_default, in-Some-turn+in_ok-push_back-2, in_default-turn}
use Rattle.byzantine_world.proofs.carrying.put_frames.Goals as goal

pub returns-clause-under : goal.returns-clause-under
returns-clause-under c rule are all =
    let begun : All (IsFrameUnder rule) (deque_items c.match-hello.leaving) = elim c.match-hello.branch [
      | in-Some+in_ok-push_back w ↦ pushed_under rule (deque_items c.args.leaving.now) (deque_items c.match-hello.leaving) _ all tt (ap deque_items w.leaving-is ∙ w.in_ok-push_back.ensures.items)
      | in_default w ↦ subst (All (IsFrameUnder rule)) (ap deque_items (sym w.leaving-is)) all
    ] in
    let put = c.in_ok-put_updates.ensures.under rule are begun in
    elim c.match-turn-3.branch [
      | in-Some-turn+in_ok-push_back-2 w ↦ pushed_under rule (deque_items c.put_updates.new.leaving) (deque_items c.match-turn-3.leaving) _ put tt (ap deque_items w.leaving-is ∙ w.in_ok-push_back-2.ensures.items)
      | in_default-turn w ↦ subst (All (IsFrameUnder rule)) (ap deque_items (sym w.leaving-is)) put
    ]
