use Rattle.std.proofs.Common.{inl, true, List, refl, sym, subst, ◌∙◌}
use Rattle.sync_session.specs.Kept.{frame_of}
use Rattle.update_model.specs.declared.update_id.UpdateId.{UpdateId}
use Rattle.shared_replica.proofs.Going.{belongs_longer}
use Rattle.session_server.specs.Talks.{Begins}
use Rattle.session_server.proofs.Passing.{still_self}
use Rattle.session_server.proofs.Talking.{begins_goes, first_is_fresh, recalls_node, recalls_none, with_stops}
use Rattle.session_server.proofs.talk.recall.Goals as goal

pub returns-in_default-clause-ok : goal.returns-in_default-clause-ok
returns-in_default-clause-ok g c =
    let none = sym c.first_node.ensures ∙ c.in_default.is in (
      record { still = still_self c.args.talk.pass; belongs = c.requires.belongs },
      λ rule start held faults heard t. recalls_none rule c.args.side.now.role c.args.side.now.common.now.peers.now start c.args.talk.pass c.args.talk.session c.args.talk.is_fresh held faults heard (frame_of c.args.frame.now) none t,
    )

pub returns-in-Ok-clause-ok : goal.returns-in-Ok-clause-ok
returns-in-Ok-clause-ok g c =
    let node = sym c.first_node.ensures ∙ c.in-Some.is in
    let begun = c.in-Ok.ensures.begun in
    let begins = subst (λ (l : List UpdateId). Begins c.args.talk.pass c.in-Ok.talk.pass c.args.side.now.role l c.in-Ok.talk.session c.in-Ok.field-0-1) c.heads_of-recalled.ensures.value begun.0 in (
      begins_goes c.args.talk.pass c.in-Ok.talk.pass c.args.side.now.role _ c.in-Ok.talk.session c.in-Ok.field-0-1 begins,
      λ rule start held faults heard t. recalls_node rule c.args.side.now.role c.args.side.now.common.now.peers.now start c.args.talk.pass c.in-Ok.talk.pass c.args.talk.session c.in-Ok.talk.session c.args.talk.is_fresh c.in-Ok.talk.is_fresh held faults heard
          (frame_of c.args.frame.now) c.in-Some.node c.in-Ok.field-0-1 node begun.1 t begins,
    )

pub returns-in-Err-clause-err : goal.returns-in-Err-clause-err
returns-in-Err-clause-err g c =
    let node = sym c.first_node.ensures ∙ c.in-Some.is in
    let still = c.in-Err.ensures.refused in (
      record { still = still; belongs = belongs_longer c.args.talk.pass.seen c.in-Err.pass.seen c.args.talk.session still.seen c.requires.belongs },
      λ rule start held faults heard t. with_stops rule c.args.side.now.role c.args.side.now.common.now.peers.now start c.args.talk.pass c.in-Err.pass c.args.talk.session c.args.talk.session c.args.talk.is_fresh true held held faults faults heard t still (inl refl)
          (sym (first_is_fresh c.args.side.now.role c.args.talk.is_fresh (frame_of c.args.frame.now) c.in-Some.node node)) refl refl,
    )
