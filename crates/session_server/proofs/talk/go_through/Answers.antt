use Rattle.std.proofs.Common.{arith, ◌++◌, [], inl, refl, sym, ap, subst, drop, length, length-append, ℕ, List, Option}
use Rattle.std.proofs.lemmas.List.{length-take}
use Rattle.session_rules.specs.State.{FrameData}
use Rattle.sync_frames.specs.Fed.{FedData}
use Rattle.link_frames.specs.Hearing.{Reads}
use Rattle.link_frames.proofs.Pieces.{reads_nothing}
use Rattle.session_server.specs.declared.ending.Ending.{Ending}
use Rattle.session_server.specs.declared.ending.Ending.TheVariants.{Memory}
use Rattle.session_server.specs.Talks.{IsTalkWith, ReadsBy, ReadsTo}
use Rattle.session_server.proofs.Passing.{still_self, still_then}
use Rattle.session_server.proofs.Finishing.{reads_nothing_to}
use Rattle.session_server.proofs.Talking.{with_stops}
use Rattle.session_server.proofs.talk.go_through.Goals as goal

pub loop-init : goal.loop-init
loop-init g c =
    let left = g.K.Source.left c.args.link.now in (
      record { still = still_self c.args.talk.pass; belongs = c.requires.belongs },
      λ start heard t none.
          (heard, t, subst (λ (f : FedData). Reads c.args.side.now.common.now.rule.now left left f heard) (sym c.new-frames.ensures) (subst (λ (l : List FrameData). Reads c.args.side.now.common.now.rule.now left left (record { place = 0; rest = [] }) l) (sym none) (reads_nothing c.args.side.now.common.now.rule.now left))),
      (let long = c.in-Ok.ensures.len in omega (arith, long)),
    )

pub returns-in_default-clause-lock : goal.returns-in_default-clause-lock
returns-in_default-clause-lock g c = refl

pub returns-in_default-clause-talk : goal.returns-in_default-clause-talk
returns-in_default-clause-talk g c start heard t none = (
  heard,
  with_stops c.args.side.now.common.now.rule.now c.args.side.now.role c.args.side.now.common.now.peers.now start c.args.talk.pass c.args.talk.pass c.args.talk.session c.args.talk.session c.args.talk.is_fresh c.args.talk.is_fresh _ _ _ _ heard t
      (still_self c.args.talk.pass) (inl refl) refl refl refl,
  subst (λ (l : List FrameData). ReadsTo c.args.side.now.common.now.rule.now (g.K.Source.left c.args.link.now) (g.K.Source.left c.args.link.now) l Memory) (sym none) (reads_nothing_to c.args.side.now.common.now.rule.now (g.K.Source.left c.args.link.now) Memory refl),
)

pub returns-in-Some-over-clause-talk : goal.returns-in-Some-over-clause-talk
returns-in-Some-over-clause-talk g c start heard t none =
    let u = c.loop.invariant.1 start heard t none in
    let h = c.go_on-next.ensures.talk start (g.K.Source.left c.args.link.now) u.0 u.1 u.2 in (
      h.0,
      subst (λ (o : Option Ending). IsTalkWith c.args.side.now.common.now.rule.now c.args.side.now.role c.args.side.now.common.now.peers.now start c.go_on-next.result.0.pass c.go_on-next.result.0.session c.go_on-next.result.0.is_fresh (g.K.Sink.held c.go_on-next.new.link)
          (g.K.Counted.faults c.go_on-next.new.link) h.0 o) c.in-Some-over.is h.1,
      subst (λ (o : Option Ending). ReadsBy o c.args.side.now.common.now.rule.now (g.K.Source.left c.args.link.now) (g.K.Source.left c.go_on-next.new.link) c.go_on-next.new.frames h.0) c.in-Some-over.is h.2,
    )

pub loop-preserved : goal.loop-preserved
loop-preserved g c = (
  record { still = still_then c.args.talk.pass c.loop.talk.pass c.go_on-next.result.0.pass c.loop.invariant.0.still c.go_on-next.ensures.goes.still; belongs = c.go_on-next.ensures.goes.belongs },
  λ start heard t none.
      let u = c.loop.invariant.1 start heard t none in
      let h = c.go_on-next.ensures.talk start (g.K.Source.left c.args.link.now) u.0 u.1 u.2 in (
        h.0,
        subst (λ (o : Option Ending). IsTalkWith c.args.side.now.common.now.rule.now c.args.side.now.role c.args.side.now.common.now.peers.now start c.go_on-next.result.0.pass c.go_on-next.result.0.session c.go_on-next.result.0.is_fresh (g.K.Sink.held c.go_on-next.new.link)
            (g.K.Counted.faults c.go_on-next.new.link) h.0 o) c.in_default-over.is h.1,
        subst (λ (o : Option Ending). ReadsBy o c.args.side.now.common.now.rule.now (g.K.Source.left c.args.link.now) (g.K.Source.left c.go_on-next.new.link) c.go_on-next.new.frames h.0) c.in_default-over.is h.2,
      ),
  (
      let new = c.go_on-next.new.buffer in
      let rest = drop (length new) c.loop.buffer.items in
      let cut = length-take c.loop.buffer.len (new ++ rest) in
      let whole = length-append new rest in
      let same = c.go_on-next.ensures.len in
      let len = c.deref_mut.ensures.len in
      let value = ap (length {A = ℕ}) c.deref_mut.ensures.value in
      let room = c.loop.invariant.2 in
      omega (arith, cut, whole, same, len, value, room)
      ),
)
