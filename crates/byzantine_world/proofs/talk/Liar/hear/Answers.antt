use Rattle.std.proofs.Common.{◌≡◌, map, sym, ap, subst, ◌∙◌}
use Rattle.std.specs.Prelude.{IfOk, OnOk}
use Rattle.link_frames.specs.Hearing.{AllArrive}
use Rattle.replica.specs.Replicas.{ReplicaState}
use Rattle.schema.specs.Data.{SchemaData}
use Rattle.sync_frames.specs.Fed.{FedData, HasCause}
use Rattle.sync_frames.specs.declared.fault.FeedError.{FeedError}
use Rattle.sync_session.specs.Kept.{frame_of}
use Rattle.sync_session.specs.declared.checked_frame.CheckedFrame.TheVariants as checked
use Rattle.update_model.specs.Rule.{RuleData}
use Rattle.byzantine_world.specs.Taking.{HearsLiar, TakesFrame}
use Rattle.byzantine_world.specs.declared.talk.Liar.{Liar}
use Rattle.byzantine_world.proofs.Fed.{hears_as, hears_broken, hears_whole}
use Rattle.byzantine_world.proofs.talk.Liar.hear.Goals.{in-Ok-feed, in-Err-Fault+in_ok-take-in-Err-Fault, in-Err-Memory}
use Rattle.byzantine_world.proofs.talk.Liar.hear.Goals as goal

pub returns-clause-hears : goal.returns-clause-hears
returns-clause-hears c =
    let site = c.args.site.now in
    let liar = c.args.self.now in
    let bytes = c.args.bytes.now in
    let mid = c.feed.new.self in
    let heard = c.in_ok-heard.heard.items in
    let rule : c.rule.result.now ≡ site.store.history.schema.rule =
    c.rule.ensures ∙ ap (λ (x : SchemaData). x.rule) c.schema.ensures ∙ ap (λ (x : ReplicaState). x.history.schema.rule) c.store.ensures in
    let arrive : AllArrive site.store.history.schema.rule c.in-Ok.whole.items (map frame_of heard) = subst (λ (x : RuleData). AllArrive x c.in-Ok.whole.items (map frame_of heard)) rule c.in_ok-heard.ensures.arrives in
    let t = c.in_ok-take_all.ensures.takes in
    elim c.match-feed-2.branch [
      | in-Ok-feed w ↦
          hears_as site liar bytes c.take_all.new.site c.match-feed-2.site (record liar { end = c.take_all.new.self; frames = c.feed-2.new.self }) c.match-feed-2.self c.match-feed-2.result w.site-is w.self-is
          (hears_whole c.one_split.ensures site c.take_all.new.site liar c.take_all.new.self bytes mid c.feed-2.new.self c.in-Ok.whole.items _ heard c.in-Ok.ensures.frames arrive t w.in-Ok-feed.ensures.frames)
      | in-Err-Fault+in_ok-take-in-Err-Fault w ↦
          let cause = subst (λ (f : FeedError). HasCause mid f) w.in-Err-Fault.field-0-is w.in-Err-Fault.ensures.cause in
          let took = subst (λ p. TakesFrame c.take_all.new.site c.take_all.new.self (checked.BadFrame p) w.in_ok-take-in-Err-Fault.field-0 w.take.new.site w.take.new.self) cause.1 w.in_ok-take-in-Err-Fault.ensures.takes in
          hears_as site liar bytes w.take.new.site c.match-feed-2.site (record liar { end = w.take.new.self; frames = mid }) c.match-feed-2.self c.match-feed-2.result w.site-is
          (w.self-is ∙ ap (λ (x : FedData). record liar { end = w.take.new.self; frames = x }) w.in-Err-Fault.ensures.same)
          (hears_broken site c.take_all.new.site w.take.new.site liar c.take_all.new.self w.take.new.self bytes mid c.in-Ok.whole.items heard w.in_ok-take-in-Err-Fault.field-0 c.in-Ok.ensures.frames arrive t cause.0 took)
      | in-Err-Memory w ↦ subst (λ (r : _). OnOk r (HearsLiar site liar bytes c.match-feed-2.site c.match-feed-2.self)) (sym w.result-is) tt
    ]

pub returns-clause-ended : goal.returns-clause-ended
returns-clause-ended c =
    elim c.match-feed-2.branch [
      | in-Ok-feed w ↦ subst (λ (r : _). IfOk r (λ end. end ≡ c.match-feed-2.self.end.ended)) (sym w.result-is) (ap (λ (l : Liar). l.end.ended) (sym w.self-is))
      | in-Err-Fault+in_ok-take-in-Err-Fault w ↦ subst (λ (r : _). IfOk r (λ end. end ≡ c.match-feed-2.self.end.ended)) (sym w.result-is) (ap (λ (l : Liar). l.end.ended) (sym w.self-is))
      | in-Err-Memory w ↦ subst (λ (r : _). IfOk r (λ end. end ≡ c.match-feed-2.self.end.ended)) (sym w.result-is) tt
    ]
