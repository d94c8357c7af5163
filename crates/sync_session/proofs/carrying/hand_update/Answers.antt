use Rattle.std.proofs.Common.{◌∙◌, sym, ap, subst, map, Option, option_map, IfOk}
use Rattle.std.proofs.lemmas.Option.{slice_get-map}
use Rattle.update_codec.specs.Parts.{entry_of}
use Rattle.update_model.specs.Rule.{RuleData}
use Rattle.session_rules.specs.State.{FrameData, Item}
use Rattle.sync_session.specs.Carrying.{Arrives, IsHanded}
use Rattle.sync_session.specs.Kept.{frame_of, out_of, seen}
use Rattle.sync_session.proofs.Carried.{step_handed, step_well}
use Rattle.sync_session.proofs.Quiet.{silent_not_store}
use Rattle.sync_session.proofs.carrying.hand_update.Goals as goal

pub returns-then-position-len-clause-store : goal.returns-then-position-len-clause-store
returns-then-position-len-clause-store g c = λ is. absurd (silent_not_store c.silent.result c.silent.ensures is)

pub returns-clause-handed : goal.returns-clause-handed
returns-clause-handed g c =
    let limits = g.Y.Holder.limits c.args.to.now in
    let rule = g.Y.Holder.rule c.args.to.now in
    let before = g.Y.Holder.members c.args.to.now in
    let after = g.Y.Holder.members c.step.new.holder in
    subst (λ (o : Option FrameData). IfOk c.step.result (λ out. IsHanded limits rule (seen before c.args.session.now) (map entry_of before) o (seen after c.step.new.self) (out_of (map entry_of after) out) (map entry_of after)))
    (sym (ap (option_map Item) (slice_get-map entry_of (g.X.Holder.members c.args.from.now) c.args.position ∙ ap (option_map entry_of) c.update_at.ensures)))
    (step_handed limits rule c.args.session.now c.step.new.self before after c.in_ok-frame.frame (Item (entry_of c.update_at.result.now)) c.step.result c.requires
    (subst (λ (r : RuleData). Arrives r (Item (entry_of c.update_at.result.now)) (frame_of c.in_ok-frame.frame)) c.rule.ensures c.in_ok-frame.ensures.arrives) c.step.ensures.steps)

pub returns-clause-well : goal.returns-clause-well
returns-clause-well g c =
    step_well (g.Y.Holder.limits c.args.to.now) (g.Y.Holder.rule c.args.to.now) c.args.session.now c.step.new.self (g.Y.Holder.members c.args.to.now) (g.Y.Holder.members c.step.new.holder) c.in_ok-frame.frame c.step.result
    c.requires c.step.ensures.steps c.step.ensures.belongs
