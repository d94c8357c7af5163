use Rattle.std.proofs.Common.{map, subst}
use Rattle.std.specs.Prelude.{IfOk}
use Rattle.sync_session.specs.Kept.{frame_of, out_of, seen}
use Rattle.update_codec.specs.Parts.{entry_of}
use Rattle.world_rules.specs.Happens.{TakesOne}
use Rattle.world_rules.specs.Worlds.{SiteData, held_by}
use Rattle.world_rules.proofs.Ending.{takes_one, told}
use Rattle.world_rules.proofs.site.Site.take.Goals as goal

pub returns-clause-takes : goal.returns-clause-takes
returns-clause-takes c =
    let new = c.step.new.holder in
    subst (λ (s : SiteData). IfOk c.step.result (λ out. TakesOne s.store (seen (held_by s) c.args.session.now) (frame_of c.args.frame) (seen new.history.members c.step.new.self)
    (out_of (map entry_of new.history.members) out) new)) c.self.view_is
    (takes_one c.step.result c.self.inside.store new c.args.session.now c.step.new.self c.args.frame c.requires.runs c.step.ensures.steps c.step.ensures.keeps c.step.ensures.store)

pub returns-clause-ended : goal.returns-clause-ended
returns-clause-ended c = told c.step.result _ c.args.session.now c.step.new.self _ _ c.args.frame c.requires.runs c.step.ensures.steps
