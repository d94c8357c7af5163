use Rattle.std.proofs.Common.{◌≡◌, Some, ap, ◌∙◌}
use Rattle.std.specs.Prelude.{slice_set}
use Rattle.std.proofs.lemmas.List.Elements.{All-set}
use Rattle.session_rules.specs.declared.end.End.TheVariants.{Done}
use Rattle.world_rules.specs.Worlds.{SiteData}
use Rattle.world_rules.specs.Sites.{AreHeadsToRecall}
use Rattle.world_rules.proofs.Ending.{remembers_done}
use Rattle.world_rules.proofs.site.Site.remember.Goals as goal

pub invariant_of-self : goal.invariant_of-self
invariant_of-self c =
    All-set AreHeadsToRecall c.self.inside.remembered.items c.args.other c.in_ok-ids.ids (record { few = c.in_ok-ids.ensures.few; rising = c.in_ok-ids.ensures.rising }) c.self.invariant

pub returns-in-Some-Done-clause-remembers : goal.returns-in-Some-Done-clause-remembers
returns-in-Some-Done-clause-remembers c =
    let done : c.args.session.now.state.ended ≡ Some Done = c.requires.ended ∙ c.in-Some-Done.is ∙ ap Some (rw c.in-Some-Done.is at c.in-Some-Done.field-0-is) in
    remembers_done c.args.self.now c.args.other c.args.session.now c.in_ok-ids.ids _ done c.requires.runs c.requires.belongs c.in_ok-ids.ensures.remembers
    (ap (λ (s : SiteData). slice_set s.remembered c.args.other c.in_ok-ids.ids) c.self.view_is)
