use Rattle.std.proofs.Common.{◌≡◌, ◌<◌, Some, List, length, set, sym, ap, subst, ◌∙◌, arith}
use Rattle.std.proofs.lemmas.Option.{slice_get-get_or}
use Rattle.std.specs.Prelude.{insert, slice_get}
use Rattle.row_check.specs.Checksum.{is_luhn}
use Rattle.byzantine_world.specs.Events.{IsStep}
use Rattle.byzantine_world.specs.Standing.{IsStanding}
use Rattle.byzantine_world.proofs.Replaced.{insert_removed}
use Rattle.byzantine_world.proofs.Restarting.{restart_stands, restart_steps}
use Rattle.byzantine_world.proofs.state.State.restart.Goals as goal
use Rattle.world_rules.proofs.Schemas.{SchemaLaws}
use Rattle.world_rules.specs.Worlds.{SiteData}
use Rattle.world_rules.specs.declared.event.Event.TheVariants as events
use Rattle.world_rules.specs.declared.event.Stepped.TheVariants as stepped

low : (c : goal.After-cut_with) → c.args.replica < length c.args.self.now.sites.items
low c = let many = c.len.ensures in let ok = c.args.self.now.sites.ok.0 in let test = c.if-replica-len.false in omega arith

there : (c : goal.After-cut_with) → slice_get c.args.self.now.sites.items c.args.replica ≡ Some c.remove-site.result
there c = slice_get-get_or c.args.self.now.sites.items c.args.replica c.remove-site.result (low c) ∙ ap Some (sym c.remove-site.ensures.value)

sites_are : (c : goal.After-cut_with) → c.cut_with.new.self.sites.items ≡ set c.args.self.now.sites.items c.args.replica c.in_ok-new.new
sites_are c =
    c.cut_with.ensures.sites ∙ c.in_ok-insert.ensures.items ∙ ap (λ (xs : List SiteData). insert xs c.args.replica c.in_ok-new.new) c.remove-site.ensures.items
    ∙ insert_removed c.args.self.now.sites.items c.args.replica c.in_ok-new.new c.remove-site.result (low c)

pub returns-clause-step : goal.returns-clause-step
returns-clause-step c =
    let laws : SchemaLaws = record { one = c.one_schema.ensures; sound = c.declared_is_sound.ensures } in
    let sites = c.args.self.now.sites.items in
    let talks = c.args.self.now.talks.items in
    subst (λ (xs : List SiteData). IsStep is_luhn sites talks (events.Restart c.args.replica c.args.choice) stepped.Done xs c.cut_with.new.self.talks.items) (sym (sites_are c))
    (subst (IsStep is_luhn sites talks (events.Restart c.args.replica c.args.choice) stepped.Done (set sites c.args.replica c.in_ok-new.new)) (sym c.cut_with.ensures.talks)
    (restart_steps laws sites talks c.requires.stands c.args.replica c.args.choice c.remove-site.result c.in_ok-new.new (there c) c.in_ok-new.ensures))

pub returns-clause-stands : goal.returns-clause-stands
returns-clause-stands c =
    let laws : SchemaLaws = record { one = c.one_schema.ensures; sound = c.declared_is_sound.ensures } in
    let sites = c.args.self.now.sites.items in
    let talks = c.args.self.now.talks.items in
    subst (λ (xs : List SiteData). IsStanding xs c.cut_with.new.self.talks.items) (sym (sites_are c))
    (subst (IsStanding (set sites c.args.replica c.in_ok-new.new)) (sym c.cut_with.ensures.talks)
    (restart_stands laws sites talks c.requires.stands c.args.replica c.args.choice c.remove-site.result c.in_ok-new.new (there c) c.in_ok-new.ensures))
