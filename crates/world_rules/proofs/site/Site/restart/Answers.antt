use Rattle.std.proofs.Common.{◌≡◌, [], length, replicate, ap, ◌∙◌}
use Rattle.key_index.specs.KeyState.{KeyParts}
use Rattle.row_check.specs.Checksum.{is_luhn}
use Rattle.world_rules.specs.Happens.{Restarts, fresh}
use Rattle.world_rules.specs.Worlds.{SiteData}
use Rattle.world_rules.specs.Restarting.{OpensSite}
use Rattle.world_rules.specs.Sites.{fresh_parts}
use Rattle.world_rules.proofs.Outcomes.{if_ok_map}
use Rattle.world_rules.proofs.Reopening.{none_remembered, restarts}
use Rattle.world_rules.proofs.site.Site.restart.Goals as goal

pub open-requires-clause-remembered : goal.open-requires-clause-remembered
open-requires-clause-remembered c = none_remembered c.in_ok-none.none.items c.len.result c.in_ok-none.ensures

pub returns : goal.returns
returns c =
    let updates = c.into_parts-updates.result.0 in
    let key = c.into_disks-key.result.0 in
    let used = c.into_disks-key.result.1 in
    let left = c.in_ok-left.left in
    let none = c.in_ok-none.none.items in
    let many : c.len.result ≡ length c.args.self.remembered = c.len.ensures ∙ c.self.inside.remembered.ok.0 ∙ ap (λ (s : SiteData). length s.remembered) c.self.view_is in
    if_ok_map c.open.result (OpensSite is_luhn (fresh left.schema.start) (fresh left.updates.start) (fresh_parts left.key.start left.used.start) none) (Restarts is_luhn c.args.choice c.args.self)
    (λ new opens. restarts c.args.self new c.args.choice c.self.inside.schema updates key used left.schema left.updates left.key left.used none
    (ap (λ (s : SiteData). s.schema) c.self.view_is)
    (c.into_parts-updates.ensures.state ∙ ap (λ (s : SiteData). s.store.log.disk) c.self.view_is)
    (ap (λ (p : KeyParts). p.key) c.into_disks-key.ensures ∙ ap (λ (s : SiteData). s.key.parts.key) c.self.view_is)
    (ap (λ (p : KeyParts). p.used) c.into_disks-key.ensures ∙ ap (λ (s : SiteData). s.key.parts.used) c.self.view_is)
    c.in_ok-left.ensures.schema c.in_ok-left.ensures.updates c.in_ok-left.ensures.key c.in_ok-left.ensures.used
    (c.in_ok-none.ensures ∙ ap (λ n. replicate n []) many) opens)
    c.open.ensures
