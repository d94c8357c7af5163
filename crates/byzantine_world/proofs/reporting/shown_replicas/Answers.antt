use Rattle.std.proofs.Common.{List, take, subst, sym, ap, ◌∙◌, ◌∷◌, [], ◌++◌}
use Rattle.std.proofs.lemmas.List.{take_more}
use Rattle.row_check.specs.Checksum.{is_luhn}
use Rattle.byzantine_world.specs.Shown.{AreShownReplicas}
use Rattle.byzantine_world.proofs.Reported.{shown_more}
use Rattle.byzantine_world.proofs.reporting.shown_replicas.Goals as goal
use Rattle.world_report.specs.declared.shown.ShownReplica.{ShownReplica}
use Rattle.world_rules.specs.Worlds.{SiteData}

pub sites-preserved : goal.sites-preserved
sites-preserved c =
    let sites = c.args.sites.now in
    let i = c.sites.site-index in
    let site = c.site-item.result in
    let front = take_more sites i site c.sites-test.true ∙ ap (λ (x : SiteData). take i sites ++ x ∷ []) (sym c.site-item.is) in
    subst (λ (xs : List SiteData). AreShownReplicas is_luhn xs c.push.new.self.items) (sym front)
    (subst (λ (shown : List ShownReplica). AreShownReplicas is_luhn (take i sites ++ site ∷ []) shown) (sym c.in_ok-push.ensures.items)
    (shown_more is_luhn (take i sites) c.sites.shown.items site c.in_ok-replica.replica c.sites.invariant c.in_ok-replica.ensures))
