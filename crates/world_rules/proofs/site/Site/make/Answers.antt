use Rattle.std.proofs.Common.{List, subst}
use Rattle.row_check.specs.Checksum.{is_luhn}
use Rattle.world_rules.specs.Happens.{MakesBy, Signs}
use Rattle.world_rules.specs.Worlds.{SignedData, SiteData}
use Rattle.world_rules.proofs.Outcomes.{if_ok_at, if_err_at, on_err_at}
use Rattle.world_rules.proofs.SignedSites.{signed}
use Rattle.world_rules.proofs.site.Site.make.Goals as goal

pub returns-clause-makes : goal.returns-clause-makes
returns-clause-makes c =
    let m = c.make-made in
    subst (λ (s : SiteData). MakesBy is_luhn s.store s.key c.args.ops c.args.c.now c.make-made.result c.make-made.new.self c.make-made.new.key) c.self.view_is
    (record {
      made = if_ok_at m.result _ m.ensures.made;
      refused = λ why is. (if_err_at m.result _ m.ensures.refused why is, on_err_at m.result _ m.ensures.same why is);
      store = m.ensures.store;
      key_after = m.ensures.key;
      any_moment = m.ensures.any_moment;
      used = m.ensures.used;
      on_disk = c.len.ensures.on_disk;
      key_failed = m.ensures.key_failed;
      log_failed = m.ensures.log_failed;
    })

pub returns-clause-signs : goal.returns-clause-signs
returns-clause-signs c r event =
    let m = c.make-made in
    subst (λ (s : SiteData). (signs : List SignedData) × Signs m.result r event s.store s.key c.args.ops signs) c.self.view_is
    (signed r event c.self.inside.store c.self.inside.key m.new.key c.args.ops m.result m.ensures.key m.ensures.signs)
