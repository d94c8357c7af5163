use Rattle.std.proofs.Common.{sym, subst}
use Rattle.bec_disk.specs.Replay.{state_of}
use Rattle.row_check.specs.Checksum.{is_luhn}
use Rattle.world_rules.specs.Creating.{IsSiteCause}
use Rattle.world_rules.proofs.NewSites.{site_cause}
use Rattle.world_rules.proofs.Reopening.{none_remembered}
use Rattle.world_rules.proofs.site.Site.create.Goals as goal

pub invariant_of-result : goal.invariant_of-result
invariant_of-result c = none_remembered c.in-Ok.remembered.items c.args.count c.in-Ok.ensures

pub returns-in-Err-clause-refused : goal.returns-in-Err-clause-refused
returns-in-Err-clause-refused c =
    subst (IsSiteCause is_luhn c.args.text.now) (sym c.fault_of.ensures) (site_cause (state_of c.new-schema.result) c.args.text.now c.in-Err.fault.why c.in-Err.ensures.refused)
