use Rattle.std.proofs.Common.{take}
use Rattle.row_check.specs.Checksum.{is_luhn}
use Rattle.byzantine_world.specs.Shown.{AreShownReplicas}
use Rattle.byzantine_world.proofs.reporting.shown_replicas.Given as goal

-- the replicas so far are shown
abbrev pub invariant-sites : goal.invariant-sites
invariant-sites l = AreShownReplicas is_luhn (take l.site-index l.sites) l.shown.items
