use Rattle.std.proofs.Common.{◌≡◌, ℕ, length}
use Rattle.std.specs.Prelude.{slice_get, Some}
use Rattle.std.specs.declared.option.Option.{Option}
use Rattle.world_commands.specs.Shown.{CountsDoubled}
use Rattle.world_commands.proofs.reporting.doubled_counts.Given as goal
use Rattle.world_rules.specs.Worlds.{SiteData}

-- the counts so far
abbrev pub invariant-replicas : goal.invariant-replicas
invariant-replicas l = record {
  number : length l.counts.items ≡ l.number;
  each : (r : ℕ) (site : SiteData) (count : Option ℕ) → slice_get l.world.sites r ≡ Some site → slice_get l.counts.items r ≡ Some count → CountsDoubled site count;
}
