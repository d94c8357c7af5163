use Rattle.std.proofs.Common.{◌≡◌, [], drop, length}
use Rattle.std.specs.List.{flat_map}
use Rattle.confluence_laws.specs.Examples.{need, for_each}
use Rattle.confluence_test.specs.Plans.{AreOnce}
use Rattle.table_model.specs.Visible.{bare_rules}
use Rattle.confluence_test.proofs.Paths.{needed_of}
use Rattle.confluence_test.proofs.path.shared_of.Given as goal

abbrev pub invariant-loop-step : goal.invariant-loop-step
invariant-loop-step l = record {
  needed : for_each (need (bare_rules l.schema.tables) l.table) (flat_map (needed_of (bare_rules l.schema.tables)) (drop l.step-index l.back)) l.shared
      ≡ for_each (need (bare_rules l.schema.tables) l.table) (flat_map (needed_of (bare_rules l.schema.tables)) l.back) [];
  once : AreOnce (length l.schema.tables) l.shared;
}
