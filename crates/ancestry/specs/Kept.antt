-- What an ancestry keeps.
use Rattle.std.specs.Prelude.{◌≤◌, ℕ, List, length}
use Rattle.update_model.specs.declared.limits.TheConstants.{MAX_MEMBERS}
use Rattle.ancestry.specs.declared.clock.Clock.{Clock}
use Rattle.ancestry.specs.Clocked.{AreClocked, AreSizes}
use Rattle.ancestry.specs.Named.{AreNamers}
use Rattle.ancestry.specs.Walks.{AreLower}

-- Predecessors stand lower, there are no more members than a graph may have, and clocks, who names whom and sizes of chains are theirs.
pub record IsKept (members : List (List ℕ)) (clocks : List Clock) (namers : List (List ℕ)) (sizes : List ℕ) : Type 0 where
  pub lower : AreLower members
  pub few : length members ≤ MAX_MEMBERS
  pub clocked : AreClocked members clocks
  pub named : AreNamers members namers
  pub sized : AreSizes members sizes
