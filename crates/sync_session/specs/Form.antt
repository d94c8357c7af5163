-- What the type of a session keeps.
use Rattle.std.specs.Prelude.{◌≤◌, ℕ, List, length}
use Rattle.std.specs.List.Sorted.{IsStrictlySortedBy}
use Rattle.session_rules.specs.declared.limits.TheConstants.{MAX_ITEMS, MAX_NEEDS}
use Rattle.update_model.specs.declared.update_id.UpdateId.{UpdateId}
use Rattle.update_model.specs.Entry.{id_cmp}

-- A turn has no more Items than it may have; and the heads that are remembered of the peer rise, and are not too many.
pub record IsInForm (count : ℕ) (old : List UpdateId) : Type 0 where
  pub items : count ≤ MAX_ITEMS
  pub few : length old ≤ MAX_NEEDS
  pub rising : IsStrictlySortedBy id_cmp old
