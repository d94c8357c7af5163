-- What heads keep.
use Rattle.std.specs.Prelude.{◌≡◌, ◌≤◌, ℕ, List, length}
use Rattle.std.specs.List.Sorted.{IsStrictlySortedBy}
use Rattle.std.specs.Map.{keys_of}
use Rattle.update_model.specs.declared.update_id.UpdateId.{UpdateId}
use Rattle.update_model.specs.declared.limits.TheConstants.{MAX_MEMBERS}
use Rattle.update_model.specs.Entry.{id_cmp}
use Rattle.head_set.specs.declared.span.Span.{Span}
use Rattle.head_set.specs.Spans.{AreBefore, heads_at}

-- Ids rise, each span is of the adds that were, there are no more of these than a graph may have members, no more heads
-- than adds, and the heads of the moment are counted.
pub record IsKept (entries : List (UpdateId × Span)) (added count : ℕ) : Type 0 where
  pub rising : IsStrictlySortedBy id_cmp (keys_of entries)
  pub before : AreBefore entries added
  pub few : added ≤ MAX_MEMBERS
  pub fewer : (n : ℕ) → n ≤ added → length (heads_at entries n) ≤ n
  pub counted : count ≡ length (heads_at entries added)
