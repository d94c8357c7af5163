-- Members that a database may have.
use Rattle.std.specs.Prelude.{◌≡◌, ℕ, List, true, map, All}
use Rattle.update_model.specs.Graph.{IsClosed, is_within}
use Rattle.update_model.specs.Rule.{RuleData}
use Rattle.update_codec.specs.Parts.{entry_of}
use Rattle.update_check.specs.Signed.{IsChecked}

-- Updates that their authors signed and that are under a rule, predecessor-closed and within the limits.
pub record AreMembers (rule : RuleData) (members : List (List ℕ)) : Type 0 where
  pub checked : All (IsChecked rule) members
  pub closed : IsClosed (map entry_of members)
  pub within : is_within (map entry_of members) ≡ true
