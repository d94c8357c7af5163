-- The updates of a replica, as they grow.
use Rattle.std.specs.Prelude.{◌≡◌, ℕ, List, ◌++◌}
use Rattle.update_model.specs.Rule.{RuleData}
use Rattle.update_check.specs.Members.{AreMembers}

-- The list begins with what it was, and is a closed list under the rule.
pub record Extends (rule : RuleData) (old new : List (List ℕ)) : Type 0 where
  pub more : List (List ℕ)
  pub begins : new ≡ old ++ more
  pub members : AreMembers rule new
