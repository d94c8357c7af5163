-- Updates that are read behind those that are held.
use Rattle.std.specs.Prelude.{◌≡◌, ℕ, List, ◌++◌, All}
use Rattle.update_model.specs.Rule.{RuleData}
use Rattle.update_check.specs.Signed.{IsChecked}

-- Others stand behind the ones that were there, and all of them are under the rule.
pub record Grows (rule : RuleData) (old new : List (List ℕ)) : Type 0 where
  pub added : (others : List (List ℕ)) × (new ≡ old ++ others)
  pub checked : All (IsChecked rule) new
