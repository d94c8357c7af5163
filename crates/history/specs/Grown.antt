-- A list that members of a batch were added to.
use Rattle.std.specs.Prelude.{◌≡◌, ℕ, List, ◌++◌, Contains}
use Rattle.std.specs.List.{AllByRecursion}

-- Members of the batch stand behind those before.
abbrev pub IsGrown : List (List ℕ) → List (List ℕ) → List (List ℕ) → Type 0
IsGrown before batch after = (added : List (List ℕ)) × (after ≡ before ++ added) × AllByRecursion (Contains batch) added
