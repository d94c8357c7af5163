-- Things that are printed one after another, with their numbers.
use Rattle.std.proofs.Common.{◌≡◌, ℕ, ◌+◌, List, ◌++◌}
use Rattle.world_report.specs.Reports.{each_numbered}

-- What was printed after what there was, and what is to come.
abbrev pub PrintsOn : {A : Type 0} → (ℕ → A → List ℕ) → List ℕ → List ℕ → List A → ℕ → List A → Type 0
PrintsOn text before out all number rest = (texts : List ℕ) × (out ≡ before ++ texts) × (each_numbered text 0 all ≡ texts ++ each_numbered text number rest)
