-- Records that are checked in order.
use Rattle.std.specs.Prelude.{◌≡◌, ℕ, List, ◌∷◌, ◌++◌, All, Vec, map, Result, Ok, Err, alloc_error}
use Rattle.std.specs.List.{AllZip}
use Rattle.std.specs.declared.alloc.AllocError.{AllocError}
use Rattle.std.specs.declared.alloc.Global.{Global}
use Rattle.update_model.specs.Rule.{RuleData}
use Rattle.update_check.specs.Causes.{IsCause}
use Rattle.update_check.specs.Signed.{IsChecked}
use Rattle.update_check.specs.declared.check_error.CheckError.{CheckError}
use Rattle.update_check.specs.declared.check_error.CheckError.TheVariants.{Fault, Memory}
use Rattle.update_check.specs.declared.check_error.CheckFault.{CheckFault}

-- the bytes of each record
abbrev pub bytes_of : List (Vec ℕ Global) → List (List ℕ)
bytes_of records = map (λ (r : Vec ℕ Global). r.items) records

-- What the check of updates says of a record: it is checked and taken over as it is, or it is refused for this fault.
abbrev pub IsAnswer : RuleData → List ℕ → Result (List ℕ) CheckFault → Type 0
IsAnswer rule bytes (Ok checked) = IsChecked rule bytes × (checked ≡ bytes)
IsAnswer rule bytes (Err fault) = IsCause rule bytes fault

-- what a check comes to as an answer: want of memory alone is none
abbrev pub answer_of : Result (List ℕ) CheckError → Result (Result (List ℕ) CheckFault) AllocError
answer_of (Ok checked) = Ok (Ok checked)
answer_of (Err (Fault fault)) = Ok (Err fault)
answer_of (Err Memory) = Err alloc_error

-- What the check says of each record, in order.
abbrev pub AreAnswers : RuleData → List (List ℕ) → List (Result (List ℕ) CheckFault) → Type 0
AreAnswers rule records answers = AllZip (IsAnswer rule) records answers

-- The records in front of the first that is refused: each of them is checked, and the one behind them, if there is one, is not.
pub record IsCheckedFront (rule : RuleData) (records front : List (List ℕ)) : Type 0 where
  pub rest : List (List ℕ)
  pub parts : records ≡ front ++ rest
  pub checked : All (IsChecked rule) front
  pub refused : (r : List ℕ) (more : List (List ℕ)) → rest ≡ r ∷ more → IsChecked rule r → ⊥
