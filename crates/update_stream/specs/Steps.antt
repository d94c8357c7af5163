-- What taking a record does.
use Rattle.std.specs.Prelude.{◌≡◌, ◌⊎◌, ℕ, true, List, [], ◌∷◌, ◌++◌, map, Option, None, Some}
use Rattle.update_model.specs.Graph.{IsNext, is_within, holds}
use Rattle.update_model.specs.Rule.{RuleData}
use Rattle.update_codec.specs.Parts.{database_of, entry_of}
use Rattle.update_check.specs.Signed.{IsChecked}
use Rattle.update_check.specs.Causes.{IsCause}
use Rattle.update_stream.specs.declared.record_fault.RecordFault.{RecordFault}
use Rattle.update_stream.specs.declared.record_fault.RecordFault.TheVariants.{Check, Lacks, Full}
use Rattle.update_stream.specs.Stream.{LacksPredecessor, PassesLimit}

-- the rule for a record: the one that is given, or the one that is set, or its own database with every author listed
abbrev pub rule_for : Option RuleData → Option RuleData → List ℕ → RuleData
rule_for (Some rule) set r = rule
rule_for None (Some rule) r = rule
rule_for None None r = record { database = database_of r; authors = [] }

-- the rule that is set behind a record
abbrev pub set_after : Option RuleData → Option RuleData → List ℕ → Option RuleData
set_after (Some rule) set r = set
set_after None set r = Some (rule_for None set r)

-- A record that is held changes nothing, and another one stands last.
abbrev pub Adds : List (List ℕ) → List ℕ → List (List ℕ) → Type 0
Adds members r after =
    ((holds (map entry_of members) (entry_of r).id ≡ true) × (after ≡ members))
    ⊎ (IsNext (map entry_of members) (entry_of r) × (is_within (map entry_of members ++ entry_of r ∷ []) ≡ true) × (after ≡ members ++ r ∷ []))

-- what taking a record under a rule does to the members
abbrev pub Takes : RuleData → List (List ℕ) → List ℕ → List (List ℕ) → Option RecordFault → Type 0
Takes rule members r after None = IsChecked rule r × Adds members r after
Takes rule members r after (Some (Check fault)) = IsCause rule r fault
Takes rule members r after (Some (Lacks id)) = IsChecked rule r × LacksPredecessor (map entry_of members) (entry_of r) id
Takes rule members r after (Some Full) = IsChecked rule r × PassesLimit (map entry_of members) (entry_of r)
