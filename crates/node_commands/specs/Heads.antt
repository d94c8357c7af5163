-- What `heads` answers.
use Rattle.std.specs.Prelude.{◌≡◌, ◌⊎◌, ℕ, List, map, None, Err}
use Rattle.std.specs.declared.option.Option.{Option}
use Rattle.update_model.specs.declared.update_id.UpdateId.{UpdateId}
use Rattle.update_model.specs.Graph.{AreHeads}
use Rattle.update_model.specs.Rule.{RuleData}
use Rattle.update_codec.specs.Parts.{entry_of}
use Rattle.update_stream.specs.declared.record_fault.RecordFault.{RecordFault}
use Rattle.update_stream.specs.declared.reading.Reading.TheVariants.{Whole, Refused}
use Rattle.update_stream.specs.Told.{Reads}
use Rattle.outcomes.specs.declared.refusal.Refusal.{Refusal}
use Rattle.outcomes.specs.declared.refusal.Refusal.TheVariants.{Record}
use Rattle.outcomes.specs.Outcome.{IsFault, Outcome}
use Rattle.schema_verdict.specs.Verdict.{Prints}
use Rattle.outcomes.specs.Texts.{printed}

-- A stream is good records up to its end, of the database of the first one, and the heads of their graph are printed; or its n-th record
-- is the first that is refused.
pub data HeadsAnswer (before after : Option (List ℕ)) (outcome : Outcome) : Type 0 where
  done : (members : List (List ℕ)) (heads : List UpdateId) → Reads None before after (Whole members) → AreHeads (map entry_of members) heads → Prints outcome (printed heads)
      → HeadsAnswer before after outcome
  refused : (n : ℕ) (fault : RecordFault) → Reads None before after (Refused n fault) → outcome ≡ Err (Record n fault) → HeadsAnswer before after outcome

-- why a stream is not read up to its end
abbrev pub StopsAt : Option RuleData → Option (List ℕ) → Option (List ℕ) → ℕ → ℕ → Refusal → Type 0
StopsAt rule before after old new refusal =
    ((n : ℕ) × ((fault : RecordFault) × Reads rule before after (Refused n fault) × (refusal ≡ Record n fault))) ⊎ IsFault old new refusal
