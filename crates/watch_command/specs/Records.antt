-- The records of a stream that are taken into a store one by one, and the first that is not.
use Rattle.std.specs.Prelude.{◌≡◌, ◌⊎◌, ℕ, ◌<◌, List, [], length, drop, map, Option, None, Some}
use Rattle.bec_bytes.specs.Causes.{Rose}
use Rattle.bec_bytes.specs.Framed.{HoldsPiece, StaysWithin}
use Rattle.bec_bytes.specs.Moved.{IfTold}
use Rattle.update_model.specs.Graph.{IsNext}
use Rattle.update_model.specs.Rule.{RuleData}
use Rattle.update_codec.specs.Parts.{entry_of}
use Rattle.update_codec.specs.declared.limits.TheConstants.{UPDATE_LIMIT}
use Rattle.update_check.specs.declared.check_error.CheckFault.{CheckFault}
use Rattle.update_check.specs.Causes.{IsCause}
use Rattle.update_check.specs.Signed.{IsChecked}
use Rattle.update_stream.specs.declared.record_fault.RecordFault.{RecordFault}
use Rattle.update_stream.specs.declared.record_fault.RecordFault.TheVariants as faults
use Rattle.update_stream.specs.declared.stream.TheConstants.{MAX_RECORDS}
use Rattle.update_stream.specs.Stream.{IsCutAs, LacksPredecessor, PassesLimit}
use Rattle.outcomes.specs.declared.refusal.Refusal.{Refusal}
use Rattle.outcomes.specs.declared.refusal.Refusal.TheVariants as refusals

-- What stands next in a stream: nothing, at its end, or a record of these bytes. The rest is what is left behind it.
abbrev pub StandsNext : Option (List ℕ) → List ℕ → List ℕ → Type 0
StandsNext None bytes rest = (bytes ≡ []) × (rest ≡ [])
StandsNext (Some update) bytes rest = HoldsPiece UPDATE_LIMIT bytes update rest

-- What stands next is cut, or a record that is refused by the checks under a rule.
abbrev pub IsUnread : RuleData → CheckFault → List ℕ → List ℕ → Type 0
IsUnread rule fault bytes rest = IsCutAs bytes rest fault ⊎ ((update : List ℕ) × HoldsPiece UPDATE_LIMIT bytes update rest × IsCause rule update fault)

-- What stands next is a record that passes the checks under a rule, and of which this holds.
abbrev pub IsRead : RuleData → (List ℕ → Type 0) → List ℕ → List ℕ → Type 0
IsRead rule P bytes rest = (update : List ℕ) × HoldsPiece UPDATE_LIMIT bytes update rest × IsChecked rule update × P update

-- Why what stands next is not taken into a store with these members.
abbrev pub HasFault : RuleData → List (List ℕ) → RecordFault → List ℕ → List ℕ → Type 0
HasFault rule members (faults.Check fault) bytes rest = IsUnread rule fault bytes rest
HasFault rule members (faults.Lacks id) bytes rest = IsRead rule (λ update. LacksPredecessor (map entry_of members) (entry_of update) id) bytes rest
HasFault rule members faults.Full bytes rest = IsRead rule (λ update. PassesLimit (map entry_of members) (entry_of update)) bytes rest

-- What stands next behind so many records is not taken; or there are as many as a stream has at most, and of what follows one byte is read.
abbrev pub IsStop : RuleData → List (List ℕ) → ℕ → RecordFault → List ℕ → List ℕ → Type 0
IsStop rule members count fault bytes rest =
    ((count < MAX_RECORDS) × HasFault rule members fault bytes rest)
    ⊎ ((count ≡ MAX_RECORDS) × (0 < length bytes) × (rest ≡ drop 1 bytes) × (fault ≡ faults.Full))

-- Why no update was read as the record with this number.
abbrev pub StopsReading : RuleData → ℕ → Option (List ℕ) → Option (List ℕ) → ℕ → ℕ → Refusal → Type 0
StopsReading rule number before after old new (refusals.Record n (faults.Check fault)) = (n ≡ number) × IfTold before after (IsUnread rule fault)
StopsReading rule number before after old new refusals.Stream = Rose old new × IfTold before after (StaysWithin UPDATE_LIMIT)
StopsReading rule number before after old new refusals.Memory = IfTold before after (λ _ _. Unit {0})
StopsReading rule number before after old new other = ⊥

-- Why an update that passed the checks was not taken into a store, as the record with this number.
abbrev pub StopsTaking : List (List ℕ) → ℕ → List ℕ → ℕ → ℕ → Refusal → Type 0
StopsTaking members number update old new (refusals.Record n (faults.Lacks id)) = (n ≡ number) × LacksPredecessor (map entry_of members) (entry_of update) id
StopsTaking members number update old new (refusals.Record n faults.Full) = (n ≡ number) × PassesLimit (map entry_of members) (entry_of update)
StopsTaking members number update old new refusals.StoreFault = Rose old new × IsNext (map entry_of members) (entry_of update)
StopsTaking members number update old new refusals.Memory = Unit {0}
StopsTaking members number update old new other = ⊥
