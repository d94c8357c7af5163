-- Why bytes are refused under a rule: each fault in its own case, and what calls answer by these.
use Rattle.std.specs.Prelude.{◌≡◌, ◌≢◌, ℕ, List, Result, Ok, Err}
use Rattle.update_model.specs.Form.{UpdateData}
use Rattle.update_model.specs.Rule.{RuleData, IsListed}
use Rattle.update_codec.specs.declared.decode_error.DecodeError.{DecodeError}
use Rattle.update_codec.specs.declared.decode_error.DecodeError.TheVariants as decode_errors
use Rattle.update_codec.specs.Faults.{FirstFault}
use Rattle.update_codec.specs.Spelling.{Spells, message}
use Rattle.lms_tree.specs.Signature.{Signed}
use Rattle.update_check.specs.declared.check_error.CheckError.{CheckError}
use Rattle.update_check.specs.declared.check_error.CheckError.TheVariants as check_errors
use Rattle.update_check.specs.declared.check_error.CheckFault.{CheckFault}
use Rattle.update_check.specs.declared.check_error.CheckFault.TheVariants.{Codec, WrongDatabase, AuthorNotListed, BadSignature}
use Rattle.update_check.specs.Signed.{IsUnder}

-- The fault is the one for which these bytes are refused: they spell no update, with this first fault; or they spell
-- one of another database; or one of the rule's database by an author that is not listed; or one that is under the
-- rule and that its author did not sign.
abbrev pub IsCause : RuleData → List ℕ → CheckFault → Type 0
IsCause rule bytes (Codec fault) = FirstFault bytes fault.kind fault.place
IsCause rule bytes WrongDatabase = (update : UpdateData) × Spells bytes update × (update.body.database ≢ rule.database)
IsCause rule bytes AuthorNotListed = (update : UpdateData) × Spells bytes update × (update.body.database ≡ rule.database) × ¬ (IsListed rule.authors update.body.author)
IsCause rule bytes BadSignature = (update : UpdateData) × Spells bytes update × IsUnder rule update.body × ¬ (Signed update.body.author (message update.body) update.signature)

-- the refusal has its cause in the bytes, want of memory aside
abbrev pub HasCause : RuleData → List ℕ → CheckError → Type 0
HasCause rule bytes check_errors.Memory = Unit {0}
HasCause rule bytes (check_errors.Fault fault) = IsCause rule bytes fault

-- the call took the bytes, want of memory aside
abbrev pub Takes : Result (List ℕ) CheckError → List ℕ → Type 0
Takes (Ok checked) bytes = checked ≡ bytes
Takes (Err check_errors.Memory) bytes = Unit {0}
Takes (Err (check_errors.Fault fault)) bytes = ⊥

-- what the codec refuses is refused here for the same fault
abbrev pub error_from : DecodeError → CheckError
error_from decode_errors.Memory = check_errors.Memory
error_from (decode_errors.Fault fault) = check_errors.Fault (Codec fault)
