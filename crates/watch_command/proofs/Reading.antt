-- Reading a record, and taking it.
use Rattle.std.proofs.Common.{◌≡◌, inl, inr, ℕ, ◌+◌, ◌<◌, List, [], refl, sym, subst, Option, Some, None}
use Rattle.std.specs.Io.KnownBytes.{Consumes}
use Rattle.std.proofs.KnownBytes.{Consumes-nil}
use Rattle.bec_bytes.specs.Framed.{HoldsPiece, StandsFirst, framed}
use Rattle.bec_bytes.specs.Moved.{IfTold}
use Rattle.bec_bytes.specs.declared.framed.Framed.{Framed}
use Rattle.bec_bytes.specs.declared.framed.Framed.TheVariants.{Cut, TooLong}
use Rattle.bec_bytes.proofs.ReadFrames.{behind}
use Rattle.update_model.specs.Rule.{RuleData}
use Rattle.update_codec.specs.declared.codec_fault.CodecKind.TheVariants as kinds
use Rattle.update_codec.specs.declared.limits.TheConstants.{UPDATE_LIMIT}
use Rattle.update_check.specs.Causes.{HasCause}
use Rattle.update_check.specs.Signed.{IsChecked}
use Rattle.update_check.specs.declared.check_error.CheckError.{CheckError}
use Rattle.update_check.specs.declared.check_error.CheckError.TheVariants as check_errors
use Rattle.update_check.specs.declared.check_error.CheckFault.TheVariants.{Codec}
use Rattle.update_stream.specs.Steps.{Adds}
use Rattle.update_stream.specs.Stream.{short, too_long}
use Rattle.update_stream.specs.declared.record_fault.RecordFault.TheVariants as faults
use Rattle.update_stream.specs.declared.stream.TheConstants.{MAX_RECORDS}
use Rattle.outcomes.specs.declared.refusal.Refusal.{Refusal}
use Rattle.outcomes.specs.declared.refusal.Refusal.TheVariants as refusals
use Rattle.watch_command.specs.Ending.{Leaves, StopsAt}
use Rattle.watch_command.specs.Records.{IsUnread, StandsNext, StopsReading, StopsTaking}
use Rattle.watch_command.specs.Refusals.{not_checked}
use Rattle.watch_command.specs.Steps.{TakesRecord}
use Rattle.watch_command.specs.declared.stop.Stop.TheVariants.{Refused}

-- what holds of what was read, weakened
pub weaker : (b c : Option (List ℕ)) (P Q : List ℕ → List ℕ → Type 0) → IfTold b c P → ((bytes rest : List ℕ) → P bytes rest → Q bytes rest) → IfTold b c Q
weaker b c P Q found each = behind b b c [] P Q (Consumes-nil b) found each

module _ (rule : RuleData) (number : ℕ) (b c : Option (List ℕ)) (old new : ℕ) (found : Framed) (stands : IfTold b c (λ bytes rest. StandsFirst UPDATE_LIMIT bytes rest found)) where
  pub reads_cut : (came : ℕ) (why : Refusal) → found ≡ Cut came → why ≡ refusals.Record number (faults.Check (Codec (record { kind = kinds.Short; place = came }))) → StopsReading rule number b c old new why
  reads_cut came why is so =
      let P : Framed → Type 0 = λ next. IfTold b c (λ bytes rest. StandsFirst UPDATE_LIMIT bytes rest next) in
      subst (λ (w : Refusal). StopsReading rule number b c old new w) (sym so) (
        refl,
        weaker b c (λ bytes rest. StandsFirst UPDATE_LIMIT bytes rest (Cut came)) (IsUnread rule (Codec (record { kind = kinds.Short; place = came }))) (subst P is stands) (λ bytes rest p. inl (short came p)),
      )

  pub reads_too_long : (why : Refusal) → found ≡ TooLong → why ≡ refusals.Record number (faults.Check (Codec (record { kind = kinds.TooLong; place = UPDATE_LIMIT }))) → StopsReading rule number b c old new why
  reads_too_long why is so =
      let P : Framed → Type 0 = λ next. IfTold b c (λ bytes rest. StandsFirst UPDATE_LIMIT bytes rest next) in
      subst (λ (w : Refusal). StopsReading rule number b c old new w) (sym so) (
        refl,
        weaker b c (λ bytes rest. StandsFirst UPDATE_LIMIT bytes rest TooLong) (IsUnread rule (Codec (record { kind = kinds.TooLong; place = UPDATE_LIMIT }))) (subst P is stands) (λ bytes rest p. inl (too_long p)),
      )

-- a piece that does not pass the checks, or memory ran out for it
pub reads_unchecked : (rule : RuleData) (number : ℕ) (b c : Option (List ℕ)) (old new : ℕ) (piece : List ℕ) (error : CheckError) → IfTold b c (λ bytes rest. HoldsPiece UPDATE_LIMIT bytes piece rest)
    → HasCause rule piece error → StopsReading rule number b c old new (not_checked number error)
reads_unchecked rule number b c old new piece (check_errors.Fault fault) came cause =
    (refl, weaker b c (λ bytes rest. HoldsPiece UPDATE_LIMIT bytes piece rest) (IsUnread rule fault) came (λ bytes rest p. inr (piece, p, cause)))
reads_unchecked rule number b c old new piece check_errors.Memory came cause =
    weaker b c (λ bytes rest. HoldsPiece UPDATE_LIMIT bytes piece rest) (λ _ _. Unit {0}) came (λ bytes rest p. tt)

-- a piece that was read is what came
consumed : (b c : Option (List ℕ)) (bytes : List ℕ) → IfTold b c (StandsNext (Some bytes)) → Consumes b c (framed bytes)
consumed None c bytes found = tt
consumed (Some xs) c bytes found = subst (λ (o : Option (List ℕ)). Consumes (Some xs) o (framed bytes)) (sym found.1) found.2.parts

module _ (rule : RuleData) (members : List (List ℕ)) (count : ℕ) (b c : Option (List ℕ)) (store store_new source source_new : ℕ) (few : count < MAX_RECORDS) where
  -- no record was read
  pub stops_reading : (why : Refusal) → StopsReading rule (count + 1) b c source source_new why → StopsAt rule members count b c store store source source_new why
  stops_reading (refusals.Record n (faults.Check fault)) it = record {
    may = tt;
    leaves = weaker b c (IsUnread rule fault) (Leaves rule members count (Some (Refused (refusals.Record n (faults.Check fault))))) it.1 (λ bytes rest p. (it.0, inl (few, p)));
    cause = tt;
  }
  stops_reading (refusals.Record n (faults.Lacks id)) it = absurd it
  stops_reading (refusals.Record n faults.Full) it = absurd it
  stops_reading refusals.Stream it = record { may = tt; leaves = it.1; cause = it.0 }
  stops_reading refusals.Memory it = record { may = tt; leaves = it; cause = tt }
  stops_reading why it = absurd it

  -- one was read, and not taken
  pub stops_taking : (update : List ℕ) (why : Refusal) → IfTold b c (StandsNext (Some update)) → IsChecked rule update → StopsTaking members (count + 1) update store store_new why
      → StopsAt rule members count b c store store_new source source_new why
  stops_taking update (refusals.Record n (faults.Check fault)) came checked it = absurd it
  stops_taking update (refusals.Record n (faults.Lacks id)) came checked it = record {
    may = tt;
    leaves = weaker b c (StandsNext (Some update)) (Leaves rule members count (Some (Refused (refusals.Record n (faults.Lacks id))))) came (λ bytes rest p. (it.0, inl (few, (update, p, checked, it.1))));
    cause = tt;
  }
  stops_taking update (refusals.Record n faults.Full) came checked it = record {
    may = tt;
    leaves = weaker b c (StandsNext (Some update)) (Leaves rule members count (Some (Refused (refusals.Record n faults.Full)))) came (λ bytes rest p. (it.0, inl (few, (update, p, checked, it.1))));
    cause = tt;
  }
  stops_taking update refusals.StoreFault came checked it = record {
    may = tt;
    leaves = weaker b c (StandsNext (Some update)) (Leaves rule members count (Some (Refused refusals.StoreFault))) came (λ bytes rest p. (update, p, checked, it.1));
    cause = it.0;
  }
  stops_taking update refusals.Memory came checked it = record {
    may = tt;
    leaves = weaker b c (StandsNext (Some update)) (λ _ _. Unit {0}) came (λ bytes rest p. tt);
    cause = tt;
  }
  stops_taking update why came checked it = absurd it

pub takes_record : (rule : RuleData) (b c : Option (List ℕ)) (members members_new : List (List ℕ)) (update : List ℕ) → IfTold b c (StandsNext (Some update)) → IsChecked rule update → Adds members update members_new
    → TakesRecord rule b c members members_new
takes_record rule b c members members_new update came checked adds = record { bytes = update; came = consumed b c update came; takes = (checked, adds) }
