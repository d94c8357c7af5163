-- What is written, piece after piece.
use Rattle.std.proofs.Common.{◌≡◌, inl, inr, ℕ, ◌+◌, ◌≤◌, List, [], ◌++◌, length, take, sym, subst, append-nil, length-append, arith, Option, Some, None, Err}
use Rattle.std.specs.Io.KnownBytes.{Appends}
use Rattle.std.proofs.KnownBytes.{Appends-trans}
use lib.Seq.{take-append-add}
use Rattle.bec_bytes.specs.Causes.{Rose}
use Rattle.schema_verdict.specs.Written.{Puts, SinkState}
use Rattle.schema_verdict.specs.declared.status.TheConstants.{OUT_OF_MEMORY}
use Rattle.outcomes.specs.Outcome.{Ends, MayLackMemory, Says as SaysOutcome, status_for, text_for}
use Rattle.outcomes.specs.declared.refusal.Refusal.{Refusal}
use Rattle.outcomes.specs.declared.refusal.Refusal.TheVariants.{Memory}
use Rattle.watch_command.specs.Ending.{Says, Writes, WritesFront}
use Rattle.watch_command.specs.declared.stop.Stop.{Stop}
use Rattle.watch_command.specs.declared.stop.Stop.TheVariants.{Refused, Unwritten}

pub rose_later : (old mid new : ℕ) → old ≤ mid → Rose mid new → Rose old new
rose_later old mid new later rose = omega (arith, later, rose)

module _ (old mid new : SinkState) (front : List ℕ) (written : Appends old.held mid.held front) (later : old.faults ≤ mid.faults) where
  all_then : (rest : List ℕ) → Appends mid.held new.held rest → Appends old.held new.held (front ++ rest)
  all_then rest more = Appends-trans old.held mid.held new.held front rest written more

  -- a front of what comes behind a text that was written
  pub front_then : (rest : List ℕ) → WritesFront mid new rest → WritesFront old new (front ++ rest)
  front_then rest failed =
      let few = failed.1.1 in (
        rose_later old.faults mid.faults new.faults later failed.0,
        (
          length front + failed.1.0,
          omega (arith, length-append front rest, few),
          subst (Appends old.held new.held) (sym (take-append-add front rest failed.1.0)) (all_then (take failed.1.0 rest) failed.1.2),
        ),
      )

  pub writes_then : (rest : List ℕ) (stop : Option Stop) → Writes mid new rest stop → Writes old new (front ++ rest) stop
  writes_then rest None more = all_then rest more
  writes_then rest (Some (Refused why)) more = all_then rest more
  writes_then rest (Some Unwritten) failed = front_then rest failed

  says_put : (refusal : Refusal) (status : ℕ) → Puts mid.faults new.faults mid.held new.held (status_for refusal) (text_for refusal) status → Says old new front (Some (Refused refusal)) status
  says_put refusal status (inl all) = inl (inl (all.0, all_then (text_for refusal) all.1))
  says_put refusal status (inr failed) =
      let front_of_all : WritesFront old new (front ++ text_for refusal) = front_then (text_for refusal) (failed.1, failed.2) in
      inl (inr (failed.0, front_of_all.0, front_of_all.1))

  says_no_more : (status : ℕ) (refusal : Refusal) → MayLackMemory (Err refusal) → (status ≡ OUT_OF_MEMORY) × Appends mid.held new.held [] → Says old new front (Some (Refused refusal)) status
  says_no_more status refusal may none = inr (may, none.0, subst (Appends old.held new.held) (append-nil front) (all_then [] none.1))

  says_outcome : (refusal : Refusal) (status : ℕ) → SaysOutcome mid.faults new.faults mid.held new.held (Err refusal) status → Says old new front (Some (Refused refusal)) status
  says_outcome Memory status said = says_no_more status Memory tt said
  says_outcome refusal status said = says_put refusal status said

  -- the lines of a refusal behind the blocks
  pub says_refused : (refusal : Refusal) (status : ℕ) → Ends mid.faults new.faults mid.held new.held (Err refusal) status → Says old new front (Some (Refused refusal)) status
  says_refused refusal status (inl said) = says_outcome refusal status said
  says_refused refusal status (inr lacks) = says_no_more status refusal lacks.0 lacks.1
