-- Each answer to a request comes with its status.
use Rattle.std.proofs.Common.{◌≡◌, ◌⊎◌, inl, inr, ℕ, List, [], ◌∷◌, ap, IsTrue, IfSome, Option, Some, None}
use Rattle.lm_ots.specs.declared.ots_type.OtsType.{OtsType}
use Rattle.lms_tree.specs.declared.lms_type.LmsType.{LmsType}
use Rattle.command_words.specs.Requests.{RequestText, heads, check, dump, init, keygen, apply, join, export, query, merge, notes}
use Rattle.bec_disk.specs.declared.part.Part.TheVariants.{Schema, Updates, Key, Used}
use Rattle.schema_verdict.specs.declared.status.TheConstants.{OUT_OF_MEMORY}
use Rattle.node_commands.specs.Bundle.{DumpAnswer}
use Rattle.outcomes.specs.Comes.{IsShelfFault, RunsStore, readings, IsSourceFault}
use Rattle.node_commands.specs.Creating.{DrawsKeyOnly, InitAnswer, IsInitFault, KeygenAnswer}
use Rattle.node_commands.specs.Heads.{HeadsAnswer}
use Rattle.node_commands.specs.Verdict.{CheckAnswer}
use Rattle.node_commands.specs.Merging.{IsSureOfMerge, MayMerge, MergeAnswer, Merges}
use Rattle.store_directory.specs.Remembering.{memory_in}
use Rattle.outcomes.specs.Outcome.{Outcome, status_of}
use Rattle.outcomes.specs.Outside.{Outside}
use Rattle.bec_node.specs.RunAlone.{AnswersOnly, Comes, SignOnly}
use Rattle.outcomes.specs.Only.{EachAs}
use Rattle.node_commands.specs.Signing.{ApplyAnswer, IsNoStop, IsSureOfApply, JoinAnswer, JoinsHeads, StoreAnswer}
use Rattle.node_commands.specs.Asking.{QueryAnswer}
use Rattle.outcomes.specs.StoreAnswers.{Readings, Printing, ReadsStore}
use Rattle.node_commands.specs.Shows.{ShowsHeads, ShowsNotes, ShowsRecords, ShowsTables}
use Rattle.node_commands.proofs.Answer.{OneAnswer}
use Rattle.node_commands.proofs.MakersOnce.{OneOfMakers, used_or_not}
use Rattle.node_commands.proofs.MergeOnce.{OneOfMerge}
use Rattle.node_commands.proofs.PartsOnce.{OneOfParts}
use Rattle.outcomes.proofs.Only.{IsSaidAs, IsFaultStatus, each_fault, source_fault, shelf_fault, fault_status, shelf_said, told_now, told_only, read_only, source_only}

-- ---- a request

init_fault : {S H R : Type 0} (dir : List ℕ) (before : Outside S H R) (left : Option (List ℕ)) (status : ℕ) → status ≡ OUT_OF_MEMORY
    → IsTrue before.store.tells → IfSome left (λ input. (other : Option (List ℕ)) (later : Readings) → EachAs (InitAnswer (Some input) other before.stream (readings before.store dir) later) status)
init_fault dir before None status is tells = tt
init_fault dir before (Some input) status is tells = λ other later. each_fault (InitAnswer (Some input) other before.stream (readings before.store dir) later) status (inr (inr is))

apply_fault : {S H R : Type 0} (dir : List ℕ) (note : Option (List ℕ)) (before : Outside S H R) (left : Option (List ℕ)) (status : ℕ) → status ≡ OUT_OF_MEMORY
    → IsTrue before.store.tells → IfSome left (λ input. EachAs (IsSureOfApply note input before.stream (readings before.store dir)) status)
apply_fault dir _ before None status is tells = tt
apply_fault dir note before (Some input) status is tells = each_fault (IsSureOfApply note input before.stream (readings before.store dir)) status (inr (inr is))

-- want of memory comes in place of each answer
pub only_memory : {S H R : Type 0} (request : RequestText) (before : Outside S H R) (status : ℕ) → status ≡ OUT_OF_MEMORY → AnswersOnly request before status
only_memory (heads None) before status is = source_fault HeadsAnswer before.left status (inr (inr is))
only_memory (heads (Some dir)) before status is = shelf_fault (ReadsStore (Printing ShowsHeads)) dir before.store status (inr (inr is))
only_memory check before status is = source_fault CheckAnswer before.left status (inr (inr is))
only_memory (dump None json) before status is = source_fault (DumpAnswer json) before.left status (inr (inr is))
only_memory (dump (Some dir) json) before status is = shelf_fault (ReadsStore (Printing (ShowsTables json))) dir before.store status (inr (inr is))
only_memory (init dir) before status is = init_fault dir before before.left status is
only_memory (keygen dir lms ots) before status is = λ tells later. each_fault (KeygenAnswer lms ots before.stream (readings before.store dir) later) status (inr (inr is))
only_memory (apply dir note) before status is = apply_fault dir note before before.left status is
only_memory (join dir) before status is = shelf_fault (StoreAnswer (Unit {0}) (JoinAnswer before.stream)) dir before.store status (inr (inr is))
only_memory (export dir updates_only) before status is = shelf_fault (ReadsStore (Printing (ShowsRecords updates_only))) dir before.store status (inr (inr is))
only_memory (query dir text json) before status is = shelf_fault (ReadsStore (QueryAnswer text json)) dir before.store status (inr (inr is))
only_memory (merge first second) before status is = λ tells. each_fault (IsSureOfMerge (readings before.store first) (readings before.store second)) status (inr (inr is))
only_memory (notes dir) before status is = shelf_fault (ReadsStore (Printing ShowsNotes)) dir before.store status (inr (inr is))

-- an outcome that came and was said
module _ {S H R : Type 0} (one : OneAnswer) (parts : OneOfParts) (makers : OneOfMakers) (merges : OneOfMerge) (before after : Outside S H R) (status : ℕ) where
  any_fault : (outcome : Outcome) → IsInitFault before after outcome → IsFaultStatus (status_of outcome)
  any_fault outcome (inl source) = inr (inl (ap status_of source.0))
  any_fault outcome (inr failed) = fault_status before.shelf_faults after.shelf_faults outcome failed

  init_only : (dir : List ℕ) (left : Option (List ℕ)) (outcome : Outcome)
      → (IsTrue before.store.tells → InitAnswer left after.left before.stream (readings before.store dir) (readings after.store dir) outcome) ⊎ IsInitFault before after outcome → IsSaidAs outcome status
      → IsTrue before.store.tells → IfSome left (λ input. (other : Option (List ℕ)) (later : Readings) → EachAs (InitAnswer (Some input) other before.stream (readings before.store dir) later) status)
  init_only dir None outcome comes said tells = tt
  init_only dir (Some input) outcome comes said tells = λ other later.
      told_only status (IsInitFault before after) (InitAnswer (Some input) after.left before.stream (readings before.store dir) (readings after.store dir))
      (InitAnswer (Some input) other before.stream (readings before.store dir) later) outcome
      (λ given came may_be. (makers.init input after.left other before.stream (readings before.store dir) (readings after.store dir) later outcome given came may_be).0) (any_fault outcome) (told_now before.store tells comes) said

  keygen_only : (lms : LmsType) (ots : OtsType) (dir : List ℕ) (outcome : Outcome) → DrawsKeyOnly lms ots dir before after outcome → IsSaidAs outcome status
      → IsTrue before.store.tells → (later : Readings) → EachAs (KeygenAnswer lms ots before.stream (readings before.store dir) later) status
  keygen_only lms ots dir outcome comes said tells = λ later.
      told_only status (IsShelfFault before.shelf_faults after.shelf_faults) (KeygenAnswer lms ots before.stream (readings before.store dir) (readings after.store dir))
      (KeygenAnswer lms ots before.stream (readings before.store dir) later) outcome
      (λ given came may_be. (makers.keygen lms ots before.stream (readings before.store dir) (readings after.store dir) later outcome given came may_be).0)
      (fault_status before.shelf_faults after.shelf_faults outcome) (told_now before.store tells comes.draws.comes) said

  join_only : (dir : List ℕ) (outcome : Outcome) → JoinsHeads dir before after outcome → IsSaidAs outcome status → SignOnly (JoinAnswer before.stream) dir before.store status
  join_only dir outcome comes said =
      shelf_said (λ given. IsShelfFault before.shelf_faults after.shelf_faults given ⊎ IsNoStop given) (StoreAnswer (after.random ≡ before.random) (JoinAnswer before.stream))
      (StoreAnswer (Unit {0}) (JoinAnswer before.stream)) (Schema ∷ Updates ∷ Key ∷ Used ∷ []) dir before.store after.store outcome status
      (λ shown added others a b is so. (makers.join before.stream shown added others a b (used_or_not (after.random ≡ before.random) (JoinAnswer before.stream) shown added a is) so).0) fault comes.joins.runs said
    where
      fault : IsShelfFault before.shelf_faults after.shelf_faults outcome ⊎ IsNoStop outcome → IsFaultStatus (status_of outcome)
      fault (inl failed) = fault_status before.shelf_faults after.shelf_faults outcome failed
      fault (inr stops) = absurd stops

  apply_only : (dir : List ℕ) (note : Option (List ℕ)) (left : Option (List ℕ)) (outcome : Outcome)
      → RunsStore (λ given. IsShelfFault before.shelf_faults after.shelf_faults given ⊎ IsSourceFault before.source_faults after.source_faults given)
      (StoreAnswer ((after.source ≡ before.source) × (after.random ≡ before.random)) (ApplyAnswer note left after.left before.stream)) (Schema ∷ Updates ∷ Key ∷ Used ∷ []) dir before.store after.store outcome
      → IsSaidAs outcome status
      → IsTrue before.store.tells → IfSome left (λ input. EachAs (IsSureOfApply note input before.stream (readings before.store dir)) status)
  apply_only dir _ None outcome runs said tells = tt
  apply_only dir note (Some input) outcome runs said tells =
      told_only status (λ given. IsShelfFault before.shelf_faults after.shelf_faults given ⊎ IsSourceFault before.source_faults after.source_faults given)
      (λ given. StoreAnswer ((after.source ≡ before.source) × (after.random ≡ before.random)) (ApplyAnswer note (Some input) after.left before.stream) (readings before.store dir) runs.added given)
      (IsSureOfApply note input before.stream (readings before.store dir)) outcome
      (λ given came sure.
      (makers.apply note input before.stream (readings before.store dir) outcome given (
        after.left,
        runs.added,
        used_or_not ((after.source ≡ before.source) × (after.random ≡ before.random)) (ApplyAnswer note (Some input) after.left before.stream) (readings before.store dir) runs.added outcome came,
      ) sure).0)
      fault (applied runs.comes) said
    where
      fault : IsShelfFault before.shelf_faults after.shelf_faults outcome ⊎ IsSourceFault before.source_faults after.source_faults outcome → IsFaultStatus (status_of outcome)
      fault (inl failed) = fault_status before.shelf_faults after.shelf_faults outcome failed
      fault (inr stops) = inr (inl (ap status_of stops.0))

      applied : {Came Fault Rest : Type 0} → (IsTrue before.store.tells → Came) ⊎ (Fault × Rest) → Came ⊎ Fault
      applied (inl answers) = inl (answers tells)
      applied (inr failed) = inr failed.0

  merge_only : (first second : List ℕ) (outcome : Outcome) → Merges first second before after outcome → IsSaidAs outcome status
      → IsTrue before.store.tells → EachAs (IsSureOfMerge (readings before.store first) (readings before.store second)) status
  merge_only first second outcome comes said tells =
      told_only status (IsShelfFault before.shelf_faults after.shelf_faults) (MayMerge (readings before.store first) (readings before.store second))
      (IsSureOfMerge (readings before.store first) (readings before.store second)) outcome
      (λ given came sure. merges (readings before.store first) (readings before.store second) outcome given came sure)
      (fault_status before.shelf_faults after.shelf_faults outcome) (may comes.stores.comes) said
    where
      may : (IsTrue before.store.tells → MergeAnswer (readings before.store first) (readings before.store second) (memory_in before.store first) (memory_in before.store second)
          (memory_in after.store first) (memory_in after.store second) comes.stores.added comes.stores.added_other outcome) ⊎ IsShelfFault before.shelf_faults after.shelf_faults outcome
          → MayMerge (readings before.store first) (readings before.store second) outcome ⊎ IsShelfFault before.shelf_faults after.shelf_faults outcome
      may (inl answers) = inl (
        memory_in before.store first,
        memory_in before.store second,
        memory_in after.store first,
        memory_in after.store second,
        comes.stores.added,
        comes.stores.added_other,
        answers tells,
      )
      may (inr fault) = inr fault

  pub only_said : (request : RequestText) (outcome : Outcome) → Comes request before after outcome → IsSaidAs outcome status → AnswersOnly request before status
  only_said (heads None) outcome comes said = source_only before after status HeadsAnswer one.heads outcome comes.comes said
  only_said (heads (Some dir)) outcome comes said = read_only before after status (Printing ShowsHeads) parts.heads dir outcome comes said
  only_said check outcome comes said = source_only before after status CheckAnswer one.check outcome comes.comes said
  only_said (dump None json) outcome comes said = source_only before after status (DumpAnswer json) (one.dump json) outcome comes.comes said
  only_said (dump (Some dir) json) outcome comes said = read_only before after status (Printing (ShowsTables json)) (parts.dump json) dir outcome comes said
  only_said (init dir) outcome comes said = init_only dir before.left outcome comes.comes said
  only_said (keygen dir lms ots) outcome comes said = keygen_only lms ots dir outcome comes said
  only_said (apply dir note) outcome comes said = apply_only dir note before.left outcome comes.runs said
  only_said (join dir) outcome comes said = join_only dir outcome comes said
  only_said (export dir updates_only) outcome comes said = read_only before after status (Printing (ShowsRecords updates_only)) (parts.export updates_only) dir outcome comes said
  only_said (query dir text json) outcome comes said = read_only before after status (QueryAnswer text json) (parts.query text json) dir outcome comes said
  only_said (merge first second) outcome comes said = merge_only first second outcome comes said
  only_said (notes dir) outcome comes said = read_only before after status (Printing ShowsNotes) parts.notes dir outcome comes said
