-- What a request that brings updates into a directory comes to.
use Rattle.std.specs.Prelude.{◌≡◌, ℕ, List, Err}
use Rattle.bec_bytes.specs.Causes.{Rose}
use Rattle.command_words.specs.ImportRequests.{ImportText, CloneBundle, CloneStore, Import}
use Rattle.outcomes.specs.Outcome.{Outcome}
use Rattle.outcomes.specs.Outside.{Outside}
use Rattle.outcomes.specs.declared.refusal.Refusal.TheVariants.{StoreFault, Stream}
use Rattle.import_commands.specs.Cloning.{ClonesBundle, ClonesStore}
use Rattle.import_commands.specs.Importing.{Imports}

-- The store of another directory is cloned, and the source is as it was.
pub record ClonesOther {S H R : Type 0} (from dir : List ℕ) (before after : Outside S H R) (outcome : Outcome) : Type 0 where
  pub clones : ClonesStore from dir before.stream after.stream before.store after.store before.shelf_faults after.shelf_faults outcome
  pub source : after.source ≡ before.source
  pub left : after.left ≡ before.left
  pub source_faults : after.source_faults ≡ before.source_faults

-- A request comes to what its command does.
abbrev pub Brings : {S H R : Type 0} → ImportText → Outside S H R → Outside S H R → Outcome → Type 0
Brings (Import dir) before after outcome = Imports dir before after outcome
Brings (CloneBundle dir) before after outcome = ClonesBundle dir before after outcome
Brings (CloneStore from dir) before after outcome = ClonesOther from dir before after outcome

-- The store or the source is said to have failed only where its count of faults rose.
pub record BlamesRightly {S H R : Type 0} (before after : Outside S H R) (outcome : Outcome) : Type 0 where
  pub store : outcome ≡ Err StoreFault → Rose before.shelf_faults after.shelf_faults
  pub source : outcome ≡ Err Stream → Rose before.source_faults after.source_faults
