-- Commands that only read the store of a directory.
use Rattle.std.proofs.Common.{Bool, Err, IfSome, IsTrue, List, None, Option, Some, [], ap, arith, false, inl, inr, length-append, refl, subst, sym, ℕ, ◌++◌, ◌∷◌, ◌≡◌, ◌≢◌, ◌⊎◌}
use Rattle.bec_bytes.specs.Framed.{stream_of}
use Rattle.row_check.specs.Checksum.{is_luhn}
use Rattle.bec_bytes.specs.Causes.{Rose}
use Rattle.bec_disk.specs.declared.part.Part.TheVariants.{Schema, Updates}
use Rattle.bec_disk.specs.Shelf.{ShelfState, out}
use Rattle.bec_disk.proofs.Gates.{gated-whole}
use Rattle.bec_disk.specs.Gated.{whole_of}
use Rattle.update_log.proofs.Logsets.{records_logset}
use Rattle.key_index.specs.KeyState.{KeyState}
use Rattle.replica.specs.Replicas.{ReplicaState}
use Rattle.store_directory.specs.Holding.{IsStoreCause, LetsGo, OpenData, PutsStore, TakesStore}
use Rattle.key_directory.specs.Parts.{IsHome, KeepsAllBut}
use Rattle.store_directory.specs.Stores.{StoreData, StoreRun}
use Rattle.store_directory.specs.Opening.{Closes, IsKeyOut, IsStoreOut, LetsAllGo, Opens, Refuses}
use Rattle.store_directory.specs.declared.open_refusal.OpenRefusal.{OpenRefusal}
use Rattle.store_directory.specs.declared.open_refusal.OpenRefusal.TheVariants as open_refusals
use Rattle.store_directory.specs.declared.opening.Needs.TheVariants as needed
use Rattle.store_directory.specs.declared.store_refusal.StoreRefusal.{StoreRefusal}
use Rattle.store_directory.specs.declared.store_refusal.StoreRefusal.TheVariants.{NoStore, BadStore, DiskFault, Memory}
use Rattle.key_directory.proofs.Places.{keeps_through}
use Rattle.key_directory.proofs.Putting.{told}
use Rattle.key_directory.proofs.Readings.{whole-not-absent}
use Rattle.store_directory.proofs.Readings.{OneSchema}
use Rattle.store_directory.proofs.OnceOpen.{disks_of, no_store_taken, unworked_run}
use Rattle.store_directory.proofs.Working.{home_after_store, read_before, store_of}
use Rattle.outcomes.specs.declared.refusal.Refusal.{Refusal}
use Rattle.outcomes.specs.declared.refusal.Refusal.TheVariants as refusals
use Rattle.outcomes.specs.Comes.{AnswersSome, IsShelfFault, ReadsShelf, is_done, readings}
use Rattle.outcomes.specs.Outcome.{Outcome, from_open, from_store}
use Rattle.store_directory.specs.Standing.{Stands}
use Rattle.outcomes.specs.StoreAnswers.{HasStore, Readings, ReadsStore, answered, bad_store, no_store, refused}

abbrev no_updates : List (List ℕ)
no_updates = []

-- ---- parts of some directory

-- parts that have no store
abbrev no_parts : Readings
no_parts = record { schema = None; updates = None; key = None; used = None }

-- parts that have a bad one
abbrev bad_parts : Readings
bad_parts = record { schema = Some (whole_of []); updates = None; key = None; used = None }

-- parts that have the store that is open
abbrev parts_of : ReplicaState → Readings
parts_of replica =
    record { schema = Some (whole_of (replica.node ++ replica.history.schema.text)); updates = Some (stream_of replica.history.members); key = None; used = None }

has_parts : (replica : ReplicaState) → Stands replica → HasStore (parts_of replica) (store_of replica)
has_parts replica stands = (
  record { whole = gated-whole (replica.node ++ replica.history.schema.text) (omega (arith, length-append replica.node replica.history.schema.text, stands.node, stands.taken.declares.0)); size = stands.node; taken = stands.taken },
  records_logset replica.history.schema.rule replica.history.members stands.history_is.members,
)

module _ (Answers : StoreData → Outcome → Type 0) where
  some_none : AnswersSome (ReadsStore Answers) (Err refusals.NoStore)
  some_none = (no_parts, [], refused refusals.NoStore (no_store tt refl) refl refl)

  some_bad : AnswersSome (ReadsStore Answers) (Err refusals.BadStore)
  some_bad = (bad_parts, [], refused refusals.BadStore (bad_store (whole-not-absent (whole_of []) [] (gated-whole [] (omega arith))) refl) refl refl)

  some_answered : (replica : ReplicaState) (outcome : Outcome) → Stands replica → Answers (store_of replica) outcome → AnswersSome (ReadsStore Answers) outcome
  some_answered replica outcome stands answers = (parts_of replica, [], answered (store_of replica) (has_parts replica stands) answers refl)

module _ (Answers : StoreData → Outcome → Type 0) (dir : List ℕ) (before after : ShelfState) (old new : ℕ) where
  -- where no store was taken
  pub read_refused : (why : StoreRefusal) → (IsTrue before.tells → IsHome before) → LetsGo is_luhn before dir after → (IsTrue before.tells → IsStoreCause is_luhn before dir why)
      → (why ≡ DiskFault → Rose old new) → ReadsShelf (ReadsStore Answers) dir before after old new (Err (from_store why))
  read_refused why home lets cause failed = record {
    runs = record { added = []; comes = by why cause failed; run = lets.run; others = lets.others; home = λ tells place. lets.places tells place (home tells place) };
    ends = some why failed;
  }
    where
      by : (why : StoreRefusal) → (IsTrue before.tells → IsStoreCause is_luhn before dir why) → (why ≡ DiskFault → Rose old new)
          → (IsTrue before.tells → ReadsStore Answers (readings before dir) [] (Err (from_store why))) ⊎ (IsShelfFault old new (Err (from_store why)) × (no_updates ≡ []))
      by NoStore cause failed = inl (λ tells. refused refusals.NoStore (no_store (cause tells) refl) refl refl)
      by BadStore cause failed = inl (λ tells. refused refusals.BadStore (bad_store (cause tells) refl) refl refl)
      by DiskFault cause failed = inr (inr (refl, failed refl), refl)
      by Memory cause failed = inr (inl refl, refl)

      some : (why : StoreRefusal) → (why ≡ DiskFault → Rose old new) → AnswersSome (ReadsStore Answers) (Err (from_store why)) ⊎ IsShelfFault old new (Err (from_store why))
      some NoStore failed = inl (some_none Answers)
      some BadStore failed = inl (some_bad Answers)
      some DiskFault failed = inr (inr (refl, failed refl))
      some Memory failed = inr (inl refl)

  -- where one was taken, read and put back
  module _ (one : OneSchema) (opened : ShelfState) (taken : OpenData) (home : IsTrue before.tells → IsHome before) (takes : TakesStore is_luhn before dir taken opened)
      (puts : PutsStore opened dir taken.schema taken.replica.log.disk after) (stands : Stands taken.replica) where
    opened_tells : IsTrue before.tells → IsTrue opened.tells
    opened_tells tells = told before.tells opened.tells takes.tells tells

    runs : (done : Bool) → IsTrue before.tells → StoreRun is_luhn before after dir [] done
    runs done tells = unworked_run one before opened opened after dir taken done tells (opened_tells tells) takes stands puts

    others : IsTrue before.tells → KeepsAllBut (Schema ∷ Updates ∷ []) dir before after
    others tells = keeps_through (Schema ∷ Updates ∷ []) dir before opened after takes.others (puts.others (opened_tells tells))

    home_again : IsTrue before.tells → IsHome after
    home_again tells =
        home_after_store opened after dir taken.schema taken.replica.log.disk (opened_tells tells) puts (λ other away. subst (λ p. p ≢ out) (sym (takes.others other away)) (home tells other))

    pub read_answered : (outcome : Outcome) → Answers (store_of taken.replica) outcome → ReadsShelf (ReadsStore Answers) dir before after old new outcome
    read_answered outcome answers = record {
      runs = record {
        added = [];
        comes = inl (λ tells. answered (store_of taken.replica) (read_before is_luhn before opened dir taken tells takes) answers refl);
        run = runs (is_done outcome);
        others = others;
        home = home_again;
      };
      ends = inl (some_answered Answers taken.replica outcome stands answers);
    }

    pub read_lacked : ReadsShelf (ReadsStore Answers) dir before after old new (Err refusals.Memory)
    read_lacked = record { runs = record { added = []; comes = inr (inl refl, refl); run = runs false; others = others; home = home_again }; ends = inr (inl refl) }

-- ---- a directory that is opened for its store alone

-- what was opened is out
pub opened_out : (before opened : ShelfState) (dir : List ℕ) (store : OpenData) (key : Option KeyState) → Opens needed.Store before dir store key opened → IsTrue opened.tells
    → IsStoreOut opened dir store.schema store.replica × IfSome key (IsKeyOut opened dir)
opened_out before opened dir store None takes tells =
    let disks = disks_of dir before opened opened store store.replica takes refl refl (λ opened_tells. (refl, refl)) tells in (record { schema_of = disks.0; updates_of = disks.1 }, tt)
opened_out before opened dir store (Some key) takes tells = absurd takes

module _ (Answers : StoreData → Outcome → Type 0) (dir : List ℕ) (before after : ShelfState) (old new : ℕ) where
  pub open_refused : (why : OpenRefusal) → (IsTrue before.tells → IsHome before) → LetsAllGo needed.Store before dir after → Refuses why needed.Store before dir
      → (why ≡ open_refusals.Store DiskFault → Rose old new) → ReadsShelf (ReadsStore Answers) dir before after old new (Err (from_open why))
  open_refused (open_refusals.Store why) home lets cause failed =
      read_refused Answers dir before after old new why home (no_store_taken before after dir lets) cause (λ is. failed (ap open_refusals.Store is))
  open_refused (open_refusals.Key why) home lets cause failed = absurd cause

  pub open_answered : OneSchema → (opened : ShelfState) (counted : ℕ) (store : OpenData) (key : Option KeyState) (outcome : Outcome) → (IsTrue before.tells → IsHome before) → Opens needed.Store before dir store key opened
      → Closes opened counted dir store key after new → Stands store.replica → Answers (store_of store.replica) outcome ⊎ (outcome ≡ Err refusals.Memory) → ReadsShelf (ReadsStore Answers) dir before after old new outcome
  open_answered one opened counted store None outcome home takes closes stands (inl answers) = read_answered Answers dir before after old new one opened store home takes closes.puts stands outcome answers
  open_answered one opened counted store None outcome home takes closes stands (inr memory) =
      subst (λ (o : Outcome). ReadsShelf (ReadsStore Answers) dir before after old new o) (sym memory) (read_lacked Answers dir before after old new one opened store home takes closes.puts stands)
  open_answered one opened counted store (Some key) outcome home takes closes stands answers = absurd takes

-- ---- want of memory in place of a refusal

none_of_refused : (Answers : StoreData → Outcome → Type 0) (dir : List ℕ) (shelf : ShelfState) (added : List (List ℕ)) (refusal : Refusal) → ReadsStore Answers (readings shelf dir) added (Err refusal) → added ≡ []
none_of_refused Answers dir shelf added refusal (answered store has answers none) = none
none_of_refused Answers dir shelf added refusal (refused why refuses none is) = none

pub read_without_memory : (Answers : StoreData → Outcome → Type 0) (dir : List ℕ) (before after : ShelfState) (old new : ℕ) (refusal : Refusal)
    → ReadsShelf (ReadsStore Answers) dir before after old new (Err refusal) → ReadsShelf (ReadsStore Answers) dir before after old new (Err refusals.Memory)
read_without_memory Answers dir before after old new refusal reads = record {
  runs = record {
    added = [];
    comes = inr (inl refl, refl);
    run = λ tells. subst (λ (l : List (List ℕ)). StoreRun is_luhn before after dir l false) (none reads.runs.comes tells) (reads.runs.run tells);
    others = reads.runs.others;
    home = reads.runs.home;
  };
  ends = inr (inl refl);
}
  where
    none : (IsTrue before.tells → ReadsStore Answers (readings before dir) reads.runs.added (Err refusal)) ⊎ (IsShelfFault old new (Err refusal) × (reads.runs.added ≡ [])) → IsTrue before.tells → reads.runs.added ≡ []
    none (inl answers) tells = none_of_refused Answers dir before reads.runs.added refusal (answers tells)
    none (inr fault) tells = fault.1
