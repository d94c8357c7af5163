-- Watching the store of a directory.
use Rattle.std.proofs.Common.{◌≡◌, ◌≢◌, ◌⊎◌, inl, inr, ℕ, ◌≤◌, ◌<◌, List, [], ◌∷◌, IsTrue, ap, refl, sym, subst, arith, Option, Some}
use Rattle.std.specs.Option.{is_none}
use Rattle.std.proofs.KnownBytes.{Appends-nil}
use Rattle.row_check.specs.Checksum.{is_luhn}
use Rattle.bec_bytes.specs.Causes.{Rose}
use Rattle.bec_disk.specs.declared.part.Part.TheVariants.{Schema, Updates}
use Rattle.bec_disk.specs.Shelf.{ShelfState, out}
use Rattle.replica.specs.Replicas.{ReplicaState}
use Rattle.store_directory.specs.Holding.{IsStoreCause, LetsGo, OpenData, PutsStore, TakesStore, WorksOn}
use Rattle.key_directory.specs.Parts.{IsHome}
use Rattle.store_directory.specs.Opening.{IsStoreOut, LetsAllGo, Refuses}
use Rattle.store_directory.specs.declared.open_refusal.OpenRefusal.{OpenRefusal}
use Rattle.store_directory.specs.declared.open_refusal.OpenRefusal.TheVariants as open_refusals
use Rattle.store_directory.specs.declared.opening.Needs.TheVariants as needed
use Rattle.store_directory.specs.declared.store_refusal.StoreRefusal.{StoreRefusal}
use Rattle.store_directory.specs.declared.store_refusal.StoreRefusal.TheVariants as store_refusals
use Rattle.key_directory.proofs.Places.{keeps_through}
use Rattle.key_directory.proofs.Putting.{told}
use Rattle.store_directory.proofs.OnceOpen.{disks_of, no_store_taken}
use Rattle.store_directory.proofs.Readings.{OneSchema}
use Rattle.store_directory.proofs.Working.{home_after_store, read_before, store_of, worked_run}
use Rattle.outcomes.specs.Comes.{readings}
use Rattle.outcomes.specs.Outcome.{from_open, from_store}
use Rattle.outcomes.specs.StoreAnswers.{bad_store, no_store}
use Rattle.outcomes.specs.declared.refusal.Refusal.{Refusal}
use Rattle.outcomes.specs.declared.refusal.Refusal.TheVariants as refusals
use Rattle.watch_command.specs.Ending.{HasCause, Says, Streams}
use Rattle.watch_command.specs.Runs.{IsOpeningFault, OpenAnswer, WatchAnswer, WatchesIn, WatchesOpen, WatchesShelf, lacks_memory, store_failed, with_store, without_store}
use Rattle.watch_command.specs.Watching.{WatchData}
use Rattle.watch_command.specs.declared.stop.Stop.{Stop}
use Rattle.watch_command.specs.declared.stop.Stop.TheVariants.{Refused}
use Rattle.outcomes.proofs.StoreOnce.{StoreLaws}
use Rattle.watch_command.proofs.Once.{TextLaws, one_stop}
use Rattle.watch_command.proofs.Writing.{rose_later}

module _ (Unused : Type 0) (watch : WatchData) (dir : List ℕ) (before after : ShelfState) (old new : ℕ) where
  -- where no store was taken
  storeless : (streams : Streams) (why : StoreRefusal) → Unused → (IsTrue before.tells → IsHome before) → LetsGo is_luhn before dir after → (IsTrue before.tells → IsStoreCause is_luhn before dir why)
      → (why ≡ store_refusals.DiskFault → Rose old new) → WatchesShelf Unused watch dir before after old new streams streams (Some (Refused (from_store why)))
  storeless streams why unused home lets cause failed = by why cause failed
    where
      ends_so : (refusal : Refusal) → (IsTrue before.tells → WatchAnswer Unused watch (readings before dir) streams.left streams.left [] [] (Some (Refused refusal))) ⊎ IsOpeningFault [] [] (Some (Refused refusal))
          → HasCause old new streams.faults streams.faults (Some (Refused refusal)) → WatchesShelf Unused watch dir before after old new streams streams (Some (Refused refusal))
      ends_so refusal comes is = record {
        added = [];
        text = [];
        comes = comes;
        cause = is;
        written = Appends-nil streams.sink.held;
        run = lets.run;
        others = lets.others;
        home = λ tells place. lets.places tells place (home tells place);
        sink_later = omega arith;
      }

      by : (why : StoreRefusal) → (IsTrue before.tells → IsStoreCause is_luhn before dir why) → (why ≡ store_refusals.DiskFault → Rose old new)
          → WatchesShelf Unused watch dir before after old new streams streams (Some (Refused (from_store why)))
      by store_refusals.NoStore so f = ends_so refusals.NoStore (inl (λ tells. without_store refusals.NoStore (no_store (so tells) refl) (record { unused = unused; none_added = refl; none_told = refl; is = refl }))) tt
      by store_refusals.BadStore so f = ends_so refusals.BadStore (inl (λ tells. without_store refusals.BadStore (bad_store (so tells) refl) (record { unused = unused; none_added = refl; none_told = refl; is = refl }))) tt
      by store_refusals.DiskFault so f = ends_so refusals.StoreFault (inr (store_failed refl refl refl)) (f refl)
      by store_refusals.Memory so f = ends_so refusals.Memory (inr (lacks_memory refl refl refl)) tt

  -- where nothing was opened
  pub unopened : (streams : Streams) (why : OpenRefusal) → Unused → (IsTrue before.tells → IsHome before) → LetsAllGo needed.Store before dir after → Refuses why needed.Store before dir
      → (why ≡ open_refusals.Store store_refusals.DiskFault → Rose old new) → WatchesShelf Unused watch dir before after old new streams streams (Some (Refused (from_open why)))
  unopened streams (open_refusals.Store why) unused home lets cause failed =
      storeless streams why unused home (no_store_taken before after dir lets) cause (λ is. failed (ap open_refusals.Store is))
  unopened streams (open_refusals.Key why) unused home lets cause failed = absurd cause

  -- where one was taken, watched and put back
  module _ (one : OneSchema) (opened : ShelfState) (opened_faults : ℕ) (taken : OpenData) (now : ReplicaState) (streams streams_new : Streams) (stop : Option Stop)
      (home : IsTrue before.tells → IsHome before) (takes : TakesStore is_luhn before dir taken opened) (work : WatchesOpen Unused watch taken.replica now streams streams_new stop) where
    opened_told : IsTrue before.tells → IsTrue opened.tells
    opened_told tells = told before.tells opened.tells takes.tells tells

    works : WorksOn taken now work.added (is_none stop)
    works = work.works (λ log_tells. (takes.updates (told taken.replica.log.disk.tells before.tells (sym takes.updates_tells) log_tells)).2.clean refl) taken refl

    -- the disks of the store are those of its parts
    pub store_out : IsTrue opened.tells → IsStoreOut opened dir taken.schema now
    store_out tells =
        let disks = disks_of dir before opened opened taken now takes refl works.any_moment.disk.slot (λ opened_tells. (refl, refl)) tells in
        record { schema_of = disks.0; updates_of = disks.1 }

    module _ (puts : PutsStore opened dir taken.schema now.log.disk after) (later : old ≤ opened_faults) (faulted : 0 < now.log.faults → Rose opened_faults new) where
      cause_there : (stop : Option Stop) → HasCause taken.replica.log.faults now.log.faults streams.faults streams_new.faults stop → HasCause old new streams.faults streams_new.faults stop
      cause_there (Some (Refused refusals.StoreFault)) cause =
          let some : 0 < now.log.faults = omega (arith, cause) in
          rose_later old opened_faults new later (faulted some)
      cause_there other cause = cause

      comes_there : OpenAnswer Unused watch (store_of taken.replica) streams.left streams_new.left work.added work.text stop ⊎ IsOpeningFault work.added work.text stop
          → (IsTrue before.tells → WatchAnswer Unused watch (readings before dir) streams.left streams_new.left work.added work.text stop) ⊎ IsOpeningFault work.added work.text stop
      comes_there (inl answer) = inl (λ tells. with_store (store_of taken.replica) (read_before is_luhn before opened dir taken tells takes) answer)
      comes_there (inr fault) = inr fault

      pub stored : WatchesShelf Unused watch dir before after old new streams streams_new stop
      stored = record {
        added = work.added;
        text = work.text;
        comes = comes_there work.comes;
        cause = cause_there stop work.cause;
        written = work.written;
        run = λ tells. worked_run one is_luhn before opened opened after dir taken now work.added (is_none stop) tells (opened_told tells) takes works puts;
        others = λ tells. keeps_through (Schema ∷ Updates ∷ []) dir before opened after takes.others (puts.others (opened_told tells));
        home = λ tells. home_after_store opened after dir taken.schema now.log.disk (opened_told tells) puts (λ other away. subst (λ p. p ≢ out) (sym (takes.others other away)) (home tells other));
        sink_later = work.sink_later;
      }

-- the lines of what it stopped for are written
pub ended : (Unused : Type 0) (watch : WatchData) (dir : List ℕ) (before after : ShelfState) (old new : ℕ) (streams between after_end : Streams) (stop : Option Stop) (status : ℕ)
    → after_end.left ≡ between.left → after_end.faults ≡ between.faults
    → (shelf : WatchesShelf Unused watch dir before after old new streams between stop) → Says streams.sink after_end.sink shelf.text stop status
    → StoreLaws → TextLaws → WatchesIn Unused watch dir before after old new streams after_end status
ended Unused watch dir before after old new streams between after_end stop status left faults shelf said stores texts = record {
  added = shelf.added;
  text = shelf.text;
  stop = stop;
  comes = by shelf.comes;
  cause = subst (λ (n : ℕ). HasCause old new streams.faults n stop) (sym faults) shelf.cause;
  only = λ tells refusal refuses. one_stop stores texts Unused watch before dir streams.left between.left shelf.added shelf.text stop refusal tells refuses shelf.comes;
  said = said;
  run = shelf.run;
  others = shelf.others;
  home = shelf.home;
}
  where
    by : (IsTrue before.tells → WatchAnswer Unused watch (readings before dir) streams.left between.left shelf.added shelf.text stop) ⊎ IsOpeningFault shelf.added shelf.text stop
        → (IsTrue before.tells → WatchAnswer Unused watch (readings before dir) streams.left after_end.left shelf.added shelf.text stop) ⊎ IsOpeningFault shelf.added shelf.text stop
    by (inl answer) = inl (λ tells. subst (λ (l : Option (List ℕ)). WatchAnswer Unused watch (readings before dir) streams.left l shelf.added shelf.text stop) (sym left) (answer tells))
    by (inr fault) = inr fault
