-- Taking updates into the store of a directory.
use Rattle.std.proofs.Common.{◌≡◌, ◌≢◌, ◌⊎◌, inl, inr, ℕ, ◌≤◌, ◌<◌, List, [], ◌∷◌, IsTrue, ap, refl, sym, subst, ◌∙◌, arith, Err}
use Rattle.row_check.specs.Checksum.{is_luhn}
use Rattle.bec_bytes.specs.Causes.{Rose}
use Rattle.bec_disk.specs.declared.part.Part.TheVariants.{Schema, Updates}
use Rattle.bec_disk.specs.Shelf.{PartState, ShelfState, out}
use Rattle.replica.specs.Replicas.{ReplicaState}
use Rattle.store_directory.specs.Holding.{IsStoreCause, LetsGo, OpenData, PutsStore, TakesStore, WorksOn}
use Rattle.key_directory.specs.Parts.{IsHome, part_in, reading}
use Rattle.store_directory.specs.Opening.{IsStoreOut, LetsAllGo, Refuses}
use Rattle.store_directory.specs.Stores.{IsStore, StoreData}
use Rattle.store_directory.specs.declared.open_refusal.OpenRefusal.{OpenRefusal}
use Rattle.store_directory.specs.declared.open_refusal.OpenRefusal.TheVariants as open_refusals
use Rattle.store_directory.specs.declared.opening.Needs.TheVariants as needed
use Rattle.store_directory.specs.declared.store_refusal.StoreRefusal.{StoreRefusal}
use Rattle.store_directory.specs.declared.store_refusal.StoreRefusal.TheVariants as store_refusals
use Rattle.key_directory.proofs.Places.{keeps_through}
use Rattle.key_directory.proofs.Putting.{told}
use Rattle.store_directory.proofs.OnceOpen.{disks_of, no_store_taken}
use Rattle.store_directory.proofs.Readings.{OneSchema, same_store}
use Rattle.store_directory.proofs.Working.{home_after_store, read_before, store_of, worked_run}
use Rattle.outcomes.proofs.Saying.{rose_later}
use Rattle.outcomes.specs.Comes.{IsShelfFault, is_done, readings}
use Rattle.outcomes.specs.Outcome.{Outcome, from_open, from_store}
use Rattle.outcomes.specs.StoreAnswers.{bad_store, no_store}
use Rattle.outcomes.specs.declared.refusal.Refusal.{Refusal}
use Rattle.outcomes.specs.declared.refusal.Refusal.TheVariants as refusals
use Rattle.import_commands.specs.Taking.{ContentsData, IsAllOrNone, IsLogFault, IsTakeEnd, StoreAnswer, TakeAnswer, TakesInto, TakesOpen, answered, refused}

module _ (contents : ContentsData) (lines : List ℕ) (dir : List ℕ) (before after : ShelfState) (old new : ℕ) where
  -- where no store was taken
  storeless : (why : StoreRefusal) → (IsTrue before.tells → IsHome before) → LetsGo is_luhn before dir after → (IsTrue before.tells → IsStoreCause is_luhn before dir why)
      → (why ≡ store_refusals.DiskFault → Rose old new) → old ≤ new → TakesInto contents lines dir before after old new (Err (from_store why))
  storeless why home lets cause failed later = by why cause failed
    where
      ends_so : (refusal : Refusal) → (IsTrue before.tells → TakeAnswer contents lines (readings before dir) [] (Err refusal)) ⊎ IsShelfFault old new (Err refusal)
          → IsTakeEnd (Err refusal) ⊎ IsShelfFault old new (Err refusal) → TakesInto contents lines dir before after old new (Err refusal)
      ends_so refusal comes ends = record {
        added = [];
        comes = comes;
        ends = ends;
        all = λ tells store is. inl refl;
        run = lets.run;
        tells = lets.tells;
        others = lets.others;
        home = λ tells place. lets.places tells place (home tells place);
        later = later;
      }

      by : (why : StoreRefusal) → (IsTrue before.tells → IsStoreCause is_luhn before dir why) → (why ≡ store_refusals.DiskFault → Rose old new)
          → TakesInto contents lines dir before after old new (Err (from_store why))
      by store_refusals.NoStore so f = ends_so refusals.NoStore (inl (λ tells. refused refusals.NoStore (no_store (so tells) refl) refl refl)) (inl tt)
      by store_refusals.BadStore so f = ends_so refusals.BadStore (inl (λ tells. refused refusals.BadStore (bad_store (so tells) refl) refl refl)) (inl tt)
      by store_refusals.DiskFault so f = ends_so refusals.StoreFault (inr (inr (refl, f refl))) (inr (inr (refl, f refl)))
      by store_refusals.Memory so f = ends_so refusals.Memory (inr (inl refl)) (inr (inl refl))

  -- where nothing was opened
  pub unopened : (why : OpenRefusal) → (IsTrue before.tells → IsHome before) → LetsAllGo needed.Store before dir after → Refuses why needed.Store before dir
      → (why ≡ open_refusals.Store store_refusals.DiskFault → Rose old new) → old ≤ new → TakesInto contents lines dir before after old new (Err (from_open why))
  unopened (open_refusals.Store why) home lets cause failed later = storeless why home (no_store_taken before after dir lets) cause (λ is. failed (ap open_refusals.Store is)) later
  unopened (open_refusals.Key why) home lets cause failed later = absurd cause

  -- where one was taken and put back
  module _ (one : OneSchema) (opened : ShelfState) (opened_faults : ℕ) (store : OpenData) (now : ReplicaState) (outcome : Outcome)
      (home : IsTrue before.tells → IsHome before) (takes : TakesStore is_luhn before dir store opened) (work : TakesOpen contents lines store.replica now outcome) where
    opened_told : IsTrue before.tells → IsTrue opened.tells
    opened_told tells = told before.tells opened.tells takes.tells tells

    works : WorksOn store now work.added (is_done outcome)
    works = work.works (λ log_tells. (takes.updates (told store.replica.log.disk.tells before.tells (sym takes.updates_tells) log_tells)).2.clean refl) store refl

    -- the disks of the store are those of its parts
    pub store_out : IsTrue opened.tells → IsStoreOut opened dir store.schema now
    store_out tells =
        let disks = disks_of dir before opened opened store now takes refl works.any_moment.disk.slot (λ opened_tells. (refl, refl)) tells in
        record { schema_of = disks.0; updates_of = disks.1 }

    module _ (puts : PutsStore opened dir store.schema now.log.disk after) (earlier : old ≤ opened_faults) (later : opened_faults ≤ new) (faulted : 0 < now.log.faults → Rose opened_faults new) where
      fault_there : IsLogFault store.replica.log.faults now.log.faults outcome → IsShelfFault old new outcome
      fault_there (inl memory) = inl memory
      fault_there (inr (is, rose)) = inr (is, rose_later old opened_faults new earlier (faulted (omega (arith, rose))))

      comes_there : StoreAnswer contents lines (store_of store.replica) work.added outcome ⊎ IsLogFault store.replica.log.faults now.log.faults outcome
          → (IsTrue before.tells → TakeAnswer contents lines (readings before dir) work.added outcome) ⊎ IsShelfFault old new outcome
      comes_there (inl answer) = inl (λ tells. answered (store_of store.replica) (read_before is_luhn before opened dir store tells takes) answer)
      comes_there (inr fault) = inr (fault_there fault)

      ends_there : IsTakeEnd outcome ⊎ IsLogFault store.replica.log.faults now.log.faults outcome → IsTakeEnd outcome ⊎ IsShelfFault old new outcome
      ends_there (inl end) = inl end
      ends_there (inr fault) = inr (fault_there fault)

      all_there : IsTrue before.tells → (other : StoreData) → IsStore is_luhn before dir other → IsAllOrNone other.members contents.updates work.added
      all_there tells other is =
          let same = same_store one is_luhn (reading (part_in before dir Schema)) (reading (part_in before dir Updates)) (store_of store.replica) other (read_before is_luhn before opened dir store tells takes) is in
          subst (λ (s : StoreData). IsAllOrNone s.members contents.updates work.added) same work.all

      pub stored : TakesInto contents lines dir before after old new outcome
      stored = record {
        added = work.added;
        comes = comes_there work.comes;
        ends = ends_there work.ends;
        all = all_there;
        run = λ tells. worked_run one is_luhn before opened opened after dir store now work.added (is_done outcome) tells (opened_told tells) takes works puts;
        tells = puts.tells ∙ takes.tells;
        others = λ tells. keeps_through (Schema ∷ Updates ∷ []) dir before opened after takes.others (puts.others (opened_told tells));
        home = λ tells. home_after_store opened after dir store.schema now.log.disk (opened_told tells) puts
            (λ other away. subst (λ (p : PartState). p ≢ out) (sym (takes.others other away)) (home tells other));
        later = omega (arith, earlier, later);
      }
