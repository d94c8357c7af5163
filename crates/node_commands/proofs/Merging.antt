-- Merging the stores of two directories.
use Rattle.std.proofs.Common.{◌≡◌, ◌≢◌, ◌⊎◌, inl, inr, ℕ, ◌<◌, ◌≤◌, Bool, true, false, List, [], ◌∷◌, ◌++◌, refl, sym, ap, subst, ◌∙◌, IsTrue, Err, arith}
use Rattle.std.specs.Prelude.{◌||◌, Contains}
use Rattle.std.specs.List.{list_any}
use Rattle.std.proofs.lemmas.Bool.{true≢false}
use Rattle.std.proofs.lemmas.List.Elements.{All-nil}
use Rattle.row_check.specs.Checksum.{is_luhn}
use Rattle.bec_bytes.specs.Causes.{Rose}
use Rattle.bec_disk.specs.declared.part.Part.{Part}
use Rattle.bec_disk.specs.declared.part.Part.TheVariants.{Schema, Updates, Key, Used, Peers}
use Rattle.bec_disk.specs.Shelf.{PartState, ShelfState}
use Rattle.bec_disk.specs.Slot.{Slot, same_slot, slot}
use Rattle.replica.specs.Replicas.{ReplicaState}
use Rattle.store_directory.specs.Holding.{IsStoreCause, LetsGo, OpenData, PutsStore, TakesStore}
use Rattle.store_directory.specs.Stores.{IsStore, KeepsList, StoreData, StoreRun, with_added}
use Rattle.key_directory.specs.Parts.{IsHome, IsUntouched, part_in, reading}
use Rattle.store_directory.specs.Opening.{LetsAllGo, Refuses}
use Rattle.store_directory.specs.declared.open_refusal.OpenRefusal.{OpenRefusal}
use Rattle.store_directory.specs.declared.open_refusal.OpenRefusal.TheVariants as open_refusals
use Rattle.store_directory.specs.declared.opening.Needs.TheVariants as needed
use Rattle.store_directory.specs.declared.store_refusal.StoreRefusal.{StoreRefusal}
use Rattle.store_directory.specs.declared.store_refusal.StoreRefusal.TheVariants as store_refusals
use Rattle.key_directory.proofs.Handing.{untouched_by}
use Rattle.store_directory.proofs.Handing.{list_as_it_was}
use Rattle.key_directory.proofs.Places.{same_place}
use Rattle.store_directory.proofs.OnceOpen.{no_store_taken}
use Rattle.store_directory.proofs.Readings.{OneSchema, same_store}
use Rattle.store_directory.proofs.Working.{read_before, store_of, worked_run}
use Rattle.outcomes.specs.declared.refusal.Refusal.{Refusal}
use Rattle.outcomes.specs.declared.refusal.Refusal.TheVariants as refusals
use Rattle.outcomes.specs.Comes.{IsShelfFault, is_done, readings}
use Rattle.node_commands.specs.Merging.{BesideAnswer, IfStoreFault, IsBesideFault, IsMergeEnd, IsMergeFault, IsStopped, IsWithin, unheld, KeepsAllButIn, Meets, MergeAnswer, MergesBeside, MergesOpen, MergesStores, with_both, with_it, without, without_first, without_second}
use Rattle.store_directory.specs.Remembering.{memory_in, touched}
use Rattle.outcomes.specs.OpenStores.{opened_store, WorksFrom}
use Rattle.outcomes.specs.Outcome.{Outcome, from_open, from_store}
use Rattle.store_directory.specs.Standing.{Stands}
use Rattle.outcomes.specs.StoreAnswers.{bad_store, no_store}
use Rattle.outcomes.proofs.Working.{works_not}
use Rattle.outcomes.proofs.Around.{of_store, of_peers, same_memory, opened_told, closing_told, tells_still, places_around, whole_before}

-- ---- places of two directories

neither_of : (x y : Bool) → x ≡ false → y ≡ false → x || y ≡ false
neither_of true y e f = absurd (true≢false e)
neither_of false y e f = f

-- parts of two directories stand in two places
apart : (first second : List ℕ) → first ≢ second → (p q : Part) → same_slot (slot first p) (slot second q) ≡ false
apart first second differ p q = by (same_slot (slot first p) (slot second q)) refl
  where
    by : (b : Bool) → same_slot (slot first p) (slot second q) ≡ b → same_slot (slot first p) (slot second q) ≡ false
    by true e = absurd (differ (ap (λ (s : Slot). s.dir) (same_place (slot first p) (slot second q) e)))
    by false e = e

pub away_from : (first second : List ℕ) → first ≢ second → (parts : List Part) (q : Part) → list_any (λ part. same_slot (slot first part) (slot second q)) parts ≡ false
away_from first second differ [] q = refl
away_from first second differ (p ∷ parts) q =
    neither_of (same_slot (slot first p) (slot second q)) (list_any (λ part. same_slot (slot first part) (slot second q)) parts) (apart first second differ p q) (away_from first second differ parts q)

-- nothing was done to the store of a directory
not_run : (before after : ShelfState) (dir : List ℕ) → part_in after dir Schema ≡ part_in before dir Schema → part_in after dir Updates ≡ part_in before dir Updates → StoreRun is_luhn before after dir [] false
not_run before after dir schema updates = record {
  list = λ store is. list_as_it_was is_luhn (reading (part_in before dir Schema)) store (part_in before dir Updates) (part_in after dir Updates) is updates;
  reads = λ e. absurd (true≢false (sym e));
  schema = untouched_by (part_in before dir Schema) (part_in after dir Schema) schema;
}

-- what was done to a store, between moments at which its parts are as they are at others
same_run : (before opened closing after : ShelfState) (dir : List ℕ) (added : List (List ℕ)) (done : Bool)
    → part_in opened dir Schema ≡ part_in before dir Schema → part_in opened dir Updates ≡ part_in before dir Updates
    → part_in after dir Schema ≡ part_in closing dir Schema → part_in after dir Updates ≡ part_in closing dir Updates
    → StoreRun is_luhn opened closing dir added done → StoreRun is_luhn before after dir added done
same_run before opened closing after dir added done s u s2 u2 run = record {
  list = λ store is.
      subst (λ (p : PartState). KeepsList store added p (part_in after dir Updates)) u
      (subst (λ (p : PartState). KeepsList store added (part_in opened dir Updates) p) (sym u2) (run.list store (there store is)));
  reads = λ is_done store is. again (with_added store added) (run.reads is_done store (there store is));
  schema =
      subst (λ (p : PartState). IsUntouched p (part_in after dir Schema)) s
      (subst (λ (p : PartState). IsUntouched (part_in opened dir Schema) p) (sym s2) run.schema);
}
  where
    there : (store : StoreData) → IsStore is_luhn before dir store → IsStore is_luhn opened dir store
    there store is = rw (s, u) is

    again : (store : StoreData) → IsStore is_luhn closing dir store → IsStore is_luhn after dir store
    again store is = rw (s2, u2) is

-- what holds anyway holds where the store failed
pub if_fault : {P : Type 0} → (outcome : Outcome) → P → IfStoreFault outcome P
if_fault (Err refusals.StoreFault) is = is
if_fault outcome is = tt

-- parts that were at most read, between moments at which they are as they are at others
untouched_around : (before opened closing after before_two opened_two closing_two after_two : PartState) → opened ≡ before → opened_two ≡ before_two → after ≡ closing → after_two ≡ closing_two
    → IsUntouched opened closing × IsUntouched opened_two closing_two → IsUntouched before after × IsUntouched before_two after_two
untouched_around before opened closing after before_two opened_two closing_two after_two o o2 c c2 same = (
  subst (λ (p : PartState). IsUntouched p after) o (subst (λ (p : PartState). IsUntouched opened p) (sym c) same.0),
  subst (λ (p : PartState). IsUntouched p after_two) o2 (subst (λ (p : PartState). IsUntouched opened_two p) (sym c2) same.1),
)

-- ---- beside a store that is open

-- the parts of the second store stay while both are open
pub second_kept : (first second : List ℕ) → first ≢ second → (opened closing : ShelfState) → (IsTrue opened.tells → KeepsAllButIn (Peers ∷ []) first (Peers ∷ []) second opened closing)
    → IsTrue opened.tells → (part_in closing second Schema ≡ part_in opened second Schema) × (part_in closing second Updates ≡ part_in opened second Updates)
second_kept first second differ opened closing others tells = (
  others tells (slot second Schema) (away_from first second differ (Peers ∷ []) Schema) refl,
  others tells (slot second Updates) (away_from first second differ (Peers ∷ []) Updates) refl,
)

-- the parts of the first store stay while it is open
pub first_kept : (first second : List ℕ) → first ≢ second → (opened closing : ShelfState) → (IsTrue opened.tells → KeepsAllButIn (Peers ∷ []) first touched second opened closing)
    → IsTrue opened.tells → (part_in closing first Schema ≡ part_in opened first Schema) × (part_in closing first Updates ≡ part_in opened first Updates)
first_kept first second differ opened closing others tells = (
  others tells (slot first Schema) refl (away_from second first (λ e. differ (sym e)) touched Schema),
  others tells (slot first Updates) refl (away_from second first (λ e. differ (sym e)) touched Updates),
)

module _ (first second : List ℕ) (differ : first ≢ second) (before after : ShelfState) (old new : ℕ) (one one_new : ReplicaState) where
  -- where the second store was refused
  pub beside_none : (why : StoreRefusal) → Stands one → one_new ≡ one → LetsGo is_luhn before second after → (IsTrue before.tells → IsStoreCause is_luhn before second why)
      → (why ≡ store_refusals.DiskFault → Rose old new) → old ≤ new → MergesBeside first second before after old new one one_new (Err (from_store why))
  beside_none why stands same lets cause failed later = record {
    added = [];
    added_other = [];
    comes = by why cause failed;
    ends = some why failed;
    peers = λ tells is. (
      untouched_by (part_in before first Peers) (part_in after first Peers) (lets.others tells (slot first Peers) (away_from second first (λ e. differ (sym e)) (Schema ∷ Updates ∷ []) Peers)),
      untouched_by (part_in before second Peers) (part_in after second Peers) (lets.others tells (slot second Peers) refl),
    );
    works = subst (λ (r : ReplicaState). WorksFrom one r [] false) (sym same) (works_not one false stands);
    slot = ap (λ (r : ReplicaState). r.log.disk.slot) same;
    run_other = λ whole. lets.run;
    within = λ tells other is. record { first = All-nil (Contains (one.history.members ++ other.members)); second = All-nil (Contains (one.history.members ++ other.members)) };
    stopped = λ tells other is. if_fault (Err (from_store why)) (unheld refl refl);
    tells = lets.tells;
    places = lets.places;
    others = λ tells other away away_too. lets.others tells other (of_store second other away_too);
    later = later;
    log_later = subst (λ (r : ReplicaState). one.log.faults ≤ r.log.faults) (sym same) (omega arith);
  }
    where
      by : (why : StoreRefusal) → (IsTrue before.tells → IsStoreCause is_luhn before second why) → (why ≡ store_refusals.DiskFault → Rose old new)
          → (IsTrue before.tells → BesideAnswer (opened_store one) (readings before second) (memory_in before first) (memory_in before second) (memory_in after first) (memory_in after second) [] [] (Err (from_store why)))
          ⊎ IsBesideFault old new one one_new (Err (from_store why))
      by store_refusals.NoStore so f = inl (λ tells. without refusals.NoStore (no_store (so tells) refl) refl refl refl)
      by store_refusals.BadStore so f = inl (λ tells. without refusals.BadStore (bad_store (so tells) refl) refl refl refl)
      by store_refusals.DiskFault so f = inr (inr (refl, inl (f refl)))
      by store_refusals.Memory so f = inr (inl refl)

      some : (why : StoreRefusal) → (why ≡ store_refusals.DiskFault → Rose old new) → IsMergeEnd (Err (from_store why)) ⊎ IsBesideFault old new one one_new (Err (from_store why))
      some store_refusals.NoStore f = inl tt
      some store_refusals.BadStore f = inl tt
      some store_refusals.DiskFault f = inr (inr (refl, inl (f refl)))
      some store_refusals.Memory f = inr (inl refl)

  -- where it was taken and put back
  pub beside_taken : OneSchema → (opened closing : ShelfState) (opened_faults closing_faults : ℕ) (taken : OpenData) (now : ReplicaState) (outcome : Outcome)
      → TakesStore is_luhn before second taken opened → MergesOpen first second opened closing opened_faults closing_faults one taken.replica one_new now outcome
      → PutsStore closing second taken.schema now.log.disk after → old ≤ opened_faults → closing_faults ≤ new → (0 < now.log.faults → Rose closing_faults new)
      → MergesBeside first second before after old new one one_new outcome
  beside_taken schemas opened closing opened_faults closing_faults taken now outcome takes merges puts one_later two_later faulted = record {
    added = merges.added;
    added_other = merges.added_other;
    comes = by merges.comes;
    ends = some merges.ends;
    peers = λ tells is. untouched_around (part_in before first Peers) (part_in opened first Peers) (part_in closing first Peers) (part_in after first Peers)
        (part_in before second Peers) (part_in opened second Peers) (part_in closing second Peers) (part_in after second Peers)
        (takes.others (slot first Peers) away) (takes.others (slot second Peers) refl) (puts.others (still tells) (slot first Peers) away) (puts.others (still tells) (slot second Peers) refl)
        (merges.peers (inside tells) is);
    works = merges.works (whole_before second before opened closing after taken now takes puts merges.tells merges.places);
    slot = merges.slot;
    run_other = λ whole tells. worked_run schemas is_luhn before opened closing after second taken now merges.added_other (is_done outcome) tells (still tells) takes
        (merges.works_other whole (whole_before second before opened closing after taken now takes puts merges.tells merges.places) taken refl) puts;
    within = λ tells other is.
        subst (λ (s : StoreData). IsWithin one.history.members s.members merges.added merges.added_other)
        (same_store schemas is_luhn (reading (part_in before second Schema)) (reading (part_in before second Updates)) (store_of taken.replica) other (read_before is_luhn before opened second taken tells takes) is) merges.within;
    stopped = λ tells other is.
        subst (λ (s : StoreData). IfStoreFault outcome (IsStopped (opened_store one) s (memory_in before first) (memory_in before second) merges.added merges.added_other))
        (same_store schemas is_luhn (reading (part_in before second Schema)) (reading (part_in before second Updates)) (store_of taken.replica) other (read_before is_luhn before opened second taken tells takes) is)
        (rw (
          sym (same_memory before opened first (takes.others (slot first Peers) away)),
          sym (same_memory before opened second (takes.others (slot second Peers) refl)),
        )
        (merges.stopped (inside tells)));
    tells = tells_still second before opened closing after taken now takes puts merges.tells merges.places;
    places = places_around second before opened closing after taken now takes puts merges.tells merges.places;
    others = λ tells other away away_too.
        puts.others (still tells) other (of_store second other away_too) ∙ merges.others (inside tells) other away (of_peers second other away_too) ∙ takes.others other (of_store second other away_too);
    later = let mid = merges.later in omega (arith, one_later, mid, two_later);
    log_later = merges.log_later;
  }
    where
      inside : IsTrue before.tells → IsTrue opened.tells
      inside = opened_told second before opened closing after taken now takes puts merges.tells merges.places

      still : IsTrue before.tells → IsTrue closing.tells
      still = closing_told second before opened closing after taken now takes puts merges.tells merges.places

      to_first : List Part → Type 0
      to_first parts = (list_any (λ part. same_slot (slot second part) (slot first Peers)) parts ≡ false)

      away : to_first (Schema ∷ Updates ∷ [])
      away = away_from second first (λ e. differ (sym e)) (Schema ∷ Updates ∷ []) Peers

      beside : IsMergeFault opened_faults closing_faults one taken.replica one_new now outcome → IsBesideFault old new one one_new outcome
      beside (inl memory) = inl memory
      beside (inr (is, inl shelf)) = inr (is, inl (omega (arith, one_later, two_later, shelf)))
      beside (inr (is, inr (inl log))) = inr (is, inr log)
      beside (inr (is, inr (inr log))) = let any : 0 < now.log.faults = omega (arith, log) in let mid = merges.later in let more = faulted any in inr (is, inl (omega (arith, one_later, mid, more)))

      by : (IsTrue opened.tells → Meets (opened_store one) (opened_store taken.replica) (memory_in opened first) (memory_in opened second) (memory_in closing first) (memory_in closing second) merges.added merges.added_other outcome)
          ⊎ IsMergeFault opened_faults closing_faults one taken.replica one_new now outcome
          → (IsTrue before.tells → BesideAnswer (opened_store one) (readings before second) (memory_in before first) (memory_in before second) (memory_in after first) (memory_in after second) merges.added merges.added_other outcome)
          ⊎ IsBesideFault old new one one_new outcome
      by (inl meets) = inl (λ tells.
          with_it (store_of taken.replica) (read_before is_luhn before opened second taken tells takes)
          (rw (
            sym (same_memory before opened first (takes.others (slot first Peers) away)),
            sym (same_memory before opened second (takes.others (slot second Peers) refl)),
            same_memory closing after first (puts.others (still tells) (slot first Peers) away),
            same_memory closing after second (puts.others (still tells) (slot second Peers) refl),
          )
          (meets (inside tells))))
      by (inr fault) = inr (beside fault)

      some : IsMergeEnd outcome ⊎ IsMergeFault opened_faults closing_faults one taken.replica one_new now outcome → IsMergeEnd outcome ⊎ IsBesideFault old new one one_new outcome
      some (inl end) = inl end
      some (inr fault) = inr (beside fault)

-- ---- of two directories

module _ (first second : List ℕ) (differ : first ≢ second) (before after : ShelfState) (old new : ℕ) where
  -- where the first store was refused
  pub merges_none : (why : StoreRefusal) → (IsTrue before.tells → IsHome before) → LetsGo is_luhn before first after → (IsTrue before.tells → IsStoreCause is_luhn before first why)
      → (why ≡ store_refusals.DiskFault → Rose old new) → MergesStores first second before after old new (Err (from_store why))
  merges_none why home lets cause failed = record {
    added = [];
    added_other = [];
    comes = by why cause failed;
    ends = some why failed;
    peers = λ tells is. (
      untouched_by (part_in before first Peers) (part_in after first Peers) (lets.others tells (slot first Peers) refl),
      untouched_by (part_in before second Peers) (part_in after second Peers) (lets.others tells (slot second Peers) (away_from first second differ (Schema ∷ Updates ∷ []) Peers)),
    );
    run = lets.run;
    run_other = λ tells. not_run before after second (lets.others tells (slot second Schema) (away_from first second differ (Schema ∷ Updates ∷ []) Schema))
        (lets.others tells (slot second Updates) (away_from first second differ (Schema ∷ Updates ∷ []) Updates));
    within = λ tells one other is_one is_other. record { first = All-nil (Contains (one.members ++ other.members)); second = All-nil (Contains (one.members ++ other.members)) };
    stopped = λ tells one other is_one is_other. if_fault (Err (from_store why)) (unheld refl refl);
    others = λ tells other away away_too. lets.others tells other (of_store first other away);
    home = λ tells place. lets.places tells place (home tells place);
  }
    where
      by : (why : StoreRefusal) → (IsTrue before.tells → IsStoreCause is_luhn before first why) → (why ≡ store_refusals.DiskFault → Rose old new)
          → (IsTrue before.tells → MergeAnswer (readings before first) (readings before second) (memory_in before first) (memory_in before second) (memory_in after first) (memory_in after second) [] [] (Err (from_store why)))
          ⊎ IsShelfFault old new (Err (from_store why))
      by store_refusals.NoStore so f = inl (λ tells. without_first refusals.NoStore (no_store (so tells) refl) refl refl refl)
      by store_refusals.BadStore so f = inl (λ tells. without_first refusals.BadStore (bad_store (so tells) refl) refl refl refl)
      by store_refusals.DiskFault so f = inr (inr (refl, f refl))
      by store_refusals.Memory so f = inr (inl refl)

      some : (why : StoreRefusal) → (why ≡ store_refusals.DiskFault → Rose old new) → IsMergeEnd (Err (from_store why)) ⊎ IsShelfFault old new (Err (from_store why))
      some store_refusals.NoStore f = inl tt
      some store_refusals.BadStore f = inl tt
      some store_refusals.DiskFault f = inr (inr (refl, f refl))
      some store_refusals.Memory f = inr (inl refl)

  -- where it was taken and put back
  pub merges_taken : OneSchema → (opened closing : ShelfState) (opened_faults closing_faults : ℕ) (taken : OpenData) (now : ReplicaState) (outcome : Outcome) → (IsTrue before.tells → IsHome before)
      → TakesStore is_luhn before first taken opened → MergesBeside first second opened closing opened_faults closing_faults taken.replica now outcome
      → PutsStore closing first taken.schema now.log.disk after → old ≤ opened_faults → closing_faults ≤ new → (0 < now.log.faults → Rose closing_faults new)
      → MergesStores first second before after old new outcome
  merges_taken schemas opened closing opened_faults closing_faults taken now outcome home takes merges puts one_later two_later faulted = record {
    added = merges.added;
    added_other = merges.added_other;
    comes = by merges.comes;
    ends = some merges.ends;
    peers = λ tells is. untouched_around (part_in before first Peers) (part_in opened first Peers) (part_in closing first Peers) (part_in after first Peers)
        (part_in before second Peers) (part_in opened second Peers) (part_in closing second Peers) (part_in after second Peers)
        (takes.others (slot first Peers) refl) (takes.others (slot second Peers) (away Peers)) (puts.others (still tells) (slot first Peers) refl) (puts.others (still tells) (slot second Peers) (away Peers))
        (merges.peers (inside tells) is);
    run = λ tells. worked_run schemas is_luhn before opened closing after first taken now merges.added (is_done outcome) tells (still tells) takes
        (merges.works (λ log_tells. (takes.updates tells).2.clean refl) taken refl) puts;
    run_other = λ tells. same_run before opened closing after second merges.added_other (is_done outcome)
        (takes.others (slot second Schema) (away Schema)) (takes.others (slot second Updates) (away Updates))
        (puts.others (still tells) (slot second Schema) (away Schema)) (puts.others (still tells) (slot second Updates) (away Updates))
        (merges.run_other (whole_before first before opened closing after taken now takes puts merges.tells merges.places) (inside tells));
    within = λ tells one other is_one is_other.
        subst (λ (s : StoreData). IsWithin s.members other.members merges.added merges.added_other)
        (same_store schemas is_luhn (reading (part_in before first Schema)) (reading (part_in before first Updates)) (store_of taken.replica) one (read_before is_luhn before opened first taken tells takes) is_one)
        (merges.within (inside tells) other (rw (takes.others (slot second Schema) (away Schema), takes.others (slot second Updates) (away Updates)) is_other));
    stopped = λ tells one other is_one is_other.
        subst (λ (s : StoreData). IfStoreFault outcome (IsStopped s other (memory_in before first) (memory_in before second) merges.added merges.added_other))
        (same_store schemas is_luhn (reading (part_in before first Schema)) (reading (part_in before first Updates)) (store_of taken.replica) one (read_before is_luhn before opened first taken tells takes) is_one)
        (rw (
          sym (same_memory before opened first (takes.others (slot first Peers) refl)),
          sym (same_memory before opened second (takes.others (slot second Peers) (away Peers))),
        )
        (merges.stopped (inside tells) other (rw (takes.others (slot second Schema) (away Schema), takes.others (slot second Updates) (away Updates)) is_other)));
    others = λ tells other away_one away_two.
        puts.others (still tells) other (of_store first other away_one) ∙ merges.others (inside tells) other (of_peers first other away_one) away_two ∙ takes.others other (of_store first other away_one);
    home = λ tells place. places_around first before opened closing after taken now takes puts merges.tells merges.places tells place (home tells place);
  }
    where
      inside : IsTrue before.tells → IsTrue opened.tells
      inside = opened_told first before opened closing after taken now takes puts merges.tells merges.places

      still : IsTrue before.tells → IsTrue closing.tells
      still = closing_told first before opened closing after taken now takes puts merges.tells merges.places

      away : (part : Part) → list_any (λ other. same_slot (slot first other) (slot second part)) (Schema ∷ Updates ∷ []) ≡ false
      away part = away_from first second differ (Schema ∷ Updates ∷ []) part

      outer : IsBesideFault opened_faults closing_faults taken.replica now outcome → IsShelfFault old new outcome
      outer (inl memory) = inl memory
      outer (inr (is, inl shelf)) = inr (is, omega (arith, one_later, two_later, shelf))
      outer (inr (is, inr log)) = let any : 0 < now.log.faults = omega (arith, log) in let mid = merges.later in let more = faulted any in inr (is, omega (arith, one_later, mid, more))

      by : (IsTrue opened.tells → BesideAnswer (opened_store taken.replica) (readings opened second) (memory_in opened first) (memory_in opened second) (memory_in closing first) (memory_in closing second) merges.added merges.added_other outcome)
          ⊎ IsBesideFault opened_faults closing_faults taken.replica now outcome
          → (IsTrue before.tells → MergeAnswer (readings before first) (readings before second) (memory_in before first) (memory_in before second) (memory_in after first) (memory_in after second) merges.added merges.added_other outcome)
          ⊎ IsShelfFault old new outcome
      by (inl answers) = inl (λ tells. whole tells (beside tells (answers (inside tells))))
        where
          beside : IsTrue before.tells → BesideAnswer (opened_store taken.replica) (readings opened second) (memory_in opened first) (memory_in opened second) (memory_in closing first) (memory_in closing second) merges.added merges.added_other outcome
              → BesideAnswer (opened_store taken.replica) (readings before second) (memory_in before first) (memory_in before second) (memory_in after first) (memory_in after second) merges.added merges.added_other outcome
          beside tells answer = rw (
            sym (takes.others (slot second Schema) (away Schema)),
            sym (takes.others (slot second Updates) (away Updates)),
            sym (takes.others (slot second Key) (away Key)),
            sym (takes.others (slot second Used) (away Used)),
            sym (same_memory before opened first (takes.others (slot first Peers) refl)),
            sym (same_memory before opened second (takes.others (slot second Peers) (away Peers))),
            same_memory closing after first (puts.others (still tells) (slot first Peers) refl),
            same_memory closing after second (puts.others (still tells) (slot second Peers) (away Peers)),
          ) answer

          whole : IsTrue before.tells → BesideAnswer (opened_store taken.replica) (readings before second) (memory_in before first) (memory_in before second) (memory_in after first) (memory_in after second) merges.added merges.added_other outcome
              → MergeAnswer (readings before first) (readings before second) (memory_in before first) (memory_in before second) (memory_in after first) (memory_in after second) merges.added merges.added_other outcome
          whole tells (without refusal refuses nothing none is) = without_second (store_of taken.replica) refusal (read_before is_luhn before opened first taken tells takes) refuses nothing none is
          whole tells (with_it other has meets) = with_both (store_of taken.replica) other (read_before is_luhn before opened first taken tells takes) has meets
      by (inr fault) = inr (outer fault)

      some : IsMergeEnd outcome ⊎ IsBesideFault opened_faults closing_faults taken.replica now outcome → IsMergeEnd outcome ⊎ IsShelfFault old new outcome
      some (inl end) = inl end
      some (inr fault) = inr (outer fault)

-- ---- want of memory in place of a refusal

pub merge_without_memory : (first second : List ℕ) (before after : ShelfState) (old new : ℕ) (refusal : Refusal) → MergesStores first second before after old new (Err refusal)
    → MergesStores first second before after old new (Err refusals.Memory)
merge_without_memory first second before after old new refusal merges = record {
  added = merges.added;
  added_other = merges.added_other;
  comes = inr (inl refl);
  ends = inr (inl refl);
  peers = λ tells is. absurd is;
  run = merges.run;
  run_other = merges.run_other;
  within = merges.within;
  stopped = λ tells one other is_one is_other. tt;
  others = merges.others;
  home = merges.home;
}

-- ---- a directory that is not opened

module _ (first second : List ℕ) (differ : first ≢ second) (before after : ShelfState) (old new : ℕ) where
  pub merges_unopened : (why : OpenRefusal) → (IsTrue before.tells → IsHome before) → LetsAllGo needed.Store before first after → Refuses why needed.Store before first
      → (why ≡ open_refusals.Store store_refusals.DiskFault → Rose old new) → MergesStores first second before after old new (Err (from_open why))
  merges_unopened (open_refusals.Store why) home lets cause failed =
      merges_none first second differ before after old new why home (no_store_taken before after first lets) cause (λ is. failed (ap open_refusals.Store is))
  merges_unopened (open_refusals.Key why) home lets cause failed = absurd cause

  pub beside_unopened : (one : ReplicaState) (why : OpenRefusal) → Stands one → LetsAllGo needed.Store before second after → Refuses why needed.Store before second
      → (why ≡ open_refusals.Store store_refusals.DiskFault → Rose old new) → old ≤ new → MergesBeside first second before after old new one one (Err (from_open why))
  beside_unopened one (open_refusals.Store why) stands lets cause failed later =
      beside_none first second differ before after old new one one why stands refl (no_store_taken before after second lets) cause (λ is. failed (ap open_refusals.Store is)) later
  beside_unopened one (open_refusals.Key why) stands lets cause failed later = absurd cause
