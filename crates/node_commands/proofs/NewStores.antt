-- A command that makes the store of a directory.
use Rattle.std.proofs.Common.{◌≡◌, ◌≢◌, ◌⊎◌, inl, inr, ℕ, Bool, true, false, List, [], ◌∷◌, ◌++◌, ◌≤◌, length, refl, sym, ap, subst, ◌∙◌, IsTrue, Option, Some, None, Ok, Err, Vec}
use Rattle.std.specs.Prelude.{◌||◌, IfSome}
use Rattle.std.proofs.lemmas.Bool.{true≢false}
use Rattle.std.specs.declared.alloc.Global.{Global}
use Rattle.row_check.specs.Checksum.{is_luhn}
use Rattle.bec_bytes.specs.Causes.{Rose}
use Rattle.bec_bytes.specs.declared.read_error.ReadError.{ReadError}
use Rattle.bec_bytes.specs.declared.read_error.ReadError.TheVariants as read_errors
use Rattle.bec_disk.specs.Gated.{gated_of}
use Rattle.bec_disk.specs.declared.disk_error.DiskError.{DiskError}
use Rattle.bec_disk.specs.declared.disk_error.DiskError.TheVariants as disk_errors
use Rattle.bec_disk.specs.declared.part.Part.TheVariants.{Schema, Updates}
use Rattle.bec_disk.specs.Shelf.{PartState, ShelfState, absent, out, stands}
use Rattle.bec_disk.specs.Slot.{same_slot, slot}
use Rattle.schema.specs.Data.{Meaning, SchemaData}
use Rattle.confluence_test.specs.Taking.{RefusesSchema, TakesSchema, fault as by_fault, not_confluent as by_example}
use Rattle.confluence_test.specs.declared.refusal.SchemaRefusal.{SchemaRefusal}
use Rattle.confluence_test.specs.declared.refusal.SchemaRefusal.TheVariants as taking
use Rattle.update_check.specs.Members.{AreMembers}
use Rattle.replica.specs.declared.create_fault.CreateKind.{CreateKind}
use Rattle.replica.specs.declared.create_fault.CreateKind.TheVariants as create_kinds
use Rattle.store_directory.specs.Holding.{OpenData, PutsStore}
use Rattle.key_directory.specs.Parts.{LetsNewGo, IsHome, IsUntouched, KeepsAllBut, part_in, reading}
use Rattle.store_directory.specs.Making.{IsNewStoreCause, MakesStore}
use Rattle.store_directory.specs.Stores.{IsNoStore, IsStore}
use Rattle.key_directory.proofs.Handing.{untouched_by}
use Rattle.store_directory.proofs.Made.{empty_store, made_is_store, made_settled}
use Rattle.key_directory.proofs.Making.{gated_since, handed_slot, untouched_since, untouched_then}
use Rattle.key_directory.proofs.Places.{home_again, keeps_through, neither, stands-not-out}
use Rattle.key_directory.proofs.Putting.{told}
use Rattle.store_directory.proofs.Readings.{OneSchema}
use Rattle.store_directory.proofs.Working.{home_after_store}
use Rattle.outcomes.specs.declared.refusal.Refusal.{Refusal}
use Rattle.outcomes.specs.declared.refusal.Refusal.TheVariants as refusals
use Rattle.outcomes.specs.Comes.{readings, IsRefused}
use Rattle.outcomes.specs.Parts.{HasSchema, Lasts, LeavesOldOrNew}
use Rattle.node_commands.specs.Creating.{InitAnswer, Inits, IsInitEnd, IsInitFault, created, refused, there as store_there}
use Rattle.schema_verdict.specs.Inputs.{ReadsText}
use Rattle.outcomes.specs.Outcome.{from_creating, from_disk, from_reading, from_taking}
use Rattle.outcomes.specs.Outside.{Outside}
use Rattle.outcomes.specs.StoreAnswers.{after_bytes, next_bytes}
use Rattle.outcomes.specs.Texts.{database_text}
use Rattle.schema_verdict.proofs.Reading.{no_longer, whole_refused, whole_taken}
use Rattle.outcomes.proofs.Lasting.{lasting}

-- a text has no reason to be refused that is taken
abbrev pub TakenOrRefused : Type 0
TakenOrRefused = (ask : Meaning) (text : List ℕ) (schema : SchemaData) (refusal : SchemaRefusal) → TakesSchema ask text schema → RefusesSchema ask text refusal → ⊥

abbrev lacks_memory : SchemaRefusal → Bool
lacks_memory (taking.Schema fault) = false
lacks_memory (taking.NotConfluent schema which example) = false
lacks_memory taking.Memory = true

-- what is answered, or a fault, and how it ends
told_end : {Answers End Fault : Type 0} → (Answers × End) ⊎ Fault → Answers ⊎ Fault
told_end (inl answers) = inl answers.0
told_end (inr fault) = inr fault

end_of : {Answers End Fault : Type 0} → (Answers × End) ⊎ Fault → End ⊎ Fault
end_of (inl answers) = inl answers.1
end_of (inr fault) = inr fault

only_first : (x : Bool) → x ≡ false → x || false ≡ false
only_first true e = e
only_first false e = refl

-- a part that was at most read is in its place if it was
untouched_in : (old new : PartState) → IsUntouched old new → old ≢ out → new ≢ out
untouched_in (stands old) (stands new) same in_place = stands-not-out (stands new) new refl
untouched_in (stands old) absent same in_place = absurd same
untouched_in (stands old) out same in_place = absurd same
untouched_in absent new same in_place = λ e. in_place (sym same ∙ e)
untouched_in out new same in_place = absurd (in_place refl)

-- and reads as none if it did
none_still : (old new : PartState) → IsUntouched old new → IsNoStore (reading old) → IsNoStore (reading new)
none_still (stands old) (stands new) same none = ap gated_of same.0 ∙ none
none_still (stands old) absent same none = absurd same
none_still (stands old) out same none = absurd same
none_still absent new same none = subst (λ (p : PartState). IsNoStore (reading p)) (sym same) tt
none_still out new same none = subst (λ (p : PartState). IsNoStore (reading p)) (sym same) tt

-- what the part Schema was looked at for
module _ (dir : List ℕ) (before after : ShelfState) (home : IsTrue before.tells → IsHome before) (untouched : IsTrue before.tells → IsUntouched (part_in before dir Schema) (part_in after dir Schema))
    (others : IsTrue before.tells → KeepsAllBut (Schema ∷ []) dir before after) where
  looked_kept : IsTrue before.tells → IsUntouched (part_in before dir Schema) (part_in after dir Schema) × IsUntouched (part_in before dir Updates) (part_in after dir Updates)
  looked_kept tells = (untouched tells, untouched_by (part_in before dir Updates) (part_in after dir Updates) (others tells (slot dir Updates) refl))

  looked_others : IsTrue before.tells → KeepsAllBut (Schema ∷ Updates ∷ []) dir before after
  looked_others tells other away = others tells other (only_first (same_slot (slot dir Schema) other) (neither (same_slot (slot dir Schema) other) (same_slot (slot dir Updates) other) away).0)

  looked_home : IsTrue before.tells → IsHome after
  looked_home tells =
      home_again Schema Updates dir after (untouched_in (part_in before dir Schema) (part_in after dir Schema) (untouched tells) (home tells (slot dir Schema)))
      (subst (λ (p : PartState). p ≢ out) (sym (others tells (slot dir Updates) refl)) (home tells (slot dir Updates)))
      (λ other away. subst (λ (p : PartState). p ≢ out) (sym (looked_others tells other away)) (home tells other))

module _ {S H R : Type 0} (dir : List ℕ) (before after : Outside S H R) (home : IsTrue before.store.tells → IsHome before.store) where
  -- where nothing was made
  module _ (untouched : IsTrue before.store.tells → IsUntouched (part_in before.store dir Schema) (part_in after.store dir Schema)) (others : IsTrue before.store.tells → KeepsAllBut (Schema ∷ []) dir before.store after.store)
      (still : after.stream ≡ before.stream) where
    looked_moments : (left : Option (List ℕ)) → IsTrue before.store.tells → (text : List ℕ) × IfSome left (λ input. text ≡ input) × LeavesOldOrNew (next_bytes before.stream ++ text) (part_in before.store dir Schema) (part_in after.store dir Schema)
    looked_moments None tells = ([], tt, untouched_since (part_in before.store dir Schema) (part_in after.store dir Schema) (next_bytes before.stream ++ []) (untouched tells))
    looked_moments (Some input) tells = (input, refl, untouched_since (part_in before.store dir Schema) (part_in after.store dir Schema) (next_bytes before.stream ++ input) (untouched tells))

    init_looked : (why : Refusal) → ((IsTrue before.store.tells → InitAnswer before.left after.left before.stream (readings before.store dir) (readings after.store dir) (Err why)) × IsInitEnd (Err why)) ⊎ IsInitFault before after (Err why)
        → (IsTrue before.store.tells → HasSchema (readings before.store dir) → after.source ≡ before.source) → Inits dir before after (Err why)
    init_looked why comes unread = record {
      comes = told_end comes;
      ends = end_of comes;
      unread = unread;
      kept = λ tells is. looked_kept dir before.store after.store home untouched others tells;
      any_moment = λ tells. looked_moments before.left tells;
      lasts = λ tells. tt;
      draws = inl still;
      undrawn = λ tells is. still;
      others = looked_others dir before.store after.store home untouched others;
      home = looked_home dir before.store after.store home untouched others;
    }

    pub init_unlooked : (why : DiskError) → after.source ≡ before.source → (why ≡ disk_errors.DiskFault → Rose before.shelf_faults after.shelf_faults) → Inits dir before after (Err (from_disk why))
    init_unlooked disk_errors.DiskFault same failed = init_looked refusals.StoreFault (inr (inr (inr (refl, failed refl)))) (λ tells there. same)
    init_unlooked disk_errors.Memory same failed = init_looked refusals.Memory (inr (inr (inl refl))) (λ tells there. same)

    pub init_there : after.source ≡ before.source → (IsTrue before.store.tells → HasSchema (readings before.store dir)) → Inits dir before after (Err refusals.StoreThere)
    init_there same has = init_looked refusals.StoreThere (inl (λ tells. store_there (has tells) refl, tt)) (λ tells there. same)

    -- where there was no store
    module _ (none : IsTrue before.store.tells → IsNoStore (reading (part_in before.store dir Schema))) where
      never : IsTrue before.store.tells → HasSchema (readings before.store dir) → after.source ≡ before.source
      never tells there = absurd (there (none tells))

      init_failed : Rose before.source_faults after.source_faults → Inits dir before after (Err refusals.Stream)
      init_failed rose = init_looked refusals.Stream (inr (inl (refl, rose))) never

      pub init_lacked : Inits dir before after (Err refusals.Memory)
      init_lacked = init_looked refusals.Memory (inr (inr (inl refl))) never

      pub init_unread : (why : ReadError) → (why ≡ read_errors.Failed → Rose before.source_faults after.source_faults) → Inits dir before after (Err (from_reading why))
      init_unread read_errors.Failed failed = init_failed (failed refl)
      init_unread read_errors.Memory failed = init_lacked

      pub init_refused : (read : List ℕ) (why : SchemaRefusal) → ReadsText 65536 before.left after.left read → RefusesSchema is_luhn read why ⊎ (why ≡ taking.Memory) → Inits dir before after (Err (from_taking why))
      init_refused read why reads (inr memory) = subst (λ (w : SchemaRefusal). Inits dir before after (Err (from_taking w))) (sym memory) init_lacked
      init_refused read why reads (inl refuses) = init_looked (from_taking why) (inl (λ tells. by before.left reads refuses (none tells), own why refuses)) never
        where
          own : (why : SchemaRefusal) → RefusesSchema is_luhn read why → IsInitEnd (Err (from_taking why))
          own (taking.Schema fault) refuses = tt
          own (taking.NotConfluent schema which example) refuses = tt
          own taking.Memory (by_fault first is_first is) = absurd (true≢false (ap lacks_memory is))
          own taking.Memory (by_example schema which example declares refuted is) = absurd (true≢false (ap lacks_memory is))

          by : (left : Option (List ℕ)) → ReadsText 65536 left after.left read → RefusesSchema is_luhn read why → IsNoStore (reading (part_in before.store dir Schema))
              → InitAnswer left after.left before.stream (readings before.store dir) (readings after.store dir) (Err (from_taking why))
          by None told why_so gone = refused read why gone tt why_so refl
          by (Some input) told why_so gone = refused input why gone (refl, told.1) (whole_refused input why (subst (λ (t : List ℕ). RefusesSchema is_luhn t why) told.0 why_so)) refl

  -- where a store was to be made, at a shelf whose part Schema was looked at
  module _ (mid : ShelfState) (looked_tells : mid.tells ≡ before.store.tells) (untouched : IsTrue before.store.tells → IsUntouched (part_in before.store dir Schema) (part_in mid dir Schema))
      (others : IsTrue before.store.tells → KeepsAllBut (Schema ∷ []) dir before.store mid) (none : IsTrue before.store.tells → IsNoStore (reading (part_in before.store dir Schema)))
      (read : List ℕ) (schema : SchemaData) (takes : TakesSchema is_luhn read schema) where
    mid_told : IsTrue before.store.tells → IsTrue mid.tells
    mid_told tells = told before.store.tells mid.tells looked_tells tells

    mid_home : IsTrue before.store.tells → IsHome mid
    mid_home tells = looked_home dir before.store mid home untouched others tells

    -- the text is what the source has
    text_is : (left : Option (List ℕ)) → ReadsText 65536 left after.left read → IfSome left (λ input. read ≡ input)
    text_is None reads = tt
    text_is (Some input) reads = reads.0 ∙ no_longer input (subst (λ (t : List ℕ). length t ≤ 65536) reads.0 takes.declares.0)

    unread_here : IsTrue before.store.tells → HasSchema (readings before.store dir) → after.source ≡ before.source
    unread_here tells there = absurd (there (none tells))

    pub init_not_made : TakenOrRefused → (node : List ℕ) (why : CreateKind) → node ≡ next_bytes before.stream → after.stream ≡ after_bytes before.stream → ReadsText 65536 before.left after.left read → LetsNewGo Schema Updates (node ++ read) [] mid dir after.store
        → (IsTrue mid.tells → IsNewStoreCause is_luhn (reading (part_in mid dir Schema)) read why) → (why ≡ create_kinds.DiskFault → Rose before.shelf_faults after.shelf_faults)
        → Inits dir before after (Err (from_creating why))
    init_not_made either node why drawn went reads lets cause failed = by why cause failed
      where
        Untouched : Type 0
        Untouched = IsUntouched (part_in before.store dir Schema) (part_in after.store dir Schema) × IsUntouched (part_in before.store dir Updates) (part_in after.store dir Updates)

        run : IsTrue before.store.tells → LeavesOldOrNew (next_bytes before.stream ++ read) (part_in before.store dir Schema) (part_in after.store dir Schema)
        run tells =
            subst (λ (n : List ℕ). LeavesOldOrNew (n ++ read) (part_in before.store dir Schema) (part_in after.store dir Schema)) drawn
            (untouched_then (part_in before.store dir Schema) (part_in mid dir Schema) (part_in after.store dir Schema) (node ++ read) (untouched tells) (lets.any_moment (mid_told tells)))

        so : (refusal : Refusal) → ((IsTrue before.store.tells → InitAnswer before.left after.left before.stream (readings before.store dir) (readings after.store dir) (Err refusal)) × IsInitEnd (Err refusal)) ⊎ IsInitFault before after (Err refusal)
            → (IsTrue before.store.tells → IsRefused (Err refusal) → ⊥) → Inits dir before after (Err refusal)
        so refusal comes not = record {
          comes = told_end comes;
          ends = end_of comes;
          unread = unread_here;
          kept = λ tells. kept tells;
          any_moment = λ tells. (read, text_is before.left reads, run tells);
          lasts = λ tells. tt;
          draws = inr went;
          undrawn = λ tells is. absurd (not tells is);
          others = λ tells. keeps_through (Schema ∷ Updates ∷ []) dir before.store mid after.store (looked_others dir before.store mid home untouched others tells) (lets.others (mid_told tells));
          home = λ tells. lets.home (mid_told tells) (mid_home tells);
        }
          where
            kept : IsTrue before.store.tells → HasSchema (readings before.store dir) ⊎ IsRefused (Err refusal) → Untouched
            kept tells (inl there) = absurd (there (none tells))
            kept tells (inr is) = absurd (not tells is)

        still_none : IsTrue before.store.tells → IsNoStore (reading (part_in mid dir Schema))
        still_none tells = none_still (part_in before.store dir Schema) (part_in mid dir Schema) (untouched tells) (none tells)

        by : (kind : CreateKind) → (IsTrue mid.tells → IsNewStoreCause is_luhn (reading (part_in mid dir Schema)) read kind) → (kind ≡ create_kinds.DiskFault → Rose before.shelf_faults after.shelf_faults)
            → Inits dir before after (Err (from_creating kind))
        by create_kinds.NotEmpty why_so rose = so refusals.StoreThere (inl (λ tells. absurd (why_so (mid_told tells) (still_none tells)), tt)) (λ tells is. why_so (mid_told tells) (still_none tells))
        by (create_kinds.BadSchema fault) why_so rose =
            let never : IsTrue before.store.tells → ⊥ = λ tells. either is_luhn read schema (taking.Schema fault) takes (why_so (mid_told tells)).1 in
            so (refusals.Schema fault) (inl (λ tells. absurd (never tells), tt)) (λ tells is. never tells)
        by (create_kinds.NotConfluent declared which example) why_so rose =
            let never : IsTrue before.store.tells → ⊥ = λ tells. either is_luhn read schema (taking.NotConfluent declared which example) takes (why_so (mid_told tells)).1 in
            so (refusals.NotConfluent declared which example) (inl (λ tells. absurd (never tells), tt)) (λ tells is. never tells)
        by create_kinds.DiskFault why_so rose = so refusals.StoreFault (inr (inr (inr (refl, rose refl)))) (λ tells is. is)
        by create_kinds.Memory why_so rose = so refusals.Memory (inr (inr (inl refl))) (λ tells is. is)

    pub init_made : OneSchema → (opened : ShelfState) (node : List ℕ) (store : OpenData) → node ≡ next_bytes before.stream → after.stream ≡ after_bytes before.stream → length node ≡ 32 → MakesStore is_luhn mid dir node read store opened
        → AreMembers store.replica.history.schema.rule store.replica.history.members → PutsStore opened dir store.schema store.replica.log.disk after.store → ReadsText 65536 before.left after.left read
        → (line : Vec ℕ Global) → line.items ≡ database_text schema.rule.database → Inits dir before after (Ok line)
    init_made one opened node store drawn went size makes closed puts reads line printed = record {
      comes = inl (λ tells. by before.left reads (none tells) (has tells));
      ends = inl tt;
      unread = unread_here;
      kept = λ tells. kept tells;
      any_moment = λ tells. (read, text_is before.left reads, run tells);
      lasts = lasts;
      draws = went;
      undrawn = λ tells is. absurd is;
      others = all_others;
      home = λ tells. home_after_store opened after.store dir store.schema store.replica.log.disk (opened_told tells) puts
          (λ other away. subst (λ (p : PartState). p ≢ out) (sym (makes.others other away ∙ looked_others dir before.store mid home untouched others tells other away)) (home tells other));
    }
      where
        opened_told : IsTrue before.store.tells → IsTrue opened.tells
        opened_told tells = told mid.tells opened.tells makes.tells (mid_told tells)

        run : IsTrue before.store.tells → LeavesOldOrNew (next_bytes before.stream ++ read) (part_in before.store dir Schema) (part_in after.store dir Schema)
        run tells =
            let c = makes.created (mid_told tells) in
            subst (λ (n : List ℕ). LeavesOldOrNew (n ++ read) (part_in before.store dir Schema) (part_in after.store dir Schema)) drawn
            (untouched_then (part_in before.store dir Schema) (part_in mid dir Schema) (part_in after.store dir Schema) (node ++ read) (untouched tells)
            (gated_since (slot dir Schema) (part_in mid dir Schema) (part_in after.store dir Schema) c.0 store.schema (node ++ read) c.2 (puts.schema_back (opened_told tells)) c.5.schema_moments))

        lasts : IsTrue before.store.tells → Lasts (part_in after.store dir Schema) × Lasts (part_in after.store dir Updates)
        lasts tells =
            let settled = made_settled is_luhn mid opened dir node read store size (mid_told tells) makes in
            (lasting (part_in after.store dir Schema) store.schema (puts.schema_back (opened_told tells)) settled.0, lasting (part_in after.store dir Updates) store.replica.log.disk (puts.updates_back (opened_told tells)) settled.1)

        all_others : IsTrue before.store.tells → KeepsAllBut (Schema ∷ Updates ∷ []) dir before.store after.store
        all_others tells =
            keeps_through (Schema ∷ Updates ∷ []) dir before.store mid after.store (looked_others dir before.store mid home untouched others tells)
            (keeps_through (Schema ∷ Updates ∷ []) dir mid opened after.store makes.others (puts.others (opened_told tells)))

        kept : IsTrue before.store.tells → HasSchema (readings before.store dir) ⊎ IsRefused (Ok line)
            → IsUntouched (part_in before.store dir Schema) (part_in after.store dir Schema) × IsUntouched (part_in before.store dir Updates) (part_in after.store dir Updates)
        kept tells (inl there) = absurd (there (none tells))
        kept tells (inr is) = absurd is

        same : IsTrue before.store.tells → store.replica.history.schema ≡ schema
        same tells = one is_luhn read store.replica.history.schema schema (makes.created (mid_told tells)).4.taken.declares takes.declares

        has : IsTrue before.store.tells → IsStore is_luhn after.store dir (empty_store (next_bytes before.stream) schema)
        has tells =
            subst (λ (n : List ℕ). IsStore is_luhn after.store dir (empty_store n schema)) drawn
            (subst (λ (s : SchemaData). IsStore is_luhn after.store dir (empty_store node s)) (same tells)
            (made_is_store is_luhn mid opened dir node read store size (mid_told tells) makes opened after.store (opened_told tells) closed puts))

        by : (left : Option (List ℕ)) → ReadsText 65536 left after.left read → IsNoStore (reading (part_in before.store dir Schema)) → IsStore is_luhn after.store dir (empty_store (next_bytes before.stream) schema)
            → InitAnswer left after.left before.stream (readings before.store dir) (readings after.store dir) (Ok line)
        by None told_so gone here = created read schema gone tt takes here printed
        by (Some input) told_so gone here = created input schema gone (refl, told_so.1) (whole_taken input schema (subst (λ (t : List ℕ). TakesSchema is_luhn t schema) told_so.0 takes)) here printed

-- the disks of a store that was made are those of its parts
pub made_slots : (mid opened : ShelfState) (dir node text : List ℕ) (store : OpenData) → MakesStore is_luhn mid dir node text store opened → IsTrue opened.tells
    → ((store.schema.slot ≡ Some (slot dir Schema)) × (part_in opened dir Schema ≡ out)) × ((store.replica.log.disk.slot ≡ Some (slot dir Updates)) × (part_in opened dir Updates ≡ out))
made_slots mid opened dir node text store makes tells =
    let mid_tells : IsTrue mid.tells = told opened.tells mid.tells (sym makes.tells) tells in
    let c = makes.created mid_tells in (
      (c.5.schema_moments.disk.slot ∙ handed_slot (slot dir Schema) (part_in mid dir Schema) c.0 c.2, makes.schema_out mid_tells),
      (c.5.updates_disk.slot ∙ handed_slot (slot dir Updates) (part_in mid dir Updates) c.1 c.3, makes.updates_out mid_tells),
    )

-- ---- want of memory in place of a refusal

pub init_without_memory : {S H R : Type 0} (dir : List ℕ) (before after : Outside S H R) (refusal : Refusal) → Inits dir before after (Err refusal) → Inits dir before after (Err refusals.Memory)
init_without_memory dir before after refusal inits =
    record { comes = inr (inr (inl refl)); ends = inr (inr (inl refl)); unread = inits.unread; kept = λ tells. kept tells; any_moment = inits.any_moment; lasts = λ tells. tt; draws = inits.draws; undrawn = λ tells is. absurd is; others = inits.others; home = inits.home }
  where
    kept : IsTrue before.store.tells → HasSchema (readings before.store dir) ⊎ IsRefused (Err refusals.Memory)
        → IsUntouched (part_in before.store dir Schema) (part_in after.store dir Schema) × IsUntouched (part_in before.store dir Updates) (part_in after.store dir Updates)
    kept tells (inl there) = inits.kept tells (inl there)
    kept tells (inr is) = absurd is
