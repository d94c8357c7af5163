-- What a request that looks at a store leaves, and what may be told of it.
use Rattle.std.proofs.Common.{◌≡◌, ◌⊎◌, ◌≤◌, ◌&&◌, ◌==◌, arith, inl, inr, ℕ, Bool, true, false, cond, List, refl, sym, ap, subst, is_none, IsTrue, Ok, Err, None, Some, Option, Vec}
use Rattle.std.specs.declared.alloc.Global.{Global}
use Rattle.bec_bytes.specs.Causes.{Rose}
use Rattle.bec_disk.specs.Shelf.{ShelfState}
use Rattle.bec_node.proofs.Ends.{has, source_ends, store_ends}
use Rattle.bec_node.proofs.Faults.{ended_store, ended_stream, source_or_sink, source_rose, store_rose}
use Rattle.bec_node.proofs.Home.{IsSeen, same_home}
use Rattle.bec_node.specs.Own.{EndsOf, IsOfStore}
use Rattle.command_words.specs.LookRequests.{LookText, QuestionText, Both, Csv, KeyOf, One, Page, Records, Schema, Status, Updates}
use Rattle.confluence_test.specs.declared.refusal.SchemaRefusal.{SchemaRefusal}
use Rattle.confluence_test.specs.declared.refusal.SchemaRefusal.TheVariants as taking
use Rattle.key_directory.proofs.Putting.{told}
use Rattle.key_directory.specs.Parts.{IsHome}
use Rattle.log_texts.specs.declared.entry.Entry.{Entry}
use Rattle.log_texts.specs.declared.style.Style.{Style}
use Rattle.look_commands.specs.Bundles.{BundleLacks, BundleRefused, BundleShown, lacks, refused, refuses, shows, stopped}
use Rattle.look_commands.specs.Differences.{HasEntries, LacksSide, ListsSide, ShowsDifference, differ, lacks_first, lacks_second, no_bundle, no_store, of_bundle, of_store}
use Rattle.look_commands.specs.Ending.{status_with}
use Rattle.look_commands.specs.Keys.{IsKeyEnd}
use Rattle.look_commands.specs.Looks.{LookComes, LooksAt, ShowsMembers, ShowsStore}
use Rattle.look_commands.specs.Queries.{AnswersQuery, answers, faulted}
use Rattle.outcomes.proofs.Saying.{rose_later}
use Rattle.outcomes.specs.Comes.{IsAnyFault, IsShelfFault}
use Rattle.outcomes.specs.Outcome.{Ends, IsFault, Outcome, from_taking}
use Rattle.outcomes.specs.Outside.{Outside}
use Rattle.outcomes.specs.declared.refusal.Refusal.{Refusal}
use Rattle.outcomes.specs.declared.refusal.Refusal.TheVariants as refusals
use Rattle.schema.specs.Data.{SchemaData}
use Rattle.schema_verdict.specs.Written.{SinkState}
use Rattle.schema_verdict.specs.declared.status.TheConstants.{DONE, REFUSED, STORE_FAULT, STREAM_FAULT}

-- neither the shelf nor the source failed
abbrev IsNoFault : Refusal → Type 0
IsNoFault refusals.StoreFault = ⊥
IsNoFault refusals.Stream = ⊥
IsNoFault refusal = Unit {0}

-- ---- refusals of members, of bundles and of stores

query_own : (text : List ℕ) (schema : SchemaData) (members : List (List ℕ)) (refusal : Refusal) → AnswersQuery text schema members (Err refusal) → IsNoFault refusal
query_own text schema members refusal (answers query answer reads is prints) = absurd prints
query_own text schema members refusal (faulted fault first is) = has IsNoFault refusal (refusals.Query fault) is tt

members_own : (asked : QuestionText) (schema : SchemaData) (members : List (List ℕ)) (refusal : Refusal) → ShowsMembers asked schema members (Err refusal) → IsNoFault refusal
members_own (Updates listing) schema members refusal shown = absurd shown.2
members_own Page schema members refusal shown = absurd shown.2
members_own Status schema members refusal shown = absurd shown.2
members_own Schema schema members refusal shown = absurd shown
members_own Records schema members refusal shown = absurd shown
members_own (Csv text) schema members refusal shown = query_own _ schema members refusal shown

of_taking : (why : SchemaRefusal) → IsNoFault (from_taking why)
of_taking (taking.Schema fault) = tt
of_taking (taking.NotConfluent schema which example) = tt
of_taking taking.Memory = tt

bundle_own : (before after : Option (List ℕ)) (refusal : Refusal) → BundleRefused before after refusal → IsNoFault refusal
bundle_own before after refusal (lacks (inl cut)) = subst IsNoFault (sym cut.1) tt
bundle_own before after refusal (lacks (inr long)) = subst IsNoFault (sym long.1) tt
bundle_own before after refusal (refused declared why holds declined is) = subst IsNoFault (sym is) (of_taking why)
bundle_own before after refusal (stopped declared mid schema n fault holds takes reads is) = subst IsNoFault (sym is) tt

shown_own : (asked : QuestionText) (before after : Option (List ℕ)) (refusal : Refusal) → BundleShown (ShowsMembers asked) before after (Err refusal) → IsNoFault refusal
shown_own asked before after refusal (shows schema members held is) = members_own asked schema members refusal is
shown_own asked before after refusal (refuses why is_refused is) = has IsNoFault refusal why is (bundle_own before after why is_refused)

side_own : (framed : Bool) (before after : Option (List ℕ)) (refusal : Refusal) → BundleLacks framed before after refusal → IsNoFault refusal
side_own true before after refusal (inl none) = subst IsNoFault (sym none.1) tt
side_own true before after refusal (inr (bundle, left, holds, is_refused)) = bundle_own _ left refusal is_refused
side_own false before after refusal is_refused = bundle_own before after refusal is_refused

of_store_or : (refusal : Refusal) → IsOfStore refusal ⊎ IsNoFault refusal → IsNoFault refusal
of_store_or refusal (inr is) = is
of_store_or refusals.NoStore (inl is) = tt
of_store_or refusals.BadStore (inl is) = tt
of_store_or other (inl is) = absurd is

-- ---- how a request ends

module _ {S H R : Type 0} (before after : Outside S H R) where
  -- how it may end that is refused
  abbrev EndsBy : Refusal → Type 0
  EndsBy refusal = IsNoFault refusal ⊎ IsAnyFault before.source_faults after.source_faults before.shelf_faults after.shelf_faults (Err refusal)

  of_source : (refusal : Refusal) → IsFault before.source_faults after.source_faults refusal → EndsBy refusal
  of_source refusal (inl memory) = inl (subst IsNoFault (sym memory) tt)
  of_source refusal (inr failed) = inr (inl (ap (λ (r : Refusal). Err r) failed.0, failed.1))

  at_ends : (asked : QuestionText) (directory : Option (List ℕ)) (outcome : Outcome) → LooksAt asked directory before after outcome → EndsOf IsNoFault before after outcome
  at_ends asked None outcome comes =
      source_ends before after IsNoFault (BundleShown (ShowsMembers asked)) (λ refusal shown. inl (shown_own asked before.left after.left refusal shown)) outcome comes
  at_ends asked (Some dir) outcome comes =
      store_ends before after IsNoFault (ShowsStore asked) IsNoFault (λ store refusal shown. members_own asked store.schema store.members refusal shown) of_store_or dir outcome comes

  key_ends : (outcome : Outcome) → IsKeyEnd outcome ⊎ IsShelfFault before.shelf_faults after.shelf_faults outcome → EndsOf IsNoFault before after outcome
  key_ends (Ok text) ends = tt
  key_ends (Err refusals.NoKey) (inl is) = inl tt
  key_ends (Err refusals.BadKey) (inl is) = inl tt
  key_ends (Err refusal) (inl is) = absurd is
  key_ends (Err refusal) (inr failed) = inr (inr failed)

  side_ends : (framed : Bool) (refusal : Refusal) {side : Option (List ℕ)} → LacksSide framed before after refusal side → EndsBy refusal
  side_ends framed refusal (no_store dir lists uses) =
      store_ends before after IsNoFault (HasEntries (Err refusal)) (λ other. ⊥) (λ store other has_none. has_none) (λ other is. of_store_or other (elim is [ inl store ↦ inl store | inr none ↦ absurd none ])) dir (Err refusal)
      (record { runs = lists.reads (Err refusal) refl; source = uses.source; random = uses.random })
  side_ends framed refusal (no_bundle (inl none) uses) = inl (side_own framed before.left after.left refusal none)
  side_ends framed refusal (no_bundle (inr fault) uses) = of_source refusal fault

  told_ends : (outcome : Outcome) (refusal : Refusal) → outcome ≡ Err refusal → EndsBy refusal → EndsOf IsNoFault before after outcome
  told_ends outcome refusal is ends = subst (λ (o : Outcome). EndsOf IsNoFault before after o) (sym is) ends

-- counts of what was listed do not fall
sides_later : {S H R : Type 0} (framed : Bool) (before after : Outside S H R) (entries : Vec Entry Global) {side : Option (List ℕ)} → ListsSide framed before after entries side
    → (before.shelf_faults ≤ after.shelf_faults) × (before.source_faults ≤ after.source_faults)
sides_later framed before after entries (of_store dir lists uses) = (lists.later, omega (arith, uses.faults))
sides_later framed before after entries (of_bundle schema members read are uses) = (omega (arith, uses.faults), uses.later)

ends_later : {S H R : Type 0} (before between after : Outside S H R) (refusal : Refusal) → (before.shelf_faults ≤ between.shelf_faults) × (before.source_faults ≤ between.source_faults) → EndsBy between after refusal
    → EndsBy before after refusal
ends_later before between after refusal later (inl own) = inl own
ends_later before between after refusal later (inr (inl failed)) = inr (inl (failed.0, rose_later before.source_faults between.source_faults after.source_faults later.1 failed.1))
ends_later before between after refusal later (inr (inr (inl memory))) = inr (inr (inl memory))
ends_later before between after refusal later (inr (inr (inr failed))) = inr (inr (inr (failed.0, rose_later before.shelf_faults between.shelf_faults after.shelf_faults later.0 failed.1)))

module _ {S H R : Type 0} (before after : Outside S H R) where
  difference_ends : (style : Style) (first second : Option (List ℕ)) (outcome : Outcome) → ShowsDifference style first second before after outcome → EndsOf IsNoFault before after outcome
  difference_ends style first second outcome (lacks_first refusal lacking is) = told_ends before after outcome refusal is (side_ends before after (is_none second) refusal lacking)
  difference_ends style first second outcome (lacks_second between firsts refusal lists lacking is) =
      told_ends before after outcome refusal is
      (ends_later before between after refusal (sides_later (is_none second) before between firsts lists) (side_ends between after false refusal lacking))
  difference_ends style first second (Ok text) (differ between firsts seconds one other is) = tt
  difference_ends style first second (Err refusal) (differ between firsts seconds one other (inl prints)) = absurd prints
  difference_ends style first second (Err refusal) (differ between firsts seconds one other (inr memory)) = inr (inr (inl memory))

  look_ends : (request : LookText) (outcome : Outcome) → LookComes request before after outcome → EndsOf IsNoFault before after outcome
  look_ends (One directory asked) outcome comes = at_ends before after asked directory outcome comes
  look_ends (Both first second full json) outcome comes = difference_ends _ first second outcome comes
  look_ends (KeyOf dir) outcome comes = key_ends before after outcome comes.shows.ends

  -- ---- where every part is

  side_tells : (framed : Bool) (between : Outside S H R) (entries : Vec Entry Global) {side : Option (List ℕ)} → ListsSide framed before between entries side → IsTrue before.store.tells → IsTrue between.store.tells
  side_tells framed between entries (of_store dir lists uses) tells = told before.store.tells between.store.tells lists.tells tells
  side_tells framed between entries (of_bundle schema members read are uses) tells = told before.store.tells between.store.tells (ap (λ (s : ShelfState). s.tells) uses.store) tells

-- of one side that was listed, and of one that was not
listed_home : {S H R : Type 0} (framed : Bool) (before after : Outside S H R) (entries : Vec Entry Global) {side : Option (List ℕ)} → ListsSide framed before after entries side
    → (IsTrue before.store.tells → IsHome before.store) → IsTrue before.store.tells → IsHome after.store
listed_home framed before after entries (of_store dir lists uses) home = lists.home
listed_home framed before after entries (of_bundle schema members read are uses) home = λ tells. subst IsHome (sym uses.store) (home tells)

lacked_home : {S H R : Type 0} (framed : Bool) (before after : Outside S H R) (refusal : Refusal) {side : Option (List ℕ)} → LacksSide framed before after refusal side
    → (IsTrue before.store.tells → IsHome before.store) → IsTrue before.store.tells → IsHome after.store
lacked_home framed before after refusal (no_store dir lists uses) home = lists.home
lacked_home framed before after refusal (no_bundle why uses) home = λ tells. subst IsHome (sym uses.store) (home tells)

module _ {S H R : Type 0} (before after : Outside S H R) (home : IsTrue before.store.tells → IsHome before.store) (seen : IsSeen before after) where
  -- no part is handed out between the two sides
  between_home : (framed : Bool) (between : Outside S H R) (entries : Vec Entry Global) {side : Option (List ℕ)} → ListsSide framed before between entries side → IsTrue before.store.tells
      → IsTrue between.store.tells → IsHome between.store
  between_home framed between entries lists tells still = listed_home framed before between entries lists home tells

  difference_home : (style : Style) (first second : Option (List ℕ)) (outcome : Outcome) → ShowsDifference style first second before after outcome → IsTrue before.store.tells → IsHome after.store
  difference_home style first second outcome (lacks_first refusal lacking is) tells = lacked_home (is_none second) before after refusal lacking home tells
  difference_home style first second outcome (lacks_second between firsts refusal lists lacking is) tells =
      lacked_home false between after refusal lacking (between_home (is_none second) between firsts lists tells) (side_tells before after (is_none second) between firsts lists tells)
  difference_home style first second outcome (differ between firsts seconds one other is) tells =
      listed_home false between after seconds other (between_home (is_none second) between firsts one tells) (side_tells before after (is_none second) between firsts one tells)

  pub look_home : (request : LookText) (outcome : Outcome) → LookComes request before after outcome → IsTrue before.store.tells → IsHome after.store
  look_home (One None asked) outcome comes = same_home before after home seen comes.shelf
  look_home (One (Some dir) asked) outcome comes = comes.runs.runs.home
  look_home (Both first second full json) outcome comes = difference_home _ first second outcome comes
  look_home (KeyOf dir) outcome comes = comes.shows.home

-- ---- what is told

-- a status that is told with another one is a fault only if that one is
pub fault_with : (lacking : Bool) (own fault : ℕ) → (fault ≡ REFUSED → ⊥) → status_with lacking own ≡ fault → own ≡ fault
fault_with lacking own fault other is = by (lacking && (own == DONE)) is
  where
    by : (b : Bool) → cond b REFUSED own ≡ fault → own ≡ fault
    by true is = absurd (other (sym is))
    by false is = is

module _ {S H R : Type 0} (before after : Outside S H R) (sink sink_new : SinkState) (own : ℕ) where
  -- the faults that are told of a request, with their causes
  pub look_blames : (request : LookText) (outcome : Outcome) → LookComes request before after outcome → Ends sink.faults sink_new.faults sink.held sink_new.held outcome own
      → (own ≡ STORE_FAULT → Rose before.shelf_faults after.shelf_faults) × (own ≡ STREAM_FAULT → Rose before.source_faults after.source_faults ⊎ Rose sink.faults sink_new.faults)
  look_blames request outcome comes said =
      let ends = look_ends before after request outcome comes in (
        λ e. store_rose before after IsNoFault (λ is. is) outcome ends (ended_store sink.faults sink_new.faults sink.held sink_new.held outcome own said e),
        λ e. source_or_sink (source_rose before after IsNoFault (λ is. is) outcome ends) (ended_stream sink.faults sink_new.faults sink.held sink_new.held outcome own said e),
      )
