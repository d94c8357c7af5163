-- How a request that brings updates into a directory ends, and where every part is then.
use Rattle.std.proofs.Common.{◌≡◌, ◌⊎◌, ◌≤◌, arith, inl, inr, ℕ, List, sym, ap, subst, IsTrue, Ok, Err, Option}
use Rattle.rand_core.specs.Stream.{Stream}
use Rattle.bec_bytes.specs.Causes.{Rose}
use Rattle.bec_disk.specs.Shelf.{ShelfState}
use Rattle.bundles.specs.Bundles.{BundleRefused, lacks as lacks_text, refused as text_refused, stopped}
use Rattle.command_words.specs.ImportRequests.{ImportText, CloneBundle, CloneStore, Import}
use Rattle.confluence_test.specs.declared.refusal.SchemaRefusal.{SchemaRefusal}
use Rattle.confluence_test.specs.declared.refusal.SchemaRefusal.TheVariants as taking
use Rattle.key_directory.proofs.Putting.{told}
use Rattle.key_directory.specs.Parts.{IsHome}
use Rattle.node_commands.specs.Creating.{IsInitEnd}
use Rattle.outcomes.proofs.Saying.{rose_later}
use Rattle.outcomes.specs.Comes.{AnswersSome, IsAnyFault, IsShelfFault}
use Rattle.outcomes.specs.Outcome.{Outcome, from_taking}
use Rattle.outcomes.specs.Outside.{Outside}
use Rattle.outcomes.specs.StoreAnswers.{ReadsStore, Readings, RefusesStore, answered, bad_store, no_store, refused as store_refused}
use Rattle.outcomes.specs.declared.refusal.Refusal.{Refusal}
use Rattle.outcomes.specs.declared.refusal.Refusal.TheVariants as refusals
use Rattle.import_commands.specs.Bringing.{BlamesRightly, Brings}
use Rattle.import_commands.specs.Cloning.{ClonesBundle, ClonesStore, HasNone, imported, lacks, put as put_copy, there as bundle_there, unknown as bundle_unknown}
use Rattle.import_commands.specs.Importing.{Imports, PutsIn, made, not_made, put, refused, taken, unknown}
use Rattle.import_commands.specs.Taking.{ContentsData, IsTakeEnd}
use Rattle.import_commands.proofs.Looking.{home_looked}

-- neither the shelf nor the source failed
abbrev IsNoFault : Refusal → Type 0
IsNoFault refusals.StoreFault = ⊥
IsNoFault refusals.Stream = ⊥
IsNoFault refusal = Unit {0}

-- how an outcome may blame the shelf and the source
abbrev EndsAs : ℕ → ℕ → ℕ → ℕ → Outcome → Type 0
EndsAs source_old source_new old new (Ok text) = Unit {0}
EndsAs source_old source_new old new (Err refusal) = IsNoFault refusal ⊎ IsAnyFault source_old source_new old new (Err refusal)

of_shelf_fault : (a b old new : ℕ) (outcome : Outcome) → IsShelfFault old new outcome → EndsAs a b old new outcome
of_shelf_fault a b old new (Ok text) fault = tt
of_shelf_fault a b old new (Err refusal) fault = inr (inr fault)

of_take_end : (a b old new : ℕ) (outcome : Outcome) → IsTakeEnd outcome → EndsAs a b old new outcome
of_take_end a b old new (Ok text) is = tt
of_take_end a b old new (Err refusals.NoStore) is = inl tt
of_take_end a b old new (Err refusals.BadStore) is = inl tt
of_take_end a b old new (Err refusals.Full) is = inl tt
of_take_end a b old new (Err (refusals.Peer fault)) is = inl tt
of_take_end a b old new (Err other) is = absurd is

of_init_end : (a b old new : ℕ) (refusal : Refusal) → IsInitEnd (Err refusal) → EndsAs a b old new (Err refusal)
of_init_end a b old new refusals.StoreThere is = inl tt
of_init_end a b old new (refusals.Schema fault) is = inl tt
of_init_end a b old new (refusals.NotConfluent schema which example) is = inl tt
of_init_end a b old new other is = absurd is

-- the same from a count that was not less
from_mid : (a b old mid new : ℕ) (outcome : Outcome) → old ≤ mid → EndsAs a b mid new outcome → EndsAs a b old new outcome
from_mid a b old mid new (Ok text) later ends = tt
from_mid a b old mid new (Err refusal) later (inl own) = inl own
from_mid a b old mid new (Err refusal) later (inr (inl stream)) = inr (inl stream)
from_mid a b old mid new (Err refusal) later (inr (inr (inl memory))) = inr (inr (inl memory))
from_mid a b old mid new (Err refusal) later (inr (inr (inr failed))) = inr (inr (inr (failed.0, rose_later old mid new later failed.1)))

of_take : (a b old new : ℕ) (outcome : Outcome) → IsTakeEnd outcome ⊎ IsShelfFault old new outcome → EndsAs a b old new outcome
of_take a b old new outcome (inl end) = of_take_end a b old new outcome end
of_take a b old new outcome (inr fault) = of_shelf_fault a b old new outcome fault

-- a source that is a text does not fail
of_init : (a b old new : ℕ) (refusal : Refusal) → IsInitEnd (Err refusal) ⊎ IsAnyFault 0 0 old new (Err refusal) → EndsAs a b old new (Err refusal)
of_init a b old new refusal (inl end) = of_init_end a b old new refusal end
of_init a b old new refusal (inr (inl stream)) = absurd (omega (arith, stream.1))
of_init a b old new refusal (inr (inr fault)) = inr (inr fault)

is_err : (a b old new : ℕ) (outcome : Outcome) (refusal : Refusal) → outcome ≡ Err refusal → EndsAs a b old new (Err refusal) → EndsAs a b old new outcome
is_err a b old new outcome refusal is ends = subst (λ (o : Outcome). EndsAs a b old new o) (sym is) ends

-- ---- putting updates into a directory

put_ends : (a b : ℕ) (contents : ContentsData) (dir : List ℕ) (stream stream_new : Stream) (before after : ShelfState) (old new : ℕ) (outcome : Outcome)
    → PutsIn contents dir stream stream_new before after old new outcome → EndsAs a b old new outcome
put_ends a b contents dir stream stream_new before after old new outcome (unknown looks fault same) = of_shelf_fault a b old new outcome fault
put_ends a b contents dir stream stream_new before after old new outcome (taken mid counted looks is_there take same) =
    from_mid a b old counted new outcome looks.later (of_take a b counted new outcome take.ends)
put_ends a b contents dir stream stream_new before after old new outcome (not_made mid counted refusal looks not_there empty is) =
    is_err a b old new outcome refusal is (from_mid a b old counted new (Err refusal) looks.later (of_init a b counted new refusal empty.inits.ends))
put_ends a b contents dir stream stream_new before after old new outcome (made mid between counted made_counted lines looks not_there empty take) =
    from_mid a b old made_counted new outcome (omega (arith, looks.later, empty.later)) (of_take a b made_counted new outcome take.ends)

put_home : (contents : ContentsData) (dir : List ℕ) (stream stream_new : Stream) (before after : ShelfState) (old new : ℕ) (outcome : Outcome) → (IsTrue before.tells → IsHome before)
    → PutsIn contents dir stream stream_new before after old new outcome → IsTrue before.tells → IsHome after
put_home contents dir stream stream_new before after old new outcome home (unknown looks fault same) tells =
    home_looked dir before after old new home looks (told before.tells after.tells looks.tells tells)
put_home contents dir stream stream_new before after old new outcome home (taken mid counted looks is_there take same) tells = take.home (told before.tells mid.tells looks.tells tells)
put_home contents dir stream stream_new before after old new outcome home (not_made mid counted refusal looks not_there empty is) tells = empty.inits.home (told before.tells mid.tells looks.tells tells)
put_home contents dir stream stream_new before after old new outcome home (made mid between counted made_counted lines looks not_there empty take) tells =
    take.home (told mid.tells between.tells empty.tells (told before.tells mid.tells looks.tells tells))

-- ---- importing

of_taking : (why : SchemaRefusal) → IsNoFault (from_taking why)
of_taking (taking.Schema fault) = tt
of_taking (taking.NotConfluent schema which example) = tt
of_taking taking.Memory = tt

bundle_own : (before after : Option (List ℕ)) (refusal : Refusal) → BundleRefused before after refusal → IsNoFault refusal
bundle_own before after refusal (lacks_text (inl cut)) = subst IsNoFault (sym cut.1) tt
bundle_own before after refusal (lacks_text (inr long)) = subst IsNoFault (sym long.1) tt
bundle_own before after refusal (text_refused declared why holds declined is) = subst IsNoFault (sym is) (of_taking why)
bundle_own before after refusal (stopped declared mid schema n fault holds takes reads is) = subst IsNoFault (sym is) tt

-- how a request ends over what stands outside
abbrev EndsOver : {S H R : Type 0} → Outside S H R → Outside S H R → Outcome → Type 0
EndsOver before after outcome = EndsAs before.source_faults after.source_faults before.shelf_faults after.shelf_faults outcome

import_ends : {S H R : Type 0} (dir : List ℕ) (before after : Outside S H R) (outcome : Outcome) → Imports dir before after outcome → EndsOver before after outcome
import_ends dir before after outcome (refused refusal (inl why) uses is) =
    is_err before.source_faults after.source_faults before.shelf_faults after.shelf_faults outcome refusal is (inl (bundle_own before.left after.left refusal why))
import_ends dir before after outcome (refused refusal (inr (inl memory)) uses is) =
    is_err before.source_faults after.source_faults before.shelf_faults after.shelf_faults outcome refusal is (inl (subst IsNoFault (sym memory) tt))
import_ends dir before after outcome (refused refusal (inr (inr failed)) uses is) =
    is_err before.source_faults after.source_faults before.shelf_faults after.shelf_faults outcome refusal is (inr (inl (ap (λ (r : Refusal). Err r) failed.0, failed.1)))
import_ends dir before after outcome (put schema members held puts) =
    put_ends before.source_faults after.source_faults (record { text = schema.text; updates = members }) dir before.stream after.stream before.store after.store before.shelf_faults after.shelf_faults outcome puts

import_home : {S H R : Type 0} (dir : List ℕ) (before after : Outside S H R) (outcome : Outcome) → (IsTrue before.store.tells → IsHome before.store) → Imports dir before after outcome
    → IsTrue before.store.tells → IsHome after.store
import_home dir before after outcome home (refused refusal why uses is) tells = subst IsHome (sym uses.store) (home tells)
import_home dir before after outcome home (put schema members held puts) tells =
    put_home (record { text = schema.text; updates = members }) dir before.stream after.stream before.store after.store before.shelf_faults after.shelf_faults outcome home puts tells

-- ---- cloning

bundle_ends : {S H R : Type 0} (dir : List ℕ) (before after : Outside S H R) (outcome : Outcome) → ClonesBundle dir before after outcome → EndsOver before after outcome
bundle_ends dir before after outcome (bundle_unknown looks fault uses) =
    of_shelf_fault before.source_faults after.source_faults before.shelf_faults after.shelf_faults outcome fault
bundle_ends dir before after outcome (bundle_there looks is_there uses is) =
    is_err before.source_faults after.source_faults before.shelf_faults after.shelf_faults outcome refusals.StoreThere is (inl tt)
bundle_ends dir before after outcome (imported between looks not_there uses imports) =
    subst (λ (n : ℕ). EndsAs n after.source_faults before.shelf_faults after.shelf_faults outcome) uses.faults
    (from_mid between.source_faults after.source_faults before.shelf_faults between.shelf_faults after.shelf_faults outcome looks.later (import_ends dir between after outcome imports))

bundle_home : {S H R : Type 0} (dir : List ℕ) (before after : Outside S H R) (outcome : Outcome) → (IsTrue before.store.tells → IsHome before.store) → ClonesBundle dir before after outcome
    → IsTrue before.store.tells → IsHome after.store
bundle_home dir before after outcome home (bundle_unknown looks fault uses) tells =
    home_looked dir before.store after.store before.shelf_faults after.shelf_faults home looks (told before.store.tells after.store.tells looks.tells tells)
bundle_home dir before after outcome home (bundle_there looks is_there uses is) tells =
    home_looked dir before.store after.store before.shelf_faults after.shelf_faults home looks (told before.store.tells after.store.tells looks.tells tells)
bundle_home dir before after outcome home (imported between looks not_there uses imports) tells =
    import_home dir between after outcome (home_looked dir before.store between.store before.shelf_faults between.shelf_faults home looks) imports
    (told before.store.tells between.store.tells looks.tells tells)

abbrev refusal_in : Refusal → Outcome → Refusal
refusal_in other (Ok text) = other
refusal_in other (Err refusal) = refusal

no_store_own : (parts : Readings) (refusal : Refusal) → RefusesStore parts refusal → IsNoFault refusal
no_store_own parts refusal (no_store none is) = subst IsNoFault (sym is) tt
no_store_own parts refusal (bad_store bad is) = subst IsNoFault (sym is) tt

lacking_own : (parts : Readings) (added : List (List ℕ)) (refusal : Refusal) → ReadsStore HasNone parts added (Err refusal) → IsNoFault refusal
lacking_own parts added refusal (answered store is none nil) = absurd none
lacking_own parts added refusal (store_refused why refuses nil is) = subst (λ (o : Outcome). IsNoFault (refusal_in why o)) (sym is) (no_store_own parts why refuses)

lacks_ends : (a b old new : ℕ) (refusal : Refusal) → AnswersSome (ReadsStore HasNone) (Err refusal) ⊎ IsShelfFault old new (Err refusal) → EndsAs a b old new (Err refusal)
lacks_ends a b old new refusal (inl (parts, added, reads)) = inl (lacking_own parts added refusal reads)
lacks_ends a b old new refusal (inr fault) = inr (inr fault)

other_ends : (a b : ℕ) (from dir : List ℕ) (stream stream_new : Stream) (before after : ShelfState) (old new : ℕ) (outcome : Outcome)
    → ClonesStore from dir stream stream_new before after old new outcome → EndsAs a b old new outcome
other_ends a b from dir stream stream_new before after old new outcome (bundle_unknown looks fault same) = of_shelf_fault a b old new outcome fault
other_ends a b from dir stream stream_new before after old new outcome (bundle_there looks is_there same is) = is_err a b old new outcome refusals.StoreThere is (inl tt)
other_ends a b from dir stream stream_new before after old new outcome (lacks mid counted refusal looks not_there lacking same is) =
    is_err a b old new outcome refusal is (from_mid a b old counted new (Err refusal) looks.later (lacks_ends a b counted new refusal lacking.ends))
other_ends a b from dir stream stream_new before after old new outcome (put_copy mid copied counted copied_counted schema members looks not_there copies keeps puts) =
    from_mid a b old copied_counted new outcome (omega (arith, looks.later, keeps.later))
    (put_ends a b (record { text = schema.text; updates = members }) dir stream stream_new copied after copied_counted new outcome puts)

other_home : (from dir : List ℕ) (stream stream_new : Stream) (before after : ShelfState) (old new : ℕ) (outcome : Outcome) → (IsTrue before.tells → IsHome before)
    → ClonesStore from dir stream stream_new before after old new outcome → IsTrue before.tells → IsHome after
other_home from dir stream stream_new before after old new outcome home (bundle_unknown looks fault same) tells =
    home_looked dir before after old new home looks (told before.tells after.tells looks.tells tells)
other_home from dir stream stream_new before after old new outcome home (bundle_there looks is_there same is) tells =
    home_looked dir before after old new home looks (told before.tells after.tells looks.tells tells)
other_home from dir stream stream_new before after old new outcome home (lacks mid counted refusal looks not_there lacking same is) tells =
    lacking.runs.home (told before.tells mid.tells looks.tells tells)
other_home from dir stream stream_new before after old new outcome home (put_copy mid copied counted copied_counted schema members looks not_there copies keeps puts) tells =
    put_home (record { text = schema.text; updates = members }) dir stream stream_new copied after copied_counted new outcome keeps.home puts
    (told mid.tells copied.tells keeps.tells (told before.tells mid.tells looks.tells tells))

-- ---- every request

brings_ends : {S H R : Type 0} (request : ImportText) (before after : Outside S H R) (outcome : Outcome) → Brings request before after outcome → EndsOver before after outcome
brings_ends (Import dir) before after outcome brings = import_ends dir before after outcome brings
brings_ends (CloneBundle dir) before after outcome brings = bundle_ends dir before after outcome brings
brings_ends (CloneStore from dir) before after outcome brings =
    other_ends before.source_faults after.source_faults from dir before.stream after.stream before.store after.store before.shelf_faults after.shelf_faults outcome brings.clones

store_blamed : (a b old new : ℕ) → EndsAs a b old new (Err refusals.StoreFault) → Rose old new
store_blamed a b old new (inl own) = absurd own
store_blamed a b old new (inr (inl stream)) = absurd (let never = stream.0 in cc)
store_blamed a b old new (inr (inr (inl memory))) = absurd cc
store_blamed a b old new (inr (inr (inr failed))) = failed.1

source_blamed : (a b old new : ℕ) → EndsAs a b old new (Err refusals.Stream) → Rose a b
source_blamed a b old new (inl own) = absurd own
source_blamed a b old new (inr (inl stream)) = stream.1
source_blamed a b old new (inr (inr (inl memory))) = absurd cc
source_blamed a b old new (inr (inr (inr failed))) = absurd (let never = failed.0 in cc)

pub brings_blames : {S H R : Type 0} (request : ImportText) (before after : Outside S H R) (outcome : Outcome) → Brings request before after outcome → BlamesRightly before after outcome
brings_blames request before after outcome brings =
    let ends = brings_ends request before after outcome brings in
    record {
      store = λ is. store_blamed before.source_faults after.source_faults before.shelf_faults after.shelf_faults
          (subst (λ (o : Outcome). EndsOver before after o) is ends);
      source = λ is. source_blamed before.source_faults after.source_faults before.shelf_faults after.shelf_faults
          (subst (λ (o : Outcome). EndsOver before after o) is ends);
    }

pub brings_home : {S H R : Type 0} (request : ImportText) (before after : Outside S H R) (outcome : Outcome) → (IsTrue before.store.tells → IsHome before.store)
    → Brings request before after outcome → IsTrue before.store.tells → IsHome after.store
brings_home (Import dir) before after outcome home brings = import_home dir before after outcome home brings
brings_home (CloneBundle dir) before after outcome home brings = bundle_home dir before after outcome home brings
brings_home (CloneStore from dir) before after outcome home brings =
    other_home from dir before.stream after.stream before.store after.store before.shelf_faults after.shelf_faults outcome home brings.clones
