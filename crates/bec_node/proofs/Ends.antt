-- Each request ends as one of its own may, whether the shelf tells what it has or not; and a fault is told only where one was counted.
use Rattle.std.proofs.Common.{◌≡◌, ◌⊎◌, inl, inr, ℕ, Bool, List, refl, sym, ap, subst, ◌∙◌, Option, Some, None, Ok, Err}
use Rattle.command_words.specs.Requests.{RequestText, heads, check, dump, init, keygen, apply, join, export, query, merge, notes}
use Rattle.confluence_test.specs.declared.refusal.SchemaRefusal.{SchemaRefusal}
use Rattle.confluence_test.specs.declared.refusal.SchemaRefusal.TheVariants as taking
use Rattle.lms_tree.specs.SecretKey.{SecretData}
use Rattle.replica.specs.declared.make_fault.MakeFault.{MakeFault}
use Rattle.replica.specs.declared.make_fault.MakeFault.TheVariants as make_faults
use Rattle.replica.specs.Making.{IsJoinCause, saying}
use Rattle.schema.specs.Data.{SchemaData}
use Rattle.lm_ots.specs.declared.ots_type.OtsType.{OtsType}
use Rattle.lms_tree.specs.declared.lms_type.LmsType.{LmsType}
use Rattle.rand_core.specs.Stream.{Stream}
use Rattle.store_directory.specs.Stores.{StoreData}
use Rattle.replica.specs.declared.contents.Contents.{Contents}
use Rattle.history.specs.Histories.{HistoryData}
use Rattle.schema_verdict.specs.Verdict.{confluent, refused as taken_not}
use Rattle.outcomes.specs.declared.refusal.Refusal.{Refusal}
use Rattle.outcomes.specs.declared.refusal.Refusal.TheVariants as refusals
use Rattle.outcomes.specs.Comes.{AnswersSome, IsAnyFault, IsRefused, IsShelfFault, IsSourceFault, ReadsSource, ReadsStoreOnly}
use Rattle.outcomes.specs.Outcome.{IsFault, Outcome, from_make, from_taking}
use Rattle.outcomes.specs.Outside.{Outside}
use Rattle.outcomes.specs.StoreAnswers.{Printing, ReadsStore, Readings, RefusesStore, answered, bad_store, next_bytes, no_store, refused}
use Rattle.node_commands.specs.Asking.{QueryAnswer, answers, faulted}
use Rattle.node_commands.specs.Bundle.{DumpAnswer, LacksText, RecordsAnswer, TextAnswer, holds, lacks, stopped, taken, whole, refused as text_refused}
use Rattle.node_commands.specs.Creating.{DrawsKeyOnly, Inits, IsInitEnd, IsInitFault, IsKeygenEnd}
use Rattle.node_commands.specs.Heads.{HeadsAnswer, done as heads_done, refused as heads_refused}
use Rattle.node_commands.specs.Merging.{IsMergeEnd, Merges}
use Rattle.node_commands.specs.Shows.{ShowsHeads, ShowsNotes, ShowsRecords, ShowsTables}
use Rattle.node_commands.specs.Signing.{AnswersSomeKey, Applies, ApplyAnswer, IsNoStop, IsUnopened, JoinAnswer, JoinsHeads, MakeAnswer, answered as by_key, asked, bad_text, by_fault, joined, made, none, not_joined, not_made, unopened}
use Rattle.node_commands.specs.Verdict.{CheckAnswer}
use Rattle.bec_node.specs.Own.{EndsAs, EndsOf, IsOfKey, IsOfOperations, IsOfQuery, IsOfRecord, IsOfSchema, IsOfSession, IsOfSigning, IsOfStore, IsOwn}
use Rattle.bec_node.specs.RunAlone.{Comes}

-- ---- refusals

abbrev refusal_in : Refusal → Outcome → Refusal
refusal_in other (Ok text) = other
refusal_in other (Err refusal) = refusal

abbrev pub as_outcome : Refusal → Outcome
as_outcome refusal = Err refusal

same_refusal : (a b : Refusal) → as_outcome a ≡ as_outcome b → a ≡ b
same_refusal a b e = ap (refusal_in a) e

-- a refusal that is this one has what this one has
pub has : (P : Refusal → Type 0) (a b : Refusal) → as_outcome a ≡ as_outcome b → P b → P a
has P a b e p = subst P (sym (same_refusal a b e)) p

-- of a schema, or want of memory
abbrev IsTaking : Refusal → Type 0
IsTaking refusal = IsOfSchema refusal ⊎ (refusal ≡ refusals.Memory)

taking_own : (why : SchemaRefusal) → IsTaking (from_taking why)
taking_own (taking.Schema fault) = inl tt
taking_own (taking.NotConfluent schema which example) = inl tt
taking_own taking.Memory = inr refl

store_own : (parts : Readings) (refusal given : Refusal) → RefusesStore parts refusal → as_outcome given ≡ as_outcome refusal → IsOfStore given
store_own parts refusal given (no_store is e) same = has IsOfStore given refusals.NoStore (same ∙ ap as_outcome e) tt
store_own parts refusal given (bad_store is e) same = has IsOfStore given refusals.BadStore (same ∙ ap as_outcome e) tt

init_own : (dir : List ℕ) (refusal : Refusal) → IsInitEnd (Err refusal) → IsOwn (init dir) refusal
init_own dir refusals.StoreThere is = inr refl
init_own dir (refusals.Schema fault) is = inl tt
init_own dir (refusals.NotConfluent schema which example) is = inl tt
init_own dir other is = absurd is

keygen_own : (refusal : Refusal) → IsKeygenEnd (Err refusal) → refusal ≡ refusals.KeyThere
keygen_own refusals.KeyThere is = refl
keygen_own other is = absurd is

merge_own : (refusal : Refusal) → IsMergeEnd (Err refusal) → IsOfStore refusal ⊎ IsOfSession refusal
merge_own refusals.NoStore is = inl tt
merge_own refusals.BadStore is = inl tt
merge_own (refusals.Peer fault) is = inr tt
merge_own refusals.Full is = inr tt
merge_own other is = absurd is

unopened_own : (refusal : Refusal) → IsUnopened (Err refusal) → IsOfStore refusal ⊎ IsOfKey refusal
unopened_own refusals.NoStore is = inl tt
unopened_own refusals.BadStore is = inl tt
unopened_own refusals.NoKey is = inr tt
unopened_own refusals.BadKey is = inr tt
unopened_own other is = absurd is

make_own : (secret : SecretData) (why : MakeFault) → IsRefused (Err (from_make secret why)) → IsOfSigning (from_make secret why) ⊎ IsOfOperations (from_make secret why)
make_own secret make_faults.NotListed is = inl tt
make_own secret (make_faults.TooManyHeads count) is = inr tt
make_own secret (make_faults.Invalid reason operation) is = inr tt
make_own secret (make_faults.TooLong len) is = inr tt
make_own secret make_faults.Full is = inl tt
make_own secret make_faults.Spent is = inl tt
make_own secret (make_faults.Taken id) is = inl tt
make_own secret (make_faults.DiskFault side) is = absurd is
make_own secret make_faults.Memory is = absurd is

-- ---- answers to the source

heads_own : (before after : Option (List ℕ)) (refusal : Refusal) → HeadsAnswer before after (Err refusal) → IsOfRecord refusal
heads_own before after refusal (heads_done members found reads are prints) = absurd prints
heads_own before after refusal (heads_refused n fault reads is) = has IsOfRecord refusal (refusals.Record n fault) is tt

check_own : (before after : Option (List ℕ)) (refusal : Refusal) → CheckAnswer before after (Err refusal) → IsTaking refusal
check_own before after refusal (confluent text schema whole_text takes prints) = absurd prints
check_own before after refusal (taken_not text why whole_text refuses is) = has IsTaking refusal (from_taking why) is (taking_own why)

-- what a dump may be refused for
abbrev IsOfBundle : Refusal → Type 0
IsOfBundle refusal = (IsOfRecord refusal ⊎ (IsOfSchema refusal ⊎ (refusal ≡ refusals.CutSchema))) ⊎ (refusal ≡ refusals.Memory)

of_taking : (refusal : Refusal) → IsTaking refusal → IsOfBundle refusal
of_taking refusal (inl schema) = inl (inr (inl schema))
of_taking refusal (inr memory) = inr memory

records_own : (json : Bool) (schema : SchemaData) (before after : Option (List ℕ)) (refusal : Refusal) → RecordsAnswer json schema before after (Err refusal) → IsOfBundle refusal
records_own json schema before after refusal (whole members text reads shows prints) = absurd prints
records_own json schema before after refusal (stopped n fault reads is) = has IsOfBundle refusal (refusals.Record n fault) is (inl (inl tt))

text_own : (json : Bool) (declared : List ℕ) (before after : Option (List ℕ)) (refusal : Refusal) → TextAnswer json declared before after (Err refusal) → IsOfBundle refusal
text_own json declared before after refusal (taken schema takes records) = records_own json schema before after refusal records
text_own json declared before after refusal (text_refused why refuses same is) = has IsOfBundle refusal (from_taking why) is (of_taking (from_taking why) (taking_own why))

lacks_own : (before after : Option (List ℕ)) (refusal given : Refusal) → LacksText before after refusal → as_outcome given ≡ as_outcome refusal → IsOfBundle given
lacks_own before after refusal given (inl cut) same = has IsOfBundle given refusals.CutSchema (same ∙ ap as_outcome cut.1) (inl (inr (inr refl)))
lacks_own before after refusal given (inr long) same = has IsOfBundle given (refusals.Schema _) (same ∙ ap as_outcome long.1) (inl (inr (inl tt)))

dump_own : (json : Bool) (before after : Option (List ℕ)) (refusal : Refusal) → DumpAnswer json before after (Err refusal) → IsOfBundle refusal
dump_own json before after refusal (holds declared mid piece text) = text_own json declared mid after refusal text
dump_own json before after refusal (lacks why lacking is) = lacks_own before after why refusal lacking is

-- ---- answers over a store

-- what an answer over a store may refuse for
abbrev pub RefusesOnly : (StoreData → Outcome → Type 0) → (Refusal → Type 0) → Type 0
RefusesOnly Answers Own = (store : StoreData) (refusal : Refusal) → Answers store (Err refusal) → Own refusal

pub printing_only : (Shows : StoreData → List ℕ → Type 0) → RefusesOnly (Printing Shows) (λ refusal. ⊥)
printing_only Shows store refusal printing = printing.2

query_only : (text : List ℕ) (json : Bool) → RefusesOnly (QueryAnswer text json) IsOfQuery
query_only text json store refusal (answers asked_for answer reads found prints) = absurd prints
query_only text json store refusal (faulted fault first is) = has IsOfQuery refusal (refusals.Query fault) is tt

some_own : (Answers : StoreData → Outcome → Type 0) (Own : Refusal → Type 0) → RefusesOnly Answers Own → (parts : Readings) (added : List (List ℕ)) (refusal : Refusal)
    → ReadsStore Answers parts added (Err refusal) → IsOfStore refusal ⊎ Own refusal
some_own Answers Own only parts added refusal (answered store found answer nothing) = inr (only store refusal answer)
some_own Answers Own only parts added refusal (refused why refuses nothing is) = inl (store_own parts why refusal refuses is)

-- ---- answers that make an update

make_answer_own : (says : Contents) (c : List ℕ) (history : HistoryData) (secret : SecretData) (used : List Bool) (added : List (List ℕ)) (refusal : Refusal)
    → MakeAnswer says c history secret used added (Err refusal) → IsOfSigning refusal ⊎ IsOfOperations refusal
make_answer_own says c history secret used added refusal (made id bytes makes adds prints) = absurd prints
make_answer_own says c history secret used added refusal (not_made why cause is_refused adds is) =
    has (λ (r : Refusal). IsOfSigning r ⊎ IsOfOperations r) refusal (from_make secret why) is (make_own secret why (subst IsRefused is is_refused))

apply_answer_own : (note before after : Option (List ℕ)) (stream : Stream) (history : HistoryData) (secret : SecretData) (used : List Bool) (added : List (List ℕ)) (refusal : Refusal)
    → ApplyAnswer note before after stream history secret used added (Err refusal) → IsOfSigning refusal ⊎ IsOfOperations refusal
apply_answer_own _ before after stream history secret used added refusal (bad_text text fault whole_text first adds is) = has (λ (r : Refusal). IsOfSigning r ⊎ IsOfOperations r) refusal (refusals.Transaction fault) is (inr tt)
apply_answer_own note before after stream history secret used added refusal (asked text ops whole_text reads answer) = make_answer_own (saying note ops) (next_bytes stream) history secret used added refusal answer

join_make_own : (history : HistoryData) (secret : SecretData) (used : List Bool) (c : List ℕ) (why : MakeFault) → IsJoinCause history secret used c why → IsRefused (Err (from_make secret why))
    → IsOfSigning (from_make secret why)
join_make_own history secret used c make_faults.NotListed cause is = tt
join_make_own history secret used c (make_faults.TooManyHeads count) cause is = absurd cause
join_make_own history secret used c (make_faults.Invalid reason operation) cause is = absurd cause
join_make_own history secret used c (make_faults.TooLong len) cause is = absurd cause
join_make_own history secret used c make_faults.Full cause is = tt
join_make_own history secret used c make_faults.Spent cause is = tt
join_make_own history secret used c (make_faults.Taken id) cause is = tt
join_make_own history secret used c (make_faults.DiskFault side) cause is = absurd is
join_make_own history secret used c make_faults.Memory cause is = absurd is

join_answer_own : (stream : Stream) (history : HistoryData) (secret : SecretData) (used : List Bool) (added : List (List ℕ)) (refusal : Refusal)
    → JoinAnswer stream history secret used added (Err refusal) → IsOfSigning refusal
join_answer_own stream history secret used added refusal (joined id bytes joins adds prints) = absurd prints
join_answer_own stream history secret used added refusal (none nothing adds prints) = absurd prints
join_answer_own stream history secret used added refusal (not_joined why cause is_refused adds is) =
    has IsOfSigning refusal (from_make secret why) is (join_make_own history secret used (next_bytes stream) why cause (subst IsRefused is is_refused))

-- ---- requests

module _ {S H R : Type 0} (before after : Outside S H R) where
  -- how it may end that is refused
  abbrev EndsBy : (Refusal → Type 0) → Refusal → Type 0
  EndsBy Own refusal = Own refusal ⊎ IsAnyFault before.source_faults after.source_faults before.shelf_faults after.shelf_faults (Err refusal)

  by_memory : (Own : Refusal → Type 0) (refusal : Refusal) → refusal ≡ refusals.Memory → EndsBy Own refusal
  by_memory Own refusal is = inr (inr (inl (ap as_outcome is)))

  by_shelf : (Own : Refusal → Type 0) (refusal : Refusal) → IsShelfFault before.shelf_faults after.shelf_faults (Err refusal) → EndsBy Own refusal
  by_shelf Own refusal failed = inr (inr failed)

  pub source_ends : (Own : Refusal → Type 0) (Answer : Option (List ℕ) → Option (List ℕ) → Outcome → Type 0)
      → ((refusal : Refusal) → Answer before.left after.left (Err refusal) → Own refusal ⊎ (refusal ≡ refusals.Memory)) → (outcome : Outcome) → ReadsSource Answer before after outcome
      → EndsOf Own before after outcome
  source_ends Own Answer own (Ok text) comes = tt
  source_ends Own Answer own (Err refusal) comes = by comes.comes
    where
      chosen : Own refusal ⊎ (refusal ≡ refusals.Memory) → EndsBy Own refusal
      chosen (inl is) = inl is
      chosen (inr memory) = by_memory Own refusal memory

      by : Answer before.left after.left (Err refusal) ⊎ IsFault before.source_faults after.source_faults refusal → EndsBy Own refusal
      by (inl answer) = chosen (own refusal answer)
      by (inr (inl memory)) = by_memory Own refusal memory
      by (inr (inr failed)) = inr (inl (ap as_outcome failed.0, failed.1))

  pub store_ends : (Whole : Refusal → Type 0) (Answers : StoreData → Outcome → Type 0) (Own : Refusal → Type 0) → RefusesOnly Answers Own
      → ((refusal : Refusal) → IsOfStore refusal ⊎ Own refusal → Whole refusal) → (dir : List ℕ) (outcome : Outcome) → ReadsStoreOnly (ReadsStore Answers) dir before after outcome
      → EndsOf Whole before after outcome
  store_ends Whole Answers Own only own dir (Ok text) comes = tt
  store_ends Whole Answers Own only own dir (Err refusal) comes = by comes.runs.ends
    where
      by : AnswersSome (ReadsStore Answers) (Err refusal) ⊎ IsShelfFault before.shelf_faults after.shelf_faults (Err refusal) → EndsBy Whole refusal
      by (inl (parts, added, answer)) = inl (own refusal (some_own Answers Own only parts added refusal answer))
      by (inr failed) = by_shelf Whole refusal failed

  -- where only a store may be refused
  pub of_store : (refusal : Refusal) → IsOfStore refusal ⊎ ⊥ → IsOfStore refusal
  of_store refusal (inl is) = is
  of_store refusal (inr is) = absurd is

  init_ends : (dir : List ℕ) (outcome : Outcome) → Inits dir before after outcome → EndsAs (init dir) before after outcome
  init_ends dir (Ok text) comes = tt
  init_ends dir (Err refusal) comes = by comes.ends
    where
      by : IsInitEnd (Err refusal) ⊎ IsInitFault before after (Err refusal) → EndsBy (IsOwn (init dir)) refusal
      by (inl is) = inl (init_own dir refusal is)
      by (inr failed) = inr failed

  keygen_ends : (lms : LmsType) (ots : OtsType) (dir : List ℕ) (outcome : Outcome) → DrawsKeyOnly lms ots dir before after outcome → EndsAs (keygen dir lms ots) before after outcome
  keygen_ends lms ots dir (Ok text) comes = tt
  keygen_ends lms ots dir (Err refusal) comes = by comes.draws.ends
    where
      by : IsKeygenEnd (Err refusal) ⊎ IsShelfFault before.shelf_faults after.shelf_faults (Err refusal) → EndsBy (IsOwn (keygen dir lms ots)) refusal
      by (inl is) = inl (keygen_own refusal is)
      by (inr failed) = by_shelf (IsOwn (keygen dir lms ots)) refusal failed

  merge_ends : (first second : List ℕ) (outcome : Outcome) → Merges first second before after outcome → EndsAs (merge first second) before after outcome
  merge_ends first second (Ok text) comes = tt
  merge_ends first second (Err refusal) comes = by comes.stores.ends
    where
      by : IsMergeEnd (Err refusal) ⊎ IsShelfFault before.shelf_faults after.shelf_faults (Err refusal) → EndsBy (IsOwn (merge first second)) refusal
      by (inl is) = inl (merge_own refusal is)
      by (inr failed) = by_shelf (IsOwn (merge first second)) refusal failed

  apply_ends : (dir : List ℕ) (note : Option (List ℕ)) (outcome : Outcome) → Applies dir note before after outcome → EndsAs (apply dir note) before after outcome
  apply_ends dir _ (Ok text) comes = tt
  apply_ends dir note (Err refusal) comes = by comes.runs.added comes.ends
    where
      opened : IsOfStore refusal ⊎ IsOfKey refusal → EndsBy (IsOwn (apply dir note)) refusal
      opened (inl is) = inl (inl is)
      opened (inr is) = inl (inr (inl is))

      faulted_by : IsShelfFault before.shelf_faults after.shelf_faults (Err refusal) ⊎ IsSourceFault before.source_faults after.source_faults (Err refusal) → EndsBy (IsOwn (apply dir note)) refusal
      faulted_by (inl failed) = by_shelf (IsOwn (apply dir note)) refusal failed
      faulted_by (inr failed) = inr (inl failed)

      by : (added : List (List ℕ)) → AnswersSomeKey (ApplyAnswer note before.left after.left before.stream)
          (λ given. IsShelfFault before.shelf_faults after.shelf_faults given ⊎ IsSourceFault before.source_faults after.source_faults given) added (Err refusal) → EndsBy (IsOwn (apply dir note)) refusal
      by added (by_key history secret used answer) = inl (inr (inr (apply_answer_own note before.left after.left before.stream history secret used added refusal answer)))
      by added (unopened is nothing) = opened (unopened_own refusal is)
      by added (by_fault failed nothing) = faulted_by failed

  join_ends : (dir : List ℕ) (outcome : Outcome) → JoinsHeads dir before after outcome → EndsAs (join dir) before after outcome
  join_ends dir (Ok text) comes = tt
  join_ends dir (Err refusal) comes = by comes.joins.runs.added comes.joins.ends
    where
      opened : IsOfStore refusal ⊎ IsOfKey refusal → EndsBy (IsOwn (join dir)) refusal
      opened (inl is) = inl (inl is)
      opened (inr is) = inl (inr (inl is))

      faulted_by : IsShelfFault before.shelf_faults after.shelf_faults (Err refusal) ⊎ IsNoStop (Err refusal) → EndsBy (IsOwn (join dir)) refusal
      faulted_by (inl failed) = by_shelf (IsOwn (join dir)) refusal failed
      faulted_by (inr stops) = absurd stops

      by : (added : List (List ℕ)) → AnswersSomeKey (JoinAnswer before.stream) (λ given. IsShelfFault before.shelf_faults after.shelf_faults given ⊎ IsNoStop given) added (Err refusal) → EndsBy (IsOwn (join dir)) refusal
      by added (by_key history secret used answer) = inl (inr (inr (join_answer_own before.stream history secret used added refusal answer)))
      by added (unopened is nothing) = opened (unopened_own refusal is)
      by added (by_fault failed nothing) = faulted_by failed

  pub ends_as : (request : RequestText) (outcome : Outcome) → Comes request before after outcome → EndsAs request before after outcome
  ends_as (heads None) outcome comes = source_ends (IsOwn (heads None)) HeadsAnswer (λ refusal answer. inl (heads_own before.left after.left refusal answer)) outcome comes
  ends_as (heads (Some dir)) outcome comes = store_ends (IsOwn (heads (Some dir))) (Printing ShowsHeads) (λ refusal. ⊥) (printing_only ShowsHeads) of_store dir outcome comes
  ends_as check outcome comes = source_ends (IsOwn check) CheckAnswer (check_own before.left after.left) outcome comes
  ends_as (dump None json) outcome comes = source_ends (IsOwn (dump None json)) (DumpAnswer json) (dump_own json before.left after.left) outcome comes
  ends_as (dump (Some dir) json) outcome comes = store_ends (IsOwn (dump (Some dir) json)) (Printing (ShowsTables json)) (λ refusal. ⊥) (printing_only (ShowsTables json)) of_store dir outcome comes
  ends_as (init dir) outcome comes = init_ends dir outcome comes
  ends_as (keygen dir lms ots) outcome comes = keygen_ends lms ots dir outcome comes
  ends_as (apply dir note) outcome comes = apply_ends dir note outcome comes
  ends_as (join dir) outcome comes = join_ends dir outcome comes
  ends_as (export dir updates_only) outcome comes = store_ends (IsOwn (export dir updates_only)) (Printing (ShowsRecords updates_only)) (λ refusal. ⊥) (printing_only (ShowsRecords updates_only)) of_store dir outcome comes
  ends_as (query dir text json) outcome comes = store_ends (IsOwn (query dir text json)) (QueryAnswer text json) IsOfQuery (query_only text json) (λ refusal is. is) dir outcome comes
  ends_as (merge first second) outcome comes = merge_ends first second outcome comes
  ends_as (notes dir) outcome comes = store_ends (IsOwn (notes dir)) (Printing ShowsNotes) (λ refusal. ⊥) (printing_only ShowsNotes) of_store dir outcome comes
