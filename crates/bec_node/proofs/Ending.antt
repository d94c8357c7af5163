-- How a run ends.
use Rattle.std.specs.Prelude.{option_map}
use Rattle.std.proofs.lemmas.Bool.Decides.{nat_tests}
use Rattle.std.proofs.Common.{◌≡◌, ◌⊎◌, inl, inr, ℕ, ◌≤◌, Bool, true, false, cond, IfSome, length, nat_le, List, [], codes, refl, sym, subst, map, Option, Some, None, Ok, Err, String, IsTrue, arith}
use Rattle.std.specs.declared.alloc.Global.{Global}
use Rattle.std.specs.String.{string_bytes}
use Rattle.std.specs.Io.KnownBytes.{Appends}
use Rattle.lm_ots.specs.declared.ots_type.OtsType.{OtsType}
use Rattle.lms_tree.specs.declared.lms_type.LmsType.{LmsType}
use Rattle.update_model.specs.declared.limits.TheConstants.{MAX_NOTE}
use Rattle.command_words.specs.Requests.{Asks, apply_app, given, note_of, RequestText, heads, check, dump, init, keygen, apply, join, export, query, merge, notes, for_heads, for_check, for_dump, for_init, for_keygen, for_apply, for_join, for_export, for_query, for_merge, for_notes}
use Rattle.outcomes.specs.declared.refusal.Refusal.TheVariants.{Memory, StoreFault, Stream, Words}
use Rattle.schema_verdict.specs.declared.status.TheConstants.{NO_COMMAND, OUT_OF_MEMORY}
use Rattle.node_commands.specs.Bundle.{DumpAnswer}
use Rattle.node_commands.specs.Heads.{HeadsAnswer}
use Rattle.node_commands.specs.Verdict.{CheckAnswer}
use Rattle.outcomes.specs.Outcome.{Ends, MayLackMemory, Outcome, Says}
use Rattle.schema_verdict.specs.Written.{Puts, SinkState}
use Rattle.outcomes.specs.Outside.{IsUntouched, Outside}
use Rattle.key_directory.specs.Parts.{IsHome}
use Rattle.bec_node.specs.Own.{EndsAs, IsOwn}
use Rattle.bec_node.specs.RunAlone.{AnswersOnly, Comes, IsCommand, HasShortNote, IsNoCommand, named, none, Runs, unread, NamesApart}
use Rattle.outcomes.specs.Comes.{ReadsSource, ReadsStoreOnly, IsSourceFault}
use Rattle.store_directory.specs.Stores.{StoreData}
use Rattle.node_commands.specs.Asking.{QueryAnswer}
use Rattle.outcomes.specs.StoreAnswers.{Printing, ReadsStore}
use Rattle.node_commands.specs.Shows.{ShowsHeads, ShowsNotes, ShowsRecords, ShowsTables}
use Rattle.node_commands.specs.Creating.{DrawsKeyOnly, Inits}
use Rattle.node_commands.proofs.NewKeys.{key_without_memory}
use Rattle.node_commands.proofs.NewStores.{init_without_memory}
use Rattle.node_commands.proofs.Merging.{merge_without_memory}
use Rattle.outcomes.proofs.Reading.{read_without_memory}
use Rattle.node_commands.specs.Merging.{Merges}
use Rattle.node_commands.specs.Signing.{Applies, ApplyAnswer, IsNoStop, JoinAnswer, JoinsHeads}
use Rattle.node_commands.proofs.Signs.{none_by_apply, none_by_join, signs_without_memory}
use Rattle.node_commands.proofs.Answer.{OneAnswer}
use Rattle.node_commands.proofs.MakersOnce.{OneOfMakers}
use Rattle.node_commands.proofs.MergeOnce.{OneOfMerge}
use Rattle.node_commands.proofs.PartsOnce.{OneOfParts}
use Rattle.bec_node.proofs.Asking.{appends_none}
use Rattle.bec_node.proofs.Ends.{ends_as}
use Rattle.bec_node.proofs.Faults.{as_outcome, no_own_store, no_own_stream, said_store, said_stream, source_or_sink, source_rose, store_rose}
use Rattle.bec_node.proofs.Home.{IsSeen, comes_home, same_home}
use Rattle.bec_node.proofs.Only.{only_memory, only_said}
use Rattle.outcomes.proofs.Only.{status_said}

-- ---- a request

-- want of memory in place of a refusal
module _ {S H R : Type 0} (before after : Outside S H R) where
  source_lacks : (Answer : Option (List ℕ) → Option (List ℕ) → Outcome → Type 0) (outcome : Outcome) → ReadsSource Answer before after outcome → ReadsSource Answer before after (Err Memory)
  source_lacks Answer outcome comes = record { comes = inr (inl refl); shelf = comes.shelf; random = comes.random }

  merge_lacks : (first second : List ℕ) (outcome : Outcome) → MayLackMemory outcome → Merges first second before after outcome → Merges first second before after (Err Memory)
  merge_lacks first second (Ok text) lacks comes = absurd lacks
  merge_lacks first second (Err refusal) lacks comes = record {
    stores = merge_without_memory first second before.store after.store before.shelf_faults after.shelf_faults refusal comes.stores;
    source = comes.source;
    random = comes.random;
  }

  store_lacks : (Answers : StoreData → Outcome → Type 0) (dir : List ℕ) (outcome : Outcome) → MayLackMemory outcome → ReadsStoreOnly (ReadsStore Answers) dir before after outcome
      → ReadsStoreOnly (ReadsStore Answers) dir before after (Err Memory)
  store_lacks Answers dir (Ok text) lacks comes = absurd lacks
  store_lacks Answers dir (Err refusal) lacks comes =
      record { runs = read_without_memory Answers dir before.store after.store before.shelf_faults after.shelf_faults refusal comes.runs; source = comes.source; random = comes.random }

  init_lacks : (dir : List ℕ) (outcome : Outcome) → MayLackMemory outcome → Inits dir before after outcome → Inits dir before after (Err Memory)
  init_lacks dir (Ok text) lacks comes = absurd lacks
  init_lacks dir (Err refusal) lacks comes = init_without_memory dir before after refusal comes

  keygen_lacks : (lms : LmsType) (ots : OtsType) (dir : List ℕ) (outcome : Outcome) → MayLackMemory outcome → DrawsKeyOnly lms ots dir before after outcome → DrawsKeyOnly lms ots dir before after (Err Memory)
  keygen_lacks lms ots dir (Ok text) lacks comes = absurd lacks
  keygen_lacks lms ots dir (Err refusal) lacks comes =
      record { draws = key_without_memory lms ots before.stream dir before.store after.store before.shelf_faults after.shelf_faults refusal comes.draws; source = comes.source }

  apply_lacks : (dir : List ℕ) (note : Option (List ℕ)) (outcome : Outcome) → MayLackMemory outcome → Applies dir note before after outcome → Applies dir note before after (Err Memory)
  apply_lacks dir _ (Ok text) lacks comes = absurd lacks
  apply_lacks dir note (Err refusal) lacks comes =
      signs_without_memory _ (ApplyAnswer note before.left after.left before.stream) (IsSourceFault before.source_faults after.source_faults) dir before.store after.store before.shelf_faults after.shelf_faults refusal
      (none_by_apply note before.left after.left before.stream refusal) comes

  join_lacks : (dir : List ℕ) (outcome : Outcome) → MayLackMemory outcome → JoinsHeads dir before after outcome → JoinsHeads dir before after (Err Memory)
  join_lacks dir (Ok text) lacks comes = absurd lacks
  join_lacks dir (Err refusal) lacks comes = record {
    joins = signs_without_memory _ (JoinAnswer before.stream) IsNoStop dir before.store after.store before.shelf_faults after.shelf_faults refusal (none_by_join before.stream refusal) comes.joins;
    source = comes.source;
  }

  comes_lacking : (request : RequestText) (outcome : Outcome) → MayLackMemory outcome → Comes request before after outcome → Comes request before after (Err Memory)
  comes_lacking (heads None) outcome lacks comes = source_lacks HeadsAnswer outcome comes
  comes_lacking (heads (Some dir)) outcome lacks comes = store_lacks (Printing ShowsHeads) dir outcome lacks comes
  comes_lacking check outcome lacks comes = source_lacks CheckAnswer outcome comes
  comes_lacking (dump None json) outcome lacks comes = source_lacks (DumpAnswer json) outcome comes
  comes_lacking (dump (Some dir) json) outcome lacks comes = store_lacks (Printing (ShowsTables json)) dir outcome lacks comes
  comes_lacking (init dir) outcome lacks comes = init_lacks dir outcome lacks comes
  comes_lacking (keygen dir lms ots) outcome lacks comes = keygen_lacks lms ots dir outcome lacks comes
  comes_lacking (apply dir note) outcome lacks comes = apply_lacks dir note outcome lacks comes
  comes_lacking (join dir) outcome lacks comes = join_lacks dir outcome lacks comes
  comes_lacking (export dir updates_only) outcome lacks comes = store_lacks (Printing (ShowsRecords updates_only)) dir outcome lacks comes
  comes_lacking (query dir text json) outcome lacks comes = store_lacks (QueryAnswer text json) dir outcome lacks comes
  comes_lacking (merge first second) outcome lacks comes = merge_lacks first second outcome lacks comes
  comes_lacking (notes dir) outcome lacks comes = store_lacks (Printing ShowsNotes) dir outcome lacks comes

-- words that ask for something name two directories by two words
pub names_apart : (words : List (List ℕ)) (request : RequestText) → Asks words request → NamesApart request
names_apart words request (for_heads taken) = tt
names_apart words request (for_check taken) = tt
names_apart words request (for_dump taken) = tt
names_apart words request (for_init directory taken dir) = tt
names_apart words request (for_keygen directory height width taken dir h w) = tt
names_apart words request (for_apply directory _ taken dir is) = tt
names_apart words request (for_join directory taken dir) = tt
names_apart words request (for_export directory taken dir) = tt
names_apart words request (for_query directory text taken dir given) = tt
names_apart words request (for_merge first second taken dir other differ) = differ
names_apart words request (for_notes directory taken dir) = tt

note_is_short : (word note : Option (List ℕ)) → note_of word ≡ Some note → IfSome note (λ text. length text ≤ MAX_NOTE)
note_is_short None note is = let none : note ≡ None = cc in rw none tt
note_is_short (Some word) note is = by (nat_le (length word) MAX_NOTE) refl is
  where
    by : (b : Bool) → nat_le (length word) MAX_NOTE ≡ b → cond b (Some (Some word)) None ≡ Some note → IfSome note (λ text. length text ≤ MAX_NOTE)
    by true e given = let some : note ≡ Some word = cc in rw some (grind (arith, nat_tests))
    by false e given = absurd cc

-- and a note that they give is short
pub short_note : (words : List (List ℕ)) (request : RequestText) → Asks words request → HasShortNote request
short_note words request (for_heads taken) = tt
short_note words request (for_check taken) = tt
short_note words request (for_dump taken) = tt
short_note words request (for_init directory taken dir) = tt
short_note words request (for_keygen directory height width taken dir h w) = tt
short_note words request (for_apply directory note taken dir is) = note_is_short (given apply_app words (codes "note")) note is
short_note words request (for_join directory taken dir) = tt
short_note words request (for_export directory taken dir) = tt
short_note words request (for_query directory text taken dir given_text) = tt
short_note words request (for_merge first second taken dir other differ) = tt
short_note words request (for_notes directory taken dir) = tt

-- as it is said of what is lent
pub lent_short : {X : Type 0} (text_of : X → List ℕ) (note : Option X) → IfSome (option_map text_of note) (λ text. length text ≤ MAX_NOTE) → IfSome note (λ n. length (text_of n) ≤ MAX_NOTE)
lent_short text_of None short = tt
lent_short text_of (Some n) short = short

-- ---- runs

-- words that are none are no fault of the source
put_stream : {P : Type 0} → (as_outcome Words ≡ as_outcome Stream) ⊎ P → P
put_stream (inl is) = absurd cc
put_stream (inr p) = p

-- words ask for one thing
abbrev pub OneRequest : Type 0
OneRequest = (words : List (List ℕ)) (request other : RequestText) → Asks words request → Asks words other → request ≡ other

module _ {S H R : Type 0} (words : List (String Global)) (before after : Outside S H R) (sink sink_new : SinkState) (status : ℕ) where
  told : (IsTrue before.store.tells → IsHome before.store) → IsSeen before after → OneAnswer → OneOfParts → OneOfMakers → OneOfMerge → OneRequest → (request : RequestText) → IsCommand request words → (outcome : Outcome) → Comes request before after outcome
      → Says sink.faults sink_new.faults sink.held sink_new.held outcome status → Runs words before after sink sink_new status
  told home seen one parts makers merges unique request asks outcome comes said = record {
    outcome = outcome;
    asked = named request asks comes;
    said = said;
    only = λ other is. subst (λ (q : RequestText). AnswersOnly q before status) (unique (map string_bytes words) request other asks is)
        (only_said one parts makers merges before after status request outcome comes (status_said sink.faults sink_new.faults sink.held sink_new.held outcome status said));
    ends = λ other is. subst (λ (q : RequestText). EndsAs q before after outcome) (unique (map string_bytes words) request other asks is) (ends_as before after request outcome comes);
    store_fault = λ e. store_rose before after (IsOwn request) (no_own_store request) outcome (ends_as before after request outcome comes)
        (said_store sink.faults sink_new.faults sink.held sink_new.held outcome status said e);
    stream_fault = λ e. source_or_sink (source_rose before after (IsOwn request) (no_own_stream request) outcome (ends_as before after request outcome comes))
        (said_stream sink.faults sink_new.faults sink.held sink_new.held outcome status said e);
    home = comes_home before after home seen request outcome comes;
  }

  -- words that ask for something
  pub runs : (IsTrue before.store.tells → IsHome before.store) → IsSeen before after → OneAnswer → OneOfParts → OneOfMakers → OneOfMerge → OneRequest → (request : RequestText) → IsCommand request words → (outcome : Outcome) → Comes request before after outcome
      → Ends sink.faults sink_new.faults sink.held sink_new.held outcome status → Runs words before after sink sink_new status
  runs home seen one parts makers merges unique request asks outcome comes (inl said) = told home seen one parts makers merges unique request asks outcome comes said
  runs home seen one parts makers merges unique request asks outcome comes (inr lacked) = told home seen one parts makers merges unique request asks (Err Memory) (comes_lacking before after request outcome lacked.0 comes) lacked.1

  -- words that are none
  pub runs_none : (IsTrue before.store.tells → IsHome before.store) → IsSeen before after → IsNoCommand words → IsUntouched before after → Puts sink.faults sink_new.faults sink.held sink_new.held NO_COMMAND (codes "! words\n") status
      → Runs words before after sink sink_new status
  runs_none home seen no_request same put = record {
    outcome = Err Words;
    asked = none no_request same refl;
    said = put;
    only = λ request is. absurd (no_request request is);
    ends = λ request is. absurd (no_request request is);
    store_fault = λ e. absurd (let other : as_outcome Words ≡ as_outcome StoreFault = said_store sink.faults sink_new.faults sink.held sink_new.held (Err Words) status put e in cc);
    stream_fault = λ e. inr (put_stream (said_stream sink.faults sink_new.faults sink.held sink_new.held (Err Words) status put e));
    home = same_home before after home seen same.shelf;
  }

  -- words that were not read
  pub runs_unread : (IsTrue before.store.tells → IsHome before.store) → IsSeen before after → IsUntouched before after → sink_new ≡ sink → status ≡ OUT_OF_MEMORY → Runs words before after sink sink_new status
  runs_unread home seen same kept is =
      let held : Appends sink.held sink_new.held [] = subst (λ (s : SinkState). Appends sink.held s.held []) (sym kept) (appends_none sink.held) in
      record {
        outcome = Err Memory;
        asked = unread same refl;
        said = (is, held);
        only = λ request asks. only_memory request before status is;
        ends = λ request asks. inr (inr (inl refl));
        store_fault = λ e. absurd (omega (arith, e, is));
        stream_fault = λ e. absurd (omega (arith, e, is));
        home = same_home before after home seen same.shelf;
      }
