-- What a run of the program does.
use Rattle.std.specs.Prelude.{◌≡◌, ℕ, ◌≤◌, List, length, map, IfSome, IsTrue, Err, String, slice_get, Some, None, ◌≢◌, ◌⊎◌}
use Rattle.std.specs.declared.alloc.Global.{Global}
use Rattle.std.specs.declared.option.Option.{Option}
use Rattle.std.specs.String.{string_bytes}
use Rattle.bec_bytes.specs.Causes.{Rose}
use Rattle.bec_disk.specs.Shelf.{ShelfState}
use Rattle.update_model.specs.declared.limits.TheConstants.{MAX_NOTE}
use Rattle.command_words.specs.Requests.{Asks, RequestText, heads, check, dump, init, keygen, apply, join, export, query, merge, notes}
use Rattle.outcomes.specs.declared.refusal.Refusal.TheVariants.{Memory, Words}
use Rattle.node_commands.specs.Bundle.{DumpAnswer}
use Rattle.outcomes.specs.Comes.{ReadsStoreOnly, readings, ReadsSource}
use Rattle.node_commands.specs.Creating.{DrawsKeyOnly, InitAnswer, Inits, KeygenAnswer}
use Rattle.node_commands.specs.Heads.{HeadsAnswer}
use Rattle.node_commands.specs.Merging.{IsSureOfMerge, Merges}
use Rattle.outcomes.specs.Outcome.{Outcome, Says}
use Rattle.outcomes.specs.Outside.{IsUntouched, Outside}
use Rattle.key_directory.specs.Parts.{IsHome}
use Rattle.schema_verdict.specs.Written.{SinkState}
use Rattle.schema_verdict.specs.declared.status.TheConstants.{STORE_FAULT, STREAM_FAULT}
use Rattle.node_commands.specs.Signing.{Applies, IsSureOfApply, JoinAnswer, JoinsHeads, SignAnswer, StoreAnswer}
use Rattle.node_commands.specs.Asking.{QueryAnswer}
use Rattle.outcomes.specs.StoreAnswers.{Readings, Printing, ReadsStore}
use Rattle.node_commands.specs.Shows.{ShowsHeads, ShowsNotes, ShowsRecords, ShowsTables}
use Rattle.node_commands.specs.Verdict.{CheckAnswer}
use Rattle.outcomes.specs.Only.{EachAs, SourceOnly, ShelfOnly}
use Rattle.bec_node.specs.Own.{EndsAs}

-- the words ask for this
abbrev pub IsCommand : RequestText → List (String Global) → Type 0
IsCommand request words = Asks (map string_bytes words) request

-- the words are no command
abbrev pub IsNoCommand : List (String Global) → Type 0
IsNoCommand words = (request : RequestText) → IsCommand request words → ⊥

-- the first word is this one
abbrev pub HasFirstWord : List ℕ → List (String Global) → Type 0
HasFirstWord word words = slice_get (map string_bytes words) 0 ≡ Some word

-- What a request comes to.
abbrev pub Comes : {S H R : Type 0} → RequestText → Outside S H R → Outside S H R → Outcome → Type 0
Comes (heads None) before after outcome = ReadsSource HeadsAnswer before after outcome
Comes (heads (Some dir)) before after outcome = ReadsStoreOnly (ReadsStore (Printing ShowsHeads)) dir before after outcome
Comes check before after outcome = ReadsSource CheckAnswer before after outcome
Comes (dump None json) before after outcome = ReadsSource (DumpAnswer json) before after outcome
Comes (dump (Some dir) json) before after outcome = ReadsStoreOnly (ReadsStore (Printing (ShowsTables json))) dir before after outcome
Comes (init dir) before after outcome = Inits dir before after outcome
Comes (keygen dir lms ots) before after outcome = DrawsKeyOnly lms ots dir before after outcome
Comes (apply dir note) before after outcome = Applies dir note before after outcome
Comes (join dir) before after outcome = JoinsHeads dir before after outcome
Comes (export dir updates_only) before after outcome = ReadsStoreOnly (ReadsStore (Printing (ShowsRecords updates_only))) dir before after outcome
Comes (query dir text json) before after outcome = ReadsStoreOnly (ReadsStore (QueryAnswer text json)) dir before after outcome
Comes (merge first second) before after outcome = Merges first second before after outcome
Comes (notes dir) before after outcome = ReadsStoreOnly (ReadsStore (Printing ShowsNotes)) dir before after outcome

-- Words that ask for something come to what that comes to; other words leave all as it was; and so does want of memory for reading the words.
pub data AsksFor {S H R : Type 0} (words : List (String Global)) (before after : Outside S H R) (outcome : Outcome) : Type 0 where
  named : (request : RequestText) → IsCommand request words → Comes request before after outcome → AsksFor words before after outcome
  none : IsNoCommand words → IsUntouched before after → outcome ≡ Err Words → AsksFor words before after outcome
  unread : IsUntouched before after → outcome ≡ Err Memory → AsksFor words before after outcome

-- Each answer of a command that makes an update comes with its status, whether what it leaves unused was used or not.
abbrev pub SignOnly : SignAnswer → List ℕ → ShelfState → ℕ → Type 0
SignOnly Answer dir shelf status = ShelfOnly (StoreAnswer (Unit {0}) Answer) dir shelf status

-- Each answer that a request has to what stands outside comes with its status, unless a disk or a stream failed or memory ran out. Of
-- `apply` it is each refusal that comes before the operations are judged, and every answer where none is that they are invalid; of `merge` each refusal of
-- a store, and that it is done where nothing stands in the way.
abbrev pub AnswersOnly : {S H R : Type 0} → RequestText → Outside S H R → ℕ → Type 0
AnswersOnly (heads None) before status = SourceOnly HeadsAnswer before.left status
AnswersOnly (heads (Some dir)) before status = ShelfOnly (ReadsStore (Printing ShowsHeads)) dir before.store status
AnswersOnly check before status = SourceOnly CheckAnswer before.left status
AnswersOnly (dump None json) before status = SourceOnly (DumpAnswer json) before.left status
AnswersOnly (dump (Some dir) json) before status = ShelfOnly (ReadsStore (Printing (ShowsTables json))) dir before.store status
AnswersOnly (init dir) before status =
    IsTrue before.store.tells → IfSome before.left (λ input. (after : Option (List ℕ)) (later : Readings) → EachAs (InitAnswer (Some input) after before.stream (readings before.store dir) later) status)
AnswersOnly (keygen dir lms ots) before status =
    IsTrue before.store.tells → (later : Readings) → EachAs (KeygenAnswer lms ots before.stream (readings before.store dir) later) status
AnswersOnly (apply dir note) before status = IsTrue before.store.tells → IfSome before.left (λ input. EachAs (IsSureOfApply note input before.stream (readings before.store dir)) status)
AnswersOnly (join dir) before status = SignOnly (JoinAnswer before.stream) dir before.store status
AnswersOnly (export dir updates_only) before status = ShelfOnly (ReadsStore (Printing (ShowsRecords updates_only))) dir before.store status
AnswersOnly (query dir text json) before status = ShelfOnly (ReadsStore (QueryAnswer text json)) dir before.store status
AnswersOnly (merge first second) before status = IsTrue before.store.tells → EachAs (IsSureOfMerge (readings before.store first) (readings before.store second)) status
AnswersOnly (notes dir) before status = ShelfOnly (ReadsStore (Printing ShowsNotes)) dir before.store status

-- A run of the program: the words and what stands outside ask for an outcome, the sink is told it, and the status is its own. Whether the shelf tells what it has or not, what
-- is asked for is done or refused for a reason of its own, or a fault came in its place; a store fault is told only where the shelf counted one, and a stream fault only
-- where the source or the sink did. No part of the shelf is handed out afterwards.
pub record Runs {S H R : Type 0} (words : List (String Global)) (before after : Outside S H R) (sink sink_new : SinkState) (status : ℕ) : Type 0 where
  pub outcome : Outcome
  pub asked : AsksFor words before after outcome
  pub said : Says sink.faults sink_new.faults sink.held sink_new.held outcome status
  pub only : (request : RequestText) → IsCommand request words → AnswersOnly request before status
  pub ends : (request : RequestText) → IsCommand request words → EndsAs request before after outcome
  pub store_fault : status ≡ STORE_FAULT → Rose before.shelf_faults after.shelf_faults
  pub stream_fault : status ≡ STREAM_FAULT → Rose before.source_faults after.source_faults ⊎ Rose sink.faults sink_new.faults
  pub home : IsTrue before.store.tells → IsHome after.store

-- Where a request names two directories, it names them by two words.
abbrev pub NamesApart : RequestText → Type 0
NamesApart (merge first second) = first ≢ second
NamesApart request = Unit {0}

-- Where a request gives a note, it is a short one.
abbrev pub HasShortNote : RequestText → Type 0
HasShortNote (apply dir note) = IfSome note (λ text. length text ≤ MAX_NOTE)
HasShortNote request = Unit {0}
