-- What the steps of a watch over an open store do.
use Rattle.std.specs.Prelude.{◌≡◌, ℕ, ◌+◌, ◌≤◌, List, [], Option, None, Some}
use Rattle.std.specs.Io.KnownBytes.{Appends, Consumes}
use Rattle.bec_bytes.specs.Framed.{framed}
use Rattle.bec_bytes.specs.Moved.{IfTold}
use Rattle.update_model.specs.Rule.{RuleData}
use Rattle.update_stream.specs.Steps.{Takes}
use Rattle.schema.specs.Data.{SchemaData}
use Rattle.live_view.specs.Named.{IsNamed}
use Rattle.query.specs.Queries.{FirstFault, QueryData, Reads}
use Rattle.replica.specs.Holding.{IsWhole, KeepsOn}
use Rattle.replica.specs.Replicas.{ReplicaState}
use Rattle.schema_verdict.specs.Written.{SinkState}
use Rattle.outcomes.specs.declared.refusal.Refusal.{Refusal}
use Rattle.outcomes.specs.declared.refusal.Refusal.TheVariants as refusals
use Rattle.watch_command.specs.Blocks.{block}
use Rattle.watch_command.specs.Ending.{HasCause, Streams, Writes, WritesFront}
use Rattle.watch_command.specs.Watching.{Closes, CountView, Follows, Moment, Turn}
use Rattle.watch_command.specs.declared.stop.Stop.{Stop}
use Rattle.watch_command.specs.declared.stop.Stop.TheVariants.{Refused, Unwritten}

-- a store that is open, with its view
abbrev pub moment : ReplicaState → CountView → Moment
moment replica view = record { members = replica.history.members; view = view }

-- Nothing is left.
abbrev pub IsAtEnd : List ℕ → List ℕ → Type 0
IsAtEnd bytes rest = (bytes ≡ []) × (rest ≡ [])

-- What goes on from one moment of a store and its streams to a later one.
pub record GoesOn (old new : ReplicaState) (streams streams_new : Streams) : Type 0 where
  pub keeps : KeepsOn old new
  pub log_later : old.log.faults ≤ new.log.faults
  pub source_later : streams.faults ≤ streams_new.faults
  pub sink_later : streams.sink.faults ≤ streams_new.sink.faults

-- A record was read and taken.
pub record TakesRecord (rule : RuleData) (before after : Option (List ℕ)) (members members_new : List (List ℕ)) : Type 0 where
  pub bytes : List ℕ
  pub came : Consumes before after (framed bytes)
  pub takes : Takes rule members bytes members_new None

-- A record was read and taken, and what is told of it was written.
pub record TakesTurn (count : ℕ) (old new : ReplicaState) (view view_new : CountView) (streams streams_new : Streams) : Type 0 where
  pub bytes : List ℕ
  pub text : List ℕ
  pub turn : Turn old.history.schema (count + 1) (moment old view) bytes text (moment new view_new)
  pub came : Consumes streams.left streams_new.left (framed bytes)
  pub written : Appends streams.sink.held streams_new.sink.held text
  pub whole : IsWhole old → IsWhole new
  pub on : GoesOn old new streams streams_new

-- The stream is at its end, and all else is as it was.
pub record FindsEnd (old new : ReplicaState) (view view_new : CountView) (streams streams_new : Streams) : Type 0 where
  pub end : IfTold streams.left streams_new.left IsAtEnd
  pub replica : new ≡ old
  pub view_is : view_new ≡ view
  pub sink : streams_new.sink ≡ streams.sink
  pub later : streams.faults ≤ streams_new.faults

-- Behind so many records the others are taken, to the end of the stream or to a stop, and what is told of them is written.
pub record FollowsOpen (count : ℕ) (old new : ReplicaState) (view : CountView) (streams streams_new : Streams) (stop : Option Stop) : Type 0 where
  pub text : List ℕ
  pub follows : Follows old.history.schema count (moment old view) streams.left streams_new.left text new.history.members stop
  pub written : Writes streams.sink streams_new.sink text stop
  pub cause : HasCause old.log.faults new.log.faults streams.faults streams_new.faults stop
  pub whole : stop ≡ None → IsWhole old → IsWhole new
  pub on : GoesOn old new streams streams_new

-- The block of what a view shows is written before the first record; or memory ran out before that.
abbrev pub WritesShown : CountView → SinkState → SinkState → Option Stop → Type 0
WritesShown view old new (Some (Refused why)) = (why ≡ refusals.Memory) × (new ≡ old)
WritesShown view old new other = Writes old new (block [] view.shown 0) other

-- Why the last block is not written: the sink failed, or memory ran out before.
abbrev pub StopsClosing : SchemaData → ℕ → Moment → SinkState → SinkState → Stop → Type 0
StopsClosing schema count last old new Unwritten = (text : List ℕ) × Closes schema count last text × WritesFront old new text
StopsClosing schema count last old new (Refused why) = (why ≡ refusals.Memory) × (new ≡ old)

-- Why no view is opened of the query that a text is.
abbrev pub RefusesQuery : SchemaData → List ℕ → Refusal → Type 0
RefusesQuery schema text (refusals.Query fault) = FirstFault schema text fault.kind (record { line = fault.line; column = fault.column })
RefusesQuery schema text refusals.QueryNotNamed = (query : QueryData) × Reads schema text query × (IsNamed query → ⊥)
RefusesQuery schema text refusals.Memory = Unit {0}
RefusesQuery schema text other = ⊥
