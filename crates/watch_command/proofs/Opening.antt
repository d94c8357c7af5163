-- Watching a store that is work.
use Rattle.std.proofs.Common.{◌≡◌, ◌⊎◌, inl, inr, ℕ, ◌≤◌, Bool, true, false, List, [], ◌++◌, refl, sym, subst, append-nil, arith, Option, Some, None}
use Rattle.std.specs.Option.{is_none}
use Rattle.std.specs.Io.KnownBytes.{Appends}
use Rattle.std.proofs.KnownBytes.{Appends-nil}
use Rattle.live_view.specs.Named.{IsNamed}
use Rattle.live_view.specs.declared.live_view.WatchError.{WatchError}
use Rattle.live_view.specs.declared.live_view.WatchError.TheVariants as watch_errors
use Rattle.query.specs.Queries.{QueryData, Reads}
use Rattle.schema.specs.Data.{SchemaData}
use Rattle.replica.specs.Holding.{IsWhole, KeepsOn, keeps_itself}
use Rattle.replica.specs.Replicas.{ReplicaState}
use Rattle.schema_verdict.specs.Written.{SinkState}
use Rattle.store_directory.specs.Holding.{WorksOn}
use Rattle.outcomes.specs.OpenStores.{WorksFrom, opened_store}
use Rattle.store_directory.specs.Standing.{Stands}
use Rattle.outcomes.specs.declared.refusal.Refusal.{Refusal}
use Rattle.outcomes.specs.declared.refusal.Refusal.TheVariants as refusals
use Rattle.watch_command.specs.Blocks.{block}
use Rattle.watch_command.specs.Ending.{HasCause, Streams, Writes}
use Rattle.watch_command.specs.Refusals.{not_watched}
use Rattle.watch_command.specs.Runs.{IsOpeningFault, OpenAnswer, WatchesOpen, lacks_memory, no_query, not_named, refused, watched}
use Rattle.watch_command.specs.Steps.{FollowsOpen, RefusesQuery, WritesShown, moment}
use Rattle.watch_command.specs.Watching.{CountView, Follows, Opens, WatchData}
use Rattle.watch_command.specs.declared.stop.Stop.{Stop}
use Rattle.watch_command.specs.declared.stop.Stop.TheVariants.{Refused, Unwritten}
use Rattle.watch_command.proofs.Stopping.{alone, unread}
use Rattle.watch_command.proofs.Writing.{writes_then}

-- no view is opened of a query
pub not_opened : (schema : SchemaData) (text : List ℕ) (query : QueryData) (error : WatchError) → Reads schema text query → (error ≡ watch_errors.NotNamed → IsNamed query → ⊥)
    → RefusesQuery schema text (not_watched error)
not_opened schema text query watch_errors.NotNamed reads unnamed = (query, reads, unnamed refl)
not_opened schema text query watch_errors.Memory reads unnamed = tt

-- a store that is as it was
keeps_none : (old : ReplicaState) → KeepsOn old old
keeps_none old = record { added = []; members = sym (append-nil old.history.members); store = (keeps_itself old).store; disk = (keeps_itself old).disk }

-- what goes on from a store that is open
works_from : (old new : ReplicaState) (done : Bool) → Stands old → Stands new → (keeps : KeepsOn old new) → (done ≡ true → IsWhole old → IsWhole new) → WorksFrom old new keeps.added done
works_from old new done stands stands_new keeps whole = λ was taken same.
    subst (λ (r : ReplicaState). WorksOn (record { schema = taken.schema; schema_faults = taken.schema_faults; replica = r }) new keeps.added done) (sym same)
    (record {
      schema = keeps.store.schema;
      members = keeps.members;
      closed = stands_new.history_is.members;
      any_moment = (keeps.disk stands.on_disk).any_moment;
      on_disk = stands_new.on_disk;
      log = λ is_done. stands_new.log_is;
      clean = λ is_done. whole is_done was;
    })

module _ (Unused : Type 0) (watch : WatchData) (old : ReplicaState) (streams : Streams) (stands : Stands old) where
  nothing : (why : Refusal) → OpenAnswer Unused watch (opened_store old) streams.left streams.left [] [] (Some (Refused why)) ⊎ IsOpeningFault [] [] (Some (Refused why))
      → HasCause old.log.faults old.log.faults streams.faults streams.faults (Some (Refused why)) → WatchesOpen Unused watch old old streams streams (Some (Refused why))
  unfolding keeps_none
  nothing why comes cause = record {
    added = [];
    text = [];
    comes = comes;
    cause = cause;
    written = Appends-nil streams.sink.held;
    works = works_from old old false stands stands (keeps_none old) (λ is_done was. was);
    log_later = omega arith;
    sink_later = omega arith;
  }

  -- no view of the query was opened
  pub query_refused : (why : Refusal) → Unused → RefusesQuery old.history.schema watch.text why → WatchesOpen Unused watch old old streams streams (Some (Refused why))
  query_refused (refusals.Query fault) unused first = nothing (refusals.Query fault) (inl (refused (refusals.Query fault) (no_query fault first refl) (record { unused = unused; none_added = refl; none_told = refl; is = refl }))) tt
  query_refused refusals.QueryNotNamed unused other = nothing refusals.QueryNotNamed (inl (refused refusals.QueryNotNamed (not_named other.0 other.1 other.2 refl) (record { unused = unused; none_added = refl; none_told = refl; is = refl }))) tt
  query_refused refusals.Memory unused lacks = nothing refusals.Memory (inr (lacks_memory refl refl refl)) tt
  query_refused why unused never = absurd never

  module _ (view : CountView) (opens : Opens old.history.schema old.history.members watch view) where
    watched_as : (added : List (List ℕ)) (after : Option (List ℕ)) (told : List ℕ) (members : List (List ℕ)) (stop : Option Stop) → members ≡ old.history.members ++ added
        → Follows old.history.schema 0 (moment old view) streams.left after told members stop
        → OpenAnswer Unused watch (opened_store old) streams.left after added (block [] view.shown 0 ++ told) stop
    watched_as added after told members stop behind follows = watched (record {
      view = view;
      opens = opens;
      told = told;
      follows = subst (λ (l : List (List ℕ)). Follows old.history.schema 0 (moment old view) streams.left after told l stop) behind follows;
      all = refl;
    })

    -- the first block was not written
    pub not_shown : (sink : SinkState) (stop : Stop) → WritesShown view streams.sink sink (Some stop) → streams.sink.faults ≤ sink.faults
        → WatchesOpen Unused watch old old streams (record { left = streams.left; faults = streams.faults; sink = sink }) (Some stop)
    unfolding keeps_none
    not_shown sink (Refused why) lacks later =
        subst (λ (w : Refusal). WatchesOpen Unused watch old old streams (record { left = streams.left; faults = streams.faults; sink = sink }) (Some (Refused w))) (sym lacks.0)
        (subst (λ (s : SinkState). WatchesOpen Unused watch old old streams (record { left = streams.left; faults = streams.faults; sink = s }) (Some (Refused refusals.Memory))) (sym lacks.1)
        (nothing refusals.Memory (inr (lacks_memory refl refl refl)) tt))
    not_shown sink Unwritten failed later = record {
      added = [];
      text = block [] view.shown 0 ++ [];
      comes = inl (watched_as [] streams.left [] old.history.members (Some Unwritten) (sym (append-nil old.history.members))
          (alone old.history.schema 0 (moment old view) streams.left streams.left [] old.history.members (Some Unwritten) (omega arith) (inl refl, refl)
          (unread streams.left (λ bytes rest. rest ≡ bytes) (λ bytes. refl))));
      cause = tt;
      written = subst (λ (t : List ℕ). Writes streams.sink sink t (Some Unwritten)) (sym (append-nil (block [] view.shown 0))) failed;
      works = works_from old old false stands stands (keeps_none old) (λ is_done was. was);
      log_later = omega arith;
      sink_later = later;
    }

    whole_done : (new : ReplicaState) (stop : Option Stop) → (stop ≡ None → IsWhole old → IsWhole new) → is_none stop ≡ true → IsWhole old → IsWhole new
    whole_done new None whole is_done = whole refl
    whole_done new (Some stop) whole is_done = absurd cc

    -- it was, and the records follow
    pub shown : (new : ReplicaState) (sink : SinkState) (after : Streams) (stop : Option Stop) → Stands new → Appends streams.sink.held sink.held (block [] view.shown 0)
        → streams.sink.faults ≤ sink.faults → FollowsOpen 0 old new view (record { left = streams.left; faults = streams.faults; sink = sink }) after stop
        → WatchesOpen Unused watch old new streams after stop
    shown new sink after stop stands_new written later work =
        let more = work.on.sink_later in
        record {
          added = work.on.keeps.added;
          text = block [] view.shown 0 ++ work.text;
          comes = inl (watched_as work.on.keeps.added after.left work.text new.history.members stop work.on.keeps.members work.follows);
          cause = work.cause;
          written = writes_then streams.sink sink after.sink (block [] view.shown 0) written later work.text stop work.written;
          works = works_from old new (is_none stop) stands stands_new work.on.keeps (whole_done new stop work.whole);
          log_later = work.on.log_later;
          sink_later = omega (arith, later, more);
        }
