-- What `watch` comes to over a directory, what it prints, and what it leaves.
use Rattle.std.specs.Prelude.{◌≡◌, ◌⊎◌, ℕ, ◌≤◌, List, [], ◌∷◌, ◌++◌, IsTrue, Option, Some}
use Rattle.std.specs.Option.{is_none}
use Rattle.row_check.specs.Checksum.{is_luhn}
use Rattle.bec_disk.specs.declared.part.Part.TheVariants.{Schema, Updates}
use Rattle.bec_disk.specs.Shelf.{ShelfState}
use Rattle.live_view.specs.Named.{IsNamed}
use Rattle.query.specs.Queries.{FirstFault, QueryData, Reads}
use Rattle.query.specs.declared.fault.QueryFault.{QueryFault}
use Rattle.schema.specs.Data.{SchemaData}
use Rattle.replica.specs.Replicas.{ReplicaState}
use Rattle.key_directory.specs.Parts.{IsHome, KeepsAllBut}
use Rattle.store_directory.specs.Stores.{StoreData, StoreRun}
use Rattle.outcomes.specs.Comes.{readings}
use Rattle.outcomes.specs.OpenStores.{WorksFrom, opened_store}
use Rattle.outcomes.specs.StoreAnswers.{HasStore, Readings, RefusesStore}
use Rattle.outcomes.specs.declared.refusal.Refusal.{Refusal}
use Rattle.outcomes.specs.declared.refusal.Refusal.TheVariants.{Memory, Query, QueryNotNamed, StoreFault}
use Rattle.watch_command.specs.Ending.{HasCause, Says, Streams, Writes}
use Rattle.watch_command.specs.Watching.{WatchData, Watches}
use Rattle.watch_command.specs.declared.stop.Stop.{Stop}
use Rattle.watch_command.specs.declared.stop.Stop.TheVariants.{Refused}

-- It stopped for this refusal before anything was told, added or read.
pub record IsRefused (Unused : Type 0) (refusal : Refusal) (added : List (List ℕ)) (text : List ℕ) (stop : Option Stop) : Type 0 where
  pub unused : Unused
  pub none_added : added ≡ []
  pub none_told : text ≡ []
  pub is : stop ≡ Some (Refused refusal)

-- Why a text is not watched: it is no query over these tables, or one that is not named.
pub data RefusesText (schema : SchemaData) (text : List ℕ) (refusal : Refusal) : Type 0 where
  no_query : (fault : QueryFault) → FirstFault schema text fault.kind (record { line = fault.line; column = fault.column }) → refusal ≡ Query fault → RefusesText schema text refusal
  not_named : (query : QueryData) → Reads schema text query → (IsNamed query → ⊥) → refusal ≡ QueryNotNamed → RefusesText schema text refusal

-- Why nothing is watched of a directory whose parts read so: its store is refused, or the text is.
pub data RefusesWatch (text : List ℕ) (parts : Readings) (refusal : Refusal) : Type 0 where
  by_store : RefusesStore parts refusal → RefusesWatch text parts refusal
  by_text : (store : StoreData) → HasStore parts store → RefusesText store.schema text refusal → RefusesWatch text parts refusal

-- What is answered over an open store, to what the source has left before and after: the text is refused, or it is watched.
pub data OpenAnswer (Unused : Type 0) (watch : WatchData) (store : StoreData) (before after : Option (List ℕ)) (added : List (List ℕ)) (text : List ℕ) (stop : Option Stop) : Type 0 where
  refused : (refusal : Refusal) → RefusesText store.schema watch.text refusal → IsRefused Unused refusal added text stop → OpenAnswer Unused watch store before after added text stop
  watched : Watches store watch before after text (store.members ++ added) stop → OpenAnswer Unused watch store before after added text stop

-- What is answered by what the parts of a directory read as: its store is refused, or it is watched.
pub data WatchAnswer (Unused : Type 0) (watch : WatchData) (parts : Readings) (before after : Option (List ℕ)) (added : List (List ℕ)) (text : List ℕ) (stop : Option Stop) : Type 0 where
  without_store : (refusal : Refusal) → RefusesStore parts refusal → IsRefused Unused refusal added text stop → WatchAnswer Unused watch parts before after added text stop
  with_store : (store : StoreData) → HasStore parts store → OpenAnswer Unused watch store before after added text stop → WatchAnswer Unused watch parts before after added text stop

-- Before anything was told memory ran out, or the shelf failed.
pub data IsOpeningFault (added : List (List ℕ)) (text : List ℕ) (stop : Option Stop) : Type 0 where
  lacks_memory : added ≡ [] → text ≡ [] → stop ≡ Some (Refused Memory) → IsOpeningFault added text stop
  store_failed : added ≡ [] → text ≡ [] → stop ≡ Some (Refused StoreFault) → IsOpeningFault added text stop

-- A watch over the store of a directory. Where the shelf tells what it has, the answer is that to what the parts read as. These updates were added to
-- the list of the store, and these blocks told, in whatever way it ends. Where anything refuses it, that is what it stopped for, unless memory ran out or
-- the shelf failed. No part but these is touched, and every part is put back.
pub record WatchesIn (Unused : Type 0) (watch : WatchData) (dir : List ℕ) (before after : ShelfState) (faults faults_new : ℕ) (old new : Streams) (status : ℕ) : Type 0 where
  pub added : List (List ℕ)
  pub text : List ℕ
  pub stop : Option Stop
  pub comes : (IsTrue before.tells → WatchAnswer Unused watch (readings before dir) old.left new.left added text stop) ⊎ IsOpeningFault added text stop
  pub cause : HasCause faults faults_new old.faults new.faults stop
  pub only : IsTrue before.tells → (refusal : Refusal) → RefusesWatch watch.text (readings before dir) refusal → (stop ≡ Some (Refused refusal)) ⊎ IsOpeningFault added text stop
  pub said : Says old.sink new.sink text stop status
  pub run : IsTrue before.tells → StoreRun is_luhn before after dir added (is_none stop)
  pub others : IsTrue before.tells → KeepsAllBut (Schema ∷ Updates ∷ []) dir before after
  pub home : IsTrue before.tells → IsHome after

-- The same up to its end, whose lines are not written.
pub record WatchesShelf (Unused : Type 0) (watch : WatchData) (dir : List ℕ) (before after : ShelfState) (faults faults_new : ℕ) (old new : Streams) (stop : Option Stop) : Type 0 where
  pub added : List (List ℕ)
  pub text : List ℕ
  pub comes : (IsTrue before.tells → WatchAnswer Unused watch (readings before dir) old.left new.left added text stop) ⊎ IsOpeningFault added text stop
  pub cause : HasCause faults faults_new old.faults new.faults stop
  pub written : Writes old.sink new.sink text stop
  pub run : IsTrue before.tells → StoreRun is_luhn before after dir added (is_none stop)
  pub others : IsTrue before.tells → KeepsAllBut (Schema ∷ Updates ∷ []) dir before after
  pub home : IsTrue before.tells → IsHome after
  pub sink_later : old.sink.faults ≤ new.sink.faults

-- ---- the same of what is open

-- A watch over a store that is open.
pub record WatchesOpen (Unused : Type 0) (watch : WatchData) (old new : ReplicaState) (streams streams_new : Streams) (stop : Option Stop) : Type 0 where
  pub added : List (List ℕ)
  pub text : List ℕ
  pub comes : OpenAnswer Unused watch (opened_store old) streams.left streams_new.left added text stop ⊎ IsOpeningFault added text stop
  pub cause : HasCause old.log.faults new.log.faults streams.faults streams_new.faults stop
  pub written : Writes streams.sink streams_new.sink text stop
  pub works : WorksFrom old new added (is_none stop)
  pub log_later : old.log.faults ≤ new.log.faults
  pub sink_later : streams.sink.faults ≤ streams_new.sink.faults
