-- What is told of a query over an open store, into which the records of a stream are taken one by one.
use Rattle.std.specs.Prelude.{◌≡◌, ◌⊎◌, ℕ, ◌+◌, ◌≤◌, List, [], ◌∷◌, ◌++◌, length, Option, None, Some}
use Rattle.bec_bytes.specs.Framed.{stream_of}
use Rattle.bec_bytes.specs.Moved.{IfTold}
use Rattle.update_stream.specs.Steps.{Takes}
use Rattle.update_stream.specs.declared.stream.TheConstants.{MAX_RECORDS}
use Rattle.schema.specs.Data.{SchemaData}
use Rattle.live_view.specs.Named.{IsNamed}
use Rattle.query.specs.Queries.{Reads}
use Rattle.live_view.specs.Shown.{AreLinesOf, FlushesOn, RefreshesOn, ViewData}
use Rattle.live_view.specs.Wishes.{is_at_least}
use Rattle.live_view.specs.declared.change.Change.{Change}
use Rattle.live_view.specs.declared.wish.AtLeast.{AtLeast}
use Rattle.store_directory.specs.Stores.{StoreData}
use Rattle.outcomes.specs.Rules.{nodes_of, rules_of}
use Rattle.outcomes.specs.declared.refusal.Refusal.{Refusal}
use Rattle.outcomes.specs.declared.refusal.Refusal.TheVariants as refusals
use Rattle.watch_command.specs.Blocks.{block, closing_block, told_block}
use Rattle.watch_command.specs.Ending.{Leaves, MayStop}
use Rattle.watch_command.specs.declared.stop.Stop.{Stop}
use Rattle.watch_command.specs.declared.stop.Stop.TheVariants.{Refused, Unwritten}

-- what is watched: the text of a query, and how many lines a change has at least that is told
pub record WatchData : Type 0 where
  pub text : List ℕ
  pub every : ℕ

-- a view whose subscriber wants changes of so many lines at least
abbrev pub CountView : Type 0
CountView = ViewData AtLeast

-- a store while it is watched: its updates in the order of arrival, and the view of them
pub record Moment : Type 0 where
  pub members : List (List ℕ)
  pub view : CountView

-- The view shows the answer of the query that the text is, which is named, over a store with these members.
pub record Opens (schema : SchemaData) (members : List (List ℕ)) (watch : WatchData) (view : CountView) : Type 0 where
  pub reads : Reads schema watch.text view.query
  pub named : IsNamed view.query
  pub every : view.when.param ≡ watch.every
  pub shown : AreLinesOf (rules_of schema) (nodes_of members) view.query view.shown

-- A record is taken into the store, as the one with this number: it is there already, or stands last from now on. Then the view is refreshed, and the
-- block of the change that is handed out is told.
pub record Turn (schema : SchemaData) (number : ℕ) (old : Moment) (bytes text : List ℕ) (new : Moment) : Type 0 where
  pub takes : Takes schema.rule old.members bytes new.members None
  pub change : Option Change
  pub refreshes : RefreshesOn is_at_least (rules_of schema) (nodes_of new.members) old.view change new.view
  pub told : text ≡ told_block change number

-- These records are taken one after another, behind so many, and these blocks are told.
abbrev pub Turns : SchemaData → ℕ → Moment → List (List ℕ) → List ℕ → Moment → Type 0
Turns schema count old [] text new = (text ≡ []) × (new ≡ old)
Turns schema count old (bytes ∷ records) text new = (mid : Moment) × (front : List ℕ) × (rest : List ℕ)
    × Turn schema (count + 1) old bytes front mid × Turns schema (count + 1) mid records rest new × (text ≡ front ++ rest)

-- Behind so many records the view is flushed, and the block of its change is told, unless that is empty.
pub record Closes (schema : SchemaData) (count : ℕ) (last : Moment) (text : List ℕ) : Type 0 where
  pub change : Change
  pub view : CountView
  pub flushes : FlushesOn (rules_of schema) (nodes_of last.members) last.view change view
  pub told : text ≡ closing_block change.went change.came count

-- Which updates the store has where it stopped for a refusal: where memory ran out, one more record may have been taken.
abbrev pub HasMembers : SchemaData → List (List ℕ) → Refusal → List (List ℕ) → Type 0
HasMembers schema last refusals.Memory members = (members ≡ last) ⊎ ((bytes : List ℕ) × Takes schema.rule last bytes members None)
HasMembers schema last other members = members ≡ last

-- What is told behind the records, and which updates the store has at the end.
abbrev pub Ends : SchemaData → ℕ → Moment → Option Stop → List ℕ → List (List ℕ) → Type 0
Ends schema count last None text members = Closes schema count last text × (members ≡ last.members)
Ends schema count last (Some Unwritten) text members = ((text ≡ []) ⊎ Closes schema count last text) × (members ≡ last.members)
Ends schema count last (Some (Refused why)) text members = (text ≡ []) × HasMembers schema last.members why members × MayStop why

-- Behind so many records those of the stream are taken into the store one by one: what is told of them, and why no further one is taken. The store has
-- these updates at the end.
pub record Follows (schema : SchemaData) (count : ℕ) (first : Moment) (before after : Option (List ℕ)) (text : List ℕ) (members : List (List ℕ)) (stop : Option Stop) : Type 0 where
  pub records : List (List ℕ)
  pub told : List ℕ
  pub last : Moment
  pub closing : List ℕ
  pub few : count + length records ≤ MAX_RECORDS
  pub turns : Turns schema count first records told last
  pub ends : Ends schema (count + length records) last stop closing members
  pub all : text ≡ told ++ closing
  pub read : IfTold before after
      (λ input rest. (bytes : List ℕ) × (input ≡ stream_of records ++ bytes) × Leaves schema.rule last.members (count + length records) stop bytes rest)

-- The answer of the query is shown in a block of its own; then the records are taken, to the end of the stream or to a stop.
pub record Watches (store : StoreData) (watch : WatchData) (before after : Option (List ℕ)) (text : List ℕ) (members : List (List ℕ)) (stop : Option Stop) : Type 0 where
  pub view : CountView
  pub opens : Opens store.schema store.members watch view
  pub told : List ℕ
  pub follows : Follows store.schema 0 (record { members = store.members; view = view }) before after told members stop
  pub all : text ≡ block [] view.shown 0 ++ told
