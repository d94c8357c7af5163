-- Views over lists of calls.
use Rattle.std.specs.Prelude.{◌≡◌, ℕ, Bool, List, [], ◌∷◌, Option, Some, None}
use Rattle.update_model.specs.Node.{NodeData}
use Rattle.table_model.specs.Visible.{Rules}
use Rattle.query.specs.Queries.{QueryData}
use Rattle.live_view.specs.Changes.{IsChanged, Line}
use Rattle.live_view.specs.Shown.{AreLinesOf, FlushesOn, RefreshesOn, ViewData}
use Rattle.live_view.specs.declared.change.Change.{Change}

-- a call on the tables of these updates, and what it handed out
pub data Call : Type 0 where
  refreshed : List NodeData → Option Change → Call
  flushed : List NodeData → Change → Call

-- A call, as its contract says it.
abbrev pub Calls : {G : Type 0} → (ℕ → ℕ → ℕ → Bool) → Rules → ViewData G → Call → ViewData G → Type 0
Calls wants rules old (refreshed nodes change) new = RefreshesOn wants rules nodes old change new
Calls wants rules old (flushed nodes change) new = FlushesOn rules nodes old change new

-- These calls, one after another.
abbrev pub IsRun : {G : Type 0} → (ℕ → ℕ → ℕ → Bool) → Rules → ViewData G → List Call → ViewData G → Type 0
IsRun wants rules first [] last = last ≡ first
IsRun wants rules first (call ∷ calls) last = (next : ViewData _) × Calls wants rules first call next × IsRun wants rules next calls last

-- a change that was handed out, and the updates on whose tables
abbrev pub HandedOut : Type 0
HandedOut = Change × List NodeData

-- one more in front, where there is one
abbrev pub with_change : Option Change → List NodeData → List HandedOut → List HandedOut
with_change None nodes rest = rest
with_change (Some change) nodes rest = (change, nodes) ∷ rest

-- the changes that were handed out, in order
abbrev pub handed_out : List Call → List HandedOut
handed_out [] = []
handed_out (refreshed nodes change ∷ calls) = with_change change nodes (handed_out calls)
handed_out (flushed nodes change ∷ calls) = (change, nodes) ∷ handed_out calls

-- What is shown, changed by each of these changes in order, comes to this; and each of them makes the answer from scratch.
abbrev pub Comes : Rules → QueryData → List Line → List HandedOut → List Line → Type 0
Comes rules query shown [] last = last ≡ shown
Comes rules query shown (change ∷ changes) last =
    (lines : List Line) × AreLinesOf rules change.1 query lines × IsChanged shown change.0 lines × Comes rules query lines changes last
