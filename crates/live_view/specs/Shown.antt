-- What a view shows, and what its calls hand out.
use Rattle.std.specs.Prelude.{◌≡◌, ◌≢◌, ◌⊎◌, ℕ, Bool, true, List, length, Option, Some, None}
use Rattle.update_model.specs.Node.{NodeData}
use Rattle.table_model.specs.Visible.{Rules}
use Rattle.live_view.specs.Named.{IsNamed}
use Rattle.query.specs.Queries.{QueryData}
use Rattle.query_answer.specs.Answers.{AnswerData, IsAnswerOver}
use Rattle.live_view.specs.Named.{RiseByName}
use Rattle.live_view.specs.Changes.{IsChange, Line}
use Rattle.live_view.specs.Wishes.{WhenData}
use Rattle.live_view.specs.declared.change.Change.{Change}

-- a query, when a change of its answer is wanted, and which lines are shown
pub record ViewData (G : Type 0) : Type 0 where
  pub query : QueryData
  pub when : WhenData G
  pub shown : List Line

-- The query begins with the name of the row, and the lines that are shown rise by it.
pub record IsView {G : Type 0} (view : ViewData G) : Type 0 where
  pub named : IsNamed view.query
  pub rising : RiseByName view.shown

-- the view with these lines in place of what it shows
abbrev pub showing : {G : Type 0} → ViewData G → List Line → ViewData G
showing view lines = record { query = view.query; when = view.when; shown = lines }

-- These are the lines of the answer of a query over what a closed list shows.
abbrev pub AreLinesOf : Rules → List NodeData → QueryData → List Line → Type 0
AreLinesOf rules nodes query lines = (answer : AnswerData) × IsAnswerOver rules nodes query answer × (answer.rows ≡ lines)

-- The change is wanted, by the counts of its lines.
abbrev pub IsWanted : (ℕ → ℕ → ℕ → Bool) → ℕ → Change → Type 0
IsWanted wants param change = wants param (length change.went) (length change.came) ≡ true

-- Nothing is handed out exactly where the answer is what is shown or its change is not wanted. Else the change is, and the answer is shown.
abbrev pub Refreshes : {G : Type 0} → (ℕ → ℕ → ℕ → Bool) → ViewData G → List Line → Option Change → ViewData G → Type 0
Refreshes wants old lines None new =
    (new ≡ old) × ((lines ≡ old.shown) ⊎ ((change : Change) → IsChange old.shown lines change → IsWanted wants old.when.param change → ⊥))
Refreshes wants old lines (Some change) new =
    (new ≡ showing old lines) × (lines ≢ old.shown) × IsChange old.shown lines change × IsWanted wants old.when.param change

-- The change is handed out, which may be empty, and the answer is shown.
pub record Flushes {G : Type 0} (old : ViewData G) (lines : List Line) (change : Change) (new : ViewData G) : Type 0 where
  pub is : IsChange old.shown lines change
  pub shows : new ≡ showing old lines

-- What a refresh on the tables of a closed list hands out and leaves shown.
abbrev pub RefreshesOn : {G : Type 0} → (ℕ → ℕ → ℕ → Bool) → Rules → List NodeData → ViewData G → Option Change → ViewData G → Type 0
RefreshesOn wants rules nodes old change new = (lines : List Line) × AreLinesOf rules nodes old.query lines × Refreshes wants old lines change new

-- What a flush on them hands out and leaves shown.
abbrev pub FlushesOn : {G : Type 0} → Rules → List NodeData → ViewData G → Change → ViewData G → Type 0
FlushesOn rules nodes old change new = (lines : List Line) × AreLinesOf rules nodes old.query lines × Flushes old lines change new
