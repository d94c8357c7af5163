-- What went and what came between two answers.
use Rattle.std.specs.Prelude.{◌≡◌, ◌⊎◌, ◌↔◌, List, [], ◌∷◌}
use Rattle.std.specs.List.{Contains}
use Rattle.update_model.specs.declared.value.Value.{Value}
use Rattle.live_view.specs.Named.{RiseByName}
use Rattle.live_view.specs.declared.change.Change.{Change}

-- a line of an answer: the values of a row
abbrev pub Line : Type 0
Line = List Value

-- These are those of the lines, in their order, that are not among the others.
abbrev pub AreMissing : List Line → List Line → List Line → Type 0
AreMissing others [] missing = missing ≡ []
AreMissing others (line ∷ lines) missing =
    ((Contains others line → ⊥) × ((rest : List Line) × (missing ≡ line ∷ rest) × AreMissing others lines rest))
    ⊎ (Contains others line × AreMissing others lines missing)

-- What went are the lines of the first list that are not in the second, and what came those of the second that are not in the first.
pub record IsChange (before after : List Line) (change : Change) : Type 0 where
  pub went : AreMissing after before change.went
  pub came : AreMissing before after change.came

-- The list that a change makes of another: in rising order, the lines that did not go, and those that came.
pub record IsChanged (before : List Line) (change : Change) (after : List Line) : Type 0 where
  pub rising : RiseByName after
  pub lines : (line : Line) → Contains after line ↔ ((Contains before line × (Contains change.went line → ⊥)) ⊎ Contains change.came line)
