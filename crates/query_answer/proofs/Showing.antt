-- The rows of table after table.
use Rattle.std.proofs.Common.{◌≡◌, ℕ, zero, suc, ◌+◌, slice_get, List, [], ◌∷◌, ◌++◌, length, refl, sym, ap, subst, ◌∙◌, length-append, Option, Some, None}
use Rattle.std.specs.Prelude.{unwrap_or}
use Rattle.std.specs.List.Sorted.{IsStrictlySortedBy}
use Rattle.update_model.specs.Node.{NodeData}
use Rattle.table_model.specs.declared.shown_row.ShownRow.{ShownRow}
use Rattle.table_model.specs.Tables.{AreRowsIn}
use Rattle.table_model.specs.Visible.{Rules}
use Rattle.query_answer.specs.Answers.{AreShown}
use Rattle.query_answer.specs.Values.{AreRising, IsRising}

-- what holds of each item holds with one more
each_push : {X : Type 0} (P : ℕ → X → Type 0) (xs : List X) (x : X) → ((i : ℕ) (y : X) → slice_get xs i ≡ Some y → P i y) → P (length xs) x
    → (i : ℕ) (y : X) → slice_get (xs ++ x ∷ []) i ≡ Some y → P i y
each_push P [] x each last zero y at = let same : x ≡ y = cc in subst (P 0) same last
each_push P [] x each last (suc i) y at = absurd cc
each_push P (z ∷ zs) x each last zero y at = each 0 y at
each_push P (z ∷ zs) x each last (suc i) y at = each_push (λ k w. P (suc k) w) zs x (λ k w e. each (suc k) w e) last i y at

pub shown_none : (rules : Rules) (nodes : List NodeData) → AreShown rules nodes 0 []
shown_none rules nodes = record { number = refl; rows = λ number rows at. absurd (none number rows at) }
  where
    none : (number : ℕ) (rows : List ShownRow) → slice_get [] number ≡ Some rows → ⊥
    none number rows at = cc

pub shown_more : (rules : Rules) (nodes : List NodeData) (count : ℕ) (lists : List (List ShownRow)) (rows : List ShownRow) → AreShown rules nodes count lists → AreRowsIn rules nodes count rows
    → AreShown rules nodes (count + 1) (lists ++ rows ∷ [])
shown_more rules nodes count lists rows shown next =
    let many = shown.number in record {
      number = length-append lists (rows ∷ []) ∙ ap (λ (n : ℕ). n + 1) many;
      rows = each_push (AreRowsIn rules nodes) lists rows shown.rows (subst (λ (n : ℕ). AreRowsIn rules nodes n rows) (sym many) next);
    }

rising_at : (rules : Rules) (nodes : List NodeData) (number : ℕ) (found : Option (List ShownRow)) → ((rows : List ShownRow) → found ≡ Some rows → AreRowsIn rules nodes number rows) → IsRising (unwrap_or found [])
unfolding IsStrictlySortedBy
rising_at rules nodes number None shown = tt
rising_at rules nodes number (Some rows) shown = (shown rows refl).rising

-- shown rows rise by their names
pub shown_rising : (rules : Rules) (nodes : List NodeData) (count : ℕ) (lists : List (List ShownRow)) → AreShown rules nodes count lists → AreRising lists
shown_rising rules nodes count lists shown = λ number. rising_at rules nodes number (slice_get lists number) (λ rows at. shown.rows number rows at)
