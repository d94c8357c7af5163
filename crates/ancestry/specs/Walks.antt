-- Ancestors by positions. A graph is here, for each member in arrival order, the list of the positions that it names.
use Rattle.std.specs.Prelude.{◌<◌, ◌||◌, ◌==◌, ℕ, zero, suc, Bool, false, All, List, [], slice_get, unwrap_or}
use Rattle.std.specs.List.{list_any}

-- the positions that a member names as direct predecessors; where there is no member, none
abbrev pub preds_at : List (List ℕ) → ℕ → List ℕ
preds_at graph b = unwrap_or (slice_get graph b) []

-- Each member names only positions below its own.
abbrev pub AreLower : List (List ℕ) → Type 0
AreLower graph = (b : ℕ) → All (λ p. p < b) (preds_at graph b)

-- whether predecessors lead from the second position to the first, in at least one step and at most so many
unfoldable pub leads_in : List (List ℕ) → ℕ → ℕ → ℕ → Bool
leads_in graph zero a b = false
leads_in graph (suc n) a b = list_any (λ p. (p == a) || leads_in graph n a p) (preds_at graph b)

-- whether `a` is a proper ancestor of `b`: since predecessors stand lower, no way down from `b` has more steps than b
abbrev pub is_ancestor : List (List ℕ) → ℕ → ℕ → Bool
is_ancestor graph a b = leads_in graph (suc b) a b
