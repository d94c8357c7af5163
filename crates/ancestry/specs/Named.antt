-- Who names a member: the lists that lead up from it.
use Rattle.std.specs.Prelude.{◌≡◌, ◌<◌, ◌==◌, ℕ, Bool, true, List, [], length, slice_index_or}
use Rattle.std.specs.List.{list_any}
use Rattle.ancestry.specs.Walks.{preds_at}

-- whether a position stands in the list of a member
abbrev pub is_noted : List (List ℕ) → ℕ → ℕ → Bool
is_noted namers p q = list_any (λ s. s == q) (slice_index_or namers p [])

-- whether a member is named by another one
abbrev pub names : List (List ℕ) → ℕ → ℕ → Bool
names graph q p = list_any (λ k. k == p) (preds_at graph q)

-- Each member has a list, in which stands everyone that names it.
pub record AreNamers (graph : List (List ℕ)) (namers : List (List ℕ)) : Type 0 where
  pub long : length namers ≡ length graph
  pub all : (p q : ℕ) → p < length graph → names graph q p ≡ true → is_noted namers p q ≡ true
