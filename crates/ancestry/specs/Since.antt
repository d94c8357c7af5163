-- What came since some members.
use Rattle.std.specs.Prelude.{◌==◌, ◌||◌, ◌++◌, ◌∷◌, [], ℕ, zero, suc, Bool, List, cond}
use Rattle.std.specs.List.{list_any}
use Rattle.ancestry.specs.Walks.{is_ancestor}

-- whether a member is one of these, or an ancestor of one
abbrev pub is_behind : List (List ℕ) → List ℕ → ℕ → Bool
is_behind graph old p = list_any (λ q. (q == p) || is_ancestor graph p q) old

-- the positions below a number, rising, that are neither among these nor ancestors of one
unfoldable pub since : List (List ℕ) → List ℕ → ℕ → List ℕ
since graph old zero = []
since graph old (suc n) = cond (is_behind graph old n) (since graph old n) (since graph old n ++ n ∷ [])
