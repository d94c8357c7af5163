-- Chains of members, each an ancestor of the next, and the clocks that count them.
use Rattle.std.specs.Prelude.{◌==◌, ◌&&◌, ◌++◌, ◌∷◌, [], ℕ, zero, suc, Bool, not, cond, ltb, List, length, slice_index_or}
use Rattle.std.specs.List.{list_any}
use Rattle.ancestry.specs.Below.{any_below, count_below, first_below}
use Rattle.ancestry.specs.Walks.{preds_at, is_ancestor}

-- the chain of an earlier member; 64 stands for none
abbrev pub chain_at : List ℕ → ℕ → ℕ
chain_at before p = slice_index_or before p 64

-- The earlier member is in a chain, and no later one is in it too.
abbrev pub ends_chain : List ℕ → ℕ → Bool
ends_chain before p = ltb (chain_at before p) 64 && not (any_below (λ q. ltb p q && (chain_at before q == chain_at before p)) (length before))

-- the least of these predecessors that ends its chain; where none does, the number of earlier members
abbrev pub joined : List ℕ → List ℕ → ℕ
joined before preds = first_below (λ p. list_any (λ q. q == p) preds && ends_chain before p) (length before)

-- the least chain below 64 that no earlier member is in; where each has one, 64
abbrev pub fresh : List ℕ → ℕ
fresh before = first_below (λ c. not (any_below (λ p. chain_at before p == c) (length before))) 64

-- the chain of a member with these predecessors, after members of these chains
abbrev pub next_chain : List ℕ → List ℕ → ℕ
next_chain before preds = cond (ltb (joined before preds) (length before)) (chain_at before (joined before preds)) (fresh before)

-- the chains of so many first members
unfoldable pub chains : List (List ℕ) → ℕ → List ℕ
chains graph zero = []
chains graph (suc n) = chains graph n ++ next_chain (chains graph n) (preds_at graph n) ∷ []

-- the chain of a member
abbrev pub chain_of : List (List ℕ) → ℕ → ℕ
chain_of graph b = next_chain (chains graph b) (preds_at graph b)

-- how many members of a chain stand below a member
abbrev pub members_below : List (List ℕ) → ℕ → ℕ → ℕ
members_below graph b c = count_below (λ a. chain_of graph a == c) b

-- how many members of a chain are proper ancestors of a member
abbrev pub clock_of : List (List ℕ) → ℕ → ℕ → ℕ
clock_of graph b c = count_below (λ a. (chain_of graph a == c) && is_ancestor graph a b) b
