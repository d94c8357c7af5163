-- What is kept of chains and clocks.
use Rattle.std.specs.Prelude.{◌≡◌, ◌<◌, ◌+◌, ◌==◌, ℕ, List, length, slice_index_or, cond, ltb}
use Rattle.ancestry.specs.declared.clock.Clock.{Clock}
use Rattle.ancestry.specs.Chains.{chain_of, clock_of, members_below}

-- 64 numbers: for each chain, how many of its members are proper ancestors of the member.
pub record AreCounts (graph : List (List ℕ)) (b : ℕ) (counts : List ℕ) : Type 0 where
  pub long : length counts ≡ 64
  pub are : (c : ℕ) → c < 64 → slice_index_or counts c 0 ≡ clock_of graph b c

-- The member's own chain, and its counts.
pub record IsClock (graph : List (List ℕ)) (b : ℕ) (clock : Clock) : Type 0 where
  pub chain : clock.chain ≡ chain_of graph b
  pub counts : AreCounts graph b clock.counts

-- Each member has its clock.
pub record AreClocked (graph : List (List ℕ)) (clocks : List Clock) : Type 0 where
  pub long : length clocks ≡ length graph
  pub are : (b : ℕ) (other : Clock) → b < length graph → IsClock graph b (slice_index_or clocks b other)

-- 64 numbers: for each chain, how many members it has.
pub record AreSizes (graph : List (List ℕ)) (sizes : List ℕ) : Type 0 where
  pub long : length sizes ≡ 64
  pub are : (c : ℕ) → c < 64 → slice_index_or sizes c 0 ≡ members_below graph (length graph) c

-- the greater of two numbers
abbrev pub raised : ℕ → ℕ → ℕ
raised m x = cond (ltb m x) x m

-- how many members of a chain are a member or proper ancestors of it, by its chain and by its number for that chain
abbrev pub with_own : ℕ → ℕ → ℕ → ℕ
with_own chain c count = cond (chain == c) (count + 1) count
