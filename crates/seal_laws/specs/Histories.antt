-- Lists of calls, faults, stops and restarts, with the indices that signed.
use Rattle.std.specs.Prelude.{◌≡◌, ◌⊎◌, ℕ, List, [], ◌∷◌, ◌++◌}
use Rattle.seal_laws.specs.Acts.{Acts, IndexUse, IsLeft}
use Rattle.seal_laws.specs.Worlds.{World}

-- What a call does: acts, one after another, with all indices that signed, in order.
pub data Runs : World → List IndexUse → World → Type 0 where
  ends : (world : World) → Runs world [] world
  goes_on : (world mid last : World) (some rest uses : List IndexUse) → Acts world some mid → Runs mid rest last → uses ≡ some ++ rest → Runs world uses last

-- A call came to its end; or a crash cut it short, between two of its acts or within one, and these indices had signed.
pub data Calls : World → List IndexUse → World → Type 0 where
  came_whole : (world last : World) (uses : List IndexUse) → Runs world uses last → Calls world uses last
  cut_within : (world mid next last after : World) (uses under_way rest : List IndexUse) → Runs world uses mid → Acts mid under_way next → Runs next rest last → IsLeft mid next after
      → Calls world uses after
  cut_between : (world mid last after : World) (uses rest : List IndexUse) → Runs world uses mid → Runs mid rest last → IsLeft mid mid after → Calls world uses after

-- Any list of calls, each of which may be cut short, with all indices that signed, in order.
pub data Histories : World → List IndexUse → World → Type 0 where
  no_call : (world : World) → Histories world [] world
  then_call : (world mid last : World) (some rest uses : List IndexUse) → Calls world some mid → Histories mid rest last → uses ≡ some ++ rest → Histories world uses last

-- The index of this directory's key signed in one of these uses.
abbrev pub Has : List IndexUse → List ℕ → ℕ → Type 0
Has [] dir index = ⊥
Has (this ∷ others) dir index = ((this.dir ≡ dir) × (this.index ≡ index)) ⊎ Has others dir index

-- No two of these uses are of one index of one directory's key.
abbrev pub AreApart : List IndexUse → Type 0
AreApart [] = Unit {0}
AreApart (this ∷ others) = (Has others this.dir this.index → ⊥) × AreApart others
