-- What stands outside of a run.
use Rattle.std.specs.Prelude.{◌≡◌, ℕ, List, Option}
use Rattle.bec_disk.specs.Shelf.{ShelfState}
use Rattle.rand_core.specs.Stream.{Stream}

-- The source, with what it has left and its count of faults; the shelf, with what it has and its count; and the generator of random words, with what
-- it will give. What stands for a real stream or for real directories does not tell what it has.
pub record Outside (S H R : Type 0) : Type 0 where
  pub source : S
  pub left : Option (List ℕ)
  pub source_faults : ℕ
  pub shelf : H
  pub store : ShelfState
  pub shelf_faults : ℕ
  pub random : R
  pub stream : Stream

-- this source, this shelf and this generator, seen so
abbrev pub outside : {S H R : Type 0} → (S → Option (List ℕ)) → (S → ℕ) → (H → ShelfState) → (H → ℕ) → (R → Stream) → S → H → R → Outside S H R
outside left source_faults state shelf_faults stream source shelf random = record {
  source = source;
  left = left source;
  source_faults = source_faults source;
  shelf = shelf;
  store = state shelf;
  shelf_faults = shelf_faults shelf;
  random = random;
  stream = stream random;
}

-- The source, the shelf and the generator are as they were.
pub record IsUntouched {S H R : Type 0} (before after : Outside S H R) : Type 0 where
  pub source : after.source ≡ before.source
  pub shelf : after.shelf ≡ before.shelf
  pub random : after.random ≡ before.random
