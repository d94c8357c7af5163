-- What adding a batch leaves, of members of any type.
use Rattle.std.specs.Prelude.{◌≡◌, List, [], ◌∷◌, ◌++◌, Contains, filter, map, not}
use Rattle.std.specs.List.{AllByRecursion}
use Rattle.update_model.specs.Batch.{Adds}
use Rattle.update_model.specs.Entry.{Entry}
use Rattle.update_model.specs.Graph.{holds, Follows}

-- The entry can be added after these, in some order of entries of the batch that ends with it.
abbrev pub IsReady : List Entry → List Entry → Entry → Type 0
IsReady before batch e = (others : List Entry) × AllByRecursion (Contains batch) others × Follows before (others ++ e ∷ [])

-- What was held stands in front.
abbrev pub IsBehind : {M : Type 0} → List M → List M → Type 0
IsBehind {M} before after = (added : List M) × (after ≡ before ++ added)

-- Members of the batch stand behind those before, as a batch adds them; and those of the batch that are not held wait, in
-- the batch's order.
pub record AddsReady {M : Type 0} (entry : M → Entry) (before batch after waiting : List M) : Type 0 where
  pub added : List M
  pub behind : after ≡ before ++ added
  pub from : AllByRecursion (Contains batch) added
  pub adds : Adds (map entry before) (map entry batch) (map entry added) (map entry waiting)
  pub rest : waiting ≡ filter (λ m. not (holds (map entry after) (entry m).id)) batch
