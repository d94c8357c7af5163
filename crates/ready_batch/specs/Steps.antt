-- What is kept while a batch is added.
use Rattle.std.specs.Prelude.{◌≡◌, ◌⊎◌, ℕ, ◌<◌, Bool, true, false, List, [], ◌∷◌, ◌++◌, length, map, Contains, Option, Some, None, get_or, Vec}
use Rattle.std.specs.List.{slice_get, AllByRecursion}
use Rattle.std.specs.BTreeMap.{get, BTreeMap}
use Rattle.std.specs.declared.alloc.Global.{Global}
use Rattle.update_model.specs.declared.update_id.UpdateId.{UpdateId}
use Rattle.update_model.specs.Entry.{Entry, id_cmp}
use Rattle.update_model.specs.Graph.{holds, is_within, IsClosed, IsNext}
use Rattle.ready_batch.specs.declared.tried.Tried.{Tried}
use Rattle.ready_batch.specs.declared.tried.Tried.TheVariants.{Added, Known, Lacks}

-- what is left at a place of the batch
abbrev pub left_at : {M : Type 0} → List (Option M) → ℕ → Option M
left_at slots place = get_or slots place None

-- Each member is at its place, or is gone since its id is held.
pub record AreSlots {M : Type 0} (entry : M → Entry) (graph : List Entry) (batch : List M) (slots : List (Option M)) : Type 0 where
  pub long : length slots ≡ length batch
  pub each : (i : ℕ) (m : M) → slice_get batch i ≡ Some m → (left_at slots i ≡ Some m) ⊎ ((left_at slots i ≡ None) × (holds graph (entry m).id ≡ true))

-- the place is noted under this id
abbrev pub IsParked : BTreeMap UpdateId (Vec ℕ Global) → UpdateId → ℕ → Type 0
IsParked parked id place = (v : Vec ℕ Global) × (get id_cmp parked id ≡ Some v) × Contains v.items place

-- The member at this place waits for a predecessor that is not held, and is noted under its id.
pub record IsStuck (graph : List Entry) (parked : BTreeMap UpdateId (Vec ℕ Global)) (place : ℕ) (e : Entry) : Type 0 where
  pub id : UpdateId
  pub named : Contains e.preds id
  pub lacks : holds graph id ≡ false
  pub parked_there : IsParked parked id place

-- Each member is gone, or is to be tried, or waits for a predecessor.
abbrev pub AllPlaced : {M : Type 0} → (M → Entry) → List Entry → List M → List (Option M) → BTreeMap UpdateId (Vec ℕ Global) → List ℕ → Type 0
AllPlaced {M} entry graph batch slots parked to_try =
    (i : ℕ) (m : M) → slice_get batch i ≡ Some m → (left_at slots i ≡ None) ⊎ (Contains to_try i ⊎ IsStuck graph parked i (entry m))

-- Each member that is not gone waits for a predecessor that is not held.
abbrev pub AllStuck : {M : Type 0} → (M → Entry) → List Entry → List M → List (Option M) → Type 0
AllStuck entry graph batch slots = (parked : BTreeMap UpdateId (Vec ℕ Global)) × AllPlaced entry graph batch slots parked []

-- Each place of the batch is among these.
abbrev pub IsAllOf : {M : Type 0} → List ℕ → List M → Type 0
IsAllOf places batch = (i : ℕ) → i < length batch → Contains places i

-- What the places are of is the same batch still.
abbrev pub KeepsSlots : {M : Type 0} → (M → Entry) → List M → List (Option M) → List M → List (Option M) → Type 0
KeepsSlots {M} entry before slots after slots_after =
    (batch : List M) → AreSlots entry (map entry before) batch slots → AreSlots entry (map entry after) batch slots_after

-- Members of the batch stand behind.
abbrev pub AddsFrom : {M : Type 0} → (M → Entry) → List M → List (Option M) → List M → Type 0
AddsFrom {M} entry before slots after =
    (batch : List M) → AreSlots entry (map entry before) batch slots → (added : List M) × (after ≡ before ++ added) × AllByRecursion (Contains batch) added

-- The entry may stand next in the closed list, but for a limit.
pub record IsOver (graph : List Entry) (e : Entry) : Type 0 where
  pub closed : IsClosed graph
  pub next : IsNext graph e
  pub passes : is_within (graph ++ e ∷ []) ≡ false

-- A member of the batch may stand next, but for a limit.
abbrev pub IsOverSome : {M : Type 0} → (M → Entry) → List M → List (Option M) → List M → Type 0
IsOverSome {M} entry before slots after =
    (batch : List M) → AreSlots entry (map entry before) batch slots → (m : M) × Contains batch m × IsOver (map entry after) (entry m)

-- What trying a member did: it stands last, or its id was held, or it lacks a predecessor.
abbrev pub IsTried : {M : Type 0} → (M → Entry) → List M → List M → M → Tried M → Type 0
IsTried entry before after m (Added id) = (after ≡ before ++ m ∷ []) × (id ≡ (entry m).id)
IsTried entry before after m Known = (after ≡ before) × (holds (map entry before) (entry m).id ≡ true)
IsTried entry before after m (Lacks member id found) =
    (after ≡ before) × (member ≡ m) × Contains (entry m).preds id × (holds (map entry before) id ≡ false)

abbrev pub kept_if : {M : Type 0} → Bool → M → List M → List M
kept_if true m rest = rest
kept_if false m rest = m ∷ rest

-- what is left, without what is held
abbrev pub kept_of : {M : Type 0} → (M → Entry) → List Entry → List (Option M) → List M
kept_of entry graph [] = []
kept_of entry graph (None ∷ slots) = kept_of entry graph slots
kept_of entry graph (Some m ∷ slots) = kept_if (holds graph (entry m).id) m (kept_of entry graph slots)
