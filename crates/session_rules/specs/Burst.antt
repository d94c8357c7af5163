-- What of its start set an end sends unasked.
use Rattle.std.specs.Prelude.{◌≡◌, ◌⊎◌, false, Bool, List, Contains}
use Rattle.update_model.specs.declared.update_id.UpdateId.{UpdateId}
use Rattle.update_model.specs.Entry.{Entry}
use Rattle.update_model.specs.Graph.{IsAncestor}
use Rattle.update_model.specs.Since.{Picks, AreSince}

-- The filter does not contain the member, or not an ancestor of it that is new too.
abbrev pub IsUnknown : List Entry → (UpdateId → Bool) → List Entry → Entry → Type 0
IsUnknown graph filter since e = (filter e.id ≡ false) ⊎ ((a : Entry) × Contains since a × (filter a.id ≡ false) × IsAncestor graph a e)

-- the members since these old heads that the filter does not contain, or which have an ancestor among them that it does
-- not contain, in arrival order
abbrev pub IsBurst : List Entry → List UpdateId → (UpdateId → Bool) → List Entry → Type 0
IsBurst graph old filter burst = (since : List Entry) × AreSince graph old since × Picks (IsUnknown graph filter since) since burst
