-- What of a graph is new to whoever has some of its members.
use Rattle.std.specs.Prelude.{◌≡◌, ◌⊎◌, IsTrue, List, [], ◌∷◌, Contains}
use Rattle.update_model.specs.declared.update_id.UpdateId.{UpdateId}
use Rattle.update_model.specs.Entry.{Entry}
use Rattle.update_model.specs.Graph.{has, IsAncestor}

-- the elements of which P holds, in order, and no others
abbrev pub Picks : {X : Type 0} → (X → Type 0) → List X → List X → Type 0
Picks P [] out = out ≡ []
Picks {X} P (x ∷ xs) out = (P x × ((rest : List X) × (out ≡ x ∷ rest) × Picks P xs rest)) ⊎ (¬ (P x) × Picks P xs out)

-- The member's id is among these, or the member is an ancestor of one whose id is.
abbrev pub IsBehind : List Entry → List UpdateId → Entry → Type 0
IsBehind graph old e = IsTrue (has old e.id) ⊎ ((d : Entry) × Contains graph d × IsTrue (has old d.id) × IsAncestor graph e d)

-- the members that are neither among the old ones nor ancestors of one; old ids that no member has are passed over
abbrev pub AreSince : List Entry → List UpdateId → List Entry → Type 0
AreSince graph old since = Picks (λ e. ¬ (IsBehind graph old e)) graph since
