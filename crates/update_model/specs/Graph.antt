-- Closed lists, ancestors and heads: relations over a whole list of members.
use Rattle.std.specs.Prelude.{◌≡◌, ◌↔◌, ℕ, Bool, true, false, List, [], ◌∷◌, ◌++◌, length, sum_by, All, Contains, Option, not, nat_le, ◌&&◌, find}
use Rattle.std.specs.List.{list_any, position_from}
use Rattle.std.specs.List.Sorted.{IsStrictlySortedBy}
use Rattle.update_model.specs.declared.update_id.UpdateId.{UpdateId}
use Rattle.update_model.specs.declared.limits.TheConstants.{MAX_BYTES, MAX_MEMBERS}
use Rattle.update_model.specs.Entry.{Entry, same_id, id_cmp}

-- whether the id is among these
abbrev pub has : List UpdateId → UpdateId → Bool
has ids id = list_any (same_id id) ids

-- whether a member has this id
abbrev pub holds : List Entry → UpdateId → Bool
holds graph id = list_any (λ e. same_id id e.id) graph

-- whether a member names this id as a direct predecessor
abbrev pub names : List Entry → UpdateId → Bool
names graph id = list_any (λ e. has e.preds id) graph

-- the place of the member with this id
abbrev pub position_of : List Entry → UpdateId → Option ℕ
position_of graph id = position_from (λ e. same_id id e.id) 0 graph

-- the first predecessor that is not held; since predecessors rise, the least
abbrev pub lacking : List Entry → Entry → Option UpdateId
lacking graph e = find (λ p. not (holds graph p)) e.preds

-- After these members, this one is new, and each of its predecessors is held.
pub record IsNext (before : List Entry) (e : Entry) : Type 0 where
  pub new : holds before e.id ≡ false
  pub preds : All (λ p. holds before p ≡ true) e.preds

-- Each member is the next one after those before it.
abbrev pub Follows : List Entry → List Entry → Type 0
Follows before [] = Unit {0}
Follows before (e ∷ es) = IsNext before e × Follows (before ++ e ∷ []) es

-- In arrival order, ids are distinct and each predecessor stands earlier.
abbrev pub IsClosed : List Entry → Type 0
IsClosed graph = Follows [] graph

-- how many bytes the members have together
abbrev pub byte_count : List Entry → ℕ
byte_count graph = sum_by (λ e. length e.bytes) graph

-- within the limits on members and bytes
abbrev pub is_within : List Entry → Bool
is_within graph = nat_le (length graph) MAX_MEMBERS && nat_le (byte_count graph) MAX_BYTES

-- the member `a` is a proper ancestor of `e`: `e` names it, or names a member whose ancestor it is
pub data IsAncestor (graph : List Entry) (a : Entry) : Entry → Type 0 where
  named : (e : Entry) → Contains graph a → has e.preds a.id ≡ true → IsAncestor graph a e
  through : (p e : Entry) → Contains graph p → has e.preds p.id ≡ true → IsAncestor graph a p → IsAncestor graph a e

-- no member names it
abbrev pub IsHead : List Entry → Entry → Type 0
IsHead graph e = names graph e.id ≡ false

-- the ids of the members that no member names, each above the one before it
pub record AreHeads (graph : List Entry) (heads : List UpdateId) : Type 0 where
  pub rising : IsStrictlySortedBy id_cmp heads
  pub exact : (id : UpdateId) → has heads id ≡ (holds graph id && not (names graph id))

-- in whatever order
abbrev pub HaveSameMembers : List Entry → List Entry → Type 0
HaveSameMembers graph other = (e : Entry) → Contains graph e ↔ Contains other e
