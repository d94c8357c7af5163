-- What holds of two correct ends.
use Rattle.std.specs.Prelude.{◌≡◌, ◌≢◌, ◌⊎◌, ◌≤◌, true, false, List, [], ◌++◌, length, Contains, Some, None}
use Rattle.update_model.specs.Entry.{Entry, same_id}
use Rattle.update_model.specs.Graph.{has, HaveSameMembers}
use Rattle.session_rules.specs.Pair.{PairData, missing, bound}
use Rattle.session_rules.specs.State.{Done, Full, Store, SessionData, TurnData}
use Rattle.session_rules.specs.Steps.{takes_hello}
use Rattle.update_model.specs.declared.update_id.UpdateId.{UpdateId}

-- Members of the one and of the other with one id are one member.
abbrev pub NoCollision : List Entry → List Entry → Type 0
NoCollision graph other = (a b : Entry) → Contains graph a → Contains other b → same_id a.id b.id ≡ true → a ≡ b

-- the list has each member of the set
abbrev pub HasAll : List Entry → List Entry → Type 0
HasAll list set = (e : Entry) → Contains set e → Contains list e

-- Neither end counts more turns than the bound of the two start sets.
abbrev pub InBound : PairData → Type 0
InBound p = (p.a.turns ≤ bound (length (missing p.a.start p.b.start)) (length (missing p.b.start p.a.start)))
    × (p.b.turns ≤ bound (length (missing p.a.start p.b.start)) (length (missing p.b.start p.a.start)))

-- A frame is on its way to an end that has not ended; or both are done; or one has ended for want of room or by its store.
pub data IsLive (p : PairData) : Type 0 where
  moves_a : p.a.ended ≡ None → p.to_a ≢ [] → IsLive p
  moves_b : p.b.ended ≡ None → p.to_b ≢ [] → IsLive p
  both_done : p.a.ended ≡ Some Done → p.b.ended ≡ Some Done → IsLive p
  stops_a : (p.a.ended ≡ Some Full) ⊎ (p.a.ended ≡ Some Store) → IsLive p
  stops_b : (p.b.ended ≡ Some Full) ⊎ (p.b.ended ≡ Some Store) → IsLive p

-- Both lists are now the union of what both were, and each end has counted what it lacked.
pub record IsUnion (p q : PairData) : Type 0 where
  pub list_a : HaveSameMembers q.list_a (p.list_a ++ p.list_b)
  pub list_b : HaveSameMembers q.list_b (p.list_a ++ p.list_b)
  pub gained_a : q.a.gained ≡ length (missing p.list_a p.list_b)
  pub gained_b : q.b.gained ≡ length (missing p.list_b p.list_a)

-- The Turn is the responder's first, or asks for an id that was not asked for.
abbrev pub AsksNew : SessionData → TurnData → Type 0
AsksNew s own = (takes_hello s.reading ≡ true) ⊎ ((id : UpdateId) × (has own.needs id ≡ true) × (has s.asked id ≡ false))
