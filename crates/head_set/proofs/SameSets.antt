-- Graphs with the same heads.
use Rattle.std.proofs.Common.{◌≡◌, ◌≢◌, inl, inr, true, ◌&&◌, not, List, [], ◌∷◌, refl, sym, ap, subst, ◌∙◌, Contains}
use Rattle.update_model.specs.declared.update_id.UpdateId.{UpdateId}
use Rattle.update_model.specs.Entry.{Entry, same_id}
use Rattle.update_model.specs.Graph.{has, holds, names, IsClosed, IsAncestor, named, through, IsHead, AreHeads, HaveSameMembers}
use Rattle.update_model.proofs.Heads.{covered, has_head, holds-named, witness, any_from_member}
use Rattle.update_model.proofs.Ids.{same_id-refl, same_id-symm}
use Rattle.head_set.specs.Grown.{NoCollision}
use Rattle.head_set.proofs.HeadSteps.{both_true}

-- a member whose id the other graph holds is a member of the other graph
shared : (graph other : List Entry) (e : Entry) → NoCollision graph other → Contains graph e → holds other e.id ≡ true → Contains other e
shared graph other e alike held there =
    let w = witness (λ m. same_id e.id m.id) other there in
    let is : e ≡ w.0 = alike e w.0 held w.1 w.2 in
    subst (λ (m : Entry). Contains other m) (sym is) w.1

-- what a member of a closed graph names is held
named_held : (other : List Entry) (e : Entry) (id : UpdateId) → IsClosed other → Contains other e → has e.preds id ≡ true → holds other id ≡ true
named_held other e id closed held calls = holds-named [] other id closed (any_from_member (λ m. has m.preds id) other e held calls)

-- down from a member that both have
below_shared : (graph other : List Entry) (e top : Entry) → NoCollision graph other → IsClosed other → Contains other top → IsAncestor graph e top → Contains other e
below_shared graph other e top alike closed held (named _ there calls) = shared graph other e alike there (named_held other top e.id closed held calls)
below_shared graph other e top alike closed held (through p _ there calls rest) =
    below_shared graph other e p alike closed (shared graph other p alike there (named_held other top p.id closed held calls)) rest

-- a head by its id
is_among : (graph : List Entry) (heads : List UpdateId) (head : Entry) → AreHeads graph heads → Contains graph head → IsHead graph head → has heads head.id ≡ true
is_among graph heads head are held none =
    are.exact head.id
    ∙ ap (λ b. b && not (names graph head.id)) (any_from_member (λ m. same_id head.id m.id) graph head held (same_id-refl head.id))
    ∙ ap (λ b. not b) none

-- each member of the one is a member of the other
member_of_other : (graph other : List Entry) (heads : List UpdateId) → IsClosed graph → IsClosed other → NoCollision graph other → AreHeads graph heads → AreHeads other heads
    → (e : Entry) → Contains graph e → Contains other e
member_of_other graph other heads closed closed_too alike are are_too e held =
    let cover = covered [] graph tt closed e held in
    let among = is_among graph heads cover.0 are cover.1 cover.2 in
    let there = both_true (holds other cover.0.id) (not (names other cover.0.id)) (sym (are_too.exact cover.0.id) ∙ among) in
    let top : Contains other cover.0 = shared graph other cover.0 alike cover.1 there in
    elim cover.3 [
      | inl is ↦ subst (λ (m : Entry). Contains other m) is top
      | inr below ↦ below_shared graph other e cover.0 alike closed_too top below
    ]

turned : (graph other : List Entry) → NoCollision graph other → NoCollision other graph
turned graph other alike = λ a b here there same. sym (alike b a there here (same_id-symm b.id a.id ∙ same))

pub same_members : (graph other : List Entry) (heads : List UpdateId) → IsClosed graph → IsClosed other → NoCollision graph other → AreHeads graph heads → AreHeads other heads
    → HaveSameMembers graph other
same_members graph other heads closed closed_too alike are are_too = λ e.
    (member_of_other graph other heads closed closed_too alike are are_too e, member_of_other other graph heads closed_too closed (turned graph other alike) are_too are e)

pub no_members : (graph : List Entry) → IsClosed graph → AreHeads graph [] → graph ≡ []
no_members [] closed are = refl
no_members (x ∷ xs) closed are = absurd (
    let some : (x ∷ xs) ≢ [] = λ e. cc in
    let head = has_head (x ∷ xs) closed some in
    let among : has [] head.0.id ≡ true = is_among (x ∷ xs) [] head.0 are head.1 head.2 in
    cc)
