-- A closed list that holds all heads of a closed set has all members of the set.
use Rattle.std.proofs.Common.{◌≡◌, inl, inr, true, ◌&&◌, not, List, [], sym, ap, subst, ◌∙◌, Contains}
use Rattle.std.specs.List.{list_all}
use Rattle.update_model.specs.declared.update_id.UpdateId.{UpdateId}
use Rattle.update_model.specs.Entry.{Entry, same_id}
use Rattle.update_model.specs.Graph.{has, holds, names, IsClosed, IsAncestor, named, through, IsHead, AreHeads}
use Rattle.update_model.proofs.Heads.{covered, holds-named, witness, any_from_member}
use Rattle.update_model.proofs.Ids.{same_id-refl}
use Rattle.session_rules.specs.Laws.{NoCollision}
use Rattle.session_rules.proofs.Words.{all_member}
use Rattle.session_rules.proofs.Held.{has_witness}

shared : (graph other : List Entry) (e : Entry) → NoCollision graph other → Contains graph e → holds other e.id ≡ true → Contains other e
shared graph other e alike held there =
    let w = witness (λ m. same_id e.id m.id) other there in
    let is : e ≡ w.0 = alike e w.0 held w.1 w.2 in
    subst (λ (m : Entry). Contains other m) (sym is) w.1

named_held : (other : List Entry) (e : Entry) (id : UpdateId) → IsClosed other → Contains other e → has e.preds id ≡ true → holds other id ≡ true
named_held other e id closed held calls = holds-named [] other id closed (any_from_member (λ m. has m.preds id) other e held calls)

below_shared : (graph other : List Entry) (e top : Entry) → NoCollision graph other → IsClosed other → Contains other top → IsAncestor graph e top → Contains other e
below_shared graph other e top alike closed held (named _ there calls) = shared graph other e alike there (named_held other top e.id closed held calls)
below_shared graph other e top alike closed held (through p _ there calls rest) =
    below_shared graph other e p alike closed (shared graph other p alike there (named_held other top p.id closed held calls)) rest

is_among : (graph : List Entry) (heads : List UpdateId) (head : Entry) → AreHeads graph heads → Contains graph head → IsHead graph head → has heads head.id ≡ true
is_among graph heads head are held none =
    are.exact head.id
    ∙ ap (λ b. b && not (names graph head.id)) (any_from_member (λ m. same_id head.id m.id) graph head held (same_id-refl head.id))
    ∙ ap (λ b. not b) none

pub all_members : (set list : List Entry) (heads : List UpdateId) → IsClosed set → IsClosed list → NoCollision set list → AreHeads set heads → list_all (holds list) heads ≡ true
    → (e : Entry) → Contains set e → Contains list e
all_members set list heads closed closed_too alike are all e c =
    let cover = covered [] set tt closed e c in
    let among = is_among set heads cover.0 are cover.1 cover.2 in
    let top : Contains list cover.0 = shared set list cover.0 alike cover.1 (all_member (holds list) heads cover.0.id all (has_witness heads cover.0.id among)) in
    elim cover.3 [
      | inl is ↦ subst (λ (m : Entry). Contains list m) is top
      | inr below ↦ below_shared set list e cover.0 alike closed_too top below
    ]
