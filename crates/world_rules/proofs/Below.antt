-- An update that names all heads of a closed list stands above the whole list.
use Rattle.std.proofs.Common.{◌≡◌, inl, inr, true, ◌&&◌, not, List, [], Contains, sym, ap, subst, ◌∙◌}
use Rattle.update_model.specs.declared.update_id.UpdateId.{UpdateId}
use Rattle.update_model.specs.Entry.{Entry, same_id}
use Rattle.update_model.specs.Graph.{has, holds, names, IsClosed, IsAncestor, named, through, IsHead, AreHeads}
use Rattle.update_model.proofs.Heads.{covered, holds-named, witness, any_from_member}
use Rattle.update_model.proofs.Ids.{same_id-refl}
use Rattle.session_rules.specs.Laws.{NoCollision}

shared : (list graph : List Entry) (e : Entry) → NoCollision list graph → Contains list e → holds graph e.id ≡ true → Contains graph e
shared list graph e alike held there =
    let w = witness (λ m. same_id e.id m.id) graph there in
    subst (λ (m : Entry). Contains graph m) (sym (alike e w.0 held w.1 w.2)) w.1

named_held : (graph : List Entry) (e : Entry) (id : UpdateId) → IsClosed graph → Contains graph e → has e.preds id ≡ true → holds graph id ≡ true
named_held graph e id closed held calls = holds-named [] graph id closed (any_from_member (λ m. has m.preds id) graph e held calls)

-- ancestors in the list are ancestors in the graph
carried_over : (list graph : List Entry) (e top : Entry) → NoCollision list graph → IsClosed graph → Contains graph top → IsAncestor list e top → IsAncestor graph e top
carried_over list graph e top alike closed held (named _ there calls) = named top (shared list graph e alike there (named_held graph top e.id closed held calls)) calls
carried_over list graph e top alike closed held (through p _ there calls rest) =
    let here = shared list graph p alike there (named_held graph top p.id closed held calls) in
    through p top here calls (carried_over list graph e p alike closed here rest)

is_among : (list : List Entry) (heads : List UpdateId) (head : Entry) → AreHeads list heads → Contains list head → IsHead list head → has heads head.id ≡ true
is_among list heads head are held none =
    are.exact head.id
    ∙ ap (λ b. b && not (names list head.id)) (any_from_member (λ m. same_id head.id m.id) list head held (same_id-refl head.id))
    ∙ ap (λ b. not b) none

pub all_below : (list graph : List Entry) (u : Entry) → IsClosed list → IsClosed graph → NoCollision list graph → AreHeads list u.preds → Contains graph u → (e : Entry) → Contains list e → IsAncestor graph e u
all_below list graph u closed closed_too alike are there e c =
    let cover = covered [] list tt closed e c in
    let among = is_among list u.preds cover.0 are cover.1 cover.2 in
    let top = shared list graph cover.0 alike cover.1 (named_held graph u cover.0.id closed_too there among) in
    elim cover.3 [
      | inl is ↦ subst (λ (m : Entry). IsAncestor graph m u) is (named u top among)
      | inr below ↦ through cover.0 u top among (carried_over list graph e cover.0 alike closed_too top below)
    ]
