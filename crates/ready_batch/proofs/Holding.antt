-- Who is held, and who lacks a predecessor.
use Rattle.std.proofs.Common.{◌≡◌, ◌≢◌, ◌⊎◌, inl, inr, Bool, true, false, not, List, [], ◌∷◌, ◌++◌, Some, None, refl, sym, ap, subst, ◌∙◌}
use Rattle.std.specs.Prelude.{Contains, All, find}
use Rattle.std.specs.List.{AllByRecursion}
use Rattle.std.specs.declared.option.Option.{Option}
use Rattle.std.proofs.lemmas.List.Elements.{All-contains, All-from_recursion, recursion_from_All, Contains-push, Contains-push_cases, Contains-append_left}
use Rattle.update_model.specs.declared.update_id.UpdateId.{UpdateId}
use Rattle.update_model.specs.Entry.{Entry, same_id}
use Rattle.update_model.specs.Graph.{holds, lacking}
use Rattle.update_model.proofs.Closed.{all_pass}
use Rattle.update_model.proofs.Heads.{witness, any_from_member}
use Rattle.update_model.proofs.Ids.{id_from_same, same_id-refl}

pub true_or_false : (b : Bool) → (b ≡ true) ⊎ (b ≡ false)
true_or_false true = inl refl
true_or_false false = inr refl

-- whoever is a member is held
pub holds_member : (graph : List Entry) (e : Entry) → Contains graph e → holds graph e.id ≡ true
holds_member graph e c = any_from_member (λ (x : Entry). same_id e.id x.id) graph e c (same_id-refl e.id)

-- whoever is held is a member
pub held_member : (graph : List Entry) (id : UpdateId) → holds graph id ≡ true → (e : Entry) × Contains graph e × (id ≡ e.id)
held_member graph id held =
    let w = witness (λ (x : Entry). same_id id x.id) graph held in (w.0, w.1, id_from_same id w.0.id w.2)

-- who is held stays held
pub holds_more : (graph added : List Entry) (id : UpdateId) → holds graph id ≡ true → holds (graph ++ added) id ≡ true
holds_more graph added id held =
    let w = held_member graph id held in
    subst (λ (i : UpdateId). holds (graph ++ added) i ≡ true) (sym w.2) (holds_member (graph ++ added) w.0 (Contains-append_left graph added w.0 w.1))

pub holds_last : (graph : List Entry) (e : Entry) → holds (graph ++ e ∷ []) e.id ≡ true
holds_last graph e = holds_member (graph ++ e ∷ []) e (Contains-push graph e)

pub holds_push_cases : (graph : List Entry) (e : Entry) (id : UpdateId) → holds (graph ++ e ∷ []) id ≡ true → (holds graph id ≡ true) ⊎ (id ≡ e.id)
holds_push_cases graph e id held =
    let w = held_member (graph ++ e ∷ []) id held in
    elim (Contains-push_cases graph e w.0 w.1) [
      | inl before ↦ inl (subst (λ (i : UpdateId). holds graph i ≡ true) (sym w.2) (holds_member graph w.0 before))
      | inr last ↦ inr (w.2 ∙ ap (λ (x : Entry). x.id) (sym last))
    ]

-- who is not held is not held after another came
pub not_held_push : (graph : List Entry) (e : Entry) (id : UpdateId) → holds graph id ≡ false → same_id id e.id ≡ false → holds (graph ++ e ∷ []) id ≡ false
not_held_push graph e id lacks other = elim (true_or_false (holds (graph ++ e ∷ []) id)) [
  | inl held ↦ absurd (elim (holds_push_cases graph e id held) [
    | inl before ↦ cc
    | inr is ↦ let same : same_id id e.id ≡ true = ap (same_id id) (sym is) ∙ same_id-refl id in cc
  ])
  | inr still ↦ still
]

-- a predecessor that is not held is lacking
pub lacks_one : (graph : List Entry) (e : Entry) (id : UpdateId) → Contains e.preds id → holds graph id ≡ false → lacking graph e ≢ None
lacks_one graph e id named lacks none =
    let held = All-contains (λ p. holds graph p ≡ true) e.preds id (All-from_recursion (λ p. holds graph p ≡ true) e.preds (all_pass (holds graph) e.preds none)) named in
    cc

find_none : (f : UpdateId → Bool) (ids : List UpdateId) → AllByRecursion (λ id. f id ≡ true) ids → find (λ id. not (f id)) ids ≡ None
find_none f [] each = refl
find_none f (id ∷ ids) each = rw each.0 (find_none f ids each.1)

-- where each predecessor is held, none is lacking
pub lacks_none : (graph : List Entry) (e : Entry) → All (λ p. holds graph p ≡ true) e.preds → lacking graph e ≡ None
lacks_none graph e held = find_none (holds graph) e.preds (recursion_from_All (λ p. holds graph p ≡ true) e.preds held)

pub none_or_some : {X : Type 0} (o : Option X) → (o ≡ None) ⊎ (o ≢ None)
none_or_some None = inl refl
none_or_some (Some x) = inr (λ e. cc)
