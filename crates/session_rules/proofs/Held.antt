-- What a list of members holds.
use Rattle.std.proofs.Common.{◌≡◌, inl, inr, true, false, ◌||◌, List, [], ◌∷◌, ◌++◌, Contains, sym, ap, subst, ◌∙◌, arith}
use Rattle.std.specs.List.{AllByRecursion}
use Rattle.std.proofs.lemmas.List.Folds.{list_any-append}
use Rattle.std.proofs.lemmas.List.Elements.{Contains-append_left, Contains-push}
use Rattle.update_model.specs.declared.update_id.UpdateId.{UpdateId}
use Rattle.update_model.specs.Entry.{Entry, same_id}
use Rattle.update_model.specs.Graph.{has, holds, names, Follows, IsClosed}
use Rattle.update_model.proofs.Heads.{witness, any_from_member, holds-named}
use Rattle.update_model.proofs.Ids.{id_from_same, same_id-refl, same_id-symm}
use Rattle.session_rules.proofs.Words.{or_left, or_right, cons_cases, each_member}

pub held_member : (graph : List Entry) (e : Entry) → Contains graph e → holds graph e.id ≡ true
held_member graph e c = any_from_member (λ m. same_id e.id m.id) graph e c (same_id-refl e.id)

-- a member with this id
pub held_witness : (graph : List Entry) (id : UpdateId) → holds graph id ≡ true → (e : Entry) × Contains graph e × (id ≡ e.id)
held_witness graph id h = let w = witness (λ m. same_id id m.id) graph h in (w.0, w.1, id_from_same id w.0.id w.2)

pub has_witness : (ids : List UpdateId) (id : UpdateId) → has ids id ≡ true → Contains ids id
has_witness ids id h = let w = witness (same_id id) ids h in subst (λ (i : UpdateId). Contains ids i) (sym (id_from_same id w.0 w.2)) w.1

pub has_member : (ids : List UpdateId) (id : UpdateId) → Contains ids id → has ids id ≡ true
has_member ids id c = any_from_member (same_id id) ids id c (same_id-refl id)

pub holds_append : (xs ys : List Entry) (id : UpdateId) → holds (xs ++ ys) id ≡ (holds xs id || holds ys id)
holds_append xs ys id = list_any-append (λ (m : Entry). same_id id m.id) xs ys

pub has_append : (xs ys : List UpdateId) (id : UpdateId) → has (xs ++ ys) id ≡ (has xs id || has ys id)
has_append xs ys id = list_any-append (same_id id) xs ys

pub holds_front : (xs ys : List Entry) (id : UpdateId) → holds xs id ≡ true → holds (xs ++ ys) id ≡ true
holds_front xs ys id h = holds_append xs ys id ∙ or_left (holds xs id) (holds ys id) h

pub holds_back : (xs ys : List Entry) (id : UpdateId) → holds ys id ≡ true → holds (xs ++ ys) id ≡ true
holds_back xs ys id h = holds_append xs ys id ∙ or_right (holds xs id) (holds ys id) h

-- members of a set, each of them
abbrev pub Within : List Entry → List Entry → Type 0
Within set es = AllByRecursion (Contains set) es

-- what members of a closed set name is in the set
pub named_within : (set es : List Entry) (id : UpdateId) → IsClosed set → Within set es → names es id ≡ true → holds set id ≡ true
named_within set es id closed all h =
    let w = witness (λ m. has m.preds id) es h in
    holds-named [] set id closed (any_from_member (λ m. has m.preds id) set w.0 (each_member (Contains set) es w.0 all w.1) w.2)

-- ---- ids of a closed list are distinct

pub later_differs : (before es : List Entry) (x b : Entry) → Follows before es → Contains before x → Contains es b → same_id b.id x.id ≡ true → ⊥
later_differs before [] x b f cx cb same = omega (arith, cb.1)
later_differs before (y ∷ ys) x b f cx cb same = elim (cons_cases y ys b cb) [
  | inl is ↦
      let there : holds before b.id ≡ true = any_from_member (λ m. same_id b.id m.id) before x cx same in
      let new : holds before b.id ≡ false = subst (λ (m : Entry). holds before m.id ≡ false) is f.0.new in
      cc
  | inr held ↦ later_differs (before ++ y ∷ []) ys x b f.1 (Contains-append_left before (y ∷ []) x cx) held same
]

pub distinct : (before es : List Entry) (a b : Entry) → Follows before es → Contains es a → Contains es b → same_id a.id b.id ≡ true → a ≡ b
distinct before [] a b f ca cb same = absurd (omega (arith, ca.1))
distinct before (y ∷ ys) a b f ca cb same = elim (cons_cases y ys a ca) [
  | inl is ↦ elim (cons_cases y ys b cb) [
    | inl too ↦ sym is ∙ too
    | inr held ↦ absurd (later_differs (before ++ y ∷ []) ys y b f.1 (Contains-push before y) held (ap (same_id b.id) (ap (λ (m : Entry). m.id) is) ∙ (same_id-symm b.id a.id ∙ same)))
  ]
  | inr there ↦ elim (cons_cases y ys b cb) [
    | inl too ↦ absurd (later_differs (before ++ y ∷ []) ys y a f.1 (Contains-push before y) there (ap (same_id a.id) (ap (λ (m : Entry). m.id) too) ∙ same))
    | inr held ↦ distinct (before ++ y ∷ []) ys a b f.1 there held same
  ]
]
