-- Closed lists: one more member at the end, one fewer, and what the tests of `add` say.
use Rattle.std.proofs.Common.{◌≡◌, ℕ, ◌+◌, Bool, true, false, cond, not, ◌||◌, List, [], ◌∷◌, ◌++◌, length, Some, None, refl, sym, ◌∙◌, ap, subst, append_assoc, zero-add, arith}
use Rattle.std.specs.declared.option.Option.{Option}
use Rattle.std.specs.Prelude.{is_some, find}
use Rattle.std.specs.List.{list_any, position_from, AllByRecursion}
use Rattle.std.proofs.lemmas.List.{append-nil}
use Rattle.std.proofs.lemmas.List.Elements.{All-from_recursion}
use Rattle.update_model.specs.declared.update_id.UpdateId.{UpdateId}
use Rattle.update_model.specs.Entry.{Entry, same_id}
use Rattle.update_model.specs.Graph.{holds, position_of, lacking, IsNext, Follows}
use Rattle.update_model.proofs.Ids.{id_from_same, same_id-symm}

-- one more member at the end
pub Follows-push : (before es : List Entry) (e : Entry) → Follows before es → IsNext (before ++ es) e → Follows before (es ++ e ∷ [])
Follows-push before [] e _ next = (subst (λ (graph : List Entry). IsNext graph e) (append-nil before) next, tt)
Follows-push before (x ∷ es) e follows next =
    (follows.0, Follows-push (before ++ x ∷ []) es e follows.1 (subst (λ (graph : List Entry). IsNext graph e) (sym (append_assoc before (x ∷ []) es)) next))

-- the member at the end taken away
pub Follows-pop : (before es : List Entry) (e : Entry) → Follows before (es ++ e ∷ []) → Follows before es × IsNext (before ++ es) e
Follows-pop before [] e follows = (tt, subst (λ (graph : List Entry). IsNext graph e) (sym (append-nil before)) follows.0)
Follows-pop before (x ∷ es) e follows =
    let rest = Follows-pop (before ++ x ∷ []) es e follows.1
    in ((follows.0, rest.0), subst (λ (graph : List Entry). IsNext graph e) (append_assoc before (x ∷ []) es) rest.1)

-- the members in front
pub Follows-front : (before xs ys : List Entry) → Follows before (xs ++ ys) → Follows before xs
Follows-front before [] ys f = tt
Follows-front before (x ∷ xs) ys f = (f.0, Follows-front (before ++ x ∷ []) xs ys f.1)

-- the members behind
pub Follows-split : (before xs ys : List Entry) → Follows before (xs ++ ys) → Follows (before ++ xs) ys
Follows-split before [] ys f = rw append-nil f
Follows-split before (x ∷ xs) ys f = rw append_assoc at (Follows-split (before ++ x ∷ []) xs ys f.1)

-- a member between
pub Follows-at : (before xs ys : List Entry) (e : Entry) → Follows before (xs ++ e ∷ ys) → IsNext (before ++ xs) e
Follows-at before xs ys e f = (Follows-split before xs (e ∷ ys) f).0

-- two closed parts, the second after the first
pub Follows-join : (before xs ys : List Entry) → Follows before xs → Follows (before ++ xs) ys → Follows before (xs ++ ys)
Follows-join before [] ys f g = rw append-nil at g
Follows-join before (x ∷ xs) ys f g = (f.0, Follows-join (before ++ x ∷ []) xs ys f.1 (rw append_assoc g))

-- a position is found exactly where an element passes
pub is_some-position : {X : Type 0} (t : X → Bool) (i : ℕ) (xs : List X) → is_some (position_from t i xs) ≡ list_any t xs
is_some-position t i [] = refl
is_some-position t i (x ∷ xs) =
    elim (t x) as (λ b. is_some (cond b (Some i) (position_from t (i + 1) xs)) ≡ (b || list_any t xs)) [
      | true ↦ refl
      | false ↦ is_some-position t (i + 1) xs
    ]

-- the first place in a list with one more element at its end
pub position_from-push : {X : Type 0} (t : X → Bool) (i : ℕ) (xs : List X) (y : X)
    → position_from t i (xs ++ y ∷ []) ≡ cond (list_any t xs) (position_from t i xs) (cond (t y) (Some (i + length xs)) None)
position_from-push t i [] y = ap (λ n. cond (t y) (Some n) None) (omega arith)
position_from-push t i (x ∷ xs) y =
    elim (t x) as (λ b. cond b (Some i) (position_from t (i + 1) (xs ++ y ∷ []))
    ≡ cond (b || list_any t xs) (cond b (Some i) (position_from t (i + 1) xs)) (cond (t y) (Some (i + length (x ∷ xs))) None)) [
      | true ↦ refl
      | false ↦ position_from-push t (i + 1) xs y ∙ ap (λ n. cond (list_any t xs) (position_from t (i + 1) xs) (cond (t y) (Some n) None)) (omega arith)
    ]

pub position_of-held : (graph : List Entry) (id : UpdateId) → is_some (position_of graph id) ≡ holds graph id
position_of-held graph id = is_some-position (λ (e : Entry). same_id id e.id) 0 graph

-- there is no place where there is none to find
none_from_test : (o : Option ℕ) → is_some o ≡ false → o ≡ None
none_from_test None h = refl
none_from_test (Some k) h = absurd (cc)

-- an element at the end is found only where none before it passes
with_last : (s h : Bool) (n : ℕ) (o : Option ℕ) → is_some o ≡ h → (s ≡ true → h ≡ false)
    → cond s (Some n) o ≡ cond h o (cond s (Some n) None)
with_last true true n o found new = absurd (let e = new refl in cc)
with_last true false n o found new = refl
with_last false true n o found new = refl
with_last false false n o found new = none_from_test o found

without_last : (s h : Bool) (n : ℕ) (o : Option ℕ) → is_some o ≡ h → (s ≡ true → h ≡ false)
    → cond s None (cond h o (cond s (Some n) None)) ≡ o
without_last true true n o found new = absurd (let e = new refl in cc)
without_last true false n o found new = sym (none_from_test o found)
without_last false true n o found new = refl
without_last false false n o found new = sym (none_from_test o found)

-- an id that is not held stays so under another spelling
not_held_same : (graph : List Entry) (a b : UpdateId) → holds graph a ≡ false → same_id a b ≡ true → holds graph b ≡ false
not_held_same graph a b none same = subst (λ (id : UpdateId). holds graph id ≡ false) (id_from_same a b same) none

-- the place of an id in a list with one more member
position_of-last : (graph : List Entry) (e : Entry) (id : UpdateId)
    → position_of (graph ++ e ∷ []) id ≡ cond (holds graph id) (position_of graph id) (cond (same_id e.id id) (Some (length graph)) None)
position_of-last graph e id =
    position_from-push (λ (x : Entry). same_id id x.id) 0 graph e
    ∙ ap (λ n. cond (holds graph id) (position_of graph id) (cond (same_id id e.id) (Some n) None)) (zero-add (length graph))
    ∙ ap (λ s. cond (holds graph id) (position_of graph id) (cond s (Some (length graph)) None)) (same_id-symm id e.id)

-- the index after one more member
pub position_of-push : (graph : List Entry) (e : Entry) (id : UpdateId) → holds graph e.id ≡ false
    → cond (same_id e.id id) (Some (length graph)) (position_of graph id) ≡ position_of (graph ++ e ∷ []) id
position_of-push graph e id new =
    with_last (same_id e.id id) (holds graph id) (length graph) (position_of graph id) (position_of-held graph id) (not_held_same graph e.id id new)
    ∙ sym (position_of-last graph e id)

-- the index after one member fewer
pub position_of-pop : (graph : List Entry) (e : Entry) (id : UpdateId) → holds graph e.id ≡ false
    → cond (same_id e.id id) None (position_of (graph ++ e ∷ []) id) ≡ position_of graph id
position_of-pop graph e id new =
    ap (λ o. cond (same_id e.id id) None o) (position_of-last graph e id)
    ∙ without_last (same_id e.id id) (holds graph id) (length graph) (position_of graph id) (position_of-held graph id) (not_held_same graph e.id id new)

-- where nothing is found that fails a test, each element passes it
pub all_pass : {X : Type 0} (f : X → Bool) (xs : List X) → find (λ x. not (f x)) xs ≡ None → AllByRecursion (λ x. f x ≡ true) xs
all_pass f [] none = tt
all_pass f (x ∷ xs) none =
    elim (f x) as (λ b. f x ≡ b → cond (not b) (Some x) (find (λ y. not (f y)) xs) ≡ None → AllByRecursion (λ y. f y ≡ true) (x ∷ xs)) [
      | true ↦ λ is h. (is, all_pass f xs h)
      | false ↦ λ is h. absurd (cc)
    ] refl none

-- a member whose id is not held, and that lacks no predecessor, may stand next
pub IsNext-from_tests : (graph : List Entry) (e : Entry) → position_of graph e.id ≡ None → lacking graph e ≡ None → IsNext graph e
IsNext-from_tests graph e none lacks = record {
  new = sym (position_of-held graph e.id) ∙ ap is_some none;
  preds = All-from_recursion (λ p. holds graph p ≡ true) e.preds (all_pass (holds graph) e.preds lacks);
}
