-- The first of rising ids that fails a test is the least that does.
use Rattle.std.proofs.Common.{◌≡◌, ◌≢◌, suc, Bool, true, false, cond, not, List, [], ◌∷◌, Some, refl, sym, ◌∙◌, ap, subst, arith}
use Rattle.std.specs.declared.cmp.Ordering.TheVariants.{Less, Greater}
use Rattle.std.specs.Ordering.{is_eq}
use Rattle.std.specs.Prelude.{find, Contains}
use Rattle.std.specs.List.{AllByRecursion}
use Rattle.std.specs.List.Sorted.{IsStrictlySortedBy}
use Rattle.std.proofs.lemmas.List.Elements.{All-from_recursion}
use Rattle.update_model.specs.declared.update_id.UpdateId.{UpdateId}
use Rattle.update_model.specs.Entry.{Entry, id_cmp}
use Rattle.update_model.specs.Graph.{holds, lacking}
use Rattle.update_model.proofs.Ids.{same_id-refl}
use Rattle.hash_graph.specs.Answer.{IsLeastLacking}

-- what is found is among the elements, and fails the test
found_fails : {X : Type 0} (f : X → Bool) (xs : List X) (x : X) → find (λ y. not (f y)) xs ≡ Some x → Contains xs x × (f x ≡ false)
found_fails f [] x found = absurd (cc)
found_fails {X} f (y ∷ ys) x found =
    elim (f y) as (λ b. f y ≡ b → cond (not b) (Some y) (find (λ z. not (f z)) ys) ≡ Some x → Contains (y ∷ ys) x × (f x ≡ false)) [
      | true ↦ λ is h.
          let rest = found_fails f ys x h in ((suc rest.0.0, omega (arith, rest.0.1), rest.0.2), rest.1)
      | false ↦ λ is h.
          let same : y ≡ x = cc in ((0, omega arith, same), subst (λ (z : X). f z ≡ false) same is)
    ] refl found

-- an id is not above itself
not_above_itself : (a : UpdateId) → id_cmp a a ≢ Greater
not_above_itself a above = let e = sym (same_id-refl a) ∙ ap is_eq above in cc

-- an id that is below these is above none of them
above_none : (f : UpdateId → Bool) (a : UpdateId) (xs : List UpdateId) → AllByRecursion (λ y. id_cmp a y ≡ Less) xs
    → AllByRecursion (λ y. f y ≡ false → id_cmp a y ≢ Greater) xs
above_none f a [] below = tt
above_none f a (x ∷ xs) below = ((λ _ above. let e = sym below.0 ∙ above in cc), above_none f a xs below.1)

-- of rising ids, the first that fails a test is above no other that does
least_found : (f : UpdateId → Bool) (xs : List UpdateId) (id : UpdateId) → IsStrictlySortedBy id_cmp xs → find (λ y. not (f y)) xs ≡ Some id
    → AllByRecursion (λ y. f y ≡ false → id_cmp id y ≢ Greater) xs
unfolding IsStrictlySortedBy
least_found f [] id rising found = tt
least_found f (x ∷ xs) id rising found =
    elim (f x) as (λ b. f x ≡ b → cond (not b) (Some x) (find (λ y. not (f y)) xs) ≡ Some id → AllByRecursion (λ y. f y ≡ false → id_cmp id y ≢ Greater) (x ∷ xs)) [
      | true ↦ λ is h. ((λ fails. absurd (cc)), least_found f xs id rising.1 h)
      | false ↦ λ is h.
          let same : x ≡ id = cc
          in subst (λ (a : UpdateId). AllByRecursion (λ y. f y ≡ false → id_cmp a y ≢ Greater) (x ∷ xs)) same
          ((λ _. not_above_itself x), above_none f x xs rising.0)
    ] refl found

-- the first predecessor that is not held is the least
pub least_lacking : (graph : List Entry) (e : Entry) (id : UpdateId) → IsStrictlySortedBy id_cmp e.preds → lacking graph e ≡ Some id
    → IsLeastLacking graph e id
least_lacking graph e id rising found =
    let fails = found_fails (holds graph) e.preds id found in
    record {
      named = fails.0;
      lacks = fails.1;
      least = All-from_recursion (λ p. holds graph p ≡ false → id_cmp id p ≢ Greater) e.preds (least_found (holds graph) e.preds id rising found);
    }
