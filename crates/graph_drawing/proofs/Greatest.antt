-- The greatest of numbers, and lists that agree.
use Rattle.std.proofs.Common.{◌≡◌, ℕ, ◌≤◌, max, Bool, true, false, ◌||◌, List, [], ◌∷◌, map, refl, ap₂, arith}
use Rattle.std.specs.List.{fold, list_all}
use Rattle.std.proofs.lemmas.Bool.{and_parts}
use Rattle.update_model.specs.declared.update_id.UpdateId.{UpdateId}
use Rattle.update_model.specs.Entry.{same_id}
use Rattle.update_model.specs.Graph.{has}
use Rattle.update_model.proofs.Ids.{id_from_same}

pub start-le : (start : ℕ) (numbers : List ℕ) → start ≤ fold max start numbers
start-le start [] = omega arith
start-le start (n ∷ numbers) = let rest = start-le (max start n) numbers in omega (arith, rest)

-- no number is above a bound that none of them passes
pub fold-le : (f : UpdateId → ℕ) (bound : ℕ) → ((id : UpdateId) → f id ≤ bound) → (start : ℕ) → start ≤ bound → (ids : List UpdateId) → fold max start (map f ids) ≤ bound
fold-le f bound below start low [] = low
fold-le f bound below start low (id ∷ ids) = let here = below id in fold-le f bound below (max start (f id)) (omega (arith, here, low)) ids

-- each of them is at most the greatest
pub each-le : (f : UpdateId → ℕ) (start : ℕ) (ids : List UpdateId) (id : UpdateId) → has ids id ≡ true → f id ≤ fold max start (map f ids)
each-le f start [] id h = absurd cc
each-le f start (other ∷ ids) id h =
    let step : (b : Bool) → same_id id other ≡ b → (b || has ids id) ≡ true → f id ≤ fold max (max start (f other)) (map f ids) = elim [
      | true ↦ λ is e.
          let here : id ≡ other = id_from_same id other is in
          let low = start-le (max start (f other)) (map f ids) in
          let same : f id ≡ f other = (λ i. f (here i)) in
          omega (arith, low, same)
      | false ↦ λ is e. each-le f (max start (f other)) ids id e
    ] in
    step (same_id id other) refl h

-- functions that agree where a test passes agree on ids that all pass
pub same_map : (f g : UpdateId → ℕ) (test : UpdateId → Bool) → ((id : UpdateId) → test id ≡ true → f id ≡ g id) → (ids : List UpdateId) → list_all test ids ≡ true → map f ids ≡ map g ids
same_map f g test agree [] all = refl
same_map f g test agree (id ∷ ids) all =
    let parts = and_parts (test id) (list_all test ids) all in
    ap₂ (λ n ns. n ∷ ns) (agree id parts.0) (same_map f g test agree ids parts.1)
