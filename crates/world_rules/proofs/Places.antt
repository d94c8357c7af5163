-- Looking up in lists of which one place changed.
use Rattle.std.proofs.Common.{◌≡◌, ◌⊎◌, inl, inr, ℕ, ◌<◌, List, length, map, get_or, set, Option, Some, None, refl, sym, ap, ◌∙◌, arith, get_or-set_other, get_or-set_same, length-set}
use Rattle.std.specs.Prelude.{slice_get, option_map, if◌then◌else◌, Bool, true, false}
use Rattle.std.proofs.lemmas.Bool.{cases_eq}
use Rattle.std.proofs.lemmas.Option.{slice_get-get_or, slice_get_within, get_or_from_slice_get, slice_get-map}
use Rattle.world_rules.specs.Worlds.{SessionOf, cut, cut_with, flat, takes_part}

pub set_here : {X : Type 0} (xs : List X) (i : ℕ) (x y : X) → slice_get xs i ≡ Some y → slice_get (set xs i x) i ≡ Some x
set_here xs i x y is =
    let low = slice_get_within xs i y is in
    slice_get-get_or (set xs i x) i x (omega (arith, low, length-set xs i x)) ∙ ap (λ z. Some z) (get_or-set_same xs i x x low)

pub set_there : {X : Type 0} (xs : List X) (i j : ℕ) (x z : X) → (j ≡ i → ⊥) → slice_get xs j ≡ Some z → slice_get (set xs i x) j ≡ Some z
set_there xs i j x z apart is =
    let low = slice_get_within xs j z is in
    slice_get-get_or (set xs i x) j z (omega (arith, low, length-set xs i x)) ∙ ap (λ y. Some y) (get_or-set_other xs i j x z apart ∙ get_or_from_slice_get xs j z z is)

-- what stands at a place afterwards is the new one, at its place, or was there before
pub set_cases : {X : Type 0} (xs : List X) (i j : ℕ) (x y : X) → slice_get (set xs i x) j ≡ Some y → ((j ≡ i) × (y ≡ x)) ⊎ ((j ≡ i → ⊥) × (slice_get xs j ≡ Some y))
set_cases xs i j x y is = elim (cases_eq j i) [
  | inl same ↦
      let low = slice_get_within (set xs i x) j y is in
      let here : i < length xs = omega (arith, low, same, length-set xs i x) in
      let was : get_or (set xs i x) j y ≡ y = get_or_from_slice_get (set xs i x) j y y is in
      let now : get_or (set xs i x) i y ≡ x = get_or-set_same xs i x y here in
      inl (same, sym was ∙ ap (λ k. get_or (set xs i x) k y) same ∙ now)
  | inr apart ↦
      let low = slice_get_within (set xs i x) j y is in
      let there : j < length xs = omega (arith, low, length-set xs i x) in
      let was : get_or (set xs i x) j y ≡ y = get_or_from_slice_get (set xs i x) j y y is in
      inr (apart, slice_get-get_or xs j y there ∙ ap (λ z. Some z) (sym (get_or-set_other xs i j x y apart) ∙ was))
]

-- a session that is there afterwards is the new one, or was there before
pub session_set : {X : Type 0} (xs : List (Option X)) (i j : ℕ) (m n : X) → flat (slice_get (set xs i (Some m)) j) ≡ Some n → (n ≡ m) ⊎ (flat (slice_get xs j) ≡ Some n)
session_set {X} xs i j m n is = by_place (slice_get (set xs i (Some m)) j) refl is
  where
    by_place : (found : Option (Option X)) → slice_get (set xs i (Some m)) j ≡ found → flat found ≡ Some n → (n ≡ m) ⊎ (flat (slice_get xs j) ≡ Some n)
    by_place None e f = absurd cc
    by_place (Some o) e f = elim (set_cases xs i j (Some m) o e) [
      | inl here ↦ inl (let both : Some n ≡ Some m = sym f ∙ here.1 in cc)
      | inr there ↦ inr (ap flat there.1 ∙ f)
    ]

-- a session that is there after some were cut was there before, or one that was cut was
pub session_cut : (xs : List (Option SessionOf)) (r j : ℕ) (n : SessionOf) → flat (slice_get (map (cut_with r) xs) j) ≡ Some n
    → (m : SessionOf) × (flat (slice_get xs j) ≡ Some m) × ((n ≡ m) ⊎ (n ≡ cut m))
session_cut xs r j n is = by_place (slice_get xs j) refl (sym (ap flat (slice_get-map (cut_with r) xs j)) ∙ is)
  where
    by_part : (m : SessionOf) (part : Bool) → Some (if part then cut m else m) ≡ Some n → (n ≡ m) ⊎ (n ≡ cut m)
    by_part m true e = inr cc
    by_part m false e = inl cc

    by_session : (found : Option SessionOf) → flat (slice_get xs j) ≡ found → cut_with r found ≡ Some n → (m : SessionOf) × (flat (slice_get xs j) ≡ Some m) × ((n ≡ m) ⊎ (n ≡ cut m))
    by_session None e f = absurd cc
    by_session (Some m) e f = (m, e, by_part m (takes_part r m) f)

    by_place : (found : Option (Option SessionOf)) → slice_get xs j ≡ found → flat (option_map (cut_with r) found) ≡ Some n
        → (m : SessionOf) × (flat (slice_get xs j) ≡ Some m) × ((n ≡ m) ⊎ (n ≡ cut m))
    by_place None e f = absurd cc
    by_place (Some o) e f = by_session o (ap flat e) f
