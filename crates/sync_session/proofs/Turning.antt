-- The Turn of an end, and its form.
use Rattle.std.proofs.Common.{◌≡◌, ℕ, zero, suc, Bool, false, List, [], ◌∷◌, take, refl, arith, length-take}
use Rattle.std.specs.List.{AllByRecursion}
use Rattle.std.specs.List.Sorted.{IsStrictlySortedBy}
use Rattle.std.specs.declared.cmp.Ordering.TheVariants.{Less}
use Rattle.update_model.specs.declared.update_id.UpdateId.{UpdateId}
use Rattle.update_model.specs.Entry.{id_cmp}
use Rattle.session_rules.specs.declared.limits.TheConstants.{MAX_NEEDS}
use Rattle.session_rules.specs.Steps.{AreLeast}
use Rattle.session_rules.proofs.Bounds.{sorted_none}
use Rattle.sync_frames.specs.Payload.{IsTurn}

each_take : (P : UpdateId → Type 0) (n : ℕ) (xs : List UpdateId) → AllByRecursion P xs → AllByRecursion P (take n xs)
each_take P zero xs all = tt
each_take P (suc n) [] all = tt
each_take P (suc n) (x ∷ xs) all = (all.0, each_take P n xs all.1)

-- the first of rising ids rise
pub sorted_take : (n : ℕ) (xs : List UpdateId) → IsStrictlySortedBy id_cmp xs → IsStrictlySortedBy id_cmp (take n xs)
unfolding IsStrictlySortedBy
sorted_take zero xs s = tt
sorted_take (suc n) [] s = tt
sorted_take (suc n) (x ∷ xs) s = (each_take (λ y. id_cmp x y ≡ Less) n xs s.0, sorted_take n xs s.1)

-- a Turn without needs
pub turn_empty : (have : Bool) (needs : List UpdateId) → needs ≡ [] → IsTurn (record { have = have; needs = needs })
turn_empty have needs none = rw none (record { few = omega arith; rising = sorted_none; none = λ _. refl })

-- a Turn that asks
pub turn_asks : (test : UpdateId → Bool) (needs ids : List UpdateId) → needs ≡ ids → AreLeast test MAX_NEEDS ids → IsTurn (record { have = false; needs = needs })
turn_asks test needs ids same least = rw same (record {
  few = rw least.front (omega (arith, length-take MAX_NEEDS least.all));
  rising = rw least.front (sorted_take MAX_NEEDS least.all least.rising);
  none = λ never. absurd (cc);
})
