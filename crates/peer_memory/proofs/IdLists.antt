-- Lists of ids that are gathered one by one.
use Rattle.std.proofs.Common.{◌≡◌, ℕ, ◌<◌, ◌≤◌, ◌+◌, Bool, true, false, cond, ◌||◌, List, [], ◌∷◌, ◌++◌, length, take, get_or, refl, sym, ap, ◌∙◌, arith, take_at, take_all, append-nil, length-append}
use Rattle.std.specs.Prelude.{Some, None}
use Rattle.std.specs.List.{AllByRecursion}
use Rattle.std.specs.List.Sorted.{IsStrictlySortedBy}
use Rattle.std.specs.Ordering.{is_lt}
use Rattle.std.specs.declared.cmp.Ordering.TheVariants.{Less}
use Rattle.std.proofs.lemmas.List.{take_more}
use Rattle.std.proofs.lemmas.List.Folds.{list_any-append}
use Rattle.update_model.specs.declared.update_id.UpdateId.{UpdateId}
use Rattle.update_model.specs.Entry.{id_cmp, same_id}
use Rattle.update_model.specs.Form.{AreRising}
use Rattle.update_model.specs.Graph.{has}
use Rattle.update_model.proofs.Ids.{same_id-symm}
use Rattle.peer_memory.specs.declared.limits.TheConstants.{MAX_HEADS}

-- one id more that was put into a set
pub put_in : (ids : List UpdateId) (i : ℕ) (d q : UpdateId) (old new : Bool) → i < length ids → new ≡ cond (same_id (get_or ids i d) q) true old → old ≡ has (take i ids) q
    → new ≡ has (take (i + 1) ids) q
put_in ids i d q old new low put was =
    put ∙ joined (same_id (get_or ids i d) q) old (has (take i ids) q) was ∙ ap (λ b. has (take i ids) q || (b || false)) (same_id-symm (get_or ids i d) q)
    ∙ sym (ap (λ (xs : List UpdateId). has xs q) (take_more ids i d low) ∙ list_any-append (same_id q) (take i ids) (get_or ids i d ∷ []))
  where
    joined : (same old was : Bool) → old ≡ was → cond same true old ≡ (was || (same || false))
    joined true old true e = refl
    joined true old false e = refl
    joined false true true e = refl
    joined false false false e = refl
    joined false true false e = absurd cc
    joined false false true e = absurd cc

-- the front of a list that is long enough, and the whole of one that is not too long
pub front_is : (front rest all : List UpdateId) → front ++ rest ≡ all → length front ≤ MAX_HEADS → MAX_HEADS ≤ length front → front ≡ take MAX_HEADS all
front_is front rest all e few enough = sym (ap (take MAX_HEADS) (sym e) ∙ take_at front rest MAX_HEADS (omega arith))

pub whole_is : (front all : List UpdateId) → front ++ [] ≡ all → length front ≤ MAX_HEADS → front ≡ take MAX_HEADS all
whole_is front all e few = sym (append-nil front) ∙ e ∙ sym (take_all MAX_HEADS all (let same = ap length e in omega (arith, length-append front [])))

-- sorted ids rise one by one
rises_above : (last : UpdateId) (ids : List UpdateId) → AllByRecursion (λ id. id_cmp last id ≡ Less) ids → IsStrictlySortedBy id_cmp ids → AreRising (Some last) ids
unfolding IsStrictlySortedBy
rises_above last [] below sorted = tt
rises_above last (id ∷ ids) below sorted = (ap is_lt below.0, rises_above id ids sorted.0 sorted.1)

pub rising_from_sorted : (ids : List UpdateId) → IsStrictlySortedBy id_cmp ids → AreRising None ids
unfolding IsStrictlySortedBy
rising_from_sorted [] sorted = tt
rising_from_sorted (id ∷ ids) sorted = rises_above id ids sorted.0 sorted.1
