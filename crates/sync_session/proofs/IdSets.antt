-- Sets of ids that grow.
use Rattle.std.proofs.Common.{◌≡◌, ℕ, ◌<◌, ◌≤◌, ◌+◌, Bool, true, false, cond, ◌||◌, List, [], ◌∷◌, ◌++◌, length, take, get_or, refl, sym, ap, ◌∙◌, arith, take_at, take_all, append-nil, length-append}
use Rattle.std.proofs.lemmas.List.{take_more}
use Rattle.std.proofs.lemmas.List.Folds.{list_any-append}
use Rattle.session_rules.specs.declared.limits.TheConstants.{MAX_NEEDS}
use Rattle.update_model.specs.declared.update_id.UpdateId.{UpdateId}
use Rattle.update_model.specs.Entry.{same_id}
use Rattle.update_model.specs.Graph.{has}
use Rattle.update_model.proofs.Ids.{same_id-symm}

pub has-take_more : (ids : List UpdateId) (i : ℕ) (d q : UpdateId) → i < length ids → has (take (i + 1) ids) q ≡ (has (take i ids) q || (same_id (get_or ids i d) q || false))
has-take_more ids i d q low = ap (λ (xs : List UpdateId). has xs q) (take_more ids i d low) ∙ list_any-append (same_id q) (take i ids) (get_or ids i d ∷ [])
    ∙ ap (λ b. has (take i ids) q || (b || false)) (same_id-symm q (get_or ids i d))

pub put_in : (old new was taken same : Bool) → new ≡ cond same true old → old ≡ (was || taken) → new ≡ (was || (taken || (same || false)))
put_in old new was taken true e f = e ∙ all was taken
  where
    all : (a b : Bool) → true ≡ (a || (b || true))
    all true b = refl
    all false true = refl
    all false false = refl
put_in old new was taken false e f = e ∙ f ∙ ap (λ b. was || b) (none taken)
  where
    none : (b : Bool) → b ≡ (b || false)
    none true = refl
    none false = refl

-- the front of a list that is long enough, and the whole of one that is not too long
pub front_is : (front rest all : List UpdateId) → front ++ rest ≡ all → length front ≤ MAX_NEEDS → MAX_NEEDS ≤ length front → front ≡ take MAX_NEEDS all
front_is front rest all e few enough = sym (ap (take MAX_NEEDS) (sym e) ∙ take_at front rest MAX_NEEDS (omega arith))

pub whole_is : (front all : List UpdateId) → front ++ [] ≡ all → length front ≤ MAX_NEEDS → front ≡ take MAX_NEEDS all
whole_is front all e few = sym (append-nil front) ∙ e ∙ sym (take_all MAX_NEEDS all (let same = ap length e in omega (arith, length-append front [])))
