-- Wave after wave.
use Rattle.std.proofs.Common.{◌≡◌, ◌⊎◌, inl, inr, ℕ, ◌<◌, ◌≤◌, ◌+◌, ◌-◌, ◌*◌, List, [], ◌∷◌, ◌++◌, length, min, Option, ap, ◌∙◌, append_assoc, length-append, arith}
use Rattle.std.specs.Prelude.{Contains}
use Rattle.update_model.specs.Entry.{Entry}
use Rattle.ready_batch.specs.Ready.{IsBehind}
use Rattle.ready_batch.specs.Steps.{KeepsSlots, AddsFrom}
use Rattle.ready_batch.proofs.Elements.{each_append}

pub behind_then : {M : Type 0} (a b c : List M) → IsBehind a b → IsBehind b c → IsBehind a c
behind_then {M} a b c ab bc = (ab.0 ++ bc.0, bc.1 ∙ ap (λ (l : List M). l ++ bc.0) ab.1 ∙ append_assoc a ab.0 bc.0)

pub behind_longer : {M : Type 0} (a b : List M) → IsBehind a b → length a ≤ length b
behind_longer a b ab = omega (arith, ap length ab.1, length-append a ab.0)

pub from_then : {M : Type 0} (entry : M → Entry) (a b c : List M) (slots slots' : List (Option M)) → KeepsSlots entry a slots b slots' → AddsFrom entry a slots b → AddsFrom entry b slots' c → AddsFrom entry a slots c
from_then {M} entry a b c slots slots' keeps ab bc batch are =
    let first = ab batch are in
    let second = bc batch (keeps batch are) in (
      first.0 ++ second.0,
      second.1 ∙ ap (λ (l : List M). l ++ second.0) first.1 ∙ append_assoc a first.0 second.0,
      each_append (Contains batch) first.0 second.0 first.2 second.2,
    )

-- what is to be tried grows only where the graph does
pub further_then : {M X : Type 0} (next next' : List X) (a b c : List M) → IsBehind a b → IsBehind b c → (next ≡ []) ⊎ (length a < length b) → (next' ≡ next) ⊎ (length b < length c) → (next' ≡ []) ⊎ (length a < length c)
further_then next next' a b c ab bc (inl none) (inl same) = inl (same ∙ none)
further_then next next' a b c ab bc (inl none) (inr grew) = inr (let le = behind_longer a b ab in omega (arith, le, grew))
further_then next next' a b c ab bc (inr grew) later = inr (let le = behind_longer b c bc in omega (arith, le, grew))

-- a wave that leaves as many to come, or none to try, is one step less
pub fewer_left : {X : Type 0} (most before after : ℕ) (wave next : List X) → 0 < length wave → before ≤ after → after ≤ most → (next ≡ []) ⊎ (before < after)
    → 2 * (most - after) + min 1 (length next) < 2 * (most - before) + min 1 (length wave)
fewer_left most before after wave next some le few (inl none) = let n = ap length none in omega arith
fewer_left most before after wave next some le few (inr grew) = omega arith

-- whoever stands last makes a list longer
pub longer_by_one : {M : Type 0} (before after : List M) (m : M) → after ≡ before ++ m ∷ [] → length before < length after
longer_by_one before after m is = omega (arith, ap length is, length-append before (m ∷ []))
