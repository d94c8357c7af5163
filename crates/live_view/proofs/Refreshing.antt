-- What a refresh hands out.
use Rattle.std.proofs.Common.{◌≡◌, inl, inr, ℕ, List, [], ◌∷◌, length, refl, sym, ◌∙◌, ap, subst}
use Rattle.std.specs.Prelude.{◌≢◌, Bool, true, false, None, Some}
use Rattle.std.specs.List.{Contains}
use Rattle.std.proofs.lemmas.Bool.{true≢false}
use Rattle.live_view.specs.Named.{RiseByName}
use Rattle.live_view.specs.Changes.{AreMissing, IsChange, Line}
use Rattle.live_view.specs.Shown.{IsWanted, Refreshes, ViewData, showing}
use Rattle.live_view.specs.declared.change.Change.{Change}
use Rattle.live_view.proofs.Differing.{missing_or, one_change, one_missing, one_rising}
use Rattle.live_view.proofs.Those.{here, none_of, there}

none_missing : (others lines : List Line) → ((line : Line) → Contains lines line → Contains others line) → AreMissing others lines []
none_missing others [] all = refl
none_missing others (line ∷ lines) all = inr (all line (here line lines), none_missing others lines (λ x has. all x (there line x lines has)))

found : (others lines : List Line) → AreMissing others lines [] → (line : Line) → Contains lines line → Contains others line
found others lines none line has = elim (missing_or others lines [] line none has) [
  | inl lost ↦ absurd (none_of line lost)
  | inr other ↦ other
]

-- an empty change is between equal answers
pub same_answers : (before after : List Line) (change : Change) → RiseByName before → RiseByName after → IsChange before after change → change.went ≡ [] → change.came ≡ [] → after ≡ before
same_answers before after change up next is went came =
    one_rising after before next up (found before after (subst (AreMissing before after) came is.came)) (found after before (subst (AreMissing after before) went is.went))

pub empty_change : (before after : List Line) (change : Change) → IsChange before after change → after ≡ before → (change.went ≡ []) × (change.came ≡ [])
empty_change before after change is same = (
  one_missing after before change.went [] is.went (none_missing after before (λ line has. subst (λ (l : List Line). Contains l line) (sym same) has)),
  one_missing before after change.came [] is.came (none_missing before after (λ line has. subst (λ (l : List Line). Contains l line) same has)),
)

pub refreshes_same : {G : Type 0} (wants : ℕ → ℕ → ℕ → Bool) (old : ViewData G) (answer : List Line) (change : Change) → RiseByName old.shown → RiseByName answer
    → IsChange old.shown answer change → (change.went ≡ []) × (change.came ≡ []) → Refreshes wants old answer None old
refreshes_same wants old answer change up next is none = (refl, inl (same_answers old.shown answer change up next is none.0 none.1))

pub refreshes_unwanted : {G : Type 0} (wants : ℕ → ℕ → ℕ → Bool) (old : ViewData G) (answer : List Line) (change : Change)
    → IsChange old.shown answer change → wants old.when.param (length change.went) (length change.came) ≡ false → Refreshes wants old answer None old
refreshes_unwanted wants old answer change is refused = (refl, inr (λ other is_other wanted. unwanted other is_other wanted))
  where
    unwanted : (other : Change) → IsChange old.shown answer other → IsWanted wants old.when.param other → ⊥
    unwanted other is_other wanted =
        true≢false (sym (subst (λ (c : Change). IsWanted wants old.when.param c) (one_change old.shown answer other change is_other is) wanted) ∙ refused)

pub refreshes_wanted : {G : Type 0} (wants : ℕ → ℕ → ℕ → Bool) (old new : ViewData G) (answer : List Line) (change : Change) → new ≡ showing old answer
    → IsChange old.shown answer change → ((change.went ≡ []) × (change.came ≡ []) → ⊥) → IsWanted wants old.when.param change
    → Refreshes wants old answer (Some change) new
refreshes_wanted wants old new answer change next is some wanted = (next, (λ same. some (empty_change old.shown answer change is same)), is, wanted)
