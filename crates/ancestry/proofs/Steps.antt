-- Ancestors by steps: more steps than needed change nothing, nor do later members, and nothing below leads to a member.
use Rattle.std.proofs.Common.{◌≡◌, ℕ, zero, suc, ◌<◌, ◌≤◌, Bool, false, ◌||◌, List, [], ◌∷◌, ◌++◌, length, refl, sym, ap, subst, ◌∙◌, arith, inl, inr, All, get_or}
use Rattle.std.specs.Prelude.{◌==◌, Option, unwrap_or}
use Rattle.std.specs.List.{list_any, AllByRecursion}
use Rattle.std.proofs.lemmas.Bool.Decides.{eqb_tells}
use Rattle.std.proofs.lemmas.List.{get_or_append_left, get_or_read}
use Rattle.std.proofs.lemmas.List.Elements.{recursion_from_All}
use Rattle.std.proofs.lemmas.Option.{unwrap_or-slice_get, slice_get_past}
use Rattle.ancestry.specs.Walks.{preds_at, AreLower, leads_in, is_ancestor}

-- tests that agree on each element
pub any_same : (P : ℕ → Type 0) (p q : ℕ → Bool) (xs : List ℕ) → AllByRecursion P xs → ((x : ℕ) → P x → p x ≡ q x) → list_any p xs ≡ list_any q xs
any_same P p q [] all same = refl
any_same P p q (x ∷ xs) all same = rw (same x all.0, any_same P p q xs all.1 same) refl

none_passes : (P : ℕ → Type 0) (p : ℕ → Bool) (xs : List ℕ) → AllByRecursion P xs → ((x : ℕ) → P x → p x ≡ false) → list_any p xs ≡ false
none_passes P p [] all none = refl
none_passes P p (x ∷ xs) all none = rw (none x all.0) (none_passes P p xs all.1 none)

pub lower_preds : (graph : List (List ℕ)) (b : ℕ) → AreLower graph → AllByRecursion (λ p. p < b) (preds_at graph b)
lower_preds graph b lower = recursion_from_All (λ p. p < b) (preds_at graph b) (lower b)

-- as many steps as the position is high are enough
enough : (graph : List (List ℕ)) → AreLower graph → (m n a b : ℕ) → b < m → b < n → leads_in graph m a b ≡ leads_in graph n a b
unfolding leads_in
enough graph lower zero n a b low high = absurd (omega arith)
enough graph lower (suc m) zero a b low high = absurd (omega arith)
enough graph lower (suc m) (suc n) a b low high =
    any_same (λ p. p < b) (λ p. (p == a) || leads_in graph m a p) (λ p. (p == a) || leads_in graph n a p) (preds_at graph b) (lower_preds graph b lower)
    (λ p below. ap (λ t. (p == a) || t) (enough graph lower m n a p (omega arith) (omega arith)))

pub by_predecessors : (graph : List (List ℕ)) (a b : ℕ) → AreLower graph → is_ancestor graph a b ≡ list_any (λ p. (p == a) || is_ancestor graph a p) (preds_at graph b)
unfolding leads_in
by_predecessors graph a b lower =
    any_same (λ p. p < b) (λ p. (p == a) || leads_in graph b a p) (λ p. (p == a) || leads_in graph (suc p) a p) (preds_at graph b) (lower_preds graph b lower)
    (λ p below. ap (λ t. (p == a) || t) (enough graph lower b (suc p) a p below (omega arith)))

-- later members add nothing to what an earlier one names
pub preds_stay : (graph more : List (List ℕ)) (b : ℕ) → b < length graph → preds_at (graph ++ more) b ≡ preds_at graph b
preds_stay graph more b low =
    unwrap_or-slice_get (graph ++ more) b [] ∙ get_or_append_left graph more [] b low ∙ sym (unwrap_or-slice_get graph b [])

steps_stay : (graph more : List (List ℕ)) → AreLower (graph ++ more) → (n a b : ℕ) → b < length graph → leads_in (graph ++ more) n a b ≡ leads_in graph n a b
unfolding leads_in
steps_stay graph more lower zero a b low = refl
steps_stay graph more lower (suc n) a b low =
    let own : AllByRecursion (λ p. p < b) (preds_at graph b) = subst (AllByRecursion (λ p. p < b)) (preds_stay graph more b low) (lower_preds (graph ++ more) b lower) in
    ap (list_any (λ p. (p == a) || leads_in (graph ++ more) n a p)) (preds_stay graph more b low)
    ∙ any_same (λ p. p < b) (λ p. (p == a) || leads_in (graph ++ more) n a p) (λ p. (p == a) || leads_in graph n a p) (preds_at graph b) own
    (λ p below. ap (λ t. (p == a) || t) (steps_stay graph more lower n a p (omega arith)))

pub stays : (graph more : List (List ℕ)) (a b : ℕ) → b < length graph → AreLower (graph ++ more) → is_ancestor (graph ++ more) a b ≡ is_ancestor graph a b
stays graph more a b low lower = steps_stay graph more lower (suc b) a b low

-- what does not stand above a member has it as no ancestor
no_steps : (graph : List (List ℕ)) → AreLower graph → (n a b : ℕ) → b ≤ a → leads_in graph n a b ≡ false
unfolding leads_in
no_steps graph lower zero a b low = refl
no_steps graph lower (suc n) a b low =
    none_passes (λ p. p < b) (λ p. (p == a) || leads_in graph n a p) (preds_at graph b) (lower_preds graph b lower)
    (λ p below. elim (eqb_tells p a) [
      | inl same ↦ absurd (let e = same.1 in omega arith)
      | inr apart ↦ rw (apart.0) (no_steps graph lower n a p (omega arith))
    ])

pub not_below : (graph : List (List ℕ)) (a b : ℕ) → AreLower graph → b ≤ a → is_ancestor graph a b ≡ false
not_below graph a b lower low = no_steps graph lower (suc b) a b low

-- what names only members below one does not have it as an ancestor
pub names_below : (graph : List (List ℕ)) (a b : ℕ) → AreLower graph → All (λ p. p < a) (preds_at graph b) → is_ancestor graph a b ≡ false
names_below graph a b lower below =
    by_predecessors graph a b lower
    ∙ none_passes (λ p. p < a) (λ p. (p == a) || is_ancestor graph a p) (preds_at graph b) (recursion_from_All (λ p. p < a) (preds_at graph b) below)
    (λ p low. elim (eqb_tells p a) [
      | inl same ↦ absurd (let e = same.1 in omega arith)
      | inr apart ↦ rw (apart.0) (not_below graph a p lower (omega arith))
    ])

-- a position that no member has has no ancestors
pub none_there : (graph : List (List ℕ)) (a b : ℕ) → length graph ≤ b → is_ancestor graph a b ≡ false
unfolding leads_in
none_there graph a b high =
    let none : preds_at graph b ≡ [] = ap (λ (o : Option (List ℕ)). unwrap_or o []) (slice_get_past graph b high) in
    ap (list_any (λ p. (p == a) || leads_in graph b a p)) none

-- what the member at a position names
pub preds_read : (graph : List (List ℕ)) (i : ℕ) (preds : List ℕ) → i < length graph → preds ≡ get_or graph i preds → preds_at graph i ≡ preds
preds_read graph i preds low is = unwrap_or-slice_get graph i [] ∙ sym (get_or_read graph i preds low is [])
