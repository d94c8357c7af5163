-- What is behind some members: the ancestors of one more member that would name them.
use Rattle.std.proofs.Common.{◌≡◌, ℕ, suc, ◌+◌, ◌<◌, true, false, ◌||◌, ltb, List, [], ◌∷◌, ◌++◌, length, refl, sym, ap, subst, ◌∙◌, arith, slice_index_or, All}
use Rattle.std.specs.Prelude.{◌==◌}
use Rattle.std.specs.List.{list_any}
use Rattle.std.proofs.lemmas.List.Elements.{recursion_from_All}
use Rattle.ancestry.specs.declared.clock.Clock.{Clock}
use Rattle.ancestry.specs.Chains.{chain_of, clock_of}
use Rattle.ancestry.specs.Clocked.{AreCounts, IsClock, AreClocked}
use Rattle.ancestry.specs.Since.{is_behind, since}
use Rattle.ancestry.specs.Walks.{AreLower, is_ancestor}
use Rattle.ancestry.proofs.Chained.{own_place, clock_tells}
use Rattle.ancestry.proofs.Clocking.{preds_last}
use Rattle.ancestry.proofs.Keeping.{clock_kept}
use Rattle.ancestry.proofs.Merging.{lower_push}
use Rattle.ancestry.proofs.Steps.{any_same, by_predecessors, stays}

pub behind_is : (graph : List (List ℕ)) (old : List ℕ) (p : ℕ) → AreLower graph → All (λ q. q < length graph) old → is_ancestor (graph ++ old ∷ []) p (length graph) ≡ is_behind graph old p
behind_is graph old p lower own =
    let grown = graph ++ old ∷ [] in
    let lower_grown = lower_push graph old lower own in
    by_predecessors grown p (length graph) lower_grown
    ∙ ap (list_any (λ q. (q == p) || is_ancestor grown p q)) (preds_last graph old)
    ∙ any_same (λ q. q < length graph) (λ q. (q == p) || is_ancestor grown p q) (λ q. (q == p) || is_ancestor graph p q) old
    (recursion_from_All (λ q. q < length graph) old own)
    (λ q low. ap (λ t. (q == p) || t) (stays graph (old ∷ []) p q low lower_grown))

-- One comparison with the greatest clock tells it of a member in a chain.
pub top_tells : (graph : List (List ℕ)) (clocks : List Clock) (old top : List ℕ) (p : ℕ) (x : Clock) → AreLower graph → AreClocked graph clocks → All (λ q. q < length graph) old
    → AreCounts (graph ++ old ∷ []) (length graph) top → p < length graph → x ≡ slice_index_or clocks p x → x.chain < 64
    → ltb (slice_index_or x.counts x.chain 0) (slice_index_or top x.chain 0) ≡ is_behind graph old p
top_tells graph clocks old top p x lower clocked own tops low reads in_one =
    let grown = graph ++ old ∷ [] in
    let lower_grown = lower_push graph old lower own in
    let one : IsClock grown p x = clock_kept graph (old ∷ []) p x lower_grown low (subst (IsClock graph p) (sym reads) (clocked.are p x low)) in
    let mine : chain_of grown p < 64 = subst (λ c. c < 64) one.chain in_one in
    rw (one.counts.are x.chain in_one, tops.are x.chain in_one, one.chain)
    (ap (λ n. ltb n (clock_of grown (length graph) (chain_of grown p))) (sym (own_place grown lower_grown p mine)) ∙ sym (clock_tells grown lower_grown p (length graph) mine)
    ∙ behind_is graph old p lower own)

-- ---- members in no chain

pub chain_read : (graph : List (List ℕ)) (clocks : List Clock) (p : ℕ) (x : Clock) → AreClocked graph clocks → p < length graph → x ≡ slice_index_or clocks p x → x.chain ≡ chain_of graph p
chain_read graph clocks p x clocked low reads = (subst (IsClock graph p) (sym reads) (clocked.are p x low)).chain

-- ---- the list

pub since_none : (graph : List (List ℕ)) (old : List ℕ) → since graph old 0 ≡ []
unfolding since
since_none graph old = refl

pub since_passed : (graph : List (List ℕ)) (old : List ℕ) (n : ℕ) → is_behind graph old n ≡ true → since graph old (n + 1) ≡ since graph old n
unfolding since
since_passed graph old n e = let next : n + 1 ≡ suc n = omega arith in rw (next, e) refl

pub since_more : (graph : List (List ℕ)) (old : List ℕ) (n : ℕ) → is_behind graph old n ≡ false → since graph old (n + 1) ≡ since graph old n ++ n ∷ []
unfolding since
since_more graph old n e = let next : n + 1 ≡ suc n = omega arith in rw (next, e) refl
