-- What an ancestry keeps stays so with one more member, and with fewer.
use Rattle.std.proofs.Common.{◌≡◌, inl, inr, ℕ, suc, ◌+◌, ◌-◌, ◌<◌, ◌≤◌, true, cond, List, [], ◌∷◌, ◌++◌, length, refl, sym, ap, subst, ◌∙◌, arith, slice_index_or, slice_set, All, take, drop, replicate, Fits, w32}
use Rattle.std.specs.Prelude.{◌==◌, Option, unwrap_or}
use Rattle.std.proofs.lemmas.Option.{slice_get_past, unwrap_or-slice_get}
use Rattle.std.proofs.lemmas.Bool.{eq-eqb, ne_eqb, cases_lt, cases_eq, cond-true, cond-false}
use Rattle.std.proofs.lemmas.List.{get_or_append_left, get_or_push, get_or-set_same, get_or-set_other, length-append, length-set, get_or-replicate, get_or-take, length-take-le, take-append-drop, take_more}
use Rattle.update_model.specs.declared.limits.TheConstants.{MAX_MEMBERS}
use Rattle.ancestry.specs.declared.clock.Clock.{Clock}
use Rattle.ancestry.specs.Below.{count_below}
use Rattle.ancestry.specs.Chains.{next_chain, chains, chain_of, members_below}
use Rattle.ancestry.specs.Clocked.{AreCounts, IsClock, AreClocked, AreSizes}
use Rattle.ancestry.specs.Kept.{IsKept}
use Rattle.ancestry.specs.Named.{is_noted, names, AreNamers}
use Rattle.ancestry.specs.Walks.{preds_at, AreLower}
use Rattle.ancestry.proofs.Below.{count_same, count_low}
use Rattle.ancestry.proofs.Steps.{preds_stay}
use Rattle.ancestry.proofs.Clocking.{chain_last, chain_stays, chains_stay, clock_stays}
use Rattle.ancestry.proofs.Merging.{lower_push}
use Rattle.ancestry.proofs.Naming.{named_front}

below_next : (graph : List (List ℕ)) (n c : ℕ) → members_below graph (suc n) c ≡ cond (chain_of graph n == c) (suc (members_below graph n c)) (members_below graph n c)
unfolding count_below
below_next graph n c = refl

below_stays : (graph more : List (List ℕ)) (n c : ℕ) → n ≤ length graph → members_below (graph ++ more) n c ≡ members_below graph n c
below_stays graph more n c low = count_same (λ a. chain_of (graph ++ more) a == c) (λ a. chain_of graph a == c) n (λ k under. ap (λ d. d == c) (chain_stays graph more k (omega arith)))

longer : (graph : List (List ℕ)) (preds : List ℕ) → length (graph ++ preds ∷ []) ≡ suc (length graph)
longer graph preds = length-append graph (preds ∷ []) ∙ omega arith

below_push : (graph : List (List ℕ)) (preds : List ℕ) (chain c : ℕ) → chain ≡ next_chain (chains graph (length graph)) preds
    → members_below (graph ++ preds ∷ []) (length (graph ++ preds ∷ [])) c ≡ cond (chain == c) (suc (members_below graph (length graph) c)) (members_below graph (length graph) c)
below_push graph preds chain c is =
    ap (λ n. members_below (graph ++ preds ∷ []) n c) (longer graph preds)
    ∙ below_next (graph ++ preds ∷ []) (length graph) c
    ∙ rw (chain_last graph preds ∙ sym is, below_stays graph (preds ∷ []) (length graph) c (omega arith)) refl

pub sizes_in : (graph : List (List ℕ)) (preds : List ℕ) (chain : ℕ) (sizes : List ℕ) → AreSizes graph sizes → chain ≡ next_chain (chains graph (length graph)) preds → chain < 64
    → AreSizes (graph ++ preds ∷ []) (slice_set sizes chain (slice_index_or sizes chain 0 + 1))
sizes_in graph preds chain sizes sized is in_one = record {
  long = length-set sizes chain (slice_index_or sizes chain 0 + 1) ∙ sized.long;
  are = λ c low. elim (cases_eq c chain) [
    | inl same ↦ let there : chain < length sizes = omega (arith, sized.long) in
        rw same (get_or-set_same sizes chain (slice_index_or sizes chain 0 + 1) 0 there ∙ (let now = sized.are chain in_one in let next = below_push graph preds chain chain is ∙ cond-true (chain == chain) (suc (members_below graph (length graph) chain)) (members_below graph (length graph) chain) (eq-eqb chain chain refl) in omega (arith, now, next)))
    | inr apart ↦ get_or-set_other sizes chain c (slice_index_or sizes chain 0 + 1) 0 apart ∙ sized.are c low
        ∙ sym (below_push graph preds chain c is ∙ cond-false (chain == c) (suc (members_below graph (length graph) c)) (members_below graph (length graph) c) (ne_eqb chain c (λ e. apart (sym e))))
  ];
}

pub sizes_out : (graph : List (List ℕ)) (preds : List ℕ) (chain : ℕ) (sizes : List ℕ) → AreSizes graph sizes → chain ≡ next_chain (chains graph (length graph)) preds → 64 ≤ chain
    → AreSizes (graph ++ preds ∷ []) sizes
sizes_out graph preds chain sizes sized is out = record {
  long = sized.long;
  are = λ c low. sized.are c low
      ∙ sym (below_push graph preds chain c is ∙ cond-false (chain == c) (suc (members_below graph (length graph) c)) (members_below graph (length graph) c) (ne_eqb chain c (λ e. absurd (omega arith))));
}

pub clock_kept : (graph more : List (List ℕ)) (b : ℕ) (clock : Clock) → AreLower (graph ++ more) → b < length graph → IsClock graph b clock → IsClock (graph ++ more) b clock
clock_kept graph more b clock lower low is = record {
  chain = is.chain ∙ sym (chain_stays graph more b low);
  counts = record { long = is.counts.long; are = λ c under. is.counts.are c under ∙ sym (clock_stays graph more b c lower low) };
}

pub clock_front : (graph more : List (List ℕ)) (b : ℕ) (clock : Clock) → AreLower (graph ++ more) → b < length graph → IsClock (graph ++ more) b clock → IsClock graph b clock
clock_front graph more b clock lower low is = record {
  chain = is.chain ∙ chain_stays graph more b low;
  counts = record { long = is.counts.long; are = λ c under. is.counts.are c under ∙ clock_stays graph more b c lower low };
}

pub clocked_push : (graph : List (List ℕ)) (preds : List ℕ) (clocks : List Clock) (clock : Clock) → AreLower graph → All (λ p. p < length graph) preds → AreClocked graph clocks
    → clock.chain ≡ next_chain (chains graph (length graph)) preds → AreCounts (graph ++ preds ∷ []) (length graph) clock.counts → AreClocked (graph ++ preds ∷ []) (clocks ++ clock ∷ [])
clocked_push graph preds clocks clock lower own clocked chain counts = record {
  long = length-append clocks (clock ∷ []) ∙ (let e = clocked.long in let f = longer graph preds in omega arith);
  are = λ b other low. elim (cases_eq b (length graph)) [
    | inl same ↦
        let here : slice_index_or (clocks ++ clock ∷ []) b other ≡ clock = get_or_push clocks clock other b (clocked.long ∙ sym same) in
        rw (here, same) record { chain = chain ∙ sym (chain_last graph preds); counts = counts }
    | inr apart ↦
        let under : b < length graph = let f = longer graph preds in omega arith in
        let here : slice_index_or (clocks ++ clock ∷ []) b other ≡ slice_index_or clocks b other = get_or_append_left clocks (clock ∷ []) other b (let e = clocked.long in omega arith) in
        rw here (clock_kept graph (preds ∷ []) b (slice_index_or clocks b other) (lower_push graph preds lower own) under (clocked.are b other under))
  ];
}

pub kept_more : (members : List (List ℕ)) (clocks : List Clock) (old namers : List (List ℕ)) (sizes new preds : List ℕ) (clock : Clock) → IsKept members clocks old sizes → AreNamers (members ++ preds ∷ []) namers
    → length members < MAX_MEMBERS → All (λ p. p < length members) preds → clock.chain ≡ next_chain (chains members (length members)) preds
    → AreCounts (members ++ preds ∷ []) (length members) clock.counts → AreSizes (members ++ preds ∷ []) new → IsKept (members ++ preds ∷ []) (clocks ++ clock ∷ []) namers new
kept_more members clocks old namers sizes new preds clock kept called few own chain counts sized = record {
  lower = lower_push members preds kept.lower own;
  few = let e = longer members preds in omega arith;
  clocked = clocked_push members preds clocks clock kept.lower own kept.clocked chain counts;
  named = called;
  sized = sized;
}

pub size_fits : (graph : List (List ℕ)) (sizes : List ℕ) (c : ℕ) → AreSizes graph sizes → length graph ≤ MAX_MEMBERS → c < 64 → Fits w32 (slice_index_or sizes c 0 + 1)
size_fits graph sizes c sized few low = let is = sized.are c low in omega (arith, is, count_low (λ a. chain_of graph a == c) (length graph))

pub kept_none : (sizes : List ℕ) → sizes ≡ replicate 64 0 → IsKept [] [] [] sizes
unfolding count_below
kept_none sizes is = record {
  lower = λ b. subst (All (λ p. p < b)) (sym (none_past b)) (λ k d low. absurd (omega arith));
  few = omega arith;
  clocked = record { long = refl; are = λ b other low. absurd (omega arith) };
  named = record { long = refl; all = λ p q low e. absurd (omega arith) };
  sized = record { long = rw is refl; are = λ c low. rw is (get_or-replicate 64 c 0 0 low) };
}
  where
    none_past : (b : ℕ) → preds_at [] b ≡ []
    none_past b = ap (λ (o : Option (List ℕ)). unwrap_or o []) (slice_get_past {X = List ℕ} [] b (omega arith))

-- ---- fewer members

pub lower_front : (graph more : List (List ℕ)) → AreLower (graph ++ more) → AreLower graph
lower_front graph more lower b = elim (cases_lt b (length graph)) [
  | inl low ↦ subst (All (λ p. p < b)) (preds_stay graph more b low) (lower b)
  | inr high ↦
      let none : preds_at graph b ≡ [] = ap (λ (o : Option (List ℕ)). unwrap_or o []) (slice_get_past graph b high) in
      rw none (λ k d low. absurd (omega arith))
]

pub clocked_front : (graph more : List (List ℕ)) (clocks : List Clock) → AreLower (graph ++ more) → AreClocked (graph ++ more) clocks → AreClocked graph (take (length graph) clocks)
clocked_front graph more clocks lower clocked =
    let size : length graph ≤ length clocks = let e = clocked.long in let f = length-append graph more in omega arith in
    record {
      long = length-take-le (length graph) clocks size;
      are = λ b other low. rw (get_or-take (length graph) clocks b other low) (clock_front graph more b (slice_index_or clocks b other) lower low (clocked.are b other (let f = length-append graph more in omega arith)));
    }

-- sizes before the last member came
module _ (graph : List (List ℕ)) (preds : List ℕ) (chain : ℕ) (sizes : List ℕ) (sized : AreSizes (graph ++ preds ∷ []) sizes) (is : chain ≡ next_chain (chains graph (length graph)) preds) where
  pub size_some : chain < 64 → slice_index_or sizes chain 0 ≡ suc (members_below graph (length graph) chain)
  size_some low = sized.are chain low ∙ below_push graph preds chain chain is
      ∙ cond-true (chain == chain) (suc (members_below graph (length graph) chain)) (members_below graph (length graph) chain) (eq-eqb chain chain refl)

  pub sizes_before_in : chain < 64 → AreSizes graph (slice_set sizes chain (slice_index_or sizes chain 0 - 1))
  sizes_before_in in_one = record {
    long = length-set sizes chain (slice_index_or sizes chain 0 - 1) ∙ sized.long;
    are = λ c low. elim (cases_eq c chain) [
      | inl same ↦ let there : chain < length sizes = omega (arith, sized.long) in
          rw same (get_or-set_same sizes chain (slice_index_or sizes chain 0 - 1) 0 there ∙ (let now = size_some in_one in omega (arith, now)))
      | inr apart ↦ get_or-set_other sizes chain c (slice_index_or sizes chain 0 - 1) 0 apart ∙ sized.are c low
          ∙ below_push graph preds chain c is ∙ cond-false (chain == c) (suc (members_below graph (length graph) c)) (members_below graph (length graph) c) (ne_eqb chain c (λ e. apart (sym e)))
    ];
  }

  pub sizes_before_out : 64 ≤ chain → AreSizes graph sizes
  sizes_before_out out = record {
    long = sized.long;
    are = λ c low. sized.are c low
        ∙ below_push graph preds chain c is ∙ cond-false (chain == c) (suc (members_below graph (length graph) c)) (members_below graph (length graph) c) (ne_eqb chain c (λ e. absurd (omega arith)));
  }

-- ---- the members in front, by a number

chain_front : (members : List (List ℕ)) (k : ℕ) → k < length members → chain_of members k ≡ next_chain (chains (take k members) (length (take k members))) (slice_index_or members k [])
chain_front members k low =
    let size : length (take k members) ≡ k = length-take-le k members (omega arith) in
    let same : chains members k ≡ chains (take k members) k =
    ap (λ (g : List (List ℕ)). chains g k) (sym (take-append-drop k members)) ∙ chains_stay (take k members) (drop k members) k (omega (arith, size)) in
    let named : preds_at members k ≡ slice_index_or members k [] = unwrap_or-slice_get members k [] in
    rw (same, named, size) refl

module _ (members : List (List ℕ)) (clocks : List Clock) (sizes : List ℕ) (position : ℕ) (other : Clock) (clocked : AreClocked members clocks) (high : 0 < position) (within : position ≤ length members)
    (sized : AreSizes (take position members) sizes) where
  before_last : AreSizes (take (position - 1) members ++ slice_index_or members (position - 1) [] ∷ []) sizes
  before_last =
      let next : position ≡ position - 1 + 1 = omega arith in
      let split : take position members ≡ take (position - 1) members ++ slice_index_or members (position - 1) [] ∷ [] =
      ap (λ n. take n members) next ∙ take_more members (position - 1) [] (omega arith) in
      subst (λ (g : List (List ℕ)). AreSizes g sizes) split sized

  last_chain : (slice_index_or clocks (position - 1) other).chain ≡ next_chain (chains (take (position - 1) members) (length (take (position - 1) members))) (slice_index_or members (position - 1) [])
  last_chain = (clocked.are (position - 1) other (omega arith)).chain ∙ chain_front members (position - 1) (omega arith)

  pub uncount_some : (slice_index_or clocks (position - 1) other).chain < 64 → 1 ≤ slice_index_or sizes (slice_index_or clocks (position - 1) other).chain 0
  uncount_some low =
      let is = size_some (take (position - 1) members) (slice_index_or members (position - 1) []) (slice_index_or clocks (position - 1) other).chain sizes before_last last_chain low in
      omega (arith, is)

  pub uncount_in : (slice_index_or clocks (position - 1) other).chain < 64
      → AreSizes (take (position - 1) members) (slice_set sizes (slice_index_or clocks (position - 1) other).chain (slice_index_or sizes (slice_index_or clocks (position - 1) other).chain 0 - 1))
  uncount_in low = sizes_before_in (take (position - 1) members) (slice_index_or members (position - 1) []) (slice_index_or clocks (position - 1) other).chain sizes before_last last_chain low

  pub uncount_out : 64 ≤ (slice_index_or clocks (position - 1) other).chain → AreSizes (take (position - 1) members) sizes
  uncount_out out = sizes_before_out (take (position - 1) members) (slice_index_or members (position - 1) []) (slice_index_or clocks (position - 1) other).chain sizes before_last last_chain out

pub kept_front : (members : List (List ℕ)) (clocks : List Clock) (old namers : List (List ℕ)) (sizes new : List ℕ) (len : ℕ) → IsKept members clocks old sizes → len ≤ length members
    → AreSizes (take len members) new → length namers ≡ length old → ((p q : ℕ) → q < len → is_noted old p q ≡ true → is_noted namers p q ≡ true)
    → IsKept (take len members) (take len clocks) (take len namers) new
kept_front members clocks old namers sizes new len kept low sized same stay =
    let size : length (take len members) ≡ len = length-take-le len members low in
    let whole : take len members ++ drop len members ≡ members = take-append-drop len members in
    let lower : AreLower (take len members ++ drop len members) = subst AreLower (sym whole) kept.lower in
    let clocked : AreClocked (take len members ++ drop len members) clocks = subst (λ (g : List (List ℕ)). AreClocked g clocks) (sym whole) kept.clocked in
    let called : AreNamers (take len members) (take (length (take len members)) namers) =
    named_front (take len members) (drop len members) namers lower (same ∙ kept.named.long ∙ ap (length {A = List ℕ}) (sym whole))
    (λ p q under below e. stay p q (omega (arith, size, below)) (kept.named.all p q (omega (arith, size, under, low)) (subst (λ (g : List (List ℕ)). names g q p ≡ true) whole e))) in
    record {
      lower = lower_front (take len members) (drop len members) lower;
      few = let few = kept.few in omega arith;
      clocked = subst (λ n. AreClocked (take len members) (take n clocks)) size (clocked_front (take len members) (drop len members) clocks lower clocked);
      named = subst (λ n. AreNamers (take len members) (take n namers)) size called;
      sized = sized;
    }
