-- The sweep over a graph, from its last member to its first.
use Rattle.std.proofs.Common.{nat_lt, ◌≡◌, ◌⊎◌, inl, inr, ℕ, zero, suc, ◌<◌, ◌≤◌, ◌-◌, ◌==◌, true, false, cond, ◌||◌, List, [], ◌∷◌, ◌++◌, length, map, take, drop, reverse, refl, sym, ap, subst, ◌∙◌, arith, All, Contains, Option, Some, slice_get}
use Rattle.std.specs.List.{cons_option, AllByRecursion}
use Rattle.std.specs.List.Sorted.{IsStrictlySortedBy}
use Rattle.std.specs.Ordering.{nat_cmp}
use Rattle.std.specs.declared.cmp.Ordering.TheVariants.{Less, Equal, Greater}
use Rattle.std.proofs.lemmas.Bool.{or_cases, or_left, or_right}
use Rattle.std.proofs.lemmas.Bool.Decides.{nat_tests}
use Rattle.std.proofs.lemmas.List.{length-map, length-take-le, map-append, reverse-append, take-append-drop}
use Rattle.std.proofs.lemmas.List.Elements.{All-cons, All-contains, All-nil, Contains-append_cases}
use Rattle.update_model.specs.declared.update_id.UpdateId.{UpdateId}
use Rattle.update_model.specs.Entry.{Entry, same_id}
use Rattle.update_model.specs.Graph.{has, holds, IsAncestor, IsClosed, named, through}
use Rattle.update_model.specs.Since.{IsBehind, Picks}
use Rattle.update_model.proofs.Closed.{Follows-at, Follows-front}
use Rattle.update_model.proofs.Heads.{any_from_member, holds-named, witness}
use Rattle.update_model.proofs.Ids.{id_from_same}
use Rattle.update_codec.specs.Parts.{entry_of}
use Rattle.update_check.specs.Holding.{at_positions}
use Rattle.mem_holder.proofs.Lists.{cons_cases, drop_next, held_at}

-- ---- ancestors, by their successors

-- whom an ancestor names is an ancestor too
further : (g : List Entry) (e s d : Entry) → Contains g e → Contains g s → has s.preds e.id ≡ true → IsAncestor g s d → IsAncestor g e d
further g e s d held_e held_s calls (named _ held calls_s) = through s d held_s calls_s (named s held_e calls)
further g e s d held_e held_s calls (through p _ held calls_p rest) = through p d held calls_p (further g e s p held_e held_s calls rest)

-- whom a member that is behind names is behind
named_behind : (g : List Entry) (old : List UpdateId) (s e : Entry) → Contains g s → Contains g e → has s.preds e.id ≡ true → IsBehind g old s → IsBehind g old e
named_behind g old s e held_s held_e calls (inl is_old) = inr (s, held_s, is_old, named s held_e calls)
named_behind g old s e held_s held_e calls (inr d) = inr (d.0, d.1, d.2, further g e s d.0 held_e held_s calls d.3)

-- an ancestor of a member is named by it, or by an ancestor of it
first_step : (g : List Entry) (e d : Entry) → Contains g d → IsAncestor g e d → (s : Entry) × Contains g s × (has s.preds e.id ≡ true) × ((s ≡ d) ⊎ IsAncestor g s d)
first_step g e d held (named _ held_e calls) = (d, held, calls, inl refl)
first_step g e d held (through p _ held_p calls rest) =
    let s = first_step g e p held_p rest in (
      s.0,
      s.1,
      s.2,
      elim s.3 [
        | inl is ↦ inr (subst (λ (x : Entry). IsAncestor g x d) (sym is) (named d held_p calls))
        | inr above ↦ inr (through p d held_p calls above)
      ],
    )

-- whoever is behind has an old id, or one that is behind names it
abbrev IsCalled : List Entry → List UpdateId → UpdateId → Type 0
IsCalled g old id = (s : Entry) × Contains g s × (has s.preds id ≡ true) × IsBehind g old s

called : (g : List Entry) (old : List UpdateId) (e : Entry) → IsBehind g old e → (has old e.id ≡ true) ⊎ IsCalled g old e.id
called g old e (inl is_old) = inl is_old
called g old e (inr d) =
    let s = first_step g e d.0 d.1 d.3 in
    inr (
      s.0,
      s.1,
      s.2,
      elim s.3 [
        | inl is ↦ inl (subst (λ (x : Entry). has old x.id ≡ true) (sym is) d.2)
        | inr above ↦ inr (d.0, d.1, d.2, above)
      ],
    )

-- whoever names a member stands behind it
later : (front back : List Entry) (e s : Entry) → IsClosed (front ++ e ∷ back) → Contains (front ++ e ∷ back) s → has s.preds e.id ≡ true → Contains back s
later front back e s closed held calls =
    let next = Follows-at [] front back e closed in
    let new : holds front e.id ≡ false = next.new in
    elim (Contains-append_cases front (e ∷ back) s held) [
      | inl before ↦ absurd (let called = any_from_member (λ (m : Entry). has m.preds e.id) front s before calls in
          let there : holds front e.id ≡ true = holds-named [] front e.id (Follows-front [] front (e ∷ back) closed) called in cc)
      | inr from ↦ elim (cons_cases e back s from) [
        | inl is ↦ absurd (let own : has e.preds e.id ≡ true = subst (λ (x : Entry). has x.preds e.id ≡ true) (sym is) calls in
            let w = witness (same_id e.id) e.preds own in
            let there : holds front w.0 ≡ true = All-contains (λ p. holds front p ≡ true) e.preds w.0 next.preds w.1 in
            let same = id_from_same e.id w.0 w.2 in cc)
        | inr behind ↦ behind
      ]
    ]

-- ---- positions that rise

below_is_less : (x n : ℕ) → x < n → nat_cmp x n ≡ Less
below_is_less x n low = let test : nat_lt x n ≡ true = grind (arith, nat_tests) in ap (λ b. cond b Less (cond (x == n) Equal Greater)) test

all_less : (n : ℕ) (xs : List ℕ) → AllByRecursion (λ p. suc n ≤ p) xs → AllByRecursion (λ p. nat_cmp n p ≡ Less) xs
all_less n [] all = tt
all_less n (x ∷ xs) all = let low = all.0 in (below_is_less n x (omega arith), all_less n xs all.1)

all_lower : (n : ℕ) (xs : List ℕ) → AllByRecursion (λ p. suc n ≤ p) xs → AllByRecursion (λ p. n ≤ p) xs
all_lower n [] all = tt
all_lower n (x ∷ xs) all = let low = all.0 in (omega arith, all_lower n xs all.1)

rise_first : (n : ℕ) (xs : List ℕ) → AllByRecursion (λ p. suc n ≤ p) xs → IsStrictlySortedBy nat_cmp xs → IsStrictlySortedBy nat_cmp (n ∷ xs)
unfolding IsStrictlySortedBy
rise_first n xs high sorted = (all_less n xs high, sorted)

none_rise : IsStrictlySortedBy nat_cmp []
unfolding IsStrictlySortedBy
none_rise = tt

-- ---- the sweep

-- Of the first so many members, those from a position on were looked at: which of them are new, and whom those that are not
-- name.
pub record Swept (members : List (List ℕ)) (below : ℕ) (old : List UpdateId) (k : ℕ) (behind : List UpdateId) (positions : List ℕ) : Type 0 where
  pub low : k ≤ below
  pub rising : IsStrictlySortedBy nat_cmp (reverse positions)
  pub high : AllByRecursion (λ p. k ≤ p) (reverse positions)
  pub within : All (λ p. p < below) (reverse positions)
  pub picks : Picks (λ e. ¬ (IsBehind (map entry_of (take below members)) old e)) (drop k (map entry_of (take below members))) (map entry_of (at_positions members (reverse positions)))
  pub olds : (id : UpdateId) → has old id ≡ true → has behind id ≡ true
  pub calls : (s : Entry) (id : UpdateId) → Contains (drop k (map entry_of (take below members))) s → IsBehind (map entry_of (take below members)) old s → has s.preds id ≡ true → has behind id ≡ true
  pub sound : (id : UpdateId) → has behind id ≡ true → (has old id ≡ true) ⊎ IsCalled (map entry_of (take below members)) old id

-- nothing is looked at yet
none_left : {X : Type 0} (xs : List X) (n : ℕ) → length xs ≡ n → drop n xs ≡ []
none_left [] zero long = refl
none_left [] (suc n) long = absurd (omega (arith, long))
none_left (x ∷ xs) zero long = absurd (omega (arith, long))
none_left (x ∷ xs) (suc n) long = none_left xs n (omega (arith, long))

none_in : {X : Type 0} (x : X) → Contains [] x → ⊥
none_in x c = let low = c.1 in omega arith

pub sweep_begins : (members : List (List ℕ)) (below : ℕ) (old behind : List UpdateId) → below ≤ length members → ((id : UpdateId) → has behind id ≡ has old id) → Swept members below old below behind []
sweep_begins members below old behind within same =
    let long : length (map entry_of (take below members)) ≡ below = length-map (take below members) entry_of ∙ length-take-le below members within in
    let none = none_left (map entry_of (take below members)) below long in
    record {
      low = omega arith;
      rising = none_rise;
      high = tt;
      within = All-nil (λ p. p < below);
      picks = subst (λ (l : List Entry). Picks (λ e. ¬ (IsBehind (map entry_of (take below members)) old e)) l []) (sym none) refl;
      olds = λ id is. same id ∙ is;
      calls = λ s id held. absurd (none_in s (subst (λ (l : List Entry). Contains l s) none held));
      sound = λ id is. inl (sym (same id) ∙ is);
    }

entry_in_front : (members : List (List ℕ)) (below i : ℕ) (bytes : List ℕ) → i < below → slice_get members i ≡ Some bytes → slice_get (map entry_of (take below members)) i ≡ Some (entry_of bytes)
entry_in_front [] below i bytes low at = absurd cc
entry_in_front (b ∷ members) zero i bytes low at = absurd (omega arith)
entry_in_front (b ∷ members) (suc below) zero bytes low at = let same : b ≡ bytes = cc in ap (λ x. Some (entry_of x)) same
entry_in_front (b ∷ members) (suc below) (suc i) bytes low at = entry_in_front members below i bytes (omega arith) at

module _ (members : List (List ℕ)) (below : ℕ) (old : List UpdateId) (n : ℕ) (behind : List UpdateId) (positions : List ℕ) (bytes : List ℕ) (closed : IsClosed (map entry_of members))
    (at : slice_get members n ≡ Some bytes) (so : Swept members below old (suc n) behind positions) where
  here : slice_get (map entry_of (take below members)) n ≡ Some (entry_of bytes)
  here = let low = so.low in entry_in_front members below n bytes (omega arith) at

  rest : drop n (map entry_of (take below members)) ≡ entry_of bytes ∷ drop (suc n) (map entry_of (take below members))
  rest = drop_next (map entry_of (take below members)) n (entry_of bytes) here

  held : Contains (map entry_of (take below members)) (entry_of bytes)
  held = held_at (map entry_of (take below members)) n (entry_of bytes) here

  is_behind : has behind (entry_of bytes).id ≡ true → IsBehind (map entry_of (take below members)) old (entry_of bytes)
  is_behind is = elim (so.sound (entry_of bytes).id is) [
    | inl is_old ↦ inl is_old
    | inr s ↦ named_behind (map entry_of (take below members)) old s.0 (entry_of bytes) s.1 held s.2 s.3
  ]

  pub sweep_behind : (preds new : List UpdateId) → has behind (entry_of bytes).id ≡ true → preds ≡ (entry_of bytes).preds → ((id : UpdateId) → has new id ≡ (has behind id || has preds id))
      → Swept members below old n new positions
  sweep_behind preds new is are grows =
      let it = is_behind is in
      let low = so.low in
      record {
        low = omega arith;
        rising = so.rising;
        high = all_lower n (reverse positions) so.high;
        within = so.within;
        picks = subst (λ (l : List Entry). Picks (λ x. ¬ (IsBehind (map entry_of (take below members)) old x)) l (map entry_of (at_positions members (reverse positions)))) (sym rest)
            (inr ((λ new. new it), so.picks));
        olds = λ id is_old. grows id ∙ or_left (has behind id) (has preds id) (so.olds id is_old);
        calls = λ s id there behind_s named_s. grows id ∙ elim (cons_cases (entry_of bytes) (drop (suc n) (map entry_of (take below members))) s (subst (λ (l : List Entry). Contains l s) rest there)) [
          | inl same ↦ or_right (has behind id) (has preds id) (ap (λ (l : List UpdateId). has l id) are ∙ ap (λ (x : Entry). has x.preds id) same ∙ named_s)
          | inr further_on ↦ or_left (has behind id) (has preds id) (so.calls s id further_on behind_s named_s)
        ];
        sound = λ id there. elim (or_cases (has behind id) (has preds id) (sym (grows id) ∙ there)) [
          | inl before ↦ so.sound id before
          | inr own ↦ inr (entry_of bytes, held, ap (λ (l : List UpdateId). has l id) (sym are) ∙ own, it)
        ];
      }

  front_is : IsClosed (map entry_of (take below members))
  front_is = Follows-front [] (map entry_of (take below members)) (map entry_of (drop below members))
      (subst IsClosed (ap (map entry_of) (sym (take-append-drop below members)) ∙ map-append entry_of (take below members) (drop below members)) closed)

  parts : map entry_of (take below members) ≡ take n (map entry_of (take below members)) ++ entry_of bytes ∷ drop (suc n) (map entry_of (take below members))
  parts = sym (take-append-drop n (map entry_of (take below members))) ∙ ap (λ (l : List Entry). take n (map entry_of (take below members)) ++ l) rest

  not_behind : has behind (entry_of bytes).id ≡ false → IsBehind (map entry_of (take below members)) old (entry_of bytes) → ⊥
  not_behind none it = elim (called (map entry_of (take below members)) old (entry_of bytes) it) [
    | inl is_old ↦ let there = so.olds (entry_of bytes).id is_old in absurd cc
    | inr s ↦
        let after = later (take n (map entry_of (take below members))) (drop (suc n) (map entry_of (take below members))) (entry_of bytes) s.0 (subst IsClosed parts front_is)
        (subst (λ (l : List Entry). Contains l s.0) parts s.1) s.2 in
        let there = so.calls s.0 (entry_of bytes).id after s.3 s.2 in absurd cc
  ]

  turned : reverse (positions ++ n ∷ []) ≡ n ∷ reverse positions
  turned = reverse-append positions (n ∷ [])

  found : map entry_of (at_positions members (n ∷ reverse positions)) ≡ entry_of bytes ∷ map entry_of (at_positions members (reverse positions))
  found = ap (λ (o : Option (List ℕ)). map entry_of (cons_option o (at_positions members (reverse positions)))) at

  pub sweep_new : has behind (entry_of bytes).id ≡ false → Swept members below old n behind (positions ++ n ∷ [])
  sweep_new none =
      let low = so.low in
      record {
        low = omega arith;
        rising = subst (IsStrictlySortedBy nat_cmp) (sym turned) (rise_first n (reverse positions) so.high so.rising);
        high = subst (AllByRecursion (λ p. n ≤ p)) (sym turned) (omega arith, all_lower n (reverse positions) so.high);
        within = subst (All (λ p. p < below)) (sym turned) (All-cons (λ p. p < below) n (reverse positions) (omega arith) so.within);
        picks = subst (λ (l : List Entry). Picks (λ x. ¬ (IsBehind (map entry_of (take below members)) old x)) l (map entry_of (at_positions members (reverse (positions ++ n ∷ []))))) (sym rest)
            (inl (not_behind none, (map entry_of (at_positions members (reverse positions)), ap (λ (l : List ℕ). map entry_of (at_positions members l)) turned ∙ found, so.picks)));
        olds = so.olds;
        calls = λ s id there behind_s named_s. elim (cons_cases (entry_of bytes) (drop (suc n) (map entry_of (take below members))) s (subst (λ (l : List Entry). Contains l s) rest there)) [
          | inl same ↦ absurd (not_behind none (subst (IsBehind (map entry_of (take below members)) old) (sym same) behind_s))
          | inr further_on ↦ so.calls s id further_on behind_s named_s
        ];
        sound = so.sound;
      }

-- the position before
pub position_before : (members : List (List ℕ)) (below : ℕ) (old : List UpdateId) (k : ℕ) (behind : List UpdateId) (positions : List ℕ) → 0 < k → Swept members below old k behind positions
    → Swept members below old (suc (k - 1)) behind positions
position_before members below old k behind positions some so = let same : k ≡ suc (k - 1) = omega arith in subst (λ (n : ℕ). Swept members below old n behind positions) same so
