-- What heads keep stays so with one more add, and with fewer.
use Rattle.std.proofs.Common.{◌≡◌, ℕ, ◌+◌, ◌-◌, ◌<◌, ◌≤◌, Bool, true, false, ◌&&◌, ◌||◌, not, ltb, List, [], ◌∷◌, ◌++◌, length, refl, sym, ap, ◌∙◌, arith, None, inl, inr, take}
use Rattle.std.specs.List.{list_any}
use Rattle.std.specs.BTreeMap.{insert_entry}
use Rattle.std.specs.List.Sorted.{IsStrictlySortedBy}
use Rattle.std.specs.Map.{keys_of}
use Rattle.std.specs.Map.Calls.{RetainsPairs}
use Rattle.std.proofs.lemmas.Bool.{cases_eq, lt-ltb, le-ltb}
use Rattle.update_model.specs.declared.update_id.UpdateId.{UpdateId}
use Rattle.update_model.specs.declared.limits.TheConstants.{MAX_MEMBERS}
use Rattle.update_model.specs.Entry.{id_cmp, same_id}
use Rattle.update_model.specs.Graph.{has}
use Rattle.head_set.specs.declared.span.Span.{Span}
use Rattle.head_set.specs.Kept.{IsKept}
use Rattle.head_set.specs.Present.{present}
use Rattle.head_set.specs.Spans.{is_head, heads_at, states, AreBefore, cut_span, unended}
use Rattle.head_set.proofs.Spanned.{heads_still, heads_unended, before_still, insert_apart, insert_has, insert_length, insert_before}
use Rattle.head_set.proofs.States.{states_more, states_same, states_take, present_is, never, heads_cut, cut_before}

-- the span of an id that comes after so many adds
abbrev pub begun : ℕ → Span
begun n = record { since = n; until = None }

begun_later : (n m : ℕ) → m ≤ n → is_head (begun n) m ≡ false
begun_later n m low = rw (le-ltb n m low) refl

begun_now : (n : ℕ) → is_head (begun n) (n + 1) ≡ true
begun_now n = rw (lt-ltb n (n + 1) (omega arith)) refl

-- ---- the new id among the others

module _ (es mid : List (UpdateId × Span)) (n count : ℕ) (id : UpdateId) (kept : IsKept es n count) (new : list_any (λ heads. has heads id) (states es n) ≡ false) (is : mid ≡ insert_entry id_cmp es id (begun n)) where
  mid_before : (m : ℕ) → m ≤ n → heads_at mid m ≡ heads_at es m
  mid_before m low = rw is (insert_apart es id (begun n) m (begun_later n m low) (never es n m id new low))

  mid_has : (x : UpdateId) → has (heads_at mid (n + 1)) x ≡ (same_id x id || has (heads_at es n) x)
  mid_has x = rw is (insert_has es id (begun n) (n + 1) x (begun_now n) ∙ ap (λ (ids : List UpdateId). same_id x id || has ids x) (heads_still es n kept.before))

  none_now : has (heads_at es (n + 1)) id ≡ false
  none_now = rw (heads_still es n kept.before) (never es n n id new (omega arith))

  mid_length : length (heads_at mid (n + 1)) ≡ length (heads_at es n) + 1
  mid_length = rw is (insert_length es id (begun n) (n + 1) (begun_now n) none_now ∙ ap (λ (ids : List UpdateId). length ids + 1) (heads_still es n kept.before))

  pub mid_few : length (heads_at mid (n + 1)) ≤ MAX_MEMBERS + 1
  mid_few = let fewer = kept.fewer n (omega arith) in let few = kept.few in let long = mid_length in omega arith

  pub mid_is_before : AreBefore mid (n + 1)
  mid_is_before = rw is (insert_before es id (begun n) (n + 1) (record { began = omega arith; ended = tt }) (before_still es n kept.before))

  -- ---- its predecessors are ended

  module _ (fs : List (UpdateId × Span)) (ended : ℕ) (preds : List UpdateId) (earlier : (m : ℕ) → m ≤ n → heads_at fs m ≡ heads_at mid m)
      (exact : (x : UpdateId) → has (heads_at fs (n + 1)) x ≡ (has (heads_at mid (n + 1)) x && not (has preds x)))
      (counted : ended + length (heads_at fs (n + 1)) ≡ length (heads_at mid (n + 1))) (before : AreBefore fs (n + 1)) (rising : IsStrictlySortedBy id_cmp (keys_of fs)) where
    pub kept_more : n < MAX_MEMBERS → IsKept fs (n + 1) (count + 1 - ended)
    kept_more low = record {
      rising = rising;
      before = before;
      few = omega arith;
      fewer = λ m under. elim (cases_eq m (n + 1)) [
        | inl same ↦ rw same (let fewer = kept.fewer n (omega arith) in let long = mid_length in omega (arith, counted))
        | inr apart ↦ rw (earlier m (omega arith), mid_before m (omega arith)) (kept.fewer m (omega arith))
      ];
      counted = let was = kept.counted in let long = mid_length in omega (arith, counted);
    }

    pub ended_fits : ended ≤ count + 1
    ended_fits = let was = kept.counted in let long = mid_length in omega (arith, counted)

    pub more_states : states fs (n + 1) ≡ states es n ++ present (states fs (n + 1)) ∷ []
    more_states =
        rw (present_is fs (n + 1)) (states_more fs n
        ∙ ap (λ (all : List (List UpdateId)). all ++ heads_at fs (n + 1) ∷ []) (states_same fs es n (λ m low. earlier m low ∙ mid_before m low)))

    pub more_exact : (x : UpdateId) → has (present (states fs (n + 1))) x ≡ ((same_id x id || has (present (states es n)) x) && not (has preds x))
    more_exact x = rw (present_is fs (n + 1), present_is es n) (exact x ∙ ap (λ b. b && not (has preds x)) (mid_has x))

-- ---- fewer adds

module _ {F : Type 0} (Call : F → UpdateId → Span → Bool → Span → F → Type 0) (Holds : F → Type 0) (len : ℕ)
    (says : (f : F) (k : UpdateId) (v : Span) (b : Bool) (w : Span) (g : F) → Holds f → Call f k v b w g → (b ≡ ltb v.since len) × (w ≡ cut_span v len) × Holds g)
    (f : F) (es left : List (UpdateId × Span)) (added count : ℕ) (kept : IsKept es added count) (holds : Holds f) (calls : RetainsPairs Call f es left) (low : len ≤ added) where
  left_heads : (n : ℕ) → n ≤ len → heads_at left n ≡ heads_at es n
  left_heads n under = heads_cut Call Holds len says f es left n holds calls under

  left_before : AreBefore left len
  left_before = cut_before Call Holds len says f es left holds calls

  pub left_few : length (unended left) ≤ MAX_MEMBERS
  left_few = rw (← heads_unended left len left_before, left_heads len (omega arith)) (let fewer = kept.fewer len low in let few = kept.few in omega arith)

  pub kept_fewer : IsStrictlySortedBy id_cmp (keys_of left) → IsKept left len (length (unended left))
  kept_fewer rising = record {
    rising = rising;
    before = left_before;
    few = let few = kept.few in omega arith;
    fewer = λ n under. rw (left_heads n under) (kept.fewer n (omega arith));
    counted = ap length (sym (heads_unended left len left_before));
  }

  pub left_states : states left len ≡ take len (states es added)
  left_states = states_same left es len left_heads ∙ sym (states_take es added len low)
