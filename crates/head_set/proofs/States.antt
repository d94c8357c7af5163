-- The heads after each add, as a list.
use Rattle.std.proofs.Common.{◌≡◌, ℕ, zero, suc, ◌+◌, ◌-◌, ◌<◌, ◌≤◌, Bool, true, false, cond, ◌||◌, ltb, List, [], ◌∷◌, ◌++◌, length, refl, sym, ap, ◌∙◌, arith, take, slice_index_or, inl, inr, Some, None}
use Rattle.std.specs.Prelude.{Option, IfSome, not}
use Rattle.std.specs.List.{AllByRecursion, list_any}
use Rattle.std.specs.BTreeMap.{is_at}
use Rattle.std.specs.declared.cmp.Ordering.TheVariants.{Less}
use Rattle.std.specs.List.Sorted.{IsStrictlySortedBy}
use Rattle.std.specs.Map.{keys_of, lookup}
use Rattle.std.specs.Map.Calls.{RetainsPairs}
use Rattle.std.proofs.lemmas.Bool.{and_left, and_right, cases_lt, cases_eq, lt-ltb, le-ltb, ltb-true, ltb-false, or_from, or_parts}
use Rattle.std.proofs.lemmas.List.Folds.{list_any-append}
use Rattle.std.proofs.lemmas.List.{length-append, take-append-le, take_all, get_or_push, get_or_append_left}
use Rattle.update_model.specs.declared.update_id.UpdateId.{UpdateId}
use Rattle.update_model.specs.Entry.{id_cmp}
use Rattle.update_model.specs.Graph.{has}
use Rattle.head_set.specs.declared.span.Span.{Span}
use Rattle.head_set.specs.Present.{present}
use Rattle.head_set.specs.Spans.{lasts, is_head, heads_at, states, IsBefore, AreBefore, end_in, cut_span, has_moment}
use Rattle.head_set.proofs.Spanned.{before_at, has_by_lookup, head_of, heads_none}

pub states_long : (es : List (UpdateId × Span)) (n : ℕ) → length (states es n) ≡ n
unfolding states
states_long es zero = refl
states_long es (suc n) = length-append (states es n) (heads_at es (suc n) ∷ []) ∙ (let later = states_long es n in omega arith)

pub states_more : (es : List (UpdateId × Span)) (n : ℕ) → states es (n + 1) ≡ states es n ++ heads_at es (n + 1) ∷ []
unfolding states
states_more es n = let next : n + 1 ≡ suc n = omega arith in rw next refl

pub states_none : (es : List (UpdateId × Span)) → states es 0 ≡ []
unfolding states
states_none es = refl

pub states_same : (es fs : List (UpdateId × Span)) (n : ℕ) → ((m : ℕ) → m ≤ n → heads_at es m ≡ heads_at fs m) → states es n ≡ states fs n
unfolding states
states_same es fs zero same = refl
states_same es fs (suc n) same = rw (states_same es fs n (λ m low. same m (omega arith)), same (suc n) (omega arith)) refl

pub states_take : (es : List (UpdateId × Span)) (n len : ℕ) → len ≤ n → take len (states es n) ≡ states es len
unfolding states
states_take es zero len low = let none : len ≡ 0 = omega arith in rw none refl
states_take es (suc n) len low = elim (cases_eq len (suc n)) [
  | inl same ↦ rw same (take_all (suc n) (states es n ++ heads_at es (suc n) ∷ []) (let long = states_long es n in let more = length-append (states es n) (heads_at es (suc n) ∷ []) in omega arith))
  | inr apart ↦ take-append-le len (states es n) (heads_at es (suc n) ∷ []) (let long = states_long es n in omega arith) ∙ states_take es n len (omega arith)
]

pub state_at : (es : List (UpdateId × Span)) (n m : ℕ) (d : List UpdateId) → m < n → slice_index_or (states es n) m d ≡ heads_at es (m + 1)
unfolding states
state_at es zero m d low = absurd (omega arith)
state_at es (suc n) m d low = elim (cases_eq m n) [
  | inl same ↦ get_or_push (states es n) (heads_at es (suc n)) d m (states_long es n ∙ sym same) ∙ (let next : suc n ≡ m + 1 = omega arith in ap (heads_at es) next)
  | inr apart ↦ get_or_append_left (states es n) (heads_at es (suc n) ∷ []) d m (let long = states_long es n in omega arith) ∙ state_at es n m d (omega arith)
]

pub present_is : (es : List (UpdateId × Span)) (n : ℕ) → present (states es n) ≡ heads_at es n
present_is es zero = rw (states_none es) (sym (heads_none es))
present_is es (suc n) =
    let last : length (states es (suc n)) - 1 ≡ n = let long = states_long es (suc n) in omega arith in
    rw last (state_at es (suc n) n [] (omega arith) ∙ (let next : n + 1 ≡ suc n = omega arith in ap (heads_at es) next))

-- ---- the heads of all moments

pub never : (es : List (UpdateId × Span)) (n m : ℕ) (k : UpdateId) → list_any (λ heads. has heads k) (states es n) ≡ false → m ≤ n → has (heads_at es m) k ≡ false
unfolding states
never es zero m k none low = let first : m ≡ 0 = omega arith in rw (first, heads_none es) refl
never es (suc n) m k none low =
    let parts = or_parts (list_any (λ heads. has heads k) (states es n)) (has (heads_at es (suc n)) k || false)
    (sym (list_any-append (λ heads. has heads k) (states es n) (heads_at es (suc n) ∷ [])) ∙ none) in
    elim (cases_eq m (suc n)) [
      | inl same ↦ rw same (or_parts (has (heads_at es (suc n)) k) false parts.1).0
      | inr apart ↦ never es n m k parts.0 (omega arith)
    ]

pub never_any : (es : List (UpdateId × Span)) (n : ℕ) (k : UpdateId) → ((m : ℕ) → m ≤ n → has (heads_at es m) k ≡ false) → list_any (λ heads. has heads k) (states es n) ≡ false
unfolding states
never_any es zero k none = refl
never_any es (suc n) k none =
    list_any-append (λ heads. has heads k) (states es n) (heads_at es (suc n) ∷ [])
    ∙ or_from (list_any (λ heads. has heads k) (states es n)) (has (heads_at es (suc n)) k || false) (never_any es n k (λ m low. none m (omega arith)))
    (or_from (has (heads_at es (suc n)) k) false (none (suc n) (omega arith)) refl)

pub once : (es : List (UpdateId × Span)) (n m : ℕ) (k : UpdateId) → m < n → has (heads_at es (m + 1)) k ≡ true → list_any (λ heads. has heads k) (states es n) ≡ true
once es n m k low is = by_case (list_any (λ heads. has heads k) (states es n)) refl
  where
    by_case : (b : Bool) → list_any (λ heads. has heads k) (states es n) ≡ b → b ≡ true
    by_case true e = refl
    by_case false e = absurd (let none = never es n (m + 1) k e (omega arith) in cc)

pub was : (es : List (UpdateId × Span)) (n : ℕ) (k : UpdateId) (w : Span) → IsStrictlySortedBy id_cmp (keys_of es) → AreBefore es n → lookup (is_at (id_cmp k)) es ≡ Some w
    → has_moment w ≡ list_any (λ heads. has heads k) (states es n)
was es n k w rising before found = by_case (has_moment w) refl
  where
    is_in : (m : ℕ) → has (heads_at es m) k ≡ is_head w m
    is_in m = has_by_lookup es k m rising ∙ ap (λ o. head_of o m) found

    short : (stop : Option ℕ) (m : ℕ) → lasts stop (w.since + 1) ≡ false → w.since < m → lasts stop m ≡ false
    short None m past high = past
    short (Some until) m past high = by_test (ltb until (w.since + 1)) refl past
      where
        by_test : (b : Bool) → ltb until (w.since + 1) ≡ b → not b ≡ false → not (ltb until m) ≡ false
        by_test true is e = rw (lt-ltb until m (let low = ltb-true until (w.since + 1) is in omega arith)) refl
        by_test false is e = absurd cc

    never_in : has_moment w ≡ false → (m : ℕ) → m ≤ n → is_head w m ≡ false
    never_in past m low = elim (cases_lt w.since m) [
      | inl high ↦ and_right (ltb w.since m) (lasts w.until m) (short w.until m past high)
      | inr high ↦ and_left (ltb w.since m) (lasts w.until m) (le-ltb w.since m high)
    ]

    by_case : (b : Bool) → has_moment w ≡ b → b ≡ list_any (λ heads. has heads k) (states es n)
    by_case true e =
        sym (once es n w.since k (before_at (is_at (id_cmp k)) es w n found before).began
        (is_in (w.since + 1) ∙ rw (lt-ltb w.since (w.since + 1) (omega arith)) e))
    by_case false e = sym (never_any es n k (λ m low. is_in m ∙ never_in e m low))

-- ---- rising

all_heads : (P : UpdateId → Type 0) (es : List (UpdateId × Span)) (n : ℕ) → AllByRecursion P (keys_of es) → AllByRecursion P (heads_at es n)
unfolding heads_at
all_heads P [] n all = tt
all_heads P (e ∷ es) n all = by_case (is_head e.1 n) (all_heads P es n all.1)
  where
    by_case : (here : Bool) → AllByRecursion P (heads_at es n) → AllByRecursion P (cond here (e.0 ∷ heads_at es n) (heads_at es n))
    by_case true later = (all.0, later)
    by_case false later = later

pub heads_rise : (es : List (UpdateId × Span)) (n : ℕ) → IsStrictlySortedBy id_cmp (keys_of es) → IsStrictlySortedBy id_cmp (heads_at es n)
unfolding heads_at IsStrictlySortedBy
heads_rise [] n rising = tt
heads_rise (e ∷ es) n rising = by_case (is_head e.1 n) (heads_rise es n rising.1)
  where
    by_case : (here : Bool) → IsStrictlySortedBy id_cmp (heads_at es n) → IsStrictlySortedBy id_cmp (cond here (e.0 ∷ heads_at es n) (heads_at es n))
    by_case true later = (all_heads (λ y. id_cmp e.0 y ≡ Less) es n rising.0, later)
    by_case false later = later

-- ---- fewer adds

lasts_cut : (stop : Option ℕ) (len n : ℕ) → n ≤ len → lasts (end_in stop len) n ≡ lasts stop n
lasts_cut None len n low = refl
lasts_cut (Some until) len n low = by_test (ltb until len) refl
  where
    by_test : (b : Bool) → ltb until len ≡ b → lasts (cond b (Some until) None) n ≡ not (ltb until n)
    by_test true is = refl
    by_test false is = let high = ltb-false until len is in rw (le-ltb until n (omega arith)) refl

before_cut : (span : Span) (len : ℕ) → ltb span.since len ≡ true → IsBefore len (cut_span span len)
before_cut span len began = record { began = ltb-true span.since len began; ended = by_end span.until }
  where
    by_end : (stop : Option ℕ) → IfSome (end_in stop len) (λ until. until < len)
    by_end None = tt
    by_end (Some until) = by_test (ltb until len) refl
      where
        by_test : (b : Bool) → ltb until len ≡ b → IfSome (cond b (Some until) None) (λ until. until < len)
        by_test true is = ltb-true until len is
        by_test false is = tt

-- what is kept of the spans, each as a call leaves it
module _ {F : Type 0} (Call : F → UpdateId → Span → Bool → Span → F → Type 0) (Holds : F → Type 0) (len : ℕ)
    (says : (f : F) (k : UpdateId) (v : Span) (b : Bool) (w : Span) (g : F) → Holds f → Call f k v b w g → (b ≡ ltb v.since len) × (w ≡ cut_span v len) × Holds g) where
  pub heads_cut : (f : F) (es kept : List (UpdateId × Span)) (n : ℕ) → Holds f → RetainsPairs Call f es kept → n ≤ len → heads_at kept n ≡ heads_at es n
  unfolding heads_at
  heads_cut f [] kept n holds calls low = rw calls refl
  heads_cut f (e ∷ es) kept n holds (b, w, g, rest, call, calls, is) low =
      let said = says f e.0 e.1 b w g holds call in
      rw is (by_case b said.0 (heads_cut g es rest n said.2 calls low))
    where
      by_case : (b : Bool) → b ≡ ltb e.1.since len → heads_at rest n ≡ heads_at es n → heads_at (cond b ((e.0, w) ∷ rest) rest) n ≡ heads_at (e ∷ es) n
      by_case true began later = rw ((says f e.0 e.1 b w g holds call).1, lasts_cut e.1.until len n low, later) refl
      by_case false began later =
          let high = ltb-false e.1.since len (sym began) in
          rw (le-ltb e.1.since n (omega arith)) later

  pub cut_before : (f : F) (es kept : List (UpdateId × Span)) → Holds f → RetainsPairs Call f es kept → AreBefore kept len
  cut_before f [] kept holds calls = rw calls tt
  cut_before f (e ∷ es) kept holds (b, w, g, rest, call, calls, is) =
      let said = says f e.0 e.1 b w g holds call in
      rw is (by_case b said.0 (cut_before g es rest said.2 calls))
    where
      by_case : (b : Bool) → b ≡ ltb e.1.since len → AreBefore rest len → AreBefore (cond b ((e.0, w) ∷ rest) rest) len
      by_case true began later = (rw ((says f e.0 e.1 b w g holds call).1) (before_cut e.1 len (sym began)), later)
      by_case false began later = later
