-- Heads by spans: what one more span, and the end of one, change of the heads after each add.
use Rattle.std.proofs.Common.{◌≡◌, ℕ, ◌+◌, ◌<◌, ◌≤◌, Bool, true, false, cond, not, ltb, ◌&&◌, ◌||◌, List, [], ◌∷◌, length, refl, sym, ap, subst, ◌∙◌, arith, Some, None}
use Rattle.std.specs.Prelude.{Option, IfSome, is_none, is_some}
use Rattle.std.specs.List.{AllByRecursion}
use Rattle.std.specs.List.Sorted.{IsStrictlySortedBy}
use Rattle.std.specs.Map.{keys_of, lookup, set_value}
use Rattle.std.specs.BTreeMap.{insert_entry, is_at}
use Rattle.std.specs.Ordering.{match_ordering, is_eq}
use Rattle.std.specs.declared.cmp.Ordering.{Ordering}
use Rattle.std.specs.declared.cmp.Ordering.TheVariants.{Less, Equal, Greater}
use Rattle.std.proofs.lemmas.Bool.{lt-ltb, le-ltb, ltb-true, ltb-false, or_parts, and_right}
use Rattle.update_model.specs.declared.update_id.UpdateId.{UpdateId}
use Rattle.update_model.specs.Entry.{id_cmp, same_id}
use Rattle.update_model.specs.Graph.{has}
use Rattle.update_model.proofs.Ids.{id_from_same, same_id-symm}
use Rattle.head_set.specs.declared.span.Span.{Span}
use Rattle.head_set.specs.Spans.{lasts, is_head, heads_at, IsBefore, AreBefore, unended}

-- ---- one add more

lasts_still : (end : Option ℕ) (n : ℕ) → IfSome end (λ until. until < n) → lasts end (n + 1) ≡ lasts end n
lasts_still None n before = refl
lasts_still (Some until) n before = rw (lt-ltb until (n + 1) (omega arith), lt-ltb until n before) refl

head_still : (span : Span) (n : ℕ) → IsBefore n span → is_head span (n + 1) ≡ is_head span n
head_still span n before =
    let began = before.began in
    rw (lt-ltb span.since (n + 1) (omega (arith, began)), lt-ltb span.since n began) (lasts_still span.until n before.ended)

pub heads_still : (es : List (UpdateId × Span)) (n : ℕ) → AreBefore es n → heads_at es (n + 1) ≡ heads_at es n
unfolding heads_at
heads_still [] n before = refl
heads_still (e ∷ es) n before = rw (head_still e.1 n before.0, heads_still es n before.1) refl

pub before_still : (es : List (UpdateId × Span)) (n : ℕ) → AreBefore es n → AreBefore es (n + 1)
before_still [] n before = tt
before_still (e ∷ es) n before = (record { began = let b = before.0.began in omega arith; ended = later e.1.until before.0.ended }, before_still es n before.1)
  where
    later : (end : Option ℕ) → IfSome end (λ until. until < n) → IfSome end (λ until. until < n + 1)
    later None ended = tt
    later (Some until) ended = omega (arith, ended)

-- what has no end is a head
pub head_unended : (span : Span) (n : ℕ) → IsBefore n span → is_head span n ≡ is_none span.until
head_unended span n before = rw (lt-ltb span.since n before.began) (by_end span.until before.ended)
  where
    by_end : (end : Option ℕ) → IfSome end (λ until. until < n) → lasts end n ≡ is_none end
    by_end None ended = refl
    by_end (Some until) ended = rw (lt-ltb until n ended) refl

pub heads_unended : (es : List (UpdateId × Span)) (n : ℕ) → AreBefore es n → heads_at es n ≡ unended es
unfolding heads_at unended
heads_unended [] n before = refl
heads_unended (e ∷ es) n before = rw (head_unended e.1 n before.0, heads_unended es n before.1) refl

pub none_is : (stop : Option ℕ) (b : Bool) → is_some stop ≡ not b → b ≡ is_none stop
none_is None true e = refl
none_is None false e = absurd cc
none_is (Some until) true e = absurd cc
none_is (Some until) false e = refl

pub unended_next : (all es : List (UpdateId × Span)) (e : UpdateId × Span) (b : Bool) → all ≡ e ∷ es → is_some e.1.until ≡ not b → unended all ≡ cond b (e.0 ∷ unended es) (unended es)
unfolding unended
unended_next all es e b is none = rw (is, none_is e.1.until b none) refl

pub unended_none : (all : List (UpdateId × Span)) → all ≡ [] → unended all ≡ []
unfolding unended
unended_none all is = rw is refl

-- before the first add there are no heads
pub heads_none : (es : List (UpdateId × Span)) → heads_at es 0 ≡ []
unfolding heads_at
heads_none [] = refl
heads_none (e ∷ es) = rw (le-ltb e.1.since 0 (omega arith)) (heads_none es)

-- ---- one id more

none_after : (here : Bool) (x k : UpdateId) (ids : List UpdateId) → has (cond here (x ∷ ids) ids) k ≡ false → has ids k ≡ false
none_after true x k ids none = (or_parts (same_id k x) (has ids k) none).1
none_after false x k ids none = none

none_here : (here : Bool) (x k : UpdateId) (ids : List UpdateId) → has (cond here (x ∷ ids) ids) k ≡ false → same_id k x ≡ true → here ≡ false
none_here true x k ids none same = absurd (let apart = (or_parts (same_id k x) (has ids k) none).0 in cc)
none_here false x k ids none same = refl

pub insert_apart : (es : List (UpdateId × Span)) (k : UpdateId) (v : Span) (n : ℕ) → is_head v n ≡ false → has (heads_at es n) k ≡ false → heads_at (insert_entry id_cmp es k v) n ≡ heads_at es n
unfolding heads_at
insert_apart [] k v n new none = rw new refl
insert_apart (e ∷ es) k v n new none = by_order (insert_apart es k v n new (none_after (is_head e.1 n) e.0 k (heads_at es n) none)) (id_cmp k e.0) refl
  where
    by_order : heads_at (insert_entry id_cmp es k v) n ≡ heads_at es n → (o : Ordering) → id_cmp k e.0 ≡ o
        → heads_at (match_ordering o ((k, v) ∷ e ∷ es) ((e.0, v) ∷ es) (e ∷ insert_entry id_cmp es k v)) n ≡ heads_at (e ∷ es) n
    by_order later Less is = rw new refl
    by_order later Equal is = rw (new, none_here (is_head e.1 n) e.0 k (heads_at es n) none (ap is_eq is)) refl
    by_order later Greater is = rw later refl

or_absorb : (a b : Bool) → (a || b) ≡ (a || (a || b))
or_absorb true b = refl
or_absorb false b = refl

or_swap : (a b c : Bool) → (a || (b || c)) ≡ (b || (a || c))
or_swap true true c = refl
or_swap true false c = refl
or_swap false b c = refl

pub insert_has : (es : List (UpdateId × Span)) (k : UpdateId) (v : Span) (n : ℕ) (x : UpdateId) → is_head v n ≡ true → has (heads_at (insert_entry id_cmp es k v) n) x ≡ (same_id x k || has (heads_at es n) x)
unfolding heads_at
insert_has [] k v n x new = rw new refl
insert_has (e ∷ es) k v n x new = by_order (insert_has es k v n x new) (id_cmp k e.0) refl
  where
    beside : (here : Bool) (ids more : List UpdateId) → has more x ≡ (same_id x k || has ids x) → has (cond here (e.0 ∷ more) more) x ≡ (same_id x k || has (cond here (e.0 ∷ ids) ids) x)
    beside true ids more later = rw later (or_swap (same_id x e.0) (same_id x k) (has ids x))
    beside false ids more later = later

    instead : (here : Bool) (ids : List UpdateId) → k ≡ e.0 → has (e.0 ∷ ids) x ≡ (same_id x k || has (cond here (e.0 ∷ ids) ids) x)
    instead true ids is = rw is (or_absorb (same_id x e.0) (has ids x))
    instead false ids is = rw is refl

    by_order : has (heads_at (insert_entry id_cmp es k v) n) x ≡ (same_id x k || has (heads_at es n) x) → (o : Ordering) → id_cmp k e.0 ≡ o
        → has (heads_at (match_ordering o ((k, v) ∷ e ∷ es) ((e.0, v) ∷ es) (e ∷ insert_entry id_cmp es k v)) n) x ≡ (same_id x k || has (heads_at (e ∷ es) n) x)
    by_order later Less is = rw new refl
    by_order later Equal is = rw new (instead (is_head e.1 n) (heads_at es n) (id_from_same k e.0 (ap is_eq is)))
    by_order later Greater is = beside (is_head e.1 n) (heads_at es n) (heads_at (insert_entry id_cmp es k v) n) later

pub insert_length : (es : List (UpdateId × Span)) (k : UpdateId) (v : Span) (n : ℕ) → is_head v n ≡ true → has (heads_at es n) k ≡ false → length (heads_at (insert_entry id_cmp es k v) n) ≡ length (heads_at es n) + 1
unfolding heads_at
insert_length [] k v n new none = rw new refl
insert_length (e ∷ es) k v n new none = by_order (insert_length es k v n new (none_after (is_head e.1 n) e.0 k (heads_at es n) none)) (id_cmp k e.0) refl
  where
    beside : (here : Bool) (ids more : List UpdateId) → length more ≡ length ids + 1 → length (cond here (e.0 ∷ more) more) ≡ length (cond here (e.0 ∷ ids) ids) + 1
    beside true ids more later = omega (arith, later)
    beside false ids more later = later

    by_order : length (heads_at (insert_entry id_cmp es k v) n) ≡ length (heads_at es n) + 1 → (o : Ordering) → id_cmp k e.0 ≡ o
        → length (heads_at (match_ordering o ((k, v) ∷ e ∷ es) ((e.0, v) ∷ es) (e ∷ insert_entry id_cmp es k v)) n) ≡ length (heads_at (e ∷ es) n) + 1
    by_order later Less is = rw new (omega arith)
    by_order later Equal is = rw (new, none_here (is_head e.1 n) e.0 k (heads_at es n) none (ap is_eq is)) (omega arith)
    by_order later Greater is = beside (is_head e.1 n) (heads_at es n) (heads_at (insert_entry id_cmp es k v) n) later

pub insert_before : (es : List (UpdateId × Span)) (k : UpdateId) (v : Span) (n : ℕ) → IsBefore n v → AreBefore es n → AreBefore (insert_entry id_cmp es k v) n
insert_before [] k v n new before = (new, tt)
insert_before (e ∷ es) k v n new before = by_order (insert_before es k v n new before.1) (id_cmp k e.0)
  where
    by_order : AreBefore (insert_entry id_cmp es k v) n → (o : Ordering) → AreBefore (match_ordering o ((k, v) ∷ e ∷ es) ((e.0, v) ∷ es) (e ∷ insert_entry id_cmp es k v)) n
    by_order later Less = (new, before)
    by_order later Equal = (new, before.1)
    by_order later Greater = (before.0, later)

-- ---- one end

pub set_apart : (test : UpdateId → Bool) (es : List (UpdateId × Span)) (w v : Span) (n : ℕ) → lookup test es ≡ Some w → is_head v n ≡ is_head w n → heads_at (set_value test es v) n ≡ heads_at es n
unfolding heads_at
set_apart test [] w v n found same = absurd cc
set_apart test (e ∷ es) w v n found same = by_test (λ f. set_apart test es w v n f same) (test e.0) found
  where
    by_test : (lookup test es ≡ Some w → heads_at (set_value test es v) n ≡ heads_at es n) → (here : Bool) → cond here (Some e.1) (lookup test es) ≡ Some w
        → heads_at (cond here ((e.0, v) ∷ es) (e ∷ set_value test es v)) n ≡ heads_at (e ∷ es) n
    by_test later true found = let is : e.1 ≡ w = cc in rw (same, ← is) refl
    by_test later false found = rw (later found) refl

pub set_length : (test : UpdateId → Bool) (es : List (UpdateId × Span)) (w v : Span) (n : ℕ) → lookup test es ≡ Some w → is_head w n ≡ true → is_head v n ≡ false
    → 1 + length (heads_at (set_value test es v) n) ≡ length (heads_at es n)
unfolding heads_at
set_length test [] w v n found was is = absurd cc
set_length test (e ∷ es) w v n found was is = by_test (λ f. set_length test es w v n f was is) (test e.0) found
  where
    beside : (here : Bool) (ids less : List UpdateId) → 1 + length less ≡ length ids → 1 + length (cond here (e.0 ∷ less) less) ≡ length (cond here (e.0 ∷ ids) ids)
    beside true ids less later = omega (arith, later)
    beside false ids less later = later

    by_test : (lookup test es ≡ Some w → 1 + length (heads_at (set_value test es v) n) ≡ length (heads_at es n)) → (here : Bool) → cond here (Some e.1) (lookup test es) ≡ Some w
        → 1 + length (heads_at (cond here ((e.0, v) ∷ es) (e ∷ set_value test es v)) n) ≡ length (heads_at (e ∷ es) n)
    by_test later true found = let here : e.1 ≡ w = cc in rw (here, was, is) (omega arith)
    by_test later false found = beside (is_head e.1 n) (heads_at es n) (heads_at (set_value test es v) n) (later found)

pub set_before : (test : UpdateId → Bool) (es : List (UpdateId × Span)) (v : Span) (n : ℕ) → IsBefore n v → AreBefore es n → AreBefore (set_value test es v) n
set_before test [] v n new before = tt
set_before test (e ∷ es) v n new before = by_test (set_before test es v n new before.1) (test e.0)
  where
    by_test : AreBefore (set_value test es v) n → (here : Bool) → AreBefore (cond here ((e.0, v) ∷ es) (e ∷ set_value test es v)) n
    by_test later true = (new, before.1)
    by_test later false = (before.0, later)

-- ---- heads by look-up

-- whether an id with this span, if it has one, is a head after so many adds
abbrev pub head_of : Option Span → ℕ → Bool
head_of None n = false
head_of (Some span) n = is_head span n

none_above : (es : List (UpdateId × Span)) (k : UpdateId) (n : ℕ) → AllByRecursion (λ y. id_cmp k y ≡ Less) (keys_of es) → has (heads_at es n) k ≡ false
unfolding heads_at
none_above [] k n above = refl
none_above (e ∷ es) k n above = beside (is_head e.1 n) (heads_at es n) (ap is_eq above.0) (none_above es k n above.1)
  where
    beside : (here : Bool) (ids : List UpdateId) → same_id k e.0 ≡ false → has ids k ≡ false → has (cond here (e.0 ∷ ids) ids) k ≡ false
    beside true ids apart none = rw (apart, none) refl
    beside false ids apart none = none

pub has_by_lookup : (es : List (UpdateId × Span)) (k : UpdateId) (n : ℕ) → IsStrictlySortedBy id_cmp (keys_of es) → has (heads_at es n) k ≡ head_of (lookup (is_at (id_cmp k)) es) n
unfolding heads_at IsStrictlySortedBy
has_by_lookup [] k n rising = refl
has_by_lookup (e ∷ es) k n rising = by_test (same_id k e.0) refl (has_by_lookup es k n rising.1)
  where
    here : (head : Bool) (ids : List UpdateId) → has ids k ≡ false → same_id k e.0 ≡ true → has (cond head (e.0 ∷ ids) ids) k ≡ head
    here true ids none same = rw same refl
    here false ids none same = none

    beside : (head : Bool) (ids : List UpdateId) → same_id k e.0 ≡ false → has (cond head (e.0 ∷ ids) ids) k ≡ has ids k
    beside true ids apart = rw apart refl
    beside false ids apart = refl

    by_test : (same : Bool) → same_id k e.0 ≡ same → has (heads_at es n) k ≡ head_of (lookup (is_at (id_cmp k)) es) n
        → has (cond (is_head e.1 n) (e.0 ∷ heads_at es n) (heads_at es n)) k ≡ head_of (cond same (Some e.1) (lookup (is_at (id_cmp k)) es)) n
    by_test true is later =
        let same : k ≡ e.0 = id_from_same k e.0 is in
        here (is_head e.1 n) (heads_at es n) (none_above es k n (subst (λ j. AllByRecursion (λ y. id_cmp j y ≡ Less) (keys_of es)) (sym same) rising.0)) is
    by_test false is later = beside (is_head e.1 n) (heads_at es n) is ∙ later

-- ---- what the end of one span changes

pub before_at : (test : UpdateId → Bool) (es : List (UpdateId × Span)) (w : Span) (n : ℕ) → lookup test es ≡ Some w → AreBefore es n → IsBefore n w
before_at test [] w n found before = absurd cc
before_at test (e ∷ es) w n found before = by_test (λ f. before_at test es w n f before.1) (test e.0) found
  where
    by_test : (lookup test es ≡ Some w → IsBefore n w) → (here : Bool) → cond here (Some e.1) (lookup test es) ≡ Some w → IsBefore n w
    by_test later true found = let is : e.1 ≡ w = cc in subst (IsBefore n) is before.0
    by_test later false found = later found

-- what is no head is none among the others either
pub all_others : (ids : List UpdateId) (k x : UpdateId) → has ids k ≡ false → has ids x ≡ (has ids x && not (same_id x k))
all_others ids k x none = by_case (has ids x) refl (same_id x k) refl
  where
    by_case : (a : Bool) → has ids x ≡ a → (b : Bool) → same_id x k ≡ b → a ≡ (a && not b)
    by_case true is true same = absurd (let e : x ≡ k = id_from_same x k same in let both : has ids k ≡ true = subst (λ j. has ids j ≡ true) e is in cc)
    by_case true is false same = refl
    by_case false is b same = refl

and_true : (a : Bool) → a ≡ (a && true)
and_true true = refl
and_true false = refl

pub others : (es new : List (UpdateId × Span)) (k x : UpdateId) (v : Span) (n : ℕ) → IsStrictlySortedBy id_cmp (keys_of es) → IsStrictlySortedBy id_cmp (keys_of new)
    → lookup (is_at (id_cmp x)) new ≡ cond (same_id k x) (Some v) (lookup (is_at (id_cmp x)) es) → is_head v n ≡ false → has (heads_at new n) x ≡ (has (heads_at es n) x && not (same_id x k))
others es new k x v n rising risen e is = has_by_lookup new x n risen ∙ ap (λ o. head_of o n) e ∙ by_case (same_id k x) (same_id-symm x k) (has_by_lookup es x n rising)
  where
    by_case : (b : Bool) → same_id x k ≡ b → has (heads_at es n) x ≡ head_of (lookup (is_at (id_cmp x)) es) n
        → head_of (cond b (Some v) (lookup (is_at (id_cmp x)) es)) n ≡ (has (heads_at es n) x && not (same_id x k))
    by_case true same was = rw same (is ∙ sym (and_right (has (heads_at es n) x) false refl))
    by_case false same was = rw same (sym was ∙ and_true (has (heads_at es n) x))

-- a span that has an end is no head's
pub ended_none : (w : Span) (n : ℕ) → IsBefore n w → is_some w.until ≡ true → is_head w n ≡ false
ended_none w n before some = head_unended w n before ∙ turned w.until some
  where
    turned : (stop : Option ℕ) → is_some stop ≡ true → is_none stop ≡ false
    turned None some = absurd cc
    turned (Some until) some = refl

lasting : (stop : Option ℕ) (n : ℕ) → is_some stop ≡ false → lasts stop n ≡ true
lasting None n none = refl
lasting (Some until) n none = absurd cc

pub head_now : (w : Span) (n : ℕ) → is_some w.until ≡ false → IsBefore n w → is_head w n ≡ true
head_now w n none before = rw (lt-ltb w.since n before.began, lasting w.until n none) refl

pub head_before : (w : Span) (position n : ℕ) → is_some w.until ≡ false → n ≤ position → is_head (record { since = w.since; until = Some position }) n ≡ is_head w n
head_before w position n none low = rw (lasting w.until n none, le-ltb position n low) refl

pub head_past : (since position : ℕ) → is_head (record { since = since; until = Some position }) (position + 1) ≡ false
head_past since position = rw (lt-ltb position (position + 1) (omega arith)) (and_right (ltb since (position + 1)) false refl)

pub ltb_turned : (a b : ℕ) → ltb a b ≡ not (ltb b (a + 1))
ltb_turned a b = by_case (ltb a b) refl
  where
    by_case : (c : Bool) → ltb a b ≡ c → c ≡ not (ltb b (a + 1))
    by_case true is = rw (le-ltb b (a + 1) (let low = ltb-true a b is in omega arith)) refl
    by_case false is = rw (lt-ltb b (a + 1) (let high = ltb-false a b is in omega arith)) refl
