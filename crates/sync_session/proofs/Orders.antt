-- Batches of distinct ids, committed to lists of the same members.
use Rattle.std.proofs.Common.{◌≡◌, ◌≢◌, inl, inr, Bool, true, false, not, ◌||◌, List, [], ◌∷◌, ◌++◌, length, filter, Contains, None, refl, sym, ap, subst, ◌∙◌, arith, append_assoc, append-nil}
use Rattle.std.specs.List.{AllByRecursion}
use Rattle.std.specs.List.Sorted.{IsPermutation}
use Rattle.std.proofs.lemmas.List.Elements.{recursion_from_All, Contains-append_left, Contains-append_right, Contains-append_cases, Contains-push, Contains-push_cases}
use Rattle.std.proofs.lemmas.List.Sorted.{IsPermutation-refl, IsPermutation-sym, IsPermutation-cons, IsPermutation-middle, IsPermutation-trans, IsPermutation-append, list_any-IsPermutation, sum_by-IsPermutation, length_permutation}
use Rattle.update_model.specs.declared.update_id.UpdateId.{UpdateId}
use Rattle.update_model.specs.Batch.{Adds, Limits, fits}
use Rattle.update_model.specs.Entry.{Entry, same_id}
use Rattle.update_model.specs.Graph.{byte_count, holds, lacking, Follows, IsNext}
use Rattle.update_model.proofs.Ids.{same_id-refl, same_id-symm}
use Rattle.session_rules.proofs.Held.{held_member, held_witness, holds_append, holds_front, later_differs}
use Rattle.session_rules.proofs.Words.{cons_cases, each_member, each_weaker, filter_member, find_none, first_member, is_either, later_member, or_cases}

-- ---- members of distinct ids

-- no two of them have one id
abbrev pub AreApart : List Entry → Type 0
AreApart [] = Unit {0}
AreApart (e ∷ es) = (holds es e.id ≡ false) × AreApart es

pub or_none : (a b : Bool) → (a || b) ≡ false → (a ≡ false) × (b ≡ false)
or_none true b e = absurd cc
or_none false b e = (refl, e)

or_neither : (a b : Bool) → a ≡ false → b ≡ false → (a || b) ≡ false
or_neither true b e f = absurd cc
or_neither false b e f = f

-- one more, of another id
pub apart_push : (es : List Entry) (e : Entry) → AreApart es → holds es e.id ≡ false → AreApart (es ++ e ∷ [])
apart_push [] e a new = (refl, tt)
apart_push (x ∷ xs) e a new =
    let parts = or_none (same_id e.id x.id) (holds xs e.id) new in
    let other : same_id x.id e.id ≡ false = same_id-symm x.id e.id ∙ parts.0 in
    (holds_append xs (e ∷ []) x.id ∙ or_neither (holds xs x.id) (same_id x.id e.id || false) a.0 (or_neither (same_id x.id e.id) false other refl), apart_push xs e a.1 parts.1)

holds_filter : (t : Entry → Bool) (es : List Entry) (id : UpdateId) → holds es id ≡ false → holds (filter t es) id ≡ false
holds_filter t [] id none = refl
holds_filter t (x ∷ xs) id none = by_test (holds_filter t xs id (or_none (same_id id x.id) (holds xs id) none).1) (t x) refl
  where
    by_test : holds (filter t xs) id ≡ false → (b : Bool) → t x ≡ b → holds (filter t (x ∷ xs)) id ≡ false
    by_test rest true passes = rw passes (or_neither (same_id id x.id) (holds (filter t xs) id) (or_none (same_id id x.id) (holds xs id) none).0 rest)
    by_test rest false fails = rw fails rest

-- some of them
pub apart_filter : (t : Entry → Bool) (es : List Entry) → AreApart es → AreApart (filter t es)
apart_filter t [] a = tt
apart_filter t (x ∷ xs) a = by_test (apart_filter t xs a.1) (t x) refl
  where
    by_test : AreApart (filter t xs) → (b : Bool) → t x ≡ b → AreApart (filter t (x ∷ xs))
    by_test rest true passes = rw passes (holds_filter t xs x.id a.0, rest)
    by_test rest false fails = rw fails rest

-- members of one id are one
pub apart_one : (es : List Entry) (a b : Entry) → AreApart es → Contains es a → Contains es b → a.id ≡ b.id → a ≡ b
apart_one [] a b apart ca cb same = absurd (omega (arith, ca.1))
apart_one (x ∷ xs) a b apart ca cb same = elim (cons_cases x xs a ca) [
  | inl is ↦ elim (cons_cases x xs b cb) [
    | inl too ↦ sym is ∙ too
    | inr held ↦ absurd (never b held (ap (λ (e : Entry). e.id) is ∙ same))
  ]
  | inr there ↦ elim (cons_cases x xs b cb) [
    | inl too ↦ absurd (never a there (ap (λ (e : Entry). e.id) too ∙ sym same))
    | inr held ↦ apart_one xs a b apart.1 there held same
  ]
]
  where
    never : (e : Entry) → Contains xs e → x.id ≡ e.id → ⊥
    never e held is = let there : holds xs x.id ≡ true = subst (λ (i : UpdateId). holds xs i ≡ true) (sym is) (held_member xs e held) in let free = apart.0 in cc

-- without one of them
apart_middle : (us : List Entry) (x : Entry) (vs : List Entry) → AreApart (us ++ x ∷ vs) → (holds (us ++ vs) x.id ≡ false) × AreApart (us ++ vs)
apart_middle [] x vs a = (a.0, a.1)
apart_middle (u ∷ us) x vs a =
    let rest = apart_middle us x vs a.1 in
    let parts = or_none (holds us u.id) (holds (x ∷ vs) u.id) (sym (holds_append us (x ∷ vs) u.id) ∙ a.0) in
    let ends = or_none (same_id u.id x.id) (holds vs u.id) parts.1 in (
      or_neither (same_id x.id u.id) (holds (us ++ vs) x.id) (same_id-symm x.id u.id ∙ ends.0) rest.0,
      (holds_append us vs u.id ∙ or_neither (holds us u.id) (holds vs u.id) parts.0 ends.1, rest.1),
    )

split : (ys : List Entry) (x : Entry) → Contains ys x → (us : List Entry) × (vs : List Entry) × (ys ≡ us ++ x ∷ vs)
split [] x c = absurd (omega (arith, c.1))
split (y ∷ ys) x c = elim (cons_cases y ys x c) [
  | inl is ↦ ([], ys, ap (λ (z : Entry). z ∷ ys) is)
  | inr later ↦ let s = split ys x later in (y ∷ s.0, s.1, ap (λ (zs : List Entry). y ∷ zs) s.2)
]

-- lists of the same members of distinct ids are one list in two orders
pub one_in_two_orders : (xs ys : List Entry) → AreApart xs → AreApart ys → ((e : Entry) → Contains xs e → Contains ys e) → ((e : Entry) → Contains ys e → Contains xs e) → IsPermutation xs ys
one_in_two_orders [] [] a b to back = IsPermutation-refl []
one_in_two_orders [] (y ∷ ys) a b to back = absurd (omega (arith, (back y (first_member y ys)).1))
one_in_two_orders (x ∷ xs) ys a b to back =
    let s = split ys x (to x (first_member x xs)) in
    let apart = apart_middle s.0 x s.1 (subst AreApart s.2 b) in
    let rest = one_in_two_orders xs (s.0 ++ s.1) a.1 apart.1 (λ e c. onward s.0 s.1 s.2 e c) (λ e c. backward s.0 s.1 s.2 apart.0 e c) in
    subst (IsPermutation (x ∷ xs)) (sym s.2) (IsPermutation-trans (x ∷ xs) (x ∷ (s.0 ++ s.1)) (s.0 ++ x ∷ s.1) (IsPermutation-cons x xs (s.0 ++ s.1) rest) (IsPermutation-sym (s.0 ++ x ∷ s.1) (x ∷ (s.0 ++ s.1)) (IsPermutation-middle s.0 x s.1)))
  where
    onward : (us vs : List Entry) → ys ≡ us ++ x ∷ vs → (e : Entry) → Contains xs e → Contains (us ++ vs) e
    onward us vs is e c = elim (Contains-append_cases us (x ∷ vs) e (subst (λ (zs : List Entry). Contains zs e) is (to e (later_member x xs e c)))) [
      | inl early ↦ Contains-append_left us vs e early
      | inr late ↦ elim (cons_cases x vs e late) [
        | inl same ↦ absurd (let there : holds xs x.id ≡ true = subst (λ (m : Entry). holds xs m.id ≡ true) (sym same) (held_member xs e c) in let free = a.0 in cc)
        | inr later ↦ Contains-append_right us vs e later
      ]
    ]

    wider : (us vs : List Entry) (e : Entry) → Contains (us ++ vs) e → Contains (us ++ x ∷ vs) e
    wider us vs e c = elim (Contains-append_cases us vs e c) [
      | inl early ↦ Contains-append_left us (x ∷ vs) e early
      | inr late ↦ Contains-append_right us (x ∷ vs) e (later_member x vs e late)
    ]

    backward : (us vs : List Entry) → ys ≡ us ++ x ∷ vs → holds (us ++ vs) x.id ≡ false → (e : Entry) → Contains (us ++ vs) e → Contains xs e
    backward us vs is free e c = elim (cons_cases x xs e (back e (subst (λ (zs : List Entry). Contains zs e) (sym is) (wider us vs e c)))) [
      | inl same ↦ absurd (let there : holds (us ++ vs) x.id ≡ true = subst (λ (m : Entry). holds (us ++ vs) m.id ≡ true) (sym same) (held_member (us ++ vs) e c) in cc)
      | inr there ↦ there
    ]

-- ---- what a batch adds

follows_apart : (before es : List Entry) → Follows before es → AreApart es
follows_apart before [] f = tt
follows_apart before (y ∷ ys) f = (by_held (holds ys y.id) refl, follows_apart (before ++ y ∷ []) ys f.1)
  where
    by_held : (b : Bool) → holds ys y.id ≡ b → holds ys y.id ≡ false
    by_held false none = none
    by_held true there =
        let w = held_witness ys y.id there in
        absurd (later_differs (before ++ y ∷ []) ys y w.0 f.1 (Contains-push before y) w.1 (subst (λ (i : UpdateId). same_id i y.id ≡ true) w.2 (same_id-refl y.id)))

-- both lists hold the same ids
abbrev pub HoldSame : List Entry → List Entry → Type 0
HoldSame list other = (id : UpdateId) → holds list id ≡ holds other id

pub same_held : (list other : List Entry) → IsPermutation list other → HoldSame list other
same_held list other p id = list_any-IsPermutation (λ (e : Entry). same_id id e.id) list other p

pub same_fits : (limits : Limits) (list other : List Entry) → IsPermutation list other → fits limits other ≡ fits limits list
same_fits limits list other p =
    let long = length_permutation list other p in
    let heavy : byte_count other ≡ byte_count list = sum_by-IsPermutation (λ (e : Entry). length e.bytes) list other p in
    rw (long, heavy) refl

module _ (before other batch added waiting more waits : List Entry) (same : HoldSame before other) (one : Adds before batch added waiting) (two : Adds other batch more waits) where
  abbrev later : List Entry
  later = other ++ more

  held_pred : (xs : List Entry) → ((e : Entry) → Contains xs e → holds later e.id ≡ true) → (id : UpdateId) → holds (before ++ xs) id ≡ true → holds later id ≡ true
  held_pred xs early id h = elim (or_cases (holds before id) (holds xs id) (sym (holds_append before xs id) ∙ h)) [
    | inl first ↦ holds_front other more id (sym (same id) ∙ first)
    | inr there ↦ let w = held_witness xs id there in subst (λ (i : UpdateId). holds later i ≡ true) (sym w.2) (early w.0 w.1)
  ]

  not_none : (b : Bool) → b ≡ true → not b ≡ false
  not_none true e = refl
  not_none false e = absurd cc

  held_next : (xs : List Entry) (y : Entry) → IsNext (before ++ xs) y → Contains batch y → ((e : Entry) → Contains xs e → holds later e.id ≡ true) → holds later y.id ≡ true
  held_next xs y next there early = elim (is_either (holds later y.id)) [
    | inl held ↦ held
    | inr free ↦
        let preds = recursion_from_All (λ (p : UpdateId). holds (before ++ xs) p ≡ true) y.preds next.preds in
        let none = find_none (λ (p : UpdateId). not (holds later p)) y.preds (each_weaker (λ (p : UpdateId). holds (before ++ xs) p ≡ true) (λ (p : UpdateId). not (holds later p) ≡ false) (λ p h. not_none (holds later p) (held_pred xs early p h)) y.preds preds) in
        let waits_there : Contains waits y = subst (λ (es : List Entry). Contains es y) (sym two.rest) (filter_member (λ (m : Entry). not (holds later m.id)) batch y there (ap not free)) in
        absurd (each_member (λ (e : Entry). lacking later e ≢ None) waits y two.stuck waits_there none)
  ]

  held_on : (xs ys : List Entry) → Follows (before ++ xs) ys → AllByRecursion (Contains batch) ys → ((e : Entry) → Contains xs e → holds later e.id ≡ true) → (e : Entry) → Contains ys e → holds later e.id ≡ true
  held_on xs [] f all early e c = absurd (omega (arith, c.1))
  held_on xs (y ∷ ys) f all early e c =
      let here = held_next xs y f.0 all.0 early in
      elim (cons_cases y ys e c) [
        | inl is ↦ subst (λ (m : Entry). holds later m.id ≡ true) is here
        | inr after ↦ held_on (xs ++ y ∷ []) ys (subst (λ (g : List Entry). Follows g ys) (append_assoc before xs (y ∷ [])) f.1) all.1 (λ m d. elim (Contains-push_cases xs y m d) [
          | inl front ↦ early m front
          | inr is ↦ subst (λ (z : Entry). holds later z.id ≡ true) is here
        ]) e after
      ]

  later_held : (e : Entry) → Contains added e → holds later e.id ≡ true
  later_held e c = held_on [] added (subst (λ (g : List Entry). Follows g added) (sym (append-nil before)) one.next) one.from (λ m d. absurd (omega (arith, d.1))) e c

  -- what the one adds the other adds too
  pub added_too : AreApart batch → (e : Entry) → Contains added e → Contains more e
  added_too apart e c = elim (or_cases (holds other e.id) (holds more e.id) (sym (holds_append other more e.id) ∙ later_held e c)) [
    | inl early ↦
        let w = held_witness before e.id (same e.id ∙ early) in
        absurd (later_differs before added w.0 e one.next w.1 c (subst (λ (i : UpdateId). same_id e.id i ≡ true) w.2 (same_id-refl e.id)))
    | inr there ↦
        let w = held_witness more e.id there in
        let is = apart_one batch e w.0 apart (each_member (Contains batch) added e one.from c) (each_member (Contains batch) more w.0 two.from w.1) w.2 in
        subst (λ (m : Entry). Contains more m) (sym is) w.1
  ]

pub filter_alike : (t u : Entry → Bool) → ((e : Entry) → t e ≡ u e) → (es : List Entry) → filter t es ≡ filter u es
filter_alike t u same [] = refl
filter_alike t u same (x ∷ xs) = rw (same x, filter_alike t u same xs) refl

-- Two commits of one batch to lists of the same members add the same, and leave the same to wait.
pub record AddSame (before other added more waiting waits : List Entry) : Type 0 where
  pub news : IsPermutation added more
  pub list : IsPermutation (before ++ added) (other ++ more)
  pub rest : waits ≡ waiting

pub adds_same : (before other batch added waiting more waits : List Entry) → IsPermutation before other → AreApart batch → Adds before batch added waiting → Adds other batch more waits → AddSame before other added more waiting waits
adds_same before other batch added waiting more waits p apart one two =
    let same = same_held before other p in
    let added_same = one_in_two_orders added more (follows_apart before added one.next) (follows_apart other more two.next)
    (added_too before other batch added waiting more waits same one two apart) (added_too other before batch more waits added waiting (λ id. sym (same id)) two one apart) in
    let list = IsPermutation-append before other added more p added_same in
    let held = same_held (before ++ added) (other ++ more) list in
    record {
      news = added_same;
      list = list;
      rest = two.rest ∙ filter_alike (λ (e : Entry). not (holds (other ++ more) e.id)) (λ (e : Entry). not (holds (before ++ added) e.id)) (λ e. ap not (sym (held e.id))) batch ∙ sym one.rest;
    }
