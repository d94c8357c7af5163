-- What an end asks for: there is always something, and the peer has it.
use Rattle.std.proofs.Common.{◌≡◌, ◌≢◌, ◌⊎◌, inl, inr, ℕ, zero, suc, Bool, true, false, not, ◌||◌, List, [], ◌∷◌, ◌++◌, take, Contains, None, refl, sym, subst, ◌∙◌, arith}
use Rattle.std.specs.List.{list_all, AllByRecursion}
use Rattle.std.proofs.lemmas.List.Elements.{recursion_from_All, Contains-append_left, Contains-push, Contains-push_cases}
use Rattle.session_rules.specs.declared.limits.TheConstants.{MAX_NEEDS}
use Rattle.update_model.specs.declared.update_id.UpdateId.{UpdateId}
use Rattle.update_model.specs.Entry.{Entry, same_id}
use Rattle.update_model.specs.Graph.{has, holds, names, lacking, Follows, IsClosed}
use Rattle.update_model.proofs.Heads.{any_from_member}
use Rattle.update_model.proofs.Ids.{same_id-refl}
use Rattle.session_rules.specs.Steps.{is_wanted, AreLeast, is_empty}
use Rattle.session_rules.proofs.Words.{or_cases, or_left, or_right, not_true, is_either, cons_cases, first_member, later_member, each_member, not_all, find_member}
use Rattle.session_rules.proofs.Held.{held_member, held_witness, has_member, Within, distinct}

-- what something waits for that neither is held nor waits itself
pub record IsAwaited (now waiting : List Entry) (id : UpdateId) : Type 0 where
  pub named : names waiting id ≡ true
  pub not_held : holds now id ≡ false
  pub not_waiting : holds waiting id ≡ false

-- what stands before does not wait
not_both : (before waiting : List Entry) (id : UpdateId) → ((e : Entry) → Contains before e → holds waiting e.id ≡ false) → holds before id ≡ true → holds waiting id ≡ false
not_both before waiting id none early = let y = held_witness before id early in subst (λ (i : UpdateId). holds waiting i ≡ false) (sym y.2) (none y.0 y.1)

-- the first member of the set that waits
first_waiting : (set now waiting before es : List Entry) → IsClosed set → Within set waiting → AllByRecursion (λ e. lacking now e ≢ None) waiting
    → Follows before es → ((e : Entry) → Contains set e → Contains before e ⊎ Contains es e) → ((e : Entry) → Contains es e → Contains set e)
    → ((e : Entry) → Contains before e → holds waiting e.id ≡ false)
    → (w : Entry) → Contains waiting w → (id : UpdateId) × IsAwaited now waiting id
first_waiting set now waiting before [] closed all stuck f parts inside none w cw = elim (parts w (each_member (Contains set) waiting w all cw)) [
  | inl early ↦ absurd (let there = held_member waiting w cw in let not_there = none w early in cc)
  | inr c ↦ absurd (omega (arith, c.1))
]
first_waiting set now waiting before (x ∷ xs) closed all stuck f parts inside none w cw = elim (is_either (holds waiting x.id)) [
  | inl here ↦ found (held_witness waiting x.id here)
  | inr not_here ↦ first_waiting set now waiting (before ++ x ∷ []) xs closed all stuck f.1 more (λ e c. inside e (later_member x xs e c)) (fewer not_here) w cw
]
  where
    found : (v : Entry) × Contains waiting v × (x.id ≡ v.id) → (id : UpdateId) × IsAwaited now waiting id
    found v =
        let in_set : Contains set v.0 = each_member (Contains set) waiting v.0 all v.1 in
        let is : x ≡ v.0 = distinct [] set x v.0 closed (inside x (first_member x xs)) in_set (subst (λ (i : UpdateId). same_id x.id i ≡ true) v.2 (same_id-refl x.id)) in
        let lack = find_member (λ p. not (holds now p)) v.0.preds (each_member (λ e. lacking now e ≢ None) waiting v.0 stuck v.1) in
        let preds = subst (λ (m : Entry). AllByRecursion (λ p. holds before p ≡ true) m.preds) is (recursion_from_All (λ p. holds before p ≡ true) x.preds f.0.preds) in
        let early : holds before lack.0 ≡ true = each_member (λ p. holds before p ≡ true) v.0.preds lack.0 preds lack.1 in (
          lack.0,
          record {
            named = any_from_member (λ m. has m.preds lack.0) waiting v.0 v.1 (has_member v.0.preds lack.0 lack.1);
            not_held = not_true (holds now lack.0) lack.2;
            not_waiting = not_both before waiting lack.0 none early;
          },
        )

    more : (e : Entry) → Contains set e → Contains (before ++ x ∷ []) e ⊎ Contains xs e
    more e c = elim (parts e c) [
      | inl early ↦ inl (Contains-append_left before (x ∷ []) e early)
      | inr late ↦ elim (cons_cases x xs e late) [
        | inl is ↦ inl (subst (λ (m : Entry). Contains (before ++ x ∷ []) m) is (Contains-push before x))
        | inr later ↦ inr later
      ]
    ]

    fewer : holds waiting x.id ≡ false → (e : Entry) → Contains (before ++ x ∷ []) e → holds waiting e.id ≡ false
    fewer free e c = elim (Contains-push_cases before x e c) [
      | inl early ↦ none e early
      | inr is ↦ subst (λ (m : Entry). holds waiting m.id ≡ false) is free
    ]

-- Where members of a closed set wait, each for something that is not held, there is something to ask for.
pub awaited : (set now waiting : List Entry) (w : Entry) → IsClosed set → Within set waiting → AllByRecursion (λ e. lacking now e ≢ None) waiting → Contains waiting w
    → (id : UpdateId) × IsAwaited now waiting id
awaited set now waiting w closed all stuck cw = first_waiting set now waiting [] set closed all stuck closed (λ e c. inr c) (λ e c. c) (λ e c. absurd (omega (arith, c.1))) w cw

-- What was asked for is held or waits: then an end that lacks a head wants something.
pub some_wanted : (set now waiting : List Entry) (heads asked : List UpdateId) → IsClosed set → Within set waiting → AllByRecursion (λ e. lacking now e ≢ None) waiting
    → ((id : UpdateId) → has asked id ≡ true → (holds now id || holds waiting id) ≡ true)
    → list_all (holds now) heads ≡ false
    → (id : UpdateId) × (is_wanted heads now waiting asked id ≡ true)
some_wanted set now waiting heads asked closed all stuck answered lacks =
    let head = not_all (holds now) heads lacks in
    elim (is_either (holds waiting head.0)) [
      | inl waits ↦
          let w = held_witness waiting head.0 waits in
          let a = awaited set now waiting w.0 closed all stuck w.1 in
          (a.0, want a.0 (or_right (has heads a.0) (names waiting a.0) a.1.named) a.1.not_held a.1.not_waiting)
      | inr free ↦ (head.0, want head.0 (or_left (has heads head.0) (names waiting head.0) (has_member heads head.0 head.1)) head.2 free)
    ]
  where
    want : (id : UpdateId) → (has heads id || names waiting id) ≡ true → holds now id ≡ false → holds waiting id ≡ false → is_wanted heads now waiting asked id ≡ true
    want id named not_held free = elim (is_either (has asked id)) [
      | inl was ↦ absurd (let settled = answered id was in let neither : (holds now id || holds waiting id) ≡ false = rw (not_held, free) refl in cc)
      | inr new ↦ rw (named, not_held, free, new) refl
    ]

-- each of the least ids passes the test
has_take : (n : ℕ) (ids : List UpdateId) (id : UpdateId) → has (take n ids) id ≡ true → has ids id ≡ true
has_take zero [] id h = h
has_take (suc n) [] id h = h
has_take zero (x ∷ xs) id h = absurd cc
has_take (suc n) (x ∷ xs) id h = elim (or_cases (same_id id x) (has (take n xs) id) h) [
  | inl is ↦ or_left (same_id id x) (has xs id) is
  | inr later ↦ or_right (same_id id x) (has xs id) (has_take n xs id later)
]

pub least_passes : (test : UpdateId → Bool) (n : ℕ) (ids : List UpdateId) (id : UpdateId) → AreLeast test n ids → has ids id ≡ true → test id ≡ true
least_passes test n ids id least h = sym (least.exact id) ∙ has_take n least.all id (subst (λ (is : List UpdateId). has is id ≡ true) least.front h)

-- there is one where one id passes
pub least_some : (test : UpdateId → Bool) (ids : List UpdateId) (id : UpdateId) → AreLeast test MAX_NEEDS ids → test id ≡ true → is_empty ids ≡ false
least_some test ids id least passes = rw least.front (by_cases least.all (least.exact id ∙ passes))
  where
    by_cases : (all : List UpdateId) → has all id ≡ true → is_empty (take MAX_NEEDS all) ≡ false
    by_cases [] h = absurd cc
    by_cases (x ∷ xs) h = refl
