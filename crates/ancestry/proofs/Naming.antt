-- Who names a member: the way up from a member to its descendants, and the lists that lead up.
use Rattle.std.proofs.Common.{◌≡◌, inl, inr, ℕ, suc, ◌+◌, ◌-◌, ◌<◌, ◌≤◌, Bool, true, false, ◌||◌, ◌&&◌, List, [], ◌∷◌, ◌++◌, length, refl, sym, ap, subst, ◌∙◌, arith, Contains, slice_index_or, slice_set, All, Some, take}
use Rattle.std.specs.Prelude.{◌==◌, Option, slice_get, unwrap_or}
use Rattle.std.specs.Option.{option_to_list}
use Rattle.std.specs.BTreeSet.{insert_key}
use Rattle.std.specs.List.{list_any}
use Rattle.std.specs.declared.cmp.Ordering.{Ordering}
use Rattle.std.specs.declared.cmp.Ordering.TheVariants.{Less, Equal, Greater}
use Rattle.std.specs.Ordering.{nat_cmp, match_ordering}
use Rattle.std.proofs.Math.Bool.{or_assoc, or_comm}
use Rattle.std.proofs.lemmas.Bool.{eqb-true, eq-eqb, ne_eqb, cases_lt, cases_eq, and_parts, and_from, or_cases, or_left, or_right}
use Rattle.std.proofs.lemmas.Option.{unwrap_or-slice_get, slice_get_past}
use Rattle.std.proofs.lemmas.List.{get_or_append_left, get_or-take, get_or_read, get_or-set_same, get_or-set_other, length-append, length-take-le, take_all}
use Rattle.std.proofs.lemmas.List.Folds.{list_any-append, list_any_more}
use Rattle.std.proofs.lemmas.List.Elements.{All-contains}
use Rattle.update_model.proofs.Heads.{witness, any_from_member}
use Rattle.ancestry.specs.Named.{is_noted, names, AreNamers}
use Rattle.ancestry.specs.Walks.{preds_at, AreLower, is_ancestor}
use Rattle.ancestry.proofs.Chained.{named, through, ancestor_low}
use Rattle.ancestry.proofs.Clocking.{preds_last}
use Rattle.ancestry.proofs.Marking.{upward}
use Rattle.ancestry.proofs.Steps.{preds_stay}

-- whether a member is the one at `b`, or an ancestor of it
abbrev pub leads : List (List ℕ) → ℕ → ℕ → Bool
leads graph b s = (s == b) || is_ancestor graph s b

-- who is named is a predecessor
called : (graph : List (List ℕ)) (q p : ℕ) → names graph q p ≡ true → Contains (preds_at graph q) p
called graph q p e =
    let w = witness (λ k. k == p) (preds_at graph q) e in
    subst (Contains (preds_at graph q)) (eqb-true w.0 p w.2) w.1

pub names_low : (graph : List (List ℕ)) (q p : ℕ) → AreLower graph → names graph q p ≡ true → p < q
names_low graph q p lower e = All-contains (λ k. k < q) (preds_at graph q) p (lower q) (called graph q p e)

-- who names somebody is a member
pub names_there : (graph : List (List ℕ)) (q p : ℕ) → names graph q p ≡ true → q < length graph
names_there graph q p e = elim (cases_lt q (length graph)) [
  | inl low ↦ low
  | inr high ↦ absurd (
      let none : preds_at graph q ≡ [] = ap (λ (o : Option (List ℕ)). unwrap_or o []) (slice_get_past graph q high) in
      let is : false ≡ true = ap (list_any (λ k. k == p)) (sym none) ∙ e in cc)
]

-- ---- the way up

-- what names a member and leads to `b` shows that the member is an ancestor
pub led : (graph : List (List ℕ)) (p s b : ℕ) → AreLower graph → names graph s p ≡ true → leads graph b s ≡ true → is_ancestor graph p b ≡ true
led graph p s b lower e up =
    let first : is_ancestor graph p s ≡ true = named graph p p s lower (called graph s p e) (or_left (p == p) (is_ancestor graph p p) (eq-eqb p p refl)) in
    elim (or_cases (s == b) (is_ancestor graph s b) up) [
      | inl here ↦ subst (λ q. is_ancestor graph p q ≡ true) (eqb-true s b here) first
      | inr further ↦ through graph p s b lower first further
    ]

-- an ancestor is named by somebody that leads to `b`
first_up : (graph : List (List ℕ)) (p b : ℕ) → AreLower graph → is_ancestor graph p b ≡ true → (s : ℕ) × (names graph s p ≡ true) × (leads graph b s ≡ true)
first_up graph p b lower above =
    let up = upward graph lower (suc b) p b (omega arith) above in (
      up.0,
      up.2,
      elim up.3 [
        | inl here ↦ or_left (up.0 == b) (is_ancestor graph up.0 b) (eq-eqb up.0 b here)
        | inr further ↦ or_right (up.0 == b) (is_ancestor graph up.0 b) further
      ],
    )

-- who stands in a list that leads up, names the member, and leads to `b`
abbrev pub goes_up : List (List ℕ) → ℕ → ℕ → ℕ → Bool
goes_up graph p b s = names graph s p && leads graph b s

pub by_namers : (graph namers : List (List ℕ)) (p b : ℕ) → AreLower graph → AreNamers graph namers → p < length graph → list_any (goes_up graph p b) (slice_index_or namers p []) ≡ is_ancestor graph p b
by_namers graph namers p b lower are held = both_ways_up (list_any (goes_up graph p b) (slice_index_or namers p [])) (is_ancestor graph p b)
    (λ e. let w = witness (goes_up graph p b) (slice_index_or namers p []) e in
    let parts = and_parts (names graph w.0 p) (leads graph b w.0) w.2 in
    led graph p w.0 b lower parts.0 parts.1)
    (λ e. let s = first_up graph p b lower e in
    let w = witness (λ k. k == s.0) (slice_index_or namers p []) (are.all p s.0 held s.1) in
    let same : s.0 ≡ w.0 = sym (eqb-true w.0 s.0 w.2) in
    any_from_member (goes_up graph p b) (slice_index_or namers p []) w.0 w.1 (subst (λ k. goes_up graph p b k ≡ true) same (and_from (names graph s.0 p) (leads graph b s.0) s.1 s.2)))
  where
    both_ways_up : (x y : Bool) → (x ≡ true → y ≡ true) → (y ≡ true → x ≡ true) → x ≡ y
    both_ways_up true y f g = sym (f refl)
    both_ways_up false true f g = g refl
    both_ways_up false false f g = refl

-- who stands above `b` does not lead to it
pub not_above : (graph : List (List ℕ)) (b s : ℕ) → AreLower graph → b < s → leads graph b s ≡ false
not_above graph b s lower high = by_case (leads graph b s) refl
  where
    by_case : (t : Bool) → leads graph b s ≡ t → leads graph b s ≡ false
    by_case false e = e
    by_case true e = elim (or_cases (s == b) (is_ancestor graph s b) e) [
      | inl same ↦ absurd (let is = eqb-true s b same in omega arith)
      | inr above ↦ absurd (let low = ancestor_low graph s b lower above in omega arith)
    ]

-- ---- the lists, with one member more and with fewer

noted_left : (namers more : List (List ℕ)) (p q : ℕ) → p < length namers → is_noted namers p q ≡ true → is_noted (namers ++ more) p q ≡ true
noted_left namers more p q low e = ap (list_any (λ s. s == q)) (get_or_append_left namers more [] p low) ∙ e

pub named_push : (graph namers new : List (List ℕ)) (preds : List ℕ) → AreLower graph → All (λ p. p < length graph) preds → AreNamers graph namers → length new ≡ length namers
    → ((p q : ℕ) → is_noted namers p q ≡ true → is_noted new p q ≡ true) → ((p : ℕ) → list_any (λ k. k == p) preds ≡ true → is_noted new p (length graph) ≡ true)
    → AreNamers (graph ++ preds ∷ []) (new ++ [] ∷ [])
named_push graph namers new preds lower earlier are same kept noted = record {
  long = length-append new ([] ∷ []) ∙ (let e = are.long in let f = length-append graph (preds ∷ []) in omega arith);
  all = λ p q low e. elim (cases_lt q (length graph)) [
    | inl under ↦
        let before : names graph q p ≡ true = ap (list_any (λ k. k == p)) (sym (preds_stay graph (preds ∷ []) q under)) ∙ e in
        let below = names_low graph q p lower before in
        let inside : p < length graph = omega arith in
        noted_left new ([] ∷ []) p q (let l = are.long in omega arith) (kept p q (are.all p q inside before))
    | inr over ↦ elim (cases_eq q (length graph)) [
      | inl last ↦
          let mine : list_any (λ k. k == p) preds ≡ true = ap (list_any (λ k. k == p)) (sym (ap (preds_at (graph ++ preds ∷ [])) last ∙ preds_last graph preds)) ∙ e in
          let w = witness (λ k. k == p) preds mine in
          let inside : p < length graph = subst (λ k. k < length graph) (eqb-true w.0 p w.2) (All-contains (λ k. k < length graph) preds w.0 earlier w.1) in
          rw last (noted_left new ([] ∷ []) p (length graph) (let l = are.long in omega arith) (noted p mine))
      | inr past ↦ absurd (let there = names_there (graph ++ preds ∷ []) q p e in let f = length-append graph (preds ∷ []) in omega arith)
    ]
  ];
}

pub named_front : (graph more namers : List (List ℕ)) → AreLower (graph ++ more) → length namers ≡ length (graph ++ more)
    → ((p q : ℕ) → p < length graph → q < length graph → names (graph ++ more) q p ≡ true → is_noted namers p q ≡ true) → AreNamers graph (take (length graph) namers)
named_front graph more namers lower same kept =
    let size : length graph ≤ length namers = let f = length-append graph more in omega arith in
    record {
      long = length-take-le (length graph) namers size;
      all = λ p q low e.
          let under = names_there graph q p e in
          let whole : names (graph ++ more) q p ≡ true = ap (list_any (λ k. k == p)) (preds_stay graph more q under) ∙ e in
          ap (list_any (λ s. s == q)) (get_or-take (length graph) namers p [] low) ∙ kept p q low under whole;
    }

-- ---- one list that changes

-- a list in the place of one that it has all of
pub noted_set : (namers : List (List ℕ)) (i len : ℕ) (d new : List ℕ) → i < length namers → d ≡ slice_index_or namers i d
    → ((q : ℕ) → q < len → list_any (λ s. s == q) d ≡ true → list_any (λ s. s == q) new ≡ true)
    → (p q : ℕ) → q < len → is_noted namers p q ≡ true → is_noted (slice_set namers i new) p q ≡ true
noted_set namers i len d new low is more p q under e = elim (cases_eq p i) [
  | inl same ↦
      let old : list_any (λ s. s == q) d ≡ true = ap (list_any (λ s. s == q)) (get_or_read namers i d low is []) ∙ ap (λ k. is_noted namers k q) (sym same) ∙ e in
      rw same (ap (list_any (λ s. s == q)) (get_or-set_same namers i new [] low) ∙ more q under old)
  | inr apart ↦ ap (list_any (λ s. s == q)) (get_or-set_other namers i p new [] apart) ∙ e
]

-- one position more
pub pushed : (d new : List ℕ) (position q : ℕ) → new ≡ d ++ position ∷ [] → list_any (λ s. s == q) d ≡ true → list_any (λ s. s == q) new ≡ true
pushed d new position q is e = ap (list_any (λ s. s == q)) is ∙ list_any-append (λ s. s == q) d (position ∷ []) ∙ or_left (list_any (λ s. s == q) d) (list_any (λ s. s == q) (position ∷ [])) e

-- the position is there
pub pushed_there : (d new : List ℕ) (position : ℕ) → new ≡ d ++ position ∷ [] → list_any (λ s. s == position) new ≡ true
pushed_there d new position is =
    ap (list_any (λ s. s == position)) is ∙ list_any-append (λ s. s == position) d (position ∷ [])
    ∙ or_right (list_any (λ s. s == position) d) (list_any (λ s. s == position) (position ∷ [])) (or_left (position == position) false (eq-eqb position position refl))

-- one more of those that are named
pub noted_more : (namers new : List (List ℕ)) (preds own : List ℕ) (k position p : ℕ) → k < length preds → slice_index_or preds k 0 < length namers
    → new ≡ slice_set namers (slice_index_or preds k 0) own → list_any (λ s. s == position) own ≡ true
    → ((q : ℕ) → is_noted namers q position ≡ true → is_noted new q position ≡ true)
    → (list_any (λ j. j == p) (take k preds) ≡ true → is_noted namers p position ≡ true) → list_any (λ j. j == p) (take (k + 1) preds) ≡ true → is_noted new p position ≡ true
noted_more namers new preds own k position p low inside is there stay before e =
    elim (or_cases (list_any (λ j. j == p) (take k preds)) (slice_index_or preds k 0 == p) (sym (list_any_more (λ j. j == p) preds k 0 low) ∙ e)) [
      | inl earlier ↦ stay p (before earlier)
      | inr here ↦
          rw (← eqb-true (slice_index_or preds k 0) p here, is) (ap (list_any (λ s. s == position)) (get_or-set_same namers (slice_index_or preds k 0) own [] inside) ∙ there)
    ]

-- ---- a list without its last position

module _ (items rest : List ℕ) (o : Option ℕ) (last n : ℕ) (long : length items ≡ n) (split : items ≡ rest ++ option_to_list o)
    (value : (d : ℕ) → 0 < n → o ≡ Some (slice_index_or items (n - 1) d)) (is : slice_get items (length items - 1) ≡ Some last) where
  ends : items ≡ rest ++ last ∷ []
  ends =
      let reads : slice_index_or items (length items - 1) 0 ≡ last = sym (unwrap_or-slice_get items (length items - 1) 0) ∙ ap (λ (x : Option ℕ). unwrap_or x 0) is in
      let there : o ≡ Some last = value 0 (omega (arith, long, some items is)) ∙ ap (λ (k : ℕ). Some (slice_index_or items (k - 1) 0)) (sym long) ∙ ap (λ (x : ℕ). Some x) reads in
      split ∙ ap (λ (x : Option ℕ). rest ++ option_to_list x) there
    where
      some : (xs : List ℕ) → slice_get xs (length xs - 1) ≡ Some last → 0 < length xs
      some [] h = absurd cc
      some (x ∷ xs) h = omega arith

  pub popped_less : length rest < length items
  popped_less = let e = ap (length {A = ℕ}) ends ∙ length-append rest (last ∷ []) in omega (arith, e)

  -- without its last position, which is not below a bound, it has all that is
  pub popped : (len q : ℕ) → len ≤ last → q < len → list_any (λ s. s == q) items ≡ true → list_any (λ s. s == q) rest ≡ true
  popped len q high low e =
      elim (or_cases (list_any (λ s. s == q) rest) (list_any (λ s. s == q) (last ∷ [])) (sym (list_any-append (λ s. s == q) rest (last ∷ [])) ∙ ap (list_any (λ s. s == q)) (sym ends) ∙ e)) [
        | inl there ↦ there
        | inr ended ↦ elim (or_cases (last == q) false ended) [
          | inl same ↦ absurd (let is = eqb-true last q same in omega arith)
          | inr none ↦ absurd cc
        ]
      ]

-- ---- what is pending

or_twice : (x y : Bool) → (x || y) ≡ ((x || y) || x)
or_twice true y = refl
or_twice false true = refl
or_twice false false = refl

pub not_named : (x y : Bool) → x ≡ false → (x && y) ≡ false
not_named false y e = refl
not_named true y e = absurd cc

pub not_led : (x y : Bool) → y ≡ false → (x && y) ≡ false
not_led true y e = e
not_led false y e = refl

-- a look at nobody
pub look_none : (graph : List (List ℕ)) (p b : ℕ) (namers : List ℕ) (before : Bool) → before ≡ (before || list_any (goes_up graph p b) (take 0 namers))
look_none graph p b namers true = refl
look_none graph p b namers false = refl

-- a look at one more, who does not lead up
pub look_out : (graph : List (List ℕ)) (p b k : ℕ) (namers : List ℕ) (now before : Bool) → k < length namers → goes_up graph p b (slice_index_or namers k 0) ≡ false
    → now ≡ (before || list_any (goes_up graph p b) (take k namers)) → now ≡ (before || list_any (goes_up graph p b) (take (k + 1) namers))
look_out graph p b k namers now before low out is =
    is ∙ ap (λ (t : Bool). before || t) (sym (list_any_more (goes_up graph p b) namers k 0 low ∙ ap (λ (t : Bool). list_any (goes_up graph p b) (take k namers) || t) out ∙ ended (list_any (goes_up graph p b) (take k namers))))
  where
    ended : (t : Bool) → (t || false) ≡ t
    ended true = refl
    ended false = refl

-- a look at one more, of whom nothing is known yet
pub look_open : (graph : List (List ℕ)) (p b k : ℕ) (namers : List ℕ) (now next before : Bool) → k < length namers → names graph (slice_index_or namers k 0) p ≡ true → slice_index_or namers k 0 < b
    → next ≡ (now || is_ancestor graph (slice_index_or namers k 0) b)
    → now ≡ (before || list_any (goes_up graph p b) (take k namers)) → next ≡ (before || list_any (goes_up graph p b) (take (k + 1) namers))
look_open graph p b k namers now next before low called under grown is =
    let s = slice_index_or namers k 0 in
    let one : goes_up graph p b s ≡ is_ancestor graph s b = ap (λ (t : Bool). t && leads graph b s) called ∙ ap (λ (t : Bool). t || is_ancestor graph s b) (ne_eqb s b (λ e. absurd (omega arith))) in
    grown ∙ ap (λ (t : Bool). t || is_ancestor graph s b) is
    ∙ or_assoc before (list_any (goes_up graph p b) (take k namers)) (is_ancestor graph s b)
    ∙ ap (λ (t : Bool). before || t) (sym (list_any_more (goes_up graph p b) namers k 0 low ∙ ap (λ (t : Bool). list_any (goes_up graph p b) (take k namers) || t) one))

-- a look at all
pub look_all : (graph namers : List (List ℕ)) (list : List ℕ) (p b k : ℕ) (now before : Bool) → AreLower graph → AreNamers graph namers → p < length graph → list ≡ slice_index_or namers p list
    → length list ≤ k → now ≡ (before || list_any (goes_up graph p b) (take k list)) → now ≡ (before || is_ancestor graph p b)
look_all graph namers list p b k now before lower are held reads end is =
    is ∙ ap (λ (xs : List ℕ). before || list_any (goes_up graph p b) xs) (take_all k list end ∙ get_or_read namers p list (omega (arith, are.long, held)) reads [])
    ∙ ap (λ (t : Bool). before || t) (by_namers graph namers p b lower are held)

equal_from : (x y : ℕ) → nat_cmp x y ≡ Equal → x ≡ y
equal_from x y h = grind arith

-- a test of keys with one more among them
pub any_inserted : (test : ℕ → Bool) (keys : List ℕ) (k : ℕ) → list_any test (insert_key nat_cmp keys k) ≡ (list_any test keys || test k)
any_inserted test [] k = or_comm (test k) false
any_inserted test (x ∷ keys) k =
    let rest = any_inserted test keys k in
    let step : (o : Ordering) → nat_cmp k x ≡ o → list_any test (match_ordering o (k ∷ x ∷ keys) (x ∷ keys) (x ∷ insert_key nat_cmp keys k)) ≡ ((test x || list_any test keys) || test k) =
    elim [
      | Less ↦ λ e. or_comm (test k) (test x || list_any test keys)
      | Equal ↦ λ e. or_twice (test x) (list_any test keys) ∙ ap (λ n. (test x || list_any test keys) || test n) (sym (equal_from k x e))
      | Greater ↦ λ e. ap (λ b. test x || b) rest ∙ sym (or_assoc (test x) (list_any test keys) (test k))
    ] in
    step (nat_cmp k x) refl

-- who is looked at leads there where those do that were added
pub goes_on : (test : ℕ → Bool) (k : ℕ) (keys next : List ℕ) → list_any test next ≡ (list_any test keys || test k) → (test k || list_any test keys) ≡ list_any test next
goes_on test k keys next e = or_comm (test k) (list_any test keys) ∙ sym e

pub none_left : (keys : List ℕ) → (0 < length keys → false ≡ true) → keys ≡ []
none_left [] h = refl
none_left (k ∷ keys) h = absurd (let e = h (omega arith) in cc)

pub none_below : (b : ℕ) (keys : List ℕ) → keys ≡ [] → All (λ k. k < b) keys
none_below b keys none = rw none (λ i d low. absurd (omega arith))

pub first_below : (b k : ℕ) (keys : List ℕ) → All (λ q. q < b) (k ∷ keys) → k < b
first_below b k keys below = below 0 0 (omega arith)

pub rest_below : (b k : ℕ) (keys : List ℕ) → All (λ q. q < b) (k ∷ keys) → All (λ q. q < b) keys
rest_below b k keys below i d low = below (suc i) d (omega arith)
