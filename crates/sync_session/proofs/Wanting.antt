-- What is sought, and what of it is asked for.
use Rattle.std.proofs.Common.{◌≡◌, ◌⊎◌, ◌↔◌, IsSome, arith, ℕ, ◌+◌, ◌<◌, ◌≤◌, Bool, true, false, not, cond, ◌&&◌, ◌||◌, List, [], ◌∷◌, ◌++◌, length, get_or, take, map, filter, drop, is_some, Option, Some, None, Result, Ok, Err, IfOk, refl, sym, ap, subst, ◌∙◌, inl, inr}
use Rattle.std.specs.List.{HoldsAt}
use Rattle.std.specs.List.Sorted.{IsSearchInRange, IsStrictlySortedBy}
use Rattle.std.specs.Result.{is_ok}
use Rattle.std.specs.BTreeMap.{BTreeMap, get, keys}
use Rattle.std.specs.Map.{keys_of}
use Rattle.std.specs.declared.cmp.Ordering.TheVariants.{Equal}
use Rattle.std.proofs.lemmas.List.Kept.{IsStrictlySortedBy-filter}
use Rattle.std.proofs.lemmas.List.{map-append, take-append-drop}
use Rattle.std.proofs.lemmas.List.Folds.{list_any-append}
use Rattle.std.proofs.lemmas.Map.Made.{is_some-lookup}
use Rattle.std.proofs.lemmas.Map.Views.{any-filter_same}
use Rattle.update_codec.specs.Parts.{entry_of, preds_of}
use Rattle.update_model.specs.declared.update_id.UpdateId.{UpdateId}
use Rattle.update_model.specs.Batch.{not_held}
use Rattle.update_model.specs.Entry.{Entry, same_id, id_cmp}
use Rattle.update_model.specs.Graph.{has, holds, names}
use Rattle.update_model.proofs.Ids.{id_from_same, same_id-symm}
use Rattle.session_rules.specs.declared.limits.TheConstants.{MAX_NEEDS}
use Rattle.session_rules.specs.Steps.{is_wanted, AreLeast}
use Rattle.session_rules.proofs.Words.{and_both, and_join, is_either, or_cases, or_left, or_right}
use Rattle.sync_session.specs.Pending.{PendingData}
use Rattle.sync_session.specs.Wants.{is_open, AreSought, SeeksToo, StaySought}
use Rattle.sync_session.proofs.IdSets.{has-take_more, put_in, front_is, whole_is}
use Rattle.sync_session.proofs.Searching.{any_at}
use Rattle.sync_session.proofs.Indexing.{front_more}
use Rattle.std.specs.Ordering.{is_eq}

or_none : (a b : Bool) → (a || b) ≡ false → a ≡ false
or_none true b is = absurd cc
or_none false b is = refl

or_none_right : (a b : Bool) → (a || b) ≡ false → b ≡ false
or_none_right true b is = absurd cc
or_none_right false b is = is

-- ---- what a map has

pub has_key : {X : Type 0} (m : BTreeMap UpdateId X) (q : UpdateId) → has (keys m) q ≡ is_some (get id_cmp m q)
has_key m q = sym (is_some-lookup (same_id q) m.entries)

-- one more key
pub put_key : {X : Type 0} (m n : BTreeMap UpdateId X) (k : UpdateId) (v : X) (q : UpdateId) → get id_cmp n q ≡ cond (same_id k q) (Some v) (get id_cmp m q)
    → has (keys n) q ≡ cond (same_id k q) true (has (keys m) q)
put_key m n k v q put = has_key n q ∙ ap is_some put ∙ by_case (same_id k q) ∙ ap (cond (same_id k q) true) (sym (has_key m q))
  where
    by_case : (b : Bool) → is_some (cond b (Some v) (get id_cmp m q)) ≡ cond b true (is_some (get id_cmp m q))
    by_case true = refl
    by_case false = refl

-- a map of which no entry can be taken out
pub none_left : {X : Type 0} (m : BTreeMap UpdateId X) (r : Option (UpdateId × X)) → r ≡ None → (IsSome r ↔ (0 < length m.entries)) → keys m ≡ []
none_left {X} m r none variant = by_case m.entries refl
  where
    by_case : (es : List (UpdateId × X)) → m.entries ≡ es → keys_of es ≡ []
    by_case [] is = refl
    by_case (e ∷ es) is = absurd (let low : 0 < length m.entries = rw is (omega arith) in let some : is_some r ≡ true = variant.1 low in let never : is_some r ≡ false = ap is_some none in cc)

-- ---- what is taken in

-- one more of the ids
pub seek_more : (was old new ids : List UpdateId) (i : ℕ) (d : UpdateId) → i < length ids → SeeksToo was (take i ids) old
    → ((q : UpdateId) → has new q ≡ cond (same_id (get_or ids i d) q) true (has old q)) → SeeksToo was (take (i + 1) ids) new
seek_more was old new ids i d low s put q =
    put_in (has old q) (has new q) (has was q) (has (take i ids) q) (same_id (get_or ids i d) q) (put q) (s q)
    ∙ ap (λ b. has was q || b) (sym (has-take_more ids i d q low))

-- ---- what is taken out

-- what passes, of what is among some
has_filter : (t : UpdateId → Bool) (ids : List UpdateId) (q : UpdateId) → has (filter t ids) q ≡ (t q && has ids q)
has_filter t ids q = any-filter_same (same_id q) t (t q) (λ k same. ap t (sym (id_from_same q k same))) ids

pub dropped : (t : UpdateId → Bool) (ids sought rest all : List UpdateId) (k : UpdateId) → ids ++ filter t sought ≡ all → sought ≡ k ∷ rest → t k ≡ false → ids ++ filter t rest ≡ all
dropped t ids sought rest all k was is fails = ap (λ xs. ids ++ xs) (rw (is, fails) refl) ∙ was

-- what was taken over is the least of what passes
module _ (heads : List UpdateId) (now : List Entry) (p : PendingData) (asked before ids after : List UpdateId) (settled : p.gathered ≡ []) (sought : AreSought heads now p asked before)
    (split : ids ++ filter (is_wanted heads now (map entry_of p.waiting) asked) after ≡ filter (is_wanted heads now (map entry_of p.waiting) asked) before) where
  wanted : UpdateId → Bool
  wanted id = is_wanted heads now (map entry_of p.waiting) asked id

  was_sought : (id : UpdateId) → is_wanted heads now (map entry_of p.waiting) asked id ≡ true → has before id ≡ true
  was_sought id is =
      let both = and_both (has heads id || names (map entry_of p.waiting) id) (is_open now (map entry_of p.waiting) asked id) is in
      sought id both.1 (elim (or_cases (has heads id) (names (map entry_of p.waiting) id) both.0) [
        | inl head ↦ or_left (has heads id) _ head
        | inr named ↦ or_right (has heads id) _ (or_left (names (map entry_of p.waiting) id) _ named)
      ])

  all_wanted : (id : UpdateId) → has (filter (is_wanted heads now (map entry_of p.waiting) asked) before) id ≡ is_wanted heads now (map entry_of p.waiting) asked id
  all_wanted id = has_filter (is_wanted heads now (map entry_of p.waiting) asked) before id ∙ by_case (is_either (is_wanted heads now (map entry_of p.waiting) asked id))
    where
      by_case : (is_wanted heads now (map entry_of p.waiting) asked id ≡ true) ⊎ (is_wanted heads now (map entry_of p.waiting) asked id ≡ false)
          → (is_wanted heads now (map entry_of p.waiting) asked id && has before id) ≡ is_wanted heads now (map entry_of p.waiting) asked id
      by_case (inl passes) = rw (passes, was_sought id passes) refl
      by_case (inr fails) = rw fails refl

  least_from : IsStrictlySortedBy id_cmp before → ids ≡ take MAX_NEEDS (filter (is_wanted heads now (map entry_of p.waiting) asked) before)
      → AreLeast (is_wanted heads now (map entry_of p.waiting) asked) MAX_NEEDS ids
  least_from rising front = record {
    all = filter (is_wanted heads now (map entry_of p.waiting) asked) before;
    rising = IsStrictlySortedBy-filter id_cmp (is_wanted heads now (map entry_of p.waiting) asked) before rising;
    exact = all_wanted;
    front = front;
  }

  -- where there are as many as a turn asks for, and where nothing is left
  pub least_full : IsStrictlySortedBy id_cmp before → length ids ≤ MAX_NEEDS → MAX_NEEDS ≤ length ids → AreLeast (is_wanted heads now (map entry_of p.waiting) asked) MAX_NEEDS ids
  least_full rising few enough = least_from rising (front_is ids (filter (is_wanted heads now (map entry_of p.waiting) asked) after) _ split few enough)

  pub least_all : IsStrictlySortedBy id_cmp before → length ids ≤ MAX_NEEDS → after ≡ [] → AreLeast (is_wanted heads now (map entry_of p.waiting) asked) MAX_NEEDS ids
  least_all rising few none = least_from rising (whole_is ids _ (subst (λ (xs : List UpdateId). ids ++ filter (is_wanted heads now (map entry_of p.waiting) asked) xs ≡ filter (is_wanted heads now (map entry_of p.waiting) asked) before) none split) few)

  -- and the rest is sought still
  pub rest_sought : StaySought (is_wanted heads now (map entry_of p.waiting) asked) ids after
  rest_sought id is =
      let either : (has ids id || has (filter (is_wanted heads now (map entry_of p.waiting) asked) after) id) ≡ true
      = sym (list_any-append (same_id id) ids (filter (is_wanted heads now (map entry_of p.waiting) asked) after)) ∙ ap (λ xs. has xs id) split ∙ all_wanted id ∙ is in
      elim (or_cases (has ids id) (has (filter (is_wanted heads now (map entry_of p.waiting) asked) after) id) either) [
        | inl there ↦ or_left (has ids id) (has after id) there
        | inr later ↦ or_right (has ids id) (has after id) (and_both _ (has after id) (sym (has_filter (is_wanted heads now (map entry_of p.waiting) asked) after id) ∙ later)).1
      ]

  pub rest_of_none : (rest : List UpdateId) → after ≡ [] → StaySought (is_wanted heads now (map entry_of p.waiting) asked) ids rest
  rest_of_none rest none id is = elim (or_cases (has ids id) (has after id) (rest_sought id is)) [
    | inl there ↦ or_left (has ids id) (has rest id) there
    | inr later ↦ absurd (let never : has after id ≡ false = ap (λ xs. has xs id) none in cc)
  ]

-- ---- whether an id is open

pub shut_held : (h w a : Bool) → h ≡ true → false ≡ (not h && (not w && not a))
shut_held true w a is = refl
shut_held false w a is = absurd cc

pub shut_waiting : (h w a : Bool) → w ≡ true → false ≡ (not h && (not w && not a))
shut_waiting true w a is = refl
shut_waiting false true a is = refl
shut_waiting false false a is = absurd cc

pub open_unasked : (h w a r : Bool) → h ≡ false → w ≡ false → r ≡ a → not r ≡ (not h && (not w && not a))
open_unasked true w a r is none same = absurd cc
open_unasked false true a r is none same = absurd cc
open_unasked false false a r is none same = ap not same

-- what an open id is not
pub open_is : (h w a : Bool) → (not h && (not w && not a)) ≡ true → (h ≡ false) × (w ≡ false) × (a ≡ false)
open_is false false false is = (refl, refl, refl)
open_is false false true is = absurd cc
open_is false true a is = absurd cc
open_is true w a is = absurd cc

pub is_open_by : (h w a : Bool) → h ≡ false → w ≡ false → a ≡ false → (not h && (not w && not a)) ≡ true
is_open_by h w a no_h no_w no_a = rw (no_h, no_w, no_a) refl

-- where nothing is gathered, what is there waits
pub waits_by : (waiting gathered : List (List ℕ)) (id : UpdateId) (r b : Bool) → gathered ≡ [] → r ≡ (holds (map entry_of gathered) id || holds (map entry_of waiting) id) → r ≡ b → holds (map entry_of waiting) id ≡ b
waits_by waiting gathered id r b none is same = sym (is ∙ ap (λ (g : List (List ℕ)). holds (map entry_of g) id || holds (map entry_of waiting) id) none) ∙ same

-- ---- whether an id is named

-- one that is found is among them
pub found_among : (ids : List UpdateId) (i : ℕ) (id : UpdateId) → i < length ids → HoldsAt (λ y. id_cmp y id ≡ Equal) ids i → has ids id ≡ true
found_among ids i id low at = any_at (same_id id) ids i id low (same_id-symm id (get_or ids i id) ∙ ap is_eq (at id))

-- ---- what is sought, from step to step

-- with one update more
pub sought_gathered : (u : List ℕ) (heads : List UpdateId) (now : List Entry) (p : PendingData) (asked sought more : List UpdateId) → AreSought heads now p asked sought → SeeksToo sought (preds_of u) more
    → AreSought heads now (record { waiting = p.waiting; gathered = p.gathered ++ u ∷ [] }) asked more
sought_gathered u heads now p asked sought more are too id free named =
    too id ∙ elim (or_cases (has heads id || (names (map entry_of p.waiting) id || names (map entry_of p.gathered) id)) (has (preds_of u) id) split) [
      | inl before ↦ or_left (has sought id) (has (preds_of u) id) (are id free before)
      | inr new ↦ or_right (has sought id) (has (preds_of u) id) new
    ]
  where
    apart : names (map entry_of (p.gathered ++ u ∷ [])) id ≡ (names (map entry_of p.gathered) id || (has (preds_of u) id || false))
    apart = ap (λ (es : List Entry). names es id) (map-append entry_of p.gathered (u ∷ [])) ∙ list_any-append (λ (e : Entry). has e.preds id) (map entry_of p.gathered) (entry_of u ∷ [])

    regroup : (h w g n : Bool) → (h || (w || (g || (n || false)))) ≡ ((h || (w || g)) || n)
    regroup true w g n = refl
    regroup false true g n = refl
    regroup false false true n = refl
    regroup false false false true = refl
    regroup false false false false = refl

    split : ((has heads id || (names (map entry_of p.waiting) id || names (map entry_of p.gathered) id)) || has (preds_of u) id) ≡ true
    split = sym (ap (λ b. has heads id || (names (map entry_of p.waiting) id || b)) apart ∙ regroup (has heads id) (names (map entry_of p.waiting) id) (names (map entry_of p.gathered) id) (has (preds_of u) id)) ∙ named

-- with the heads of a Hello
pub sought_heads : (heads before : List UpdateId) (now : List Entry) (p : PendingData) (asked sought more : List UpdateId) → AreSought before now p asked sought → SeeksToo sought heads more → AreSought heads now p asked more
sought_heads heads before now p asked sought more are too id free named =
    too id ∙ elim (or_cases (has heads id) (names (map entry_of p.waiting) id || names (map entry_of p.gathered) id) named) [
      | inl head ↦ or_right (has sought id) (has heads id) head
      | inr other ↦ or_left (has sought id) (has heads id) (are id free (or_right (has before id) _ other))
    ]

-- over a longer list
pub sought_grown : (heads : List UpdateId) (now more : List Entry) (p : PendingData) (asked sought : List UpdateId) → AreSought heads now p asked sought → AreSought heads (now ++ more) p asked sought
sought_grown heads now more p asked sought are id free named =
    let parts = open_is (holds (now ++ more) id) (holds (map entry_of p.waiting) id) (has asked id) free in
    let fewer = or_none (holds now id) (holds more id) (sym (list_any-append (λ (e : Entry). same_id id e.id) now more) ∙ parts.0) in
    are id (is_open_by (holds now id) (holds (map entry_of p.waiting) id) (has asked id) fewer parts.1 parts.2) named

-- after a commit: what is not held of the batch is what waits
held_alike : (after : List Entry) (id : UpdateId) (es : List Entry) → holds after id ≡ false → holds (not_held after es) id ≡ holds es id
held_alike after id [] none = refl
held_alike after id (e ∷ es) none = elim (is_either (same_id id e.id)) [
  | inl same ↦ let is = id_from_same id e.id same in let free : holds after e.id ≡ false = ap (holds after) (sym is) ∙ none in rw (free, same) refl
  | inr other ↦ elim (is_either (holds after e.id)) [
    | inl held ↦ rw (held, other) (held_alike after id es none)
    | inr free ↦ rw (free, other) (held_alike after id es none)
  ]
]

named_fewer : (t : Entry → Bool) (id : UpdateId) (es : List Entry) → names (filter t es) id ≡ true → names es id ≡ true
named_fewer t id [] named = named
named_fewer t id (e ∷ es) named = elim (is_either (t e)) [
  | inl passes ↦ let here : (has e.preds id || names (filter t es) id) ≡ true = rw passes at named in elim (or_cases (has e.preds id) (names (filter t es) id) here) [
    | inl this ↦ or_left (has e.preds id) (names es id) this
    | inr later ↦ or_right (has e.preds id) (names es id) (named_fewer t id es later)
  ]
  | inr fails ↦ let later : names (filter t es) id ≡ true = rw fails at named in or_right (has e.preds id) (names es id) (named_fewer t id es later)
]

pub sought_committed : (heads : List UpdateId) (before added : List Entry) (p : PendingData) (waiting : List (List ℕ)) (asked sought : List UpdateId) → AreSought heads before p asked sought
    → map entry_of waiting ≡ not_held (before ++ added) (map entry_of p.waiting ++ map entry_of p.gathered) → AreSought heads (before ++ added) (record { waiting = waiting; gathered = [] }) asked sought
sought_committed heads before added p waiting asked sought are rest id free named =
    let parts = open_is (holds (before ++ added) id) (holds (map entry_of waiting) id) (has asked id) free in
    let unheld = or_none (holds before id) (holds added id) (sym (list_any-append (λ (e : Entry). same_id id e.id) before added) ∙ parts.0) in
    let no_batch : (holds (map entry_of p.waiting) id || holds (map entry_of p.gathered) id) ≡ false
    = sym (list_any-append (λ (e : Entry). same_id id e.id) (map entry_of p.waiting) (map entry_of p.gathered)) ∙ sym (held_alike (before ++ added) id (map entry_of p.waiting ++ map entry_of p.gathered) parts.0)
    ∙ ap (λ (es : List Entry). holds es id) (sym rest) ∙ parts.1 in
    are id (is_open_by (holds before id) (holds (map entry_of p.waiting) id) (has asked id) unheld (or_none (holds (map entry_of p.waiting) id) (holds (map entry_of p.gathered) id) no_batch) parts.2)
    (elim (or_cases (has heads id) (names (map entry_of waiting) id || false) named) [
      | inl head ↦ or_left (has heads id) _ head
      | inr other ↦ or_right (has heads id) _ (elim (or_cases (names (map entry_of waiting) id) false other) [
        | inl waits ↦ sym (list_any-append (λ (e : Entry). has e.preds id) (map entry_of p.waiting) (map entry_of p.gathered))
            ∙ named_fewer (λ (e : Entry). not (holds (before ++ added) e.id)) id (map entry_of p.waiting ++ map entry_of p.gathered) (ap (λ (es : List Entry). names es id) (sym rest) ∙ waits)
        | inr never ↦ absurd cc
      ])
    ])

-- what a Turn asked for is asked for
pub sought_asked : (heads : List UpdateId) (now : List Entry) (p : PendingData) (asked needs both sought : List UpdateId) → p.gathered ≡ [] → StaySought (is_wanted heads now (map entry_of p.waiting) asked) needs sought
    → ((id : UpdateId) → has both id ≡ (has asked id || has needs id)) → AreSought heads now p both sought
sought_asked heads now p asked needs both sought settled stay joins id free named =
    let parts = open_is (holds now id) (holds (map entry_of p.waiting) id) (has both id) free in
    let neither : (has asked id || has needs id) ≡ false = sym (joins id) ∙ parts.2 in
    let unasked = or_none (has asked id) (has needs id) neither in
    let no_need = or_none_right (has asked id) (has needs id) neither in
    let is_free = is_open_by (holds now id) (holds (map entry_of p.waiting) id) (has asked id) parts.0 parts.1 unasked in
    let is_named : (has heads id || names (map entry_of p.waiting) id) ≡ true
    = elim (or_cases (has heads id) (names (map entry_of p.waiting) id || names (map entry_of p.gathered) id) named) [
      | inl head ↦ or_left (has heads id) _ head
      | inr other ↦ or_right (has heads id) _ (elim (or_cases (names (map entry_of p.waiting) id) (names (map entry_of p.gathered) id) other) [
        | inl waits ↦ waits
        | inr gathered ↦ absurd (let none : names (map entry_of p.gathered) id ≡ false = ap (λ (g : List (List ℕ)). names (map entry_of g) id) settled in cc)
      ])
    ] in
    elim (or_cases (has needs id) (has sought id) (stay id (and_join (has heads id || names (map entry_of p.waiting) id) (is_open now (map entry_of p.waiting) asked id) is_named is_free))) [
      | inl need ↦ absurd cc
      | inr there ↦ there
    ]

pub found_by_search : (ids : List UpdateId) (id : UpdateId) (r : Result ℕ ℕ) → IsSearchInRange r (length ids) → IfOk r (HoldsAt (λ y. id_cmp y id ≡ Equal) ids) → is_ok r ≡ true → has ids id ≡ true
found_by_search ids id (Ok i) low at is = found_among ids i id low at
found_by_search ids id (Err i) low at is = absurd cc

-- what one more update names
pub names_more : (es : List (List ℕ)) (i : ℕ) (u : List ℕ) (preds : List UpdateId) (q : UpdateId) → u ≡ get_or es i u → i < length es → preds ≡ preds_of u
    → names (map entry_of (take (i + 1) es)) q ≡ (names (map entry_of (take i es)) q || has preds q)
names_more es i u preds q is low named = ap (λ (xs : List (List ℕ)). names (map entry_of xs) q) (front_more es i u is low)
    ∙ ap (λ (xs : List Entry). names xs q) (map-append entry_of (take i es) (u ∷ []))
    ∙ list_any-append (λ (e : Entry). has e.preds q) (map entry_of (take i es)) (entry_of u ∷ [])
    ∙ ap (λ b. names (map entry_of (take i es)) q || b) (or_false (has (preds_of u) q) ∙ ap (λ ps. has ps q) (sym named))
  where
    or_false : (b : Bool) → (b || false) ≡ b
    or_false true = refl
    or_false false = refl

-- an update that names an id is one of all
pub named_at : (es : List (List ℕ)) (i : ℕ) (u : List ℕ) (preds : List UpdateId) (q : UpdateId) → u ≡ get_or es i u → i < length es → preds ≡ preds_of u → has preds q ≡ true
    → names (map entry_of es) q ≡ true
named_at es i u preds q is low named there =
    ap (λ (xs : List (List ℕ)). names (map entry_of xs) q) (sym (take-append-drop (i + 1) es)) ∙ ap (λ (xs : List Entry). names xs q) (map-append entry_of (take (i + 1) es) (drop (i + 1) es))
    ∙ list_any-append (λ (e : Entry). has e.preds q) (map entry_of (take (i + 1) es)) (map entry_of (drop (i + 1) es))
    ∙ or_left (names (map entry_of (take (i + 1) es)) q) _ (names_more es i u preds q is low named ∙ or_right (names (map entry_of (take i es)) q) (has preds q) there)
