-- The burst, one position after another.
use Rattle.std.proofs.Common.{◌≡◌, ◌≤◌, ℕ, ◌+◌, ◌<◌, Bool, true, false, not, cond, ◌||◌, List, [], ◌∷◌, ◌++◌, length, get_or, take, drop, map, slice_get, filter_map, Option, Some, None, option_map, refl, sym, ap, subst, ◌∙◌, take_all}
use Rattle.bloom_summary.specs.Bloom.{is_member}
use Rattle.std.specs.BTreeSet.{BTreeSet, keys}
use Rattle.std.specs.List.{list_any, cons_option}
use Rattle.std.proofs.lemmas.List.{take-map, take-append-drop}
use Rattle.std.proofs.lemmas.List.Elements.{filter_map-append}
use Rattle.std.proofs.lemmas.List.Folds.{list_any-append}
use Rattle.std.proofs.lemmas.Option.{slice_get-map}
use Rattle.update_check.specs.Holding.{ArePositionsSince, at_positions}
use Rattle.update_codec.specs.Parts.{entry_of, id_of, preds_of}
use Rattle.update_model.specs.declared.update_id.UpdateId.{UpdateId}
use Rattle.update_model.specs.Entry.{Entry, same_id}
use Rattle.update_model.specs.Graph.{has, holds, IsClosed}
use Rattle.update_model.specs.Since.{Picks, AreSince}
use Rattle.update_model.proofs.Closed.{Follows-front}
use Rattle.update_model.proofs.Ids.{same_id-symm}
use Rattle.session_rules.specs.Burst.{IsUnknown, IsBurst}
use Rattle.sync_session.proofs.Bursts.{picks_in, picks_out, passes, fails}
use Rattle.sync_session.proofs.Searching.{split_at, at_more}

cons_map : (o : Option (List ℕ)) (es : List Entry) (us : List (List ℕ)) → es ≡ map entry_of us → cons_option (option_map entry_of o) es ≡ map entry_of (cons_option o us)
cons_map None es us same = same
cons_map (Some u) es us same = ap (λ (xs : List Entry). entry_of u ∷ xs) same

-- what positions stand for, as members
pub at_map : (members : List (List ℕ)) (ps : List ℕ) → filter_map (slice_get (map entry_of members)) ps ≡ map entry_of (at_positions members ps)
at_map members [] = refl
at_map members (p ∷ ps) = ap (λ (o : Option Entry). cons_option o (filter_map (slice_get (map entry_of members)) ps)) (slice_get-map entry_of members p)
    ∙ cons_map (slice_get members p) (filter_map (slice_get (map entry_of members)) ps) (at_positions members ps) (at_map members ps)

-- the positions since, over the first part
pub since_over : (members : List (List ℕ)) (below : ℕ) (old : List UpdateId) (ps : List ℕ) → ArePositionsSince members below old ps
    → AreSince (take below (map entry_of members)) old (filter_map (slice_get (map entry_of members)) ps)
since_over members below old ps s =
    subst (λ (g : List Entry). AreSince g old (filter_map (slice_get (map entry_of members)) ps)) (sym (take-map entry_of below members))
    (subst (λ (es : List Entry). AreSince (map entry_of (take below members)) old es) (sym (at_map members ps)) s.exact)

-- the first part is closed
pub front_closed : (list : List Entry) (n : ℕ) → IsClosed list → IsClosed (take n list)
front_closed list n closed = Follows-front [] (take n list) (drop n list) (subst IsClosed (sym (take-append-drop n list)) closed)

-- the member at a position
pub member_here : (members : List (List ℕ)) (p : ℕ) (id : UpdateId) (preds : List UpdateId) → option_map id_of (slice_get members p) ≡ Some id → option_map preds_of (slice_get members p) ≡ Some preds
    → (x : Entry) × (slice_get (map entry_of members) p ≡ Some x) × (x.id ≡ id) × (x.preds ≡ preds)
member_here members p id preds h g = by_case (slice_get members p) refl h g
  where
    by_case : (o : Option (List ℕ)) → slice_get members p ≡ o → option_map id_of o ≡ Some id → option_map preds_of o ≡ Some preds → (x : Entry) × (slice_get (map entry_of members) p ≡ Some x) × (x.id ≡ id) × (x.preds ≡ preds)
    by_case None at h g = absurd cc
    by_case (Some u) at h g = (entry_of u, slice_get-map entry_of members p ∙ ap (option_map entry_of) at, cc, cc)

any_same : (f g : UpdateId → Bool) (ids : List UpdateId) → ((q : UpdateId) → f q ≡ g q) → list_any f ids ≡ list_any g ids
any_same f g [] same = refl
any_same f g (id ∷ ids) same = ap (λ b. b || list_any f ids) (same id) ∙ ap (λ b. g id || b) (any_same f g ids same)

-- The positions that are sent are those of the members so far that the peer lacks, and they are found by id.
pub record Sends (members : List (List ℕ)) (below : ℕ) (bits ps : List ℕ) (i : ℕ) (positions : List ℕ) (unknown : BTreeSet UpdateId) : Type 0 where
  pub held : (q : UpdateId) → has (keys unknown) q ≡ holds (filter_map (slice_get (map entry_of members)) positions) q
  pub picks : Picks (IsUnknown (take below (map entry_of members)) (is_member bits) (filter_map (slice_get (map entry_of members)) ps)) (filter_map (slice_get (map entry_of members)) (take i ps))
      (filter_map (slice_get (map entry_of members)) positions)

module _ (members : List (List ℕ)) (below : ℕ) (closed : IsClosed (map entry_of members)) (old : List UpdateId) (known : UpdateId → Bool) (ps : List ℕ) (s : ArePositionsSince members below old ps)
    (i p : ℕ) (here : p ≡ get_or ps i 0) (low : i < length ps) (positions : List ℕ) (id : UpdateId) (preds : List UpdateId)
    (has_id : option_map id_of (slice_get members p) ≡ Some id) (has_preds : option_map preds_of (slice_get members p) ≡ Some preds)
    (unknown : BTreeSet UpdateId) (held : (q : UpdateId) → has (keys unknown) q ≡ holds (filter_map (slice_get (map entry_of members)) positions) q)
    (picks : Picks (IsUnknown (take below (map entry_of members)) known (filter_map (slice_get (map entry_of members)) ps)) (filter_map (slice_get (map entry_of members)) (take i ps)) (filter_map (slice_get (map entry_of members)) positions))
    (r : Bool) (tests : r ≡ (not (known id) || list_any (has (keys unknown)) preds)) where
  list : List Entry
  list = map entry_of members

  x : (e : Entry) × (slice_get (map entry_of members) p ≡ Some e) × (e.id ≡ id) × (e.preds ≡ preds)
  x = member_here members p id preds has_id has_preds

  split : filter_map (slice_get (map entry_of members)) ps ≡ filter_map (slice_get (map entry_of members)) (take i ps) ++ x.0 ∷ filter_map (slice_get (map entry_of members)) (drop (i + 1) ps)
  split = ap (filter_map (slice_get (map entry_of members))) (split_at ps i 0 low) ∙ filter_map-append (slice_get (map entry_of members)) (take i ps) (get_or ps i 0 ∷ drop (i + 1) ps)
      ∙ ap (λ (o : Option Entry). filter_map (slice_get (map entry_of members)) (take i ps) ++ cons_option o (filter_map (slice_get (map entry_of members)) (drop (i + 1) ps))) (ap (slice_get (map entry_of members)) (sym here) ∙ x.1)

  test : (not (known x.0.id) || list_any (holds (filter_map (slice_get (map entry_of members)) positions)) x.0.preds) ≡ r
  test = ap (λ (j : UpdateId). not (known j) || list_any (holds (filter_map (slice_get (map entry_of members)) positions)) x.0.preds) x.2
      ∙ ap (λ (js : List UpdateId). not (known id) || list_any (holds (filter_map (slice_get (map entry_of members)) positions)) js) x.3
      ∙ ap (λ b. not (known id) || b) (sym (any_same (has (keys unknown)) (holds (filter_map (slice_get (map entry_of members)) positions)) preds held)) ∙ sym tests

  more : filter_map (slice_get (map entry_of members)) (take (i + 1) ps) ≡ filter_map (slice_get (map entry_of members)) (take i ps) ++ x.0 ∷ []
  more = at_more (map entry_of members) ps i p 0 x.0 here low x.1

  -- the update is sent
  sends_more : r ≡ true → Picks (IsUnknown (take below (map entry_of members)) known (filter_map (slice_get (map entry_of members)) ps)) (filter_map (slice_get (map entry_of members)) (take (i + 1) ps))
      (filter_map (slice_get (map entry_of members)) (positions ++ p ∷ []))
  sends_more is =
      let one : filter_map (slice_get (map entry_of members)) (positions ++ p ∷ []) ≡ filter_map (slice_get (map entry_of members)) positions ++ x.0 ∷ [] =
      filter_map-append (slice_get (map entry_of members)) positions (p ∷ []) ∙ ap (λ (o : Option Entry). filter_map (slice_get (map entry_of members)) positions ++ cons_option o []) x.1 in
      rw (more, one) (picks_in (IsUnknown (take below (map entry_of members)) known (filter_map (slice_get (map entry_of members)) ps)) (filter_map (slice_get (map entry_of members)) (take i ps)) (filter_map (slice_get (map entry_of members)) positions) x.0 picks
      (passes (take below (map entry_of members)) (front_closed (map entry_of members) below closed) old known (filter_map (slice_get (map entry_of members)) ps) (since_over members below old ps s)
      (filter_map (slice_get (map entry_of members)) (take i ps)) (filter_map (slice_get (map entry_of members)) (drop (i + 1) ps)) (filter_map (slice_get (map entry_of members)) positions) x.0 split picks (test ∙ is)))

  -- or it is not
  passes_over : r ≡ false → Picks (IsUnknown (take below (map entry_of members)) known (filter_map (slice_get (map entry_of members)) ps)) (filter_map (slice_get (map entry_of members)) (take (i + 1) ps))
      (filter_map (slice_get (map entry_of members)) positions)
  passes_over is =
      rw more (picks_out (IsUnknown (take below (map entry_of members)) known (filter_map (slice_get (map entry_of members)) ps)) (filter_map (slice_get (map entry_of members)) (take i ps)) (filter_map (slice_get (map entry_of members)) positions) x.0 picks
      (fails (take below (map entry_of members)) (front_closed (map entry_of members) below closed) old known (filter_map (slice_get (map entry_of members)) ps) (since_over members below old ps s)
      (filter_map (slice_get (map entry_of members)) (take i ps)) (filter_map (slice_get (map entry_of members)) (drop (i + 1) ps)) (filter_map (slice_get (map entry_of members)) positions) x.0 split picks (test ∙ is)))

  -- what is sent is found by id
  held_more : (unknown' : BTreeSet UpdateId) → ((q : UpdateId) → has (keys unknown') q ≡ cond (same_id id q) true (has (keys unknown) q))
      → (q : UpdateId) → has (keys unknown') q ≡ holds (filter_map (slice_get (map entry_of members)) (positions ++ p ∷ [])) q
  held_more unknown' put q =
      put q ∙ ap (cond (same_id id q) true) (held q) ∙ one_more (same_id id q) (holds (filter_map (slice_get (map entry_of members)) positions) q)
      ∙ ap (λ b. holds (filter_map (slice_get (map entry_of members)) positions) q || (b || false)) (same_id-symm id q ∙ ap (same_id q) (sym x.2))
      ∙ sym (list_any-append (λ (e : Entry). same_id q e.id) (filter_map (slice_get (map entry_of members)) positions) (x.0 ∷ []))
      ∙ ap (λ (es : List Entry). holds es q) (sym (filter_map-append (slice_get (map entry_of members)) positions (p ∷ []) ∙ ap (λ (o : Option Entry). filter_map (slice_get (map entry_of members)) positions ++ cons_option o []) x.1))
    where
      one_more : (same h : Bool) → cond same true h ≡ (h || (same || false))
      one_more true true = refl
      one_more true false = refl
      one_more false true = refl
      one_more false false = refl

-- one more position, whose member is sent
pub sends_in : (members : List (List ℕ)) (below : ℕ) → IsClosed (map entry_of members) → (old : List UpdateId) (bits ps : List ℕ) → ArePositionsSince members below old ps
    → (i p : ℕ) → p ≡ get_or ps i 0 → i < length ps → (positions : List ℕ) (id : UpdateId) (preds : List UpdateId)
    → option_map id_of (slice_get members p) ≡ Some id → option_map preds_of (slice_get members p) ≡ Some preds → (unknown : BTreeSet UpdateId) → Sends members below bits ps i positions unknown
    → (r : Bool) → r ≡ (not (is_member bits id) || list_any (has (keys unknown)) preds) → r ≡ true
    → (positions' : List ℕ) (unknown' : BTreeSet UpdateId) → positions' ≡ positions ++ p ∷ [] → ((q : UpdateId) → has (keys unknown') q ≡ cond (same_id id q) true (has (keys unknown) q))
    → Sends members below bits ps (i + 1) positions' unknown'
sends_in members below closed old bits ps s i p here low positions id preds has_id has_preds unknown sends r tests is positions' unknown' more put =
    subst (λ (qs : List ℕ). Sends members below bits ps (i + 1) qs unknown') (sym more) (record {
      held = held_more members below closed old (is_member bits) ps s i p here low positions id preds has_id has_preds unknown sends.held sends.picks r tests unknown' put;
      picks = sends_more members below closed old (is_member bits) ps s i p here low positions id preds has_id has_preds unknown sends.held sends.picks r tests is;
    })

-- and one whose member is not
pub sends_over : (members : List (List ℕ)) (below : ℕ) → IsClosed (map entry_of members) → (old : List UpdateId) (bits ps : List ℕ) → ArePositionsSince members below old ps
    → (i p : ℕ) → p ≡ get_or ps i 0 → i < length ps → (positions : List ℕ) (id : UpdateId) (preds : List UpdateId)
    → option_map id_of (slice_get members p) ≡ Some id → option_map preds_of (slice_get members p) ≡ Some preds → (unknown : BTreeSet UpdateId) → Sends members below bits ps i positions unknown
    → (r : Bool) → r ≡ (not (is_member bits id) || list_any (has (keys unknown)) preds) → r ≡ false
    → (positions' : List ℕ) (unknown' : BTreeSet UpdateId) → positions' ≡ positions → unknown' ≡ unknown → Sends members below bits ps (i + 1) positions' unknown'
sends_over members below closed old bits ps s i p here low positions id preds has_id has_preds unknown sends r tests is positions' unknown' same_positions same_unknown =
    subst (λ (qs : List ℕ). Sends members below bits ps (i + 1) qs unknown') (sym same_positions)
    (subst (λ (u : BTreeSet UpdateId). Sends members below bits ps (i + 1) positions u) (sym same_unknown) (record {
      held = sends.held;
      picks = passes_over members below closed old (is_member bits) ps s i p here low positions id preds has_id has_preds unknown sends.held sends.picks r tests is;
    }))

-- none so far
pub sends_none : (members : List (List ℕ)) (below : ℕ) (bits ps positions : List ℕ) (unknown : BTreeSet UpdateId) → positions ≡ [] → keys unknown ≡ [] → Sends members below bits ps 0 positions unknown
sends_none members below bits ps positions unknown none empty = rw none (record { held = λ q. ap (λ ks. has ks q) empty; picks = refl })

-- the whole burst
pub burst_is : (members : List (List ℕ)) (below : ℕ) (old old' : List UpdateId) (bits bits' : List ℕ) (ps : List ℕ) (i : ℕ) (out : List Entry) → ArePositionsSince members below old ps → old ≡ old' → bits ≡ bits' → length ps ≤ i
    → Picks (IsUnknown (take below (map entry_of members)) (is_member bits) (filter_map (slice_get (map entry_of members)) ps)) (filter_map (slice_get (map entry_of members)) (take i ps)) out
    → IsBurst (take below (map entry_of members)) old' (is_member bits') out
burst_is members below old old' bits bits' ps i out s same_old same_bits all picks =
    subst (λ (o : List UpdateId). IsBurst (take below (map entry_of members)) o (is_member bits') out) same_old
    (subst (λ (b : List ℕ). IsBurst (take below (map entry_of members)) old (is_member b) out) same_bits (
      filter_map (slice_get (map entry_of members)) ps,
      since_over members below old ps s,
      subst (λ (qs : List ℕ). Picks (IsUnknown (take below (map entry_of members)) (is_member bits) (filter_map (slice_get (map entry_of members)) ps)) (filter_map (slice_get (map entry_of members)) qs) out) (take_all i ps all) picks,
    ))
