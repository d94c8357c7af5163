-- The Hello of an end.
use Rattle.std.proofs.Common.{◌≡◌, ℕ, ◌+◌, ◌<◌, ◌≤◌, not, List, [], ◌∷◌, ◌++◌, length, get_or, take, map, slice_get, Option, Some, None, option_map, refl, sym, ap, subst, ◌∙◌, arith, leb-true, length-take, take_all}
use Rattle.std.proofs.lemmas.List.{map-append, length-map}
use Rattle.std.specs.List.Sorted.{IsStrictlySortedBy}
use Rattle.bloom_summary.specs.Bloom.{AreBits}
use Rattle.bloom_summary.specs.declared.limits.TheConstants.{MAX_SUMMARY_BYTES}
use Rattle.session_rules.proofs.Pigeons.{pigeons, rising_distinct}
use Rattle.session_rules.proofs.Sends.{picks_few}
use Rattle.session_rules.proofs.TurnStep.{has_ids}
use Rattle.session_rules.proofs.Words.{and_both}
use Rattle.session_rules.specs.declared.limits.TheConstants.{MAX_NEEDS}
use Rattle.update_check.specs.Holding.{IsHeld, ArePositionsSince, at_positions}
use Rattle.update_codec.specs.Parts.{entry_of, id_of}
use Rattle.update_model.specs.declared.limits.TheConstants.{MAX_MEMBERS}
use Rattle.update_model.specs.declared.update_id.UpdateId.{UpdateId}
use Rattle.update_model.specs.Batch.{Limits}
use Rattle.update_model.specs.Entry.{Entry, id_cmp}
use Rattle.update_model.specs.Graph.{holds, names, AreHeads}
use Rattle.update_model.specs.Rule.{RuleData}
use Rattle.update_model.specs.Since.{IsBehind, AreSince}
use Rattle.sync_session.specs.Greeting.{IsHelloOver}
use Rattle.sync_frames.specs.Payload as payload
use Rattle.sync_session.proofs.Searching.{at_more}

-- one more id
pub ids_more : (members : List (List ℕ)) (ps : List ℕ) (i p : ℕ) (id : UpdateId) (ids : List UpdateId) → p ≡ get_or ps i 0 → i < length ps
    → option_map id_of (slice_get members p) ≡ Some id → ids ≡ map id_of (at_positions members (take i ps)) → ids ++ id ∷ [] ≡ map id_of (at_positions members (take (i + 1) ps))
ids_more members ps i p id ids is low there was = by_case (slice_get members p) refl there
  where
    by_case : (o : Option (List ℕ)) → slice_get members p ≡ o → option_map id_of o ≡ Some id → ids ++ id ∷ [] ≡ map id_of (at_positions members (take (i + 1) ps))
    by_case None at h = absurd cc
    by_case (Some u) at h =
        let same : id_of u ≡ id = cc in
        ap (λ (xs : List UpdateId). xs ++ id ∷ []) was ∙ ap (λ (x : UpdateId). map id_of (at_positions members (take i ps)) ++ x ∷ []) (sym same)
        ∙ sym (map-append id_of (at_positions members (take i ps)) (u ∷ [])) ∙ ap (map id_of) (sym (at_more members ps i p 0 u is low at))

-- a holder has no more members than any store
pub members_few : (limits : Limits) (rule : RuleData) (members : List (List ℕ)) → IsHeld limits rule members → length members ≤ MAX_MEMBERS
members_few limits rule members held =
    let few = leb-true (length (map entry_of members)) limits.updates (and_both _ _ held.within).0 in
    let small = held.updates in
    let same = length-map members entry_of in
    omega arith

-- nor do positions stand for more
pub since_few : (limits : Limits) (rule : RuleData) (members : List (List ℕ)) (n : ℕ) (old : List UpdateId) (ps : List ℕ) (ids : List UpdateId) → IsHeld limits rule members → n ≤ length members
    → ArePositionsSince members n old ps → ids ≡ map id_of (at_positions members ps) → length ids ≤ MAX_MEMBERS
since_few limits rule members n old ps ids held low s is =
    let few = picks_few (λ (e : Entry). ¬ (IsBehind (map entry_of (take n members)) old e)) (map entry_of (take n members)) (map entry_of (at_positions members ps)) s.exact in
    let most = members_few limits rule members held in
    let one = length-map (at_positions members ps) entry_of in
    let two = length-map (take n members) entry_of in
    let three = length-map (at_positions members ps) id_of in
    let taken = length-take n members in
    let all = ap length is in
    omega arith

-- heads are no more than members
pub heads_few : (list : List Entry) (heads : List UpdateId) → AreHeads list heads → length heads ≤ length list
heads_few list heads h =
    let few = pigeons heads (map (λ e. e.id) list) (rising_distinct heads h.rising) (λ id there. has_ids list id ∙ (and_both (holds list id) (not (names list id)) (sym (h.exact id) ∙ there)).0) in
    let same = length-map list (λ (e : Entry). e.id) in
    omega arith

-- the Hello is in form
pub hello_form : (limits : Limits) (rule : RuleData) (members : List (List ℕ)) (database node : List ℕ) (heads heads' old old' : List UpdateId) (bits filter : List ℕ) → IsHeld limits rule members
    → AreHeads (map entry_of members) heads → heads' ≡ heads → length old ≤ MAX_NEEDS → IsStrictlySortedBy id_cmp old → old' ≡ old → length bits ≤ MAX_SUMMARY_BYTES → filter ≡ bits
    → payload.IsHello (record { database = database; node = node; heads = heads'; old = old'; filter = filter })
hello_form limits rule members database node heads heads' old old' bits filter held are same_heads few rising same_old small same_bits = rw (same_heads, same_old, same_bits) (record {
  few_heads = let most = members_few limits rule members held in let less = heads_few (map entry_of members) heads are in let same = length-map members entry_of in omega arith;
  heads = are.rising;
  few_old = few;
  old = rising;
  small = small;
})

ids_of_entries : (es : List (List ℕ)) → map (λ (e : Entry). e.id) (map entry_of es) ≡ map id_of es
ids_of_entries [] = refl
ids_of_entries (u ∷ es) = ap (λ (xs : List UpdateId). id_of u ∷ xs) (ids_of_entries es)

-- and it says what it has to
pub hello_over : (database node : List ℕ) (heads heads' old old' : List UpdateId) (members : List (List ℕ)) (n : ℕ) (ps : List ℕ) (ids : List UpdateId) (bits filter : List ℕ) → n ≡ length members
    → ArePositionsSince members n old ps → ids ≡ map id_of (at_positions members ps) → AreHeads (map entry_of members) heads → heads' ≡ heads → old' ≡ old → AreBits ids bits → filter ≡ bits
    → IsHelloOver database node old (map entry_of members) (record { database = database; node = node; heads = heads'; old = old'; filter = filter })
hello_over database node heads heads' old old' members n ps ids bits filter all s is are same_heads same_old sums same_bits = record {
  database = refl;
  node = refl;
  heads = subst (λ (hs : List UpdateId). AreHeads (map entry_of members) hs) (sym same_heads) are;
  old = same_old;
  since = map entry_of (at_positions members ps);
  are_since = subst (λ (xs : List (List ℕ)). AreSince (map entry_of xs) old (map entry_of (at_positions members ps))) (take_all n members (omega arith)) s.exact;
  filter = subst (λ (xs : List UpdateId). AreBits xs filter) (is ∙ sym (ids_of_entries (at_positions members ps))) (subst (λ (bs : List ℕ). AreBits ids bs) (sym same_bits) sums);
}
