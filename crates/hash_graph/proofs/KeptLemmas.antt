-- What a graph keeps, over one more member and one fewer.
use Rattle.std.proofs.Common.{◌≡◌, ℕ, ◌+◌, ◌-◌, ◌≤◌, true, false, cond, ◌&&◌, List, [], ◌∷◌, ◌++◌, length, Some, None, sym, ◌∙◌, ap, arith, length-append, map}
use Rattle.std.specs.Prelude.{nat_le, Result, Ok, Err, is_err, OnOk}
use Rattle.std.specs.BTreeMap.{get, BTreeMap}
use Rattle.std.proofs.lemmas.List.{map-append, length-map}
use Rattle.std.proofs.lemmas.List.Sums.{sum_by_push}
use Rattle.std.proofs.lemmas.Bool.Decides.{nat_tests}
use Rattle.update_model.specs.declared.update_id.UpdateId.{UpdateId}
use Rattle.update_model.specs.declared.limits.TheConstants.{MAX_BYTES, MAX_MEMBERS}
use Rattle.update_model.specs.Entry.{Entry, id_cmp, same_id}
use Rattle.update_model.specs.Graph.{IsNext, is_within, byte_count}
use Rattle.update_model.proofs.Closed.{Follows-push, Follows-pop, position_of-push, position_of-pop}
use Rattle.hash_graph.specs.Kept.{IsKept}

-- fewer members and bytes are within the limits too
is_within-fewer : (m n p q : ℕ) → m ≤ n → p ≤ q → (nat_le n MAX_MEMBERS && nat_le q MAX_BYTES) ≡ true → (nat_le m MAX_MEMBERS && nat_le p MAX_BYTES) ≡ true
is_within-fewer m n p q fewer less within = grind (arith, nat_tests)

-- one more member
pub IsKept-push : (graph : List Entry) (e : Entry) (index new : BTreeMap UpdateId ℕ) (bytes : ℕ) → IsKept graph index bytes → IsNext graph e
    → is_within (graph ++ e ∷ []) ≡ true
    → ((q : UpdateId) → get id_cmp new q ≡ cond (same_id e.id q) (Some (length graph)) (get id_cmp index q))
    → IsKept (graph ++ e ∷ []) new (bytes + length e.bytes)
IsKept-push graph e index new bytes kept next within updates = record {
  closed = Follows-push [] graph e kept.closed next;
  within = within;
  indexed = λ q. updates q ∙ ap (λ o. cond (same_id e.id q) (Some (length graph)) o) (kept.indexed q) ∙ position_of-push graph e q next.new;
  counted = ap (λ n. n + length e.bytes) kept.counted ∙ sym (sum_by_push (λ (x : Entry). length x.bytes) graph e);
}

-- one member fewer
pub IsKept-pop : (graph : List Entry) (e : Entry) (index new : BTreeMap UpdateId ℕ) (bytes : ℕ) → IsKept (graph ++ e ∷ []) index bytes
    → ((q : UpdateId) → get id_cmp new q ≡ cond (same_id e.id q) None (get id_cmp index q))
    → IsKept graph new (bytes - length e.bytes)
IsKept-pop graph e index new bytes kept updates =
    let parts = Follows-pop [] graph e kept.closed in
    let count : byte_count (graph ++ e ∷ []) ≡ byte_count graph + length e.bytes = sum_by_push (λ (x : Entry). length x.bytes) graph e in
    record {
      closed = parts.0;
      within = is_within-fewer (length graph) (length (graph ++ e ∷ [])) (byte_count graph) (byte_count (graph ++ e ∷ []))
          (omega (arith, length-append graph (e ∷ []))) (omega (arith, count)) kept.within;
      indexed = λ q. updates q ∙ ap (λ o. cond (same_id e.id q) None o) (kept.indexed q) ∙ position_of-pop graph e q parts.1.new;
      counted = omega (arith, count, kept.counted);
    }

-- One more member, where members of any type are seen as entries, as the fields are after the calls that add it.
pub IsKept-with_member : {M : Type 0} (entry : M → Entry) (old new : List M) (m : M) (id : UpdateId) (content : List ℕ) (index after : BTreeMap UpdateId ℕ) (bytes position : ℕ)
    → IsKept (map entry old) index bytes → IsNext (map entry old) (entry m) → is_within (map entry old ++ entry m ∷ []) ≡ true
    → new ≡ old ++ m ∷ [] → id ≡ (entry m).id → content ≡ (entry m).bytes → position ≡ length old
    → ((q : UpdateId) → get id_cmp after q ≡ cond (same_id id q) (Some position) (get id_cmp index q))
    → IsKept (map entry new) after (bytes + length content)
IsKept-with_member entry old new m id content index after bytes position kept next within is_new is_id is_content is_position updates =
    rw (is_new, map-append, is_content)
    (IsKept-push (map entry old) (entry m) index after bytes kept next within
    (λ q. updates q
    ∙ ap (λ (i : UpdateId). cond (same_id i q) (Some position) (get id_cmp index q)) is_id
    ∙ ap (λ n. cond (same_id (entry m).id q) (Some n) (get id_cmp index q)) (is_position ∙ sym (length-map old entry))))

-- One member fewer, likewise.
pub IsKept-without_last : {M : Type 0} (entry : M → Entry) (old new : List M) (m : M) (id : UpdateId) (content : List ℕ) (index after : BTreeMap UpdateId ℕ) (bytes : ℕ)
    → IsKept (map entry old) index bytes → old ≡ new ++ m ∷ [] → id ≡ (entry m).id → content ≡ (entry m).bytes
    → ((q : UpdateId) → get id_cmp after q ≡ cond (same_id id q) None (get id_cmp index q))
    → IsKept (map entry new) after (bytes - length content)
IsKept-without_last entry old new m id content index after bytes kept is_old is_id is_content updates =
    let before : IsKept (map entry new ++ entry m ∷ []) index bytes = rw (is_old, map-append) at kept in
    rw is_content
    (IsKept-pop (map entry new) (entry m) index after bytes before
    (λ q. updates q ∙ ap (λ (i : UpdateId). cond (same_id i q) None (get id_cmp index q)) is_id))

-- what holds on `Ok`, where there is no `Err`
pub ok_gives : {T E P : Type 0} (r : Result T E) → is_err r ≡ false → OnOk r P → P
ok_gives (Ok x) _ given = given
ok_gives (Err e) none given = absurd (cc)
