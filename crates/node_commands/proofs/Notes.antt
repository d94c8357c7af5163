-- The notes of updates are one list, in order of ids.
use Rattle.std.proofs.Common.{◌≡◌, ◌∙◌, ℕ, ◌+◌, Bool, true, false, cond, ◌||◌, List, [], ◌∷◌, ◌++◌, append-nil, map, take, filter, Some, slice_get, refl, sym, ap, subst, add-one}
use Rattle.std.specs.List.{AllByRecursion, IsDistinct, list_any}
use Rattle.std.specs.List.Sorted.{IsPermutation, IsSortedBy, IsStrictlySortedBy}
use Rattle.std.specs.Ordering.{eq_by_cmp, is_lt}
use Rattle.std.specs.declared.cmp.Ordering.TheVariants.{Less}
use Rattle.std.proofs.lemmas.Bool.{true≢false}
use Rattle.std.proofs.lemmas.List.Elements.{filter-append}
use Rattle.std.proofs.lemmas.List.Folds.{list_any-append}
use Rattle.std.proofs.lemmas.List.{map-append}
use Rattle.std.proofs.lemmas.Simd.{map-map}
use Rattle.std.proofs.lemmas.List.Sorted.{IsPermutation-map, IsPermutation-sym, IsPermutation-trans}
use Rattle.update_model.specs.declared.update_id.UpdateId.{UpdateId}
use Rattle.update_model.specs.Entry.{Entry, id_cmp, same_id}
use Rattle.update_model.specs.Graph.{Follows, IsClosed, holds}
use Rattle.update_model.proofs.Ids.{id_cmp_total, id_from_same, same_id-refl}
use Rattle.update_codec.specs.Parts.{entry_of, id_of}
use Rattle.table_model.proofs.Rising.{distinct_kept, rising_from_sort}
use Rattle.confluence_laws.proofs.SameTables.{one_list, permuted_on}
use Rattle.history.proofs.Arriving.{take_next}
use Rattle.node_commands.specs.Notes.{AreNoted, is_noted}

-- ---- the ids of a closed list are apart

-- one that is held before is none of those behind
none_behind : (before : List Entry) (id : UpdateId) (updates : List (List ℕ)) → holds before id ≡ true → Follows before (map entry_of updates) → AllByRecursion (λ other. eq_by_cmp id_cmp id other ≡ false) (map id_of updates)
none_behind before id [] held follows = tt
none_behind before id (update ∷ updates) held follows = (
  differ (same_id id (id_of update)) refl,
  none_behind (before ++ entry_of update ∷ []) id updates (list_any-append (λ (e : Entry). same_id id e.id) before (entry_of update ∷ []) ∙ ap (λ (b : Bool). b || list_any (λ (e : Entry). same_id id e.id) (entry_of update ∷ [])) held) follows.1,
)
  where
    differ : (b : Bool) → same_id id (id_of update) ≡ b → same_id id (id_of update) ≡ false
    differ true e = absurd (true≢false (sym (subst (λ (i : UpdateId). holds before i ≡ true) (id_from_same id (id_of update) e) held) ∙ follows.0.new))
    differ false e = e

held_last : (before : List Entry) (update : List ℕ) → holds (before ++ entry_of update ∷ []) (id_of update) ≡ true
held_last before update =
    list_any-append (λ (e : Entry). same_id (id_of update) e.id) before (entry_of update ∷ [])
    ∙ ap (λ (b : Bool). holds before (id_of update) || (b || false)) (same_id-refl (id_of update)) ∙ or_true (holds before (id_of update))
  where
    or_true : (b : Bool) → b || true ≡ true
    or_true true = refl
    or_true false = refl

ids_apart : (before : List Entry) (updates : List (List ℕ)) → Follows before (map entry_of updates) → IsDistinct (eq_by_cmp id_cmp) (map id_of updates)
unfolding IsDistinct
ids_apart before [] follows = tt
ids_apart before (update ∷ updates) follows = (
  none_behind (before ++ entry_of update ∷ []) (id_of update) updates (held_last before update) follows.1,
  ids_apart (before ++ entry_of update ∷ []) updates follows.1,
)

-- ---- noted updates in order

-- those of a closed list, lent, once they are sorted
pub noted_sorted : {X : Type 0} (bytes_of : X → List ℕ) (members : List (List ℕ)) (noted sorted : List X) → IsClosed (map entry_of members) → map bytes_of noted ≡ filter is_noted members → IsPermutation noted sorted
    → IsSortedBy (λ a b. is_lt (id_cmp (id_of (bytes_of a)) (id_of (bytes_of b)))) sorted → AreNoted members (map bytes_of sorted)
noted_sorted bytes_of members noted sorted closed is moved in_order =
    let those : IsPermutation (filter is_noted members) (map bytes_of sorted) = subst (λ (l : List (List ℕ)). IsPermutation l (map bytes_of sorted)) is (IsPermutation-map bytes_of noted sorted moved) in
    let apart : IsDistinct (eq_by_cmp id_cmp) (map id_of (map bytes_of noted)) =
    subst (λ (l : List (List ℕ)). IsDistinct (eq_by_cmp id_cmp) (map id_of l)) (sym is) (distinct_kept id_of (eq_by_cmp id_cmp) is_noted members (ids_apart [] members closed)) in
    let rise = rising_from_sort (λ x. id_of (bytes_of x)) id_cmp id_cmp_total noted sorted moved (subst (IsDistinct (eq_by_cmp id_cmp)) (map-map id_of bytes_of noted) apart) in_order in
    record {
      rising = subst (IsStrictlySortedBy id_cmp) (sym (map-map id_of bytes_of sorted)) rise;
      exact = IsPermutation-sym (filter is_noted members) (map bytes_of sorted) those;
    }

abbrev Rises : List (List ℕ) → Type 0
Rises [] = Unit {0}
Rises (x ∷ xs) = AllByRecursion (λ y. id_cmp (id_of x) (id_of y) ≡ Less) xs × Rises xs

above : (id : UpdateId) (xs : List (List ℕ)) → AllByRecursion (λ other. id_cmp id other ≡ Less) (map id_of xs) → AllByRecursion (λ y. id_cmp id (id_of y) ≡ Less) xs
above id [] h = tt
above id (x ∷ xs) h = (h.0, above id xs h.1)

rises : (xs : List (List ℕ)) → IsStrictlySortedBy id_cmp (map id_of xs) → Rises xs
unfolding IsStrictlySortedBy
rises [] h = tt
rises (x ∷ xs) h = (above (id_of x) xs h.0, rises xs h.1)

-- they are one list
pub noted_once : (members noted others : List (List ℕ)) → AreNoted members noted → AreNoted members others → noted ≡ others
noted_once members noted others a b =
    let there : IsPermutation noted others = IsPermutation-trans noted (filter is_noted members) others a.exact (IsPermutation-sym others (filter is_noted members) b.exact) in
    one_list id_of id_cmp id_cmp_total noted others (rises noted a.rising) (rises others b.rising) (permuted_on noted others there) (permuted_on others noted (IsPermutation-sym noted others there))

-- ---- going through the updates

pub noted_next : (members noted : List (List ℕ)) (i : ℕ) (bytes : List ℕ) → slice_get members i ≡ Some bytes → noted ≡ filter is_noted (take i members)
    → cond (is_noted bytes) (noted ++ bytes ∷ []) noted ≡ filter is_noted (take (i + 1) members)
noted_next members noted i bytes at is =
    by (is_noted bytes) ∙ ap (λ (l : List (List ℕ)). l ++ filter is_noted (bytes ∷ [])) is
    ∙ sym (filter-append is_noted (take i members) (bytes ∷ [])) ∙ ap (filter is_noted) (sym (take_next members i bytes at) ∙ ap (λ (n : ℕ). take n members) (sym (add-one i)))
  where
    by : (b : Bool) → cond b (noted ++ bytes ∷ []) noted ≡ noted ++ cond b (bytes ∷ []) []
    by true = refl
    by false = sym (append-nil noted)

-- where its note is not empty it is added
pub noted_more : {X : Type 0} (bytes_of : X → List ℕ) (members : List (List ℕ)) (noted more : List X) (i : ℕ) (update : X) → slice_get members i ≡ Some (bytes_of update) → is_noted (bytes_of update) ≡ true
    → more ≡ noted ++ update ∷ [] → map bytes_of noted ≡ filter is_noted (take i members) → map bytes_of more ≡ filter is_noted (take (i + 1) members)
noted_more bytes_of members noted more i update at has added is =
    ap (map bytes_of) added ∙ map-append bytes_of noted (update ∷ []) ∙ ap (λ (b : Bool). cond b (map bytes_of noted ++ bytes_of update ∷ []) (map bytes_of noted)) (sym has)
    ∙ noted_next members (map bytes_of noted) i (bytes_of update) at is

-- and where it is empty it is not
pub noted_less : {X : Type 0} (bytes_of : X → List ℕ) (members : List (List ℕ)) (noted : List X) (i : ℕ) (update : X) → slice_get members i ≡ Some (bytes_of update) → is_noted (bytes_of update) ≡ false
    → map bytes_of noted ≡ filter is_noted (take i members) → map bytes_of noted ≡ filter is_noted (take (i + 1) members)
noted_less bytes_of members noted i update at lacks is =
    ap (λ (b : Bool). cond b (map bytes_of noted ++ bytes_of update ∷ []) (map bytes_of noted)) (sym lacks) ∙ noted_next members (map bytes_of noted) i (bytes_of update) at is
