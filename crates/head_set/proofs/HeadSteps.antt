-- Heads of one more member, and how many there are.
use Rattle.std.proofs.Common.{◌≡◌, ℕ, suc, ◌≤◌, Bool, true, false, ◌||◌, ◌&&◌, not, ◌<◌, ◌+◌, ◌-◌, List, [], ◌∷◌, ◌++◌, length, refl, sym, ap, subst, ◌∙◌, take, drop, get_or, slice_index_or, map, arith, inl, inr}
use Rattle.std.specs.List.{list_any}
use Rattle.std.specs.List.Sorted.{IsStrictlySortedBy}
use Rattle.std.proofs.lemmas.Cmp.{eq_by_cmp_equiv}
use Rattle.std.proofs.lemmas.Bool.{cases_eq, and_left, or_parts}
use Rattle.std.proofs.lemmas.List.{take_more, take_all, take-append-le, take-append-drop, take-take, length-append, length-map, length-take-le, get_or_push, get_or_append_left, get_or-take}
use Rattle.std.proofs.lemmas.List.Folds.{list_any-append}
use Rattle.std.proofs.lemmas.Map.Keys.{IsDistinct-from_sorted}
use Rattle.std.proofs.lemmas.Map.Made.{length-le_from_is_member}
use Rattle.update_model.specs.declared.update_id.UpdateId.{UpdateId}
use Rattle.update_model.specs.Entry.{Entry, id_cmp, same_id}
use Rattle.update_model.specs.Graph.{has, holds, names, IsNext, IsClosed, AreHeads}
use Rattle.update_model.proofs.Heads.{holds-named}
use Rattle.update_model.proofs.Ids.{id_cmp_total, id_from_same}
use Rattle.head_set.specs.Grown.{AreHeadsOfEach, KeepsHeads}
use Rattle.head_set.specs.Present.{present}

-- ---- ids that are taken out

pub has_more : (ids : List UpdateId) (i : ℕ) (d q : UpdateId) → i < length ids → has (take (i + 1) ids) q ≡ (has (take i ids) q || (same_id q (get_or ids i d) || false))
has_more ids i d q low = ap (λ (xs : List UpdateId). has xs q) (take_more ids i d low) ∙ list_any-append (same_id q) (take i ids) (get_or ids i d ∷ [])

pub out_too : (was gone same : Bool) → ((was && not gone) && not same) ≡ (was && not (gone || (same || false)))
out_too false gone same = refl
out_too true true same = refl
out_too true false true = refl
out_too true false false = refl

-- ---- one more member

-- by whether the one more member has the id, is named, and names it: nobody named the new member
arrived : (same held named calls : Bool) → (same ≡ true → named ≡ false)
    → ((same || (held && not named)) && not calls) ≡ ((held || (same || false)) && not (named || (calls || false)))
arrived true true true calls new = absurd (let none = new refl in cc)
arrived true true false true new = refl
arrived true true false false new = refl
arrived true false true calls new = absurd (let none = new refl in cc)
arrived true false false true new = refl
arrived true false false false new = refl
arrived false true true calls new = refl
arrived false true false true new = refl
arrived false true false false new = refl
arrived false false named calls new = refl

-- what is new is named by no member
unnamed : (graph : List Entry) (e : Entry) (q : UpdateId) → IsClosed graph → IsNext graph e → same_id q e.id ≡ true → names graph q ≡ false
unnamed graph e q closed next same = by_case (names graph q) refl
  where
    by_case : (b : Bool) → names graph q ≡ b → names graph q ≡ false
    by_case false n = n
    by_case true n = absurd (let held : holds graph q ≡ true = holds-named [] graph q closed n in let is = id_from_same q e.id same in let new = next.new in cc)

pub heads_arrive : (graph : List Entry) (e : Entry) (old new : List UpdateId) (q : UpdateId) → IsClosed graph → IsNext graph e
    → has old q ≡ (holds graph q && not (names graph q)) → has new q ≡ ((same_id q e.id || has old q) && not (has e.preds q))
    → has new q ≡ (holds (graph ++ e ∷ []) q && not (names (graph ++ e ∷ []) q))
heads_arrive graph e old new q closed next was now =
    rw (list_any-append (λ m. same_id q m.id) graph (e ∷ []), list_any-append (λ m. has m.preds q) graph (e ∷ []), now, was)
    (arrived (same_id q e.id) (holds graph q) (names graph q) (has e.preds q) (unnamed graph e q closed next))

pub no_heads : AreHeads [] []
unfolding IsStrictlySortedBy
no_heads = record { rising = tt; exact = λ id. refl }

pub no_states : AreHeadsOfEach [] []
no_states = record { long = refl; each = λ n low. absurd (omega arith) }

pub present_heads : (graph : List Entry) (states : List (List UpdateId)) → AreHeadsOfEach graph states → AreHeads graph (present states)
present_heads [] [] are = no_heads
present_heads [] (heads ∷ states) are = absurd (let long = are.long in omega (arith, long))
present_heads (e ∷ es) states are =
    let long = are.long in
    let last : length states - 1 ≡ length es = omega (arith, long) in
    let whole : take (length es + 1) (e ∷ es) ≡ e ∷ es = take_all (length es + 1) (e ∷ es) (omega arith) in
    rw last (subst (λ (graph : List Entry). AreHeads graph (slice_index_or states (length es) [])) whole (are.each (length es) (omega arith)))

pub keeps_heads : (old new : List (List UpdateId)) (id : UpdateId) (preds : List UpdateId) → IsStrictlySortedBy id_cmp (present new)
    → ((q : UpdateId) → has (present new) q ≡ ((same_id q id || has (present old) q) && not (has preds q))) → new ≡ old ++ present new ∷ [] → KeepsHeads old id preds new
keeps_heads old new id preds rising exact is graph bytes closed are next =
    let e : Entry = record { id = id; preds = preds; bytes = bytes } in
    let more = length-append graph (e ∷ []) in
    let now : AreHeads (graph ++ e ∷ []) (present new) = record {
      rising = rising;
      exact = λ q. heads_arrive graph e (present old) (present new) q closed next ((present_heads graph old are).exact q) (exact q);
    } in
    let long = are.long in
    record {
      long = let longer = ap length is in let both = length-append old (present new ∷ []) in omega (arith, longer, both, more, long);
      each = λ n low. elim (cases_eq n (length graph)) [
        | inl same ↦
            let last : slice_index_or new n [] ≡ present new = ap (λ (all : List (List UpdateId)). slice_index_or all n []) is ∙ get_or_push old (present new) [] n (long ∙ sym same) in
            rw (last, take_all (n + 1) (graph ++ e ∷ []) (omega (arith, more, same))) now
        | inr apart ↦
            let under : n < length graph = omega (arith, more) in
            let before : slice_index_or new n [] ≡ slice_index_or old n [] =
            ap (λ (all : List (List UpdateId)). slice_index_or all n []) is ∙ get_or_append_left old (present new ∷ []) [] n (omega (arith, long)) in
            rw (before, take-append-le (n + 1) graph (e ∷ []) (omega arith)) (are.each n under)
      ];
    }

pub never_heads : (graph : List Entry) (states : List (List UpdateId)) (e : Entry) → AreHeadsOfEach graph states → IsNext graph e → list_any (λ heads. has heads e.id) states ≡ false
never_heads graph states e are next = none_any (λ heads. has heads e.id) states (λ n low.
    let long = are.long in
    let under : n < length graph = omega (arith, long) in
    (are.each n under).exact e.id ∙ and_left (holds (take (n + 1) graph) e.id) (not (names (take (n + 1) graph) e.id))
    (or_parts (holds (take (n + 1) graph) e.id) (holds (drop (n + 1) graph) e.id)
    (sym (list_any-append (λ m. same_id e.id m.id) (take (n + 1) graph) (drop (n + 1) graph)) ∙ ap (λ (g : List Entry). holds g e.id) (take-append-drop (n + 1) graph) ∙ next.new)).0)
  where
    none_any : (test : List UpdateId → Bool) (all : List (List UpdateId)) → ((n : ℕ) → n < length all → test (slice_index_or all n []) ≡ false) → list_any test all ≡ false
    none_any test [] none = refl
    none_any test (x ∷ xs) none = rw (none 0 (omega arith)) (none_any test xs (λ n low. none (suc n) (omega arith)))

pub heads_of_front : (graph : List Entry) (states : List (List UpdateId)) (len : ℕ) → AreHeadsOfEach graph states → len ≤ length graph → AreHeadsOfEach (take len graph) (take len states)
heads_of_front graph states len are low =
    let long = are.long in
    let size : length (take len graph) ≡ len = length-take-le len graph low in
    record {
      long = length-take-le len states (omega (arith, long)) ∙ sym size;
      each = λ n under.
          let below : n < len = omega (arith, size) in
          rw (take-take (n + 1) len graph (omega arith), get_or-take len states n [] below) (are.each n (omega arith));
    }

-- ---- how many

-- what is held is among the ids of the members
held_id : (graph : List Entry) (q : UpdateId) → has (map (λ (e : Entry). e.id) graph) q ≡ holds graph q
held_id [] q = refl
held_id (e ∷ es) q = ap (λ b. same_id q e.id || b) (held_id es q)

pub both_true : (a b : Bool) → (a && b) ≡ true → a ≡ true
both_true true b e = refl
both_true false b e = absurd cc

pub few_heads : (graph : List Entry) (heads : List UpdateId) → AreHeads graph heads → length heads ≤ length graph
few_heads graph heads are =
    let few = length-le_from_is_member (eq_by_cmp_equiv id_cmp_total) heads (map (λ (e : Entry). e.id) graph) (IsDistinct-from_sorted id_cmp heads are.rising)
    (λ q is. held_id graph q ∙ both_true (holds graph q) (not (names graph q)) (sym (are.exact q) ∙ is)) in
    omega (arith, length-map graph (λ (e : Entry). e.id))
