-- The heads of one more member.
use Rattle.std.proofs.Common.{◌≡◌, ℕ, zero, suc, ◌<◌, ◌≤◌, ◌+◌, List, [], ◌∷◌, ◌++◌, length, refl, sym, ap, subst, ◌∙◌, take, drop, get_or, map, arith, slice_get, Some, add-one, false}
use Rattle.std.specs.List.{list_any}
use Rattle.std.proofs.lemmas.List.{take_more, get_or-map, length-map}
use Rattle.std.proofs.lemmas.Option.{slice_get_within, get_or_from_slice_get}
use Rattle.update_model.specs.declared.update_id.UpdateId.{UpdateId}
use Rattle.update_model.specs.Entry.{Entry}
use Rattle.update_model.specs.Graph.{IsNext, Follows, IsClosed, has}
use Rattle.update_model.proofs.Closed.{Follows-front, Follows-at}
use Rattle.head_set.specs.Grown.{AreHeadsOfEach, KeepsHeads}

parts_at : (graph : List Entry) (i : ℕ) (d : Entry) → i < length graph → graph ≡ take i graph ++ get_or graph i d ∷ drop (i + 1) graph
parts_at [] i d low = absurd (omega arith)
parts_at (x ∷ xs) zero d low = refl
parts_at (x ∷ xs) (suc i) d low = let e = parts_at xs i d (omega arith) in rw add-one (rw add-one at (ap (λ (t : List Entry). x ∷ t) e))

-- a front of a closed list, and the member that stands next
closed_front : (graph : List Entry) (i : ℕ) (d : Entry) → IsClosed graph → i < length graph → Follows [] (take i graph) × IsNext (take i graph) (get_or graph i d)
closed_front graph i d closed low =
    let parts : Follows [] (take i graph ++ get_or graph i d ∷ drop (i + 1) graph) = subst IsClosed (parts_at graph i d low) closed in
    (Follows-front [] (take i graph) (get_or graph i d ∷ drop (i + 1) graph) parts, Follows-at [] (take i graph) (drop (i + 1) graph) (get_or graph i d) parts)

-- the heads of the first members, and of these and the next one
heads_more : (graph : List Entry) (i : ℕ) (e : Entry) (old new : List (List UpdateId)) → IsClosed graph → i < length graph → get_or graph i e ≡ e
    → KeepsHeads old e.id e.preds new → AreHeadsOfEach (take i graph) old → AreHeadsOfEach (take (i + 1) graph) new
heads_more graph i e old new closed low at keeps heads =
    let front = closed_front graph i e closed low in
    let next : IsNext (take i graph) e = subst (λ (m : Entry). IsNext (take i graph) m) at front.1 in
    let more : take (i + 1) graph ≡ take i graph ++ e ∷ [] = take_more graph i e low ∙ ap (λ (m : Entry). take i graph ++ m ∷ []) at in
    let P : List Entry → Type 0 = λ g. AreHeadsOfEach g new in
    subst P (sym more) (keeps (take i graph) e.bytes front.0 heads next)

-- the same, of members that are seen as entries
pub heads_next : {M : Type 0} (entry : M → Entry) (members : List M) (i : ℕ) (m : M) (id : UpdateId) (preds : List UpdateId) (old new : List (List UpdateId))
    → IsClosed (map entry members) → slice_get members i ≡ Some m → id ≡ (entry m).id → preds ≡ (entry m).preds
    → KeepsHeads old id preds new → AreHeadsOfEach (take i (map entry members)) old → AreHeadsOfEach (take (i + 1) (map entry members)) new
heads_next entry members i m id preds old new closed at is_id are_preds keeps heads =
    let low = slice_get_within members i m at in
    let all : i < length (map entry members) = omega (arith, length-map members entry) in
    let there : get_or (map entry members) i (entry m) ≡ entry m = get_or-map entry members i m (entry m) low ∙ ap entry (get_or_from_slice_get members i m m at) in
    let P : UpdateId → Type 0 = λ x. KeepsHeads old x preds new in
    let Q : List UpdateId → Type 0 = λ ps. KeepsHeads old (entry m).id ps new in
    heads_more (map entry members) i (entry m) old new closed all there (subst Q are_preds (subst P is_id keeps)) heads

-- there are no more adds than members
pub few_adds : {M : Type 0} (entry : M → Entry) (members : List M) (i : ℕ) (states : List (List UpdateId)) → AreHeadsOfEach (take i (map entry members)) states → length states ≤ i
few_adds entry members i states are = let long = are.long in let cut : length (take i (map entry members)) ≤ i = shorter i (map entry members) in omega (arith, long, cut)
  where
    shorter : {X : Type 0} (n : ℕ) (xs : List X) → length (take n xs) ≤ n
    shorter zero xs = omega arith
    shorter (suc n) [] = omega arith
    shorter (suc n) (x ∷ xs) = let rest = shorter n xs in omega arith

-- the next member was never a head
pub next_was_none : {M : Type 0} (entry : M → Entry) (members : List M) (i : ℕ) (m : M) (id : UpdateId) (states : List (List UpdateId))
    → ((graph : List Entry) (all : List (List UpdateId)) (e : Entry) → AreHeadsOfEach graph all → IsNext graph e → list_any (λ heads. has heads e.id) all ≡ false)
    → IsClosed (map entry members) → slice_get members i ≡ Some m → id ≡ (entry m).id → AreHeadsOfEach (take i (map entry members)) states → list_any (λ heads. has heads id) states ≡ false
next_was_none entry members i m id states law closed at is_id are =
    let low = slice_get_within members i m at in
    let all : i < length (map entry members) = omega (arith, length-map members entry) in
    let there : get_or (map entry members) i (entry m) ≡ entry m = get_or-map entry members i m (entry m) low ∙ ap entry (get_or_from_slice_get members i m m at) in
    let next : IsNext (take i (map entry members)) (entry m) = subst (λ (e : Entry). IsNext (take i (map entry members)) e) there (closed_front (map entry members) i (entry m) closed all).1 in
    rw is_id (law (take i (map entry members)) states (entry m) are next)
