-- One place is tried.
use Rattle.std.proofs.Common.{◌≡◌, ◌⊎◌, inl, inr, ℕ, ◌<◌, ◌≤◌, true, false, List, [], ◌∷◌, ◌++◌, length, Option, Some, None, get_or, map, sym, ap, subst, ◌∙◌, arith, get_or-set_other, get_or-set_same}
use Rattle.std.specs.Prelude.{Contains, Vec, set}
use Rattle.std.specs.List.{slice_get, AllByRecursion}
use Rattle.std.specs.BTreeMap.{BTreeMap}
use Rattle.std.specs.declared.alloc.Global.{Global}
use Rattle.std.proofs.lemmas.Bool.{cases_eq}
use Rattle.std.proofs.lemmas.List.{length-set, map-append, get_or_past}
use Rattle.std.proofs.lemmas.Option.{slice_get-get_or}
use Rattle.std.proofs.lemmas.List.Elements.{Contains-get_or, Contains-append_left, Contains-append_right, Contains-append_cases}
use Rattle.update_model.specs.declared.update_id.UpdateId.{UpdateId}
use Rattle.update_model.specs.Entry.{Entry, same_id}
use Rattle.update_model.specs.Graph.{holds}
use Rattle.ready_batch.specs.Steps.{left_at, AreSlots, AllPlaced, IsStuck, IsParked}
use Rattle.ready_batch.proofs.Elements.{first_or_later}
use Rattle.ready_batch.proofs.Holding.{holds_more, holds_last, not_held_push}

-- Every other place is as it was, or is stuck now or to be tried next; and this one is gone or stuck.
pub still_placed : {M : Type 0} (entry : M → Entry) (graph graph' : List Entry) (batch : List M) (slots slots' : List (Option M)) (parked parked' : BTreeMap UpdateId (Vec ℕ Global)) (place : ℕ) (others next next' : List ℕ)
    → AllPlaced entry graph batch slots parked ((place ∷ others) ++ next)
    → ((i : ℕ) → (i ≡ place → ⊥) → left_at slots' i ≡ left_at slots i)
    → ((i : ℕ) (e : Entry) → IsStuck graph parked i e → Contains next' i ⊎ IsStuck graph' parked' i e)
    → ((i : ℕ) → Contains next i → Contains next' i)
    → ((m : M) → slice_get batch place ≡ Some m → (left_at slots' place ≡ None) ⊎ IsStuck graph' parked' place (entry m))
    → AllPlaced entry graph' batch slots' parked' (others ++ next')
still_placed entry graph graph' batch slots slots' parked parked' place others next next' placed same moves sub here i m at =
    elim (cases_eq i place) [
      | inl is ↦ is_here is
      | inr other ↦ elim (placed i m at) [
        | inl gone ↦ inl (same i other ∙ gone)
        | inr more ↦ elim more [
          | inl to_try ↦ inr (inl (tried other to_try))
          | inr stuck ↦ elim (moves i (entry m) stuck) [
            | inl now ↦ inr (inl (Contains-append_right others next' i now))
            | inr still ↦ inr (inr still)
          ]
        ]
      ]
    ]
  where
    is_here : i ≡ place → (left_at slots' i ≡ None) ⊎ (Contains (others ++ next') i ⊎ IsStuck graph' parked' i (entry m))
    is_here is = subst (λ (k : ℕ). (left_at slots' k ≡ None) ⊎ (Contains (others ++ next') k ⊎ IsStuck graph' parked' k (entry m))) (sym is)
        (elim (here m (ap (slice_get batch) (sym is) ∙ at)) [
          | inl gone ↦ inl gone
          | inr stuck ↦ inr (inr stuck)
        ])

    tried : (i ≡ place → ⊥) → Contains ((place ∷ others) ++ next) i → Contains (others ++ next') i
    tried other has = elim (Contains-append_cases (place ∷ others) next i has) [
      | inl first ↦ elim (first_or_later place others i first) [
        | inl this ↦ absurd (other (sym this))
        | inr rest ↦ Contains-append_left others next' i rest
      ]
      | inr later ↦ Contains-append_right others next' i (sub i later)
    ]

-- nothing is at a place beyond the slots, or where nothing was left
pub passed_over : {M : Type 0} (entry : M → Entry) (graph : List Entry) (batch : List M) (slots slots' : List (Option M)) (parked : BTreeMap UpdateId (Vec ℕ Global)) (place : ℕ) (others next : List ℕ)
    → ((i : ℕ) → (i ≡ place → ⊥) → left_at slots' i ≡ left_at slots i) → left_at slots' place ≡ None
    → AllPlaced entry graph batch slots parked ((place ∷ others) ++ next) → AllPlaced entry graph batch slots' parked (others ++ next)
passed_over entry graph batch slots slots' parked place others next same gone placed =
    still_placed entry graph graph batch slots slots' parked parked place others next next placed same (λ i e stuck. inr stuck) (λ i has. has) (λ m at. inl gone)

below_or_past : (i n : ℕ) → (i < n) ⊎ (n ≤ i)
below_or_past i n = grind arith

-- a place where something is left is one of the slots
pub left_within : {M : Type 0} (slots : List (Option M)) (place : ℕ) (m : M) → left_at slots place ≡ Some m → place < length slots
left_within slots place m there = elim (below_or_past place (length slots)) [
  | inl within ↦ within
  | inr past ↦ absurd (let none = get_or_past slots place None past in cc)
]

-- The member of the batch at a place.
pub its_member : {M : Type 0} (entry : M → Entry) (graph : List Entry) (batch : List M) (slots : List (Option M)) (place : ℕ) (m x : M) → AreSlots entry graph batch slots → left_at slots place ≡ Some m → slice_get batch place ≡ Some x → x ≡ m
its_member entry graph batch slots place m x are there at = elim (are.each place x at) [
  | inl is ↦ cc
  | inr gone ↦ absurd (let none = gone.0 in cc)
]

pub of_batch : {M : Type 0} (entry : M → Entry) (graph : List Entry) (batch : List M) (slots : List (Option M)) (place : ℕ) (m : M) → AreSlots entry graph batch slots → left_at slots place ≡ Some m → Contains batch m
of_batch entry graph batch slots place m are there =
    let lt = left_within slots place m there in
    let within : place < length batch = omega (arith, are.long) in
    let same = its_member entry graph batch slots place m (get_or batch place m) are there (slice_get-get_or batch place m within) in
    subst (Contains batch) same (Contains-get_or batch place m within)

-- a member that is gone since its id is held
pub slots_gone : {M : Type 0} (entry : M → Entry) (graph graph' : List Entry) (batch : List M) (slots slots' : List (Option M)) (place : ℕ) (m : M) → AreSlots entry graph batch slots → left_at slots place ≡ Some m
    → length slots' ≡ length slots → ((i : ℕ) → (i ≡ place → ⊥) → left_at slots' i ≡ left_at slots i) → left_at slots' place ≡ None
    → ((id : UpdateId) → holds graph id ≡ true → holds graph' id ≡ true) → holds graph' (entry m).id ≡ true → AreSlots entry graph' batch slots'
slots_gone {M} entry graph graph' batch slots slots' place m are is long same gone more held = record {
  long = long ∙ are.long;
  each = λ i x at. elim (cases_eq i place) [
    | inl here ↦ inr (ap (left_at slots') here ∙ gone, its_id i x at here)
    | inr other ↦ elim (are.each i x at) [
      | inl there ↦ inl (same i other ∙ there)
      | inr went ↦ inr (same i other ∙ went.0, more (entry x).id went.1)
    ]
  ];
}
  where
    its_id : (i : ℕ) (x : M) → slice_get batch i ≡ Some x → i ≡ place → holds graph' (entry x).id ≡ true
    its_id i x at here =
        let one = its_member entry graph batch slots place m x are is (ap (slice_get batch) (sym here) ∙ at) in
        ap (λ (y : M). holds graph' (entry y).id) one ∙ held

-- a member that is put back, and noted under a predecessor
pub placed_parked : {M : Type 0} (entry : M → Entry) (graph : List Entry) (batch : List M) (slots slots' : List (Option M)) (parked parked' : BTreeMap UpdateId (Vec ℕ Global)) (place : ℕ) (others next : List ℕ) (member : M) (id : UpdateId)
    → AreSlots entry graph batch slots → left_at slots place ≡ Some member → ((i : ℕ) → left_at slots' i ≡ left_at slots i)
    → AllPlaced entry graph batch slots parked ((place ∷ others) ++ next) → Contains (entry member).preds id → holds graph id ≡ false
    → IsParked parked' id place → ((q : UpdateId) (i : ℕ) → IsParked parked q i → IsParked parked' q i) → AllPlaced entry graph batch slots' parked' (others ++ next)
placed_parked {M} entry graph batch slots slots' parked parked' place others next member id are there same placed named lacks noted kept =
    still_placed entry graph graph batch slots slots' parked parked' place others next next placed (λ i _. same i) moves (λ i has. has) here
  where
    moves : (i : ℕ) (e : Entry) → IsStuck graph parked i e → Contains next i ⊎ IsStuck graph parked' i e
    moves i e stuck = inr (record { id = stuck.id; named = stuck.named; lacks = stuck.lacks; parked_there = kept stuck.id i stuck.parked_there })

    here : (m : M) → slice_get batch place ≡ Some m → (left_at slots' place ≡ None) ⊎ IsStuck graph parked' place (entry m)
    here m at =
        let is = its_member entry graph batch slots place member m are there at in
        inr (record { id = id; named = subst (λ (x : M). Contains (entry x).preds id) (sym is) named; lacks = lacks; parked_there = noted })

-- a member that is added, after which those that waited for it are to be tried
pub placed_added : {M : Type 0} (entry : M → Entry) (graph graph' : List Entry) (batch : List M) (slots slots' : List (Option M)) (parked parked' : BTreeMap UpdateId (Vec ℕ Global)) (place : ℕ) (others next next' places : List ℕ) (member : M) (id : UpdateId)
    → ((i : ℕ) → (i ≡ place → ⊥) → left_at slots' i ≡ left_at slots i) → left_at slots' place ≡ None
    → AllPlaced entry graph batch slots parked ((place ∷ others) ++ next) → graph' ≡ graph ++ entry member ∷ [] → id ≡ (entry member).id → next' ≡ next ++ places
    → ((q : UpdateId) (i : ℕ) → IsParked parked q i → ((q ≡ id) × Contains places i) ⊎ ((same_id q id ≡ false) × IsParked parked' q i)) → AllPlaced entry graph' batch slots' parked' (others ++ next')
placed_added entry graph graph' batch slots slots' parked parked' place others next next' places member id same gone placed added is_id is_next released =
    still_placed entry graph graph' batch slots slots' parked parked' place others next next' placed same moves sub (λ m at. inl gone)
  where
    sub : (i : ℕ) → Contains next i → Contains next' i
    sub i has = subst (λ (l : List ℕ). Contains l i) (sym is_next) (Contains-append_left next places i has)

    moves : (i : ℕ) (e : Entry) → IsStuck graph parked i e → Contains next' i ⊎ IsStuck graph' parked' i e
    moves i e stuck = elim (released stuck.id i stuck.parked_there) [
      | inl now ↦ inl (subst (λ (l : List ℕ). Contains l i) (sym is_next) (Contains-append_right next places i now.1))
      | inr still ↦ inr (record {
        id = stuck.id;
        named = stuck.named;
        lacks = subst (λ (l : List Entry). holds l stuck.id ≡ false) (sym added)
            (not_held_push graph (entry member) stuck.id stuck.lacks (ap (same_id stuck.id) (sym is_id) ∙ still.0));
        parked_there = still.1;
      })
    ]

-- one more member stands last
pub map_last : {M : Type 0} (entry : M → Entry) (before after : List M) (m : M) → after ≡ before ++ m ∷ [] → map entry after ≡ map entry before ++ entry m ∷ []
map_last entry before after m is = ap (map entry) is ∙ map-append entry before (m ∷ [])

-- what is left once a member is taken
pub taken_other : {M : Type 0} (slots taken : List (Option M)) (place : ℕ) → taken ≡ set slots place None → (i : ℕ) → (i ≡ place → ⊥) → left_at taken i ≡ left_at slots i
taken_other {M} slots taken place gone i other = ap (λ (l : List (Option M)). left_at l i) gone ∙ get_or-set_other slots place i None None other

pub taken_gone : {M : Type 0} (slots taken : List (Option M)) (place : ℕ) (m : M) → left_at slots place ≡ Some m → taken ≡ set slots place None → left_at taken place ≡ None
taken_gone {M} slots taken place m there gone = ap (λ (l : List (Option M)). left_at l place) gone ∙ get_or-set_same slots place None None (left_within slots place m there)

-- the batch's places once a member is added
pub added_slots : {M : Type 0} (entry : M → Entry) (before after batch : List M) (slots taken : List (Option M)) (place : ℕ) (m : M) → AreSlots entry (map entry before) batch slots
    → left_at slots place ≡ Some m → taken ≡ set slots place None → after ≡ before ++ m ∷ [] → AreSlots entry (map entry after) batch taken
added_slots entry before after batch slots taken place m are there gone is =
    let last = sym (map_last entry before after m is) in
    slots_gone entry (map entry before) (map entry after) batch slots taken place m are there (ap length gone ∙ length-set slots place None)
    (taken_other slots taken place gone) (taken_gone slots taken place m there gone)
    (λ id held. subst (λ (l : List Entry). holds l id ≡ true) last (holds_more (map entry before) (entry m ∷ []) id held))
    (subst (λ (l : List Entry). holds l (entry m).id ≡ true) last (holds_last (map entry before) (entry m)))

pub added_from : {M : Type 0} (entry : M → Entry) (before after batch : List M) (slots : List (Option M)) (place : ℕ) (m : M) → AreSlots entry (map entry before) batch slots
    → left_at slots place ≡ Some m → after ≡ before ++ m ∷ [] → (added : List M) × (after ≡ before ++ added) × AllByRecursion (Contains batch) added
added_from entry before after batch slots place m are there is = (m ∷ [], is, (of_batch entry (map entry before) batch slots place m are there, tt))

-- a member that is taken and put back
pub put_back : {M : Type 0} (slots taken : List (Option M)) (place : ℕ) (m : M) → left_at slots place ≡ Some m → taken ≡ set slots place None → (i : ℕ) → left_at (set taken place (Some m)) i ≡ left_at slots i
put_back slots taken place m there gone i = elim (cases_eq i place) [
  | inl here ↦ ap (left_at (set taken place (Some m))) here ∙ get_or-set_same taken place (Some m) None within ∙ sym there ∙ ap (left_at slots) (sym here)
  | inr other ↦ get_or-set_other taken place i (Some m) None other ∙ taken_other slots taken place gone i other
]
  where
    within : place < length taken
    within = let lt = left_within slots place m there in omega (arith, ap length gone, length-set slots place None)
