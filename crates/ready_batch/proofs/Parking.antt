-- A map that notes places under ids.
use Rattle.std.proofs.Common.{◌≡◌, ◌⊎◌, inl, inr, ℕ, ◌+◌, ◌<◌, arith, false, cond, List, [], ◌∷◌, ◌++◌, Some, None, sym, ap, subst, ◌∙◌}
use Rattle.std.specs.Prelude.{Contains, Vec}
use Rattle.std.specs.BTreeMap.{get, BTreeMap}
use Rattle.std.specs.declared.alloc.Global.{Global}
use Rattle.std.proofs.lemmas.List.Elements.{Contains-append_left, Contains-push}
use Rattle.update_model.specs.declared.update_id.UpdateId.{UpdateId}
use Rattle.update_model.specs.Entry.{id_cmp, same_id}
use Rattle.update_model.proofs.Ids.{id_from_same, same_id-refl, same_id-symm}
use Rattle.ready_batch.specs.Steps.{IsParked}
use Rattle.ready_batch.proofs.Holding.{true_or_false}

-- what is to be tried next, once what was noted is there too
pub places_next : (next after lent released : List ℕ) → after ≡ next ++ lent → lent ≡ released → after ≡ next ++ released
places_next next after lent released is same = is ∙ ap (λ (l : List ℕ). next ++ l) same

-- What is noted is handed out, or stays.
pub released_some : (old new : BTreeMap UpdateId (Vec ℕ Global)) (id : UpdateId) (places : Vec ℕ Global) (q : UpdateId) (i : ℕ) → get id_cmp old id ≡ Some places
    → ((k : UpdateId) → get id_cmp new k ≡ cond (same_id id k) None (get id_cmp old k))
    → IsParked old q i → ((q ≡ id) × Contains places.items i) ⊎ ((same_id q id ≡ false) × IsParked new q i)
released_some old new id places q i there updates parked = elim (true_or_false (same_id id q)) [
  | inl same ↦
      let is : q ≡ id = sym (id_from_same id q same) in
      let at : get id_cmp old id ≡ Some parked.0 = ap (get id_cmp old) (sym is) ∙ parked.1 in
      let one : parked.0 ≡ places = cc in
      inl (is, subst (λ (v : Vec ℕ Global). Contains v.items i) one parked.2)
  | inr other ↦ inr (same_id-symm q id ∙ other, (parked.0, updates q ∙ ap (λ b. cond b None (get id_cmp old q)) other ∙ parked.1, parked.2))
]

pub released_none : (old new : BTreeMap UpdateId (Vec ℕ Global)) (id : UpdateId) (places : List ℕ) (q : UpdateId) (i : ℕ) → get id_cmp old id ≡ None
    → ((k : UpdateId) → get id_cmp new k ≡ cond (same_id id k) None (get id_cmp old k))
    → IsParked old q i → ((q ≡ id) × Contains places i) ⊎ ((same_id q id ≡ false) × IsParked new q i)
released_none old new id places q i there updates parked = elim (true_or_false (same_id id q)) [
  | inl same ↦
      let at : get id_cmp old id ≡ Some parked.0 = ap (get id_cmp old) (id_from_same id q same) ∙ parked.1 in
      absurd (cc)
  | inr other ↦ inr (same_id-symm q id ∙ other, (parked.0, updates q ∙ ap (λ b. cond b None (get id_cmp old q)) other ∙ parked.1, parked.2))
]

-- What was noted is noted still.
pub noted_still : (mid new : BTreeMap UpdateId (Vec ℕ Global)) (id : UpdateId) (places now : Vec ℕ Global) (place : ℕ) (q : UpdateId) (i : ℕ)
    → now.items ≡ places.items ++ place ∷ [] → ((k : UpdateId) → get id_cmp new k ≡ cond (same_id id k) (Some now) (get id_cmp mid k))
    → ((q ≡ id) × Contains places.items i) ⊎ ((same_id q id ≡ false) × IsParked mid q i) → IsParked new q i
noted_still mid new id places now place q i items updates (inl here) = (
  now,
  ap (get id_cmp new) here.0 ∙ updates id ∙ ap (λ b. cond b (Some now) (get id_cmp mid id)) (same_id-refl id),
  subst (λ (l : List ℕ). Contains l i) (sym items) (Contains-append_left places.items (place ∷ []) i here.1),
)
noted_still mid new id places now place q i items updates (inr other) =
    (other.1.0, updates q ∙ ap (λ b. cond b (Some now) (get id_cmp mid q)) (same_id-symm id q ∙ other.0) ∙ other.1.1, other.1.2)

-- What is noted now is noted.
pub noted : (mid new : BTreeMap UpdateId (Vec ℕ Global)) (id : UpdateId) (places now : Vec ℕ Global) (place : ℕ)
    → now.items ≡ places.items ++ place ∷ [] → ((k : UpdateId) → get id_cmp new k ≡ cond (same_id id k) (Some now) (get id_cmp mid k)) → IsParked new id place
noted mid new id places now place items updates = (
  now,
  updates id ∙ ap (λ b. cond b (Some now) (get id_cmp mid id)) (same_id-refl id),
  subst (λ (l : List ℕ). Contains l place) (sym items) (Contains-push places.items place),
)

below_or_last : (i n : ℕ) → i < n + 1 → (i < n) ⊎ (i ≡ n)
below_or_last i n lt = grind arith

-- one more place is to be tried
pub one_more : (places more : List ℕ) (place : ℕ) → more ≡ places ++ place ∷ [] → ((i : ℕ) → i < place → Contains places i) → (i : ℕ) → i < place + 1 → Contains more i
one_more places more place is below i lt =
    subst (λ (l : List ℕ). Contains l i) (sym is)
    (elim (below_or_last i place lt) [
      | inl before ↦ Contains-append_left places (place ∷ []) i (below i before)
      | inr last ↦ subst (Contains (places ++ place ∷ [])) (sym last) (Contains-push places place)
    ])
