-- The ids that are named, and those that are not, of one more member.
use Rattle.std.proofs.Common.{◌≡◌, ℕ, ◌+◌, ◌<◌, Bool, true, false, cond, not, ◌||◌, ◌&&◌, List, [], ◌∷◌, take, get_or, length, map, refl, sym, ap, ◌∙◌, Some, slice_get}
use Rattle.std.specs.List.{list_any}
use Rattle.std.proofs.lemmas.List.{take_more}
use Rattle.std.proofs.lemmas.List.Folds.{list_any-append}
use Rattle.update_model.specs.declared.update_id.UpdateId.{UpdateId}
use Rattle.update_model.specs.Entry.{Entry, same_id}
use Rattle.update_model.specs.Graph.{has, holds, names}
use Rattle.update_model.proofs.Ids.{id_from_same, same_id-symm}
use Rattle.update_codec.specs.Parts.{entry_of}
use Rattle.mem_holder.proofs.Lists.{take_next}

or_none : (a b : Bool) → (a || b) ≡ (a || (b || false))
or_none true b = refl
or_none false true = refl
or_none false false = refl

any_next : (t : Entry → Bool) (members : List (List ℕ)) (i : ℕ) (bytes : List ℕ) → slice_get members i ≡ Some bytes
    → list_any t (map entry_of (take (i + 1) members)) ≡ (list_any t (map entry_of (take i members)) || t (entry_of bytes))
any_next t members i bytes at =
    ap (list_any t) (take_next entry_of members i bytes at) ∙ list_any-append t (map entry_of (take i members)) (entry_of bytes ∷ [])
    ∙ sym (or_none (list_any t (map entry_of (take i members))) (t (entry_of bytes)))

pub named_next : (members : List (List ℕ)) (i : ℕ) (bytes : List ℕ) (preds old new : List UpdateId) → slice_get members i ≡ Some bytes → preds ≡ (entry_of bytes).preds
    → ((id : UpdateId) → has new id ≡ (has old id || has preds id)) → ((id : UpdateId) → has old id ≡ names (map entry_of (take i members)) id)
    → (id : UpdateId) → has new id ≡ names (map entry_of (take (i + 1) members)) id
named_next members i bytes preds old new at are grows so id =
    grows id ∙ ap (λ b. b || has preds id) (so id) ∙ ap (λ (ids : List UpdateId). names (map entry_of (take i members)) id || has ids id) are
    ∙ sym (any_next (λ e. has e.preds id) members i bytes at)

passed_over : (was held same calls : Bool) → was ≡ (held && not calls) → (same ≡ true → calls ≡ true) → was ≡ ((held || same) && not calls)
passed_over was held true calls so is = let all = is refl in so ∙ rw all (none held)
  where
    none : (b : Bool) → (b && false) ≡ ((b || true) && false)
    none true = refl
    none false = refl
passed_over was held false calls so is = so ∙ ap (λ b. b && not calls) (plain held)
  where
    plain : (b : Bool) → b ≡ (b || false)
    plain true = refl
    plain false = refl

taken_in : (new was held same calls : Bool) → new ≡ cond same true was → was ≡ (held && not calls) → (same ≡ true → calls ≡ false) → new ≡ ((held || same) && not calls)
taken_in new was held true calls grows so is = let none = is refl in grows ∙ rw none (all held)
  where
    all : (b : Bool) → true ≡ ((b || true) && true)
    all true = refl
    all false = refl
taken_in new was held false calls grows so is = grows ∙ so ∙ ap (λ b. b && not calls) (plain held)
  where
    plain : (b : Bool) → b ≡ (b || false)
    plain true = refl
    plain false = refl

module _ (members : List (List ℕ)) (i : ℕ) (bytes : List ℕ) (id : UpdateId) (old new : List UpdateId) (at : slice_get members i ≡ Some bytes) (is_id : id ≡ (entry_of bytes).id)
    (so : (q : UpdateId) → has old q ≡ (holds (map entry_of (take i members)) q && not (names (map entry_of members) q))) where
  same_names : (q : UpdateId) → same_id q (entry_of bytes).id ≡ true → names (map entry_of members) q ≡ names (map entry_of members) id
  same_names q same = ap (names (map entry_of members)) (id_from_same q (entry_of bytes).id same ∙ sym is_id)

  next : (q : UpdateId) → ((holds (map entry_of (take i members)) q || same_id q (entry_of bytes).id) && not (names (map entry_of members) q))
      ≡ (holds (map entry_of (take (i + 1) members)) q && not (names (map entry_of members) q))
  next q = ap (λ b. b && not (names (map entry_of members) q)) (sym (any_next (λ e. same_id q e.id) members i bytes at))

  pub named_is_none : names (map entry_of members) id ≡ true → (q : UpdateId) → has old q ≡ (holds (map entry_of (take (i + 1) members)) q && not (names (map entry_of members) q))
  named_is_none calls q =
      passed_over (has old q) (holds (map entry_of (take i members)) q) (same_id q (entry_of bytes).id) (names (map entry_of members) q) (so q) (λ same. same_names q same ∙ calls) ∙ next q

  pub unnamed_is_one : names (map entry_of members) id ≡ false → ((q : UpdateId) → has new q ≡ cond (same_id id q) true (has old q))
      → (q : UpdateId) → has new q ≡ (holds (map entry_of (take (i + 1) members)) q && not (names (map entry_of members) q))
  unnamed_is_one none grows q =
      taken_in (has new q) (has old q) (holds (map entry_of (take i members)) q) (same_id q (entry_of bytes).id) (names (map entry_of members) q)
      (grows q ∙ ap (λ b. cond b true (has old q)) (same_id-symm id q ∙ ap (same_id q) is_id)) (so q) (λ same. same_names q same ∙ none) ∙ next q

-- ---- ids taken into a set

put_in : (old new was taken same : Bool) → new ≡ cond same true old → old ≡ (was || taken) → new ≡ (was || (taken || (same || false)))
put_in old new was taken true e f = e ∙ all was taken
  where
    all : (a b : Bool) → true ≡ (a || (b || true))
    all true b = refl
    all false true = refl
    all false false = refl
put_in old new was taken false e f = e ∙ f ∙ ap (λ b. was || b) (none taken)
  where
    none : (b : Bool) → b ≡ (b || false)
    none true = refl
    none false = refl

pub id_put_in : (ids : List UpdateId) (i : ℕ) (d : UpdateId) (old new before : List UpdateId) (q : UpdateId) → i < length ids → has new q ≡ cond (same_id (get_or ids i d) q) true (has old q)
    → has old q ≡ (has before q || has (take i ids) q) → has new q ≡ (has before q || has (take (i + 1) ids) q)
id_put_in ids i d old new before q low grows so =
    put_in (has old q) (has new q) (has before q) (has (take i ids) q) (same_id (get_or ids i d) q) grows so
    ∙ ap (λ b. has before q || (has (take i ids) q || (b || false))) (same_id-symm (get_or ids i d) q)
    ∙ ap (λ b. has before q || b) (sym (ap (λ (xs : List UpdateId). has xs q) (take_more ids i d low) ∙ list_any-append (same_id q) (take i ids) (get_or ids i d ∷ [])))
