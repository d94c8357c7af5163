-- Who waits after a batch was added.
use Rattle.std.proofs.Common.{◌≡◌, ◌≢◌, inl, inr, ℕ, Bool, true, false, cond, not, zero, suc, List, [], ◌∷◌, ◌++◌, Option, Some, None, map, refl, sym, ap, subst, ◌∙◌, append-nil, arith}
use Rattle.std.specs.Prelude.{Contains, filter}
use Rattle.std.specs.List.{slice_get, AllByRecursion}
use Rattle.std.proofs.lemmas.Option.{slice_get-get_or}
use Rattle.std.proofs.lemmas.List.{length-map, map-append}
use Rattle.update_model.specs.Batch.{not_held}
use Rattle.update_model.specs.Entry.{Entry}
use Rattle.update_model.specs.Graph.{holds, lacking, IsClosed, Follows}
use Rattle.update_model.proofs.Closed.{Follows-split}
use Rattle.ready_batch.specs.Ready.{AddsReady}
use Rattle.ready_batch.specs.Steps.{left_at, AreSlots, AllStuck, kept_of, kept_if}
use Rattle.ready_batch.proofs.Elements.{none_there, first_there, later_there, each_map, contains_filter_back, map_filter}
use Rattle.ready_batch.proofs.Holding.{lacks_one}

by_bool : {M : Type 0} (b : Bool) (m : M) (rest : List M) → kept_if b m rest ≡ cond (not b) (m ∷ rest) rest
by_bool true m rest = refl
by_bool false m rest = refl

-- what waits is what is not held
pub kept_rest : {M : Type 0} (entry : M → Entry) (graph : List Entry) (batch : List M) (slots : List (Option M)) → AreSlots entry graph batch slots
    → kept_of entry graph slots ≡ filter (λ m. not (holds graph (entry m).id)) batch
kept_rest entry graph [] [] are = refl
kept_rest entry graph [] (s ∷ slots) are = absurd (omega (arith, are.long))
kept_rest entry graph (m ∷ batch) [] are = absurd (omega (arith, are.long))
kept_rest {M} entry graph (m ∷ batch) (s ∷ slots) are =
    let others = filter (λ x. not (holds graph (entry x).id)) batch in
    let rest = kept_rest entry graph batch slots (record { long = omega (arith, are.long); each = λ i x at. are.each (suc i) x at }) in
    elim (are.each 0 m refl) [
      | inl is ↦ ap (λ (o : Option M). kept_of entry graph (o ∷ slots)) is ∙ ap (kept_if (holds graph (entry m).id) m) rest ∙ by_bool (holds graph (entry m).id) m others
      | inr gone ↦ ap (λ (o : Option M). kept_of entry graph (o ∷ slots)) gone.0 ∙ rest ∙ ap (λ (b : Bool). cond (not b) (m ∷ others) others) (sym gone.1)
    ]

at_first : {M : Type 0} (batch : List M) (i : ℕ) (m : M) → slice_get batch i ≡ Some m → left_at (map Some batch) i ≡ Some m
at_first [] i m at = absurd (cc)
at_first (x ∷ batch) zero m at = at
at_first (x ∷ batch) (suc i) m at = at_first batch i m at

-- at first each member is at its place
pub first_slots : {M : Type 0} (entry : M → Entry) (graph : List Entry) (batch : List M) → AreSlots entry graph batch (map Some batch)
first_slots entry graph batch = record { long = length-map batch Some; each = λ i m at. inl (at_first batch i m at) }

-- at the end whoever is not held lacks a predecessor
pub all_lack : {M : Type 0} (entry : M → Entry) (after : List Entry) (batch : List M) (slots : List (Option M)) → AreSlots entry after batch slots → AllStuck entry after batch slots
    → (m : M) → Contains batch m → holds after (entry m).id ≡ false → lacking after (entry m) ≢ None
all_lack entry after batch slots are stuck m c lacks =
    let at = slice_get-get_or batch c.0 m c.1 ∙ ap Some c.2 in
    elim (stuck.1 c.0 m at) [
      | inl gone ↦ elim (are.each c.0 m at) [
        | inl there ↦ absurd (cc)
        | inr went ↦ absurd (let held = went.1 in cc)
      ]
      | inr waits ↦ elim waits [
        | inl none ↦ absurd (none_there c.0 none)
        | inr is ↦ lacks_one after (entry m) is.id is.named is.lacks
      ]
    ]

lacks_from_not : (b : Bool) → not b ≡ true → b ≡ false
lacks_from_not true h = absurd cc
lacks_from_not false h = refl

each_waits : {M : Type 0} (entry : M → Entry) (P : Entry → Type 0) (xs : List M) → ((m : M) → Contains xs m → P (entry m)) → AllByRecursion P (map entry xs)
each_waits entry P [] f = tt
each_waits entry P (x ∷ xs) f = (f x (first_there x xs), each_waits entry P xs (λ m c. f m (later_there x xs m c)))

-- all of it together
pub adds_ready : {M : Type 0} (entry : M → Entry) (before batch after waiting added : List M) (slots : List (Option M)) → AreSlots entry (map entry after) batch slots → AllStuck entry (map entry after) batch slots
    → IsClosed (map entry after) → after ≡ before ++ added → AllByRecursion (Contains batch) added → waiting ≡ kept_of entry (map entry after) slots → AddsReady entry before batch after waiting
adds_ready {M} entry before batch after waiting added slots are stuck closed behind from is = record {
  added = added;
  behind = behind;
  from = from;
  adds = record {
    from = each_map entry batch added from;
    next = Follows-split [] (map entry before) (map entry added) (subst (Follows []) graph closed);
    rest = subst (λ (l : List Entry). map entry waiting ≡ not_held l (map entry batch)) graph
        (ap (map entry) rest ∙ map_filter entry (λ e. not (holds (map entry after) e.id)) batch);
    stuck = subst (λ (l : List Entry). AllByRecursion (λ e. lacking l e ≢ None) (map entry waiting)) graph
        (each_waits entry (λ e. lacking (map entry after) e ≢ None) waiting lacks);
  };
  rest = rest;
}
  where
    graph : map entry after ≡ map entry before ++ map entry added
    graph = ap (map entry) behind ∙ map-append entry before added

    rest : waiting ≡ filter (λ m. not (holds (map entry after) (entry m).id)) batch
    rest = is ∙ kept_rest entry (map entry after) batch slots are

    lacks : (m : M) → Contains waiting m → lacking (map entry after) (entry m) ≢ None
    lacks m c =
        let there = contains_filter_back (λ (x : M). not (holds (map entry after) (entry x).id)) batch m (subst (λ (l : List M). Contains l m) rest c) in
        all_lack entry (map entry after) batch slots are stuck m there.0 (lacks_from_not (holds (map entry after) (entry m).id) there.1)

kept_if-append : {M : Type 0} (b : Bool) (m : M) (xs ys zs : List M) → zs ≡ xs ++ ys → kept_if b m zs ≡ kept_if b m xs ++ ys
kept_if-append true m xs ys zs e = e
kept_if-append false m xs ys zs e = ap (λ l. m ∷ l) e

pub kept_of-append : {M : Type 0} (entry : M → Entry) (graph : List Entry) (xs ys : List (Option M)) → kept_of entry graph (xs ++ ys) ≡ kept_of entry graph xs ++ kept_of entry graph ys
kept_of-append entry graph [] ys = refl
kept_of-append entry graph (None ∷ xs) ys = kept_of-append entry graph xs ys
kept_of-append entry graph (Some m ∷ xs) ys =
    kept_if-append (holds graph (entry m).id) m (kept_of entry graph xs) (kept_of entry graph ys) (kept_of entry graph (xs ++ ys)) (kept_of-append entry graph xs ys)

-- one more slot, and what is kept of it
pub kept_one : {M : Type 0} (entry : M → Entry) (graph : List Entry) (xs : List (Option M)) (slot : Option M) (m : M) (b : Bool) → slot ≡ Some m → holds graph (entry m).id ≡ b
    → kept_of entry graph (xs ++ slot ∷ []) ≡ kept_of entry graph xs ++ kept_if b m []
kept_one {M} entry graph xs slot m b is held =
    kept_of-append entry graph xs (slot ∷ []) ∙ ap (λ (o : Option M). kept_of entry graph xs ++ kept_of entry graph (o ∷ [])) is ∙ ap (λ (c : Bool). kept_of entry graph xs ++ kept_if c m []) held

pub kept_none : {M : Type 0} (entry : M → Entry) (graph : List Entry) (xs : List (Option M)) (slot : Option M) → slot ≡ None → kept_of entry graph (xs ++ slot ∷ []) ≡ kept_of entry graph xs
kept_none {M} entry graph xs slot is =
    kept_of-append entry graph xs (slot ∷ []) ∙ ap (λ (o : Option M). kept_of entry graph xs ++ kept_of entry graph (o ∷ [])) is ∙ append-nil (kept_of entry graph xs)
