-- What was added of a batch so far can be completed: member by member, while one of the rest lacks nothing.
use Rattle.std.proofs.Common.{◌≡◌, ◌≢◌, ◌⊎◌, inl, inr, ℕ, ◌+◌, ◌<◌, ◌≤◌, zero, suc, Bool, true, false, not, ◌&&◌, List, [], ◌∷◌, ◌++◌, length, map, None, refl, sym, ap, subst, ◌∙◌, append_assoc, length-append, arith}
use Rattle.std.specs.Prelude.{Contains, nat_le}
use Rattle.std.specs.List.{AllByRecursion}
use Rattle.std.proofs.lemmas.Bool.Decides.{nat_tests}
use Rattle.std.proofs.lemmas.List.{map-append}
use Rattle.std.proofs.lemmas.List.Elements.{All-from_recursion}
use Rattle.std.proofs.lemmas.List.Sums.{sum_by_push}
use Rattle.update_model.specs.Batch.{Limits, store_limits, fits, not_held, IsTooMuch}
use Rattle.update_model.specs.Entry.{Entry}
use Rattle.update_model.specs.Graph.{holds, lacking, byte_count, IsNext, Follows}
use Rattle.update_model.proofs.Closed.{all_pass, Follows-push, Follows-split}
use Rattle.ready_batch.specs.Steps.{IsOver}
use Rattle.ready_batch.proofs.Elements.{first_there, later_there, each_push, each_map, contains_map, contains_filter_back, filter_fewer}
use Rattle.ready_batch.proofs.Holding.{true_or_false, holds_more, holds_last, none_or_some}

-- one member that lacks nothing, where there is one
lacking_or_next : (graph waiting : List Entry) → AllByRecursion (λ e. lacking graph e ≢ None) waiting ⊎ ((e : Entry) × Contains waiting e × (lacking graph e ≡ None))
lacking_or_next graph [] = inl tt
lacking_or_next graph (e ∷ waiting) = elim (none_or_some (lacking graph e)) [
  | inl none ↦ inr (e, first_there e waiting, none)
  | inr some ↦ elim (lacking_or_next graph waiting) [
    | inl rest ↦ inl (some, rest)
    | inr found ↦ inr (found.0, later_there e waiting found.0 found.1, found.2)
  ]
]

-- fewer wait once one of them is added
fewer_wait : (graph batch : List Entry) (e : Entry) → Contains batch e → holds graph e.id ≡ false → length (not_held (graph ++ e ∷ []) batch) < length (not_held graph batch)
fewer_wait graph batch e c lacks =
    filter_fewer (λ (x : Entry). not (holds graph x.id)) (λ (x : Entry). not (holds (graph ++ e ∷ []) x.id)) batch e less c (ap not lacks) (ap not (holds_last graph e))
  where
    less : (x : Entry) → not (holds (graph ++ e ∷ []) x.id) ≡ true → not (holds graph x.id) ≡ true
    less x none = elim (true_or_false (holds graph x.id)) [
      | inl held ↦ absurd (let still = holds_more graph (e ∷ []) x.id held in let none_there : not true ≡ true = sym (ap not still) ∙ none in cc)
      | inr lacks_it ↦ ap not lacks_it
    ]

-- one more does not make a list fit
passes_more : (a b c d p q : ℕ) → a ≤ b → c ≤ d → (nat_le a p && nat_le c q) ≡ false → (nat_le b p && nat_le d q) ≡ false
passes_more a b c d p q more larger passes = grind (arith, nat_tests)

passes_push : (limits : Limits) (graph : List Entry) (e : Entry) → fits limits graph ≡ false → fits limits (graph ++ e ∷ []) ≡ false
passes_push limits graph e passes =
    let count : byte_count (graph ++ e ∷ []) ≡ byte_count graph + length e.bytes = sum_by_push (λ (x : Entry). length x.bytes) graph e in
    passes_more (length graph) (length (graph ++ e ∷ [])) (byte_count graph) (byte_count (graph ++ e ∷ [])) limits.updates limits.bytes
    (omega (arith, length-append graph (e ∷ []))) (omega (arith, count)) passes

-- a member that is new and lacks nothing stands next
next_from_tests : (graph : List Entry) (e : Entry) → holds graph e.id ≡ false → lacking graph e ≡ None → IsNext graph e
next_from_tests graph e new none = record {
  new = new;
  preds = All-from_recursion (λ p. holds graph p ≡ true) e.preds (all_pass (holds graph) e.preds none);
}

-- What passes a limit already is too much, whatever more there is to add: `n` bounds how many wait.
complete : (n : ℕ) (limits : Limits) (before batch added : List Entry) → AllByRecursion (Contains batch) added → Follows before added → fits limits (before ++ added) ≡ false
    → length (not_held (before ++ added) batch) ≤ n → IsTooMuch limits before batch
complete zero limits before batch added from next passes few = elim (lacking_or_next (before ++ added) (not_held (before ++ added) batch)) [
  | inl stuck ↦ record {
    added = added;
    waiting = not_held (before ++ added) batch;
    adds = record { from = from; next = next; rest = refl; stuck = stuck };
    passes = passes;
  }
  | inr found ↦ absurd (let lt = found.1.1 in omega arith)
]
complete (suc n) limits before batch added from next passes few = elim (lacking_or_next (before ++ added) (not_held (before ++ added) batch)) [
  | inl stuck ↦ record {
    added = added;
    waiting = not_held (before ++ added) batch;
    adds = record { from = from; next = next; rest = refl; stuck = stuck };
    passes = passes;
  }
  | inr found ↦
      let graph = before ++ added in
      let e = found.0 in
      let waits = contains_filter_back (λ (x : Entry). not (holds graph x.id)) batch e found.1 in
      let new = lacks_from_not (holds graph e.id) waits.1 in
      let longer : before ++ (added ++ e ∷ []) ≡ graph ++ e ∷ [] = sym (append_assoc before added (e ∷ [])) in
      let fewer = fewer_wait graph batch e waits.0 new in
      complete n limits before batch (added ++ e ∷ []) (each_push (Contains batch) added e from waits.0) (Follows-push before added e next (next_from_tests graph e new found.2))
      (subst (λ (l : List Entry). fits limits l ≡ false) (sym longer) (passes_push limits graph e passes))
      (subst (λ (l : List Entry). length (not_held l batch) ≤ n) (sym longer) (omega arith))
]
  where
    lacks_from_not : (b : Bool) → not b ≡ true → b ≡ false
    lacks_from_not true h = absurd cc
    lacks_from_not false h = refl

-- A member of the batch that may stand next but for a limit shows that all of the batch is too much.
pub too_much : {M : Type 0} (entry : M → Entry) (before batch added : List M) (m : M) → AllByRecursion (Contains batch) added → Contains batch m
    → IsOver (map entry (before ++ added)) (entry m) → IsTooMuch store_limits (map entry before) (map entry batch)
too_much entry before batch added m from c over =
    let front = map entry before in
    let new = map entry added in
    let graph : map entry (before ++ added) ≡ front ++ new = map-append entry before added in
    let closed = subst (Follows []) graph over.closed in
    let next = subst (λ (l : List Entry). IsNext l (entry m)) graph over.next in
    let passes = subst (λ (l : List Entry). fits store_limits (l ++ entry m ∷ []) ≡ false) graph over.passes in
    complete (length (not_held (front ++ (new ++ entry m ∷ [])) (map entry batch))) store_limits front (map entry batch) (new ++ entry m ∷ [])
    (each_push (Contains (map entry batch)) new (entry m) (each_map entry batch added from) (contains_map entry batch m c))
    (Follows-push front new (entry m) (Follows-split [] front new closed) next)
    (subst (λ (l : List Entry). fits store_limits l ≡ false) (append_assoc front new (entry m ∷ [])) passes)
    (omega arith)
