-- What an end sends is of its start set, and answers each need.
use Rattle.std.proofs.Common.{◌≡◌, inl, inr, ◌≤◌, Bool, true, List, [], ◌∷◌, length, map, find, Contains, Some, refl, sym, ap₂, arith}
use Rattle.std.specs.List.{AllByRecursion}
use Rattle.update_model.specs.declared.update_id.UpdateId.{UpdateId}
use Rattle.update_model.specs.Entry.{Entry, same_id}
use Rattle.update_model.specs.Graph.{holds}
use Rattle.update_model.proofs.Ids.{id_from_same}
use Rattle.update_model.specs.Since.{Picks}
use Rattle.session_rules.specs.Burst.{IsBurst}
use Rattle.session_rules.specs.Steps.{answers}
use Rattle.session_rules.proofs.Words.{first_member, later_member, each_weaker, each_member, is_either}
use Rattle.session_rules.proofs.Held.{Within}

pub picks_within : {X : Type 0} (P : X → Type 0) (xs out : List X) → Picks P xs out → AllByRecursion (Contains xs) out
picks_within P [] out is = rw is tt
picks_within P (x ∷ xs) out (inl k) =
    rw k.1.1 (first_member x xs, each_weaker (Contains xs) (Contains (x ∷ xs)) (λ e c. later_member x xs e c) k.1.0 (picks_within P xs k.1.0 k.1.2))
picks_within P (x ∷ xs) out (inr k) = each_weaker (Contains xs) (Contains (x ∷ xs)) (λ e c. later_member x xs e c) out (picks_within P xs out k.1)

pub picks_few : {X : Type 0} (P : X → Type 0) (xs out : List X) → Picks P xs out → length out ≤ length xs
picks_few P [] out is = rw is (omega arith)
picks_few P (x ∷ xs) out (inl k) = let rest = picks_few P xs k.1.0 k.1.2 in rw k.1.1 (omega arith)
picks_few P (x ∷ xs) out (inr k) = let rest = picks_few P xs out k.1 in omega arith

pub burst_within : (graph : List Entry) (old : List UpdateId) (known : UpdateId → Bool) (burst : List Entry) → IsBurst graph old known burst → Within graph burst
burst_within graph old known burst b = trans graph b.0 burst (picks_within _ graph b.0 b.1) (picks_within _ b.0 burst b.2)
  where
    trans : (xs ys zs : List Entry) → Within xs ys → Within ys zs → Within xs zs
    trans xs ys zs p q = each_weaker (Contains ys) (Contains xs) (λ e c. each_member (Contains xs) ys e p c) zs q

pub burst_few : (graph : List Entry) (old : List UpdateId) (known : UpdateId → Bool) (burst : List Entry) → IsBurst graph old known burst → length burst ≤ length graph
burst_few graph old known burst b = let one = picks_few _ graph b.0 b.1 in let two = picks_few _ b.0 burst b.2 in omega arith

pub found_first : (start : List Entry) (id : UpdateId) → holds start id ≡ true → (e : Entry) × (find (λ e. same_id id e.id) start ≡ Some e) × Contains start e × (e.id ≡ id)
found_first [] id h = absurd cc
found_first (x ∷ xs) id h = elim (is_either (same_id id x.id)) [
  | inl here ↦ (x, rw here refl, first_member x xs, sym (id_from_same id x.id here))
  | inr not_here ↦
      let rest : holds xs id ≡ true = rw not_here at h in
      let w = found_first xs id rest in
      (w.0, rw not_here w.1, later_member x xs w.0 w.2, w.3)
]

-- each need is answered, in order
pub answers_ids : (start : List Entry) (needs : List UpdateId) → AllByRecursion (λ id. holds start id ≡ true) needs → map (λ e. e.id) (answers start needs) ≡ needs
answers_ids start [] all = refl
answers_ids start (id ∷ ids) all = let w = found_first start id all.0 in let rest = answers_ids start ids all.1 in rw w.1 (ap₂ (λ (i : UpdateId) is. i ∷ is) w.3 rest)

pub answers_within : (start : List Entry) (needs : List UpdateId) → AllByRecursion (λ id. holds start id ≡ true) needs → Within start (answers start needs)
answers_within start [] all = tt
answers_within start (id ∷ ids) all = let w = found_first start id all.0 in rw w.1 (w.2, answers_within start ids all.1)
