-- Taking an update into a store by itself.
use Rattle.std.proofs.Common.{◌≡◌, Err, inl, inr, ℕ, zero, suc, arith, true, false, List, [], ◌∷◌, ◌++◌, map, refl, sym, ap, subst, ◌∙◌, append-nil, Option, Some, None}
use Rattle.std.specs.Prelude.{Contains, is_some}
use Rattle.std.specs.List.{AllByRecursion}
use Rattle.std.proofs.lemmas.Bool.{true≢false}
use Rattle.std.proofs.lemmas.List.{map-append}
use Rattle.update_model.specs.Batch.{Adds as AddsOf, IsTooMuch, not_held, store_limits}
use Rattle.update_model.specs.Entry.{Entry}
use Rattle.update_model.specs.Graph.{IsNext, holds, is_within, lacking, position_of}
use Rattle.update_model.specs.declared.update_id.UpdateId.{UpdateId}
use Rattle.update_model.proofs.Closed.{IsNext-from_tests, position_of-held}
use Rattle.update_codec.specs.Parts.{entry_of}
use Rattle.update_check.specs.Holding.{Commits, IsAdded}
use Rattle.update_check.specs.declared.holder.CommitFault.{CommitFault}
use Rattle.update_check.specs.declared.holder.CommitFault.TheVariants.{DiskFault, Full, Memory}
use Rattle.update_check.specs.declared.holder.Committed.{Committed}
use Rattle.update_stream.specs.Steps.{Adds}
use Rattle.update_stream.specs.Stream.{LacksPredecessor, PassesLimit}
use Rattle.ready_batch.proofs.Holding.{holds_last, lacks_none}
use Rattle.watch_command.specs.Records.{StopsTaking}
use Rattle.watch_command.specs.Refusals.{not_added}

-- an update that is held is known
pub known : (members : List (List ℕ)) (bytes : List ℕ) → is_some (position_of (map entry_of members) (entry_of bytes).id) ≡ true → Adds members bytes members
known members bytes found = inl (sym (position_of-held (map entry_of members) (entry_of bytes).id) ∙ found, refl)

none_of : (o : Option ℕ) → is_some o ≡ false → o ≡ None
none_of None e = refl
none_of (Some k) e = absurd (true≢false e)

-- one that is not, and of which nothing is lacking, is the next
pub next : (members : List (List ℕ)) (bytes : List ℕ) → is_some (position_of (map entry_of members) (entry_of bytes).id) ≡ false → lacking (map entry_of members) (entry_of bytes) ≡ None
    → IsNext (map entry_of members) (entry_of bytes)
next members bytes new none = IsNext-from_tests (map entry_of members) (entry_of bytes) (none_of (position_of (map entry_of members) (entry_of bytes).id) new) none

pub lacks : (members : List (List ℕ)) (bytes : List ℕ) (id : UpdateId) → is_some (position_of (map entry_of members) (entry_of bytes).id) ≡ false → lacking (map entry_of members) (entry_of bytes) ≡ Some id
    → LacksPredecessor (map entry_of members) (entry_of bytes) id
lacks members bytes id new first = record { new = sym (position_of-held (map entry_of members) (entry_of bytes).id) ∙ new; first = first }

-- the only one of a list
one_alone : {X : Type 0} (x y : X) → Contains (x ∷ []) y → y ≡ x
one_alone x y (zero, lt, is) = sym is
one_alone x y (suc k, lt, is) = absurd (omega (arith, lt))

not_held_one : (graph : List Entry) (e : Entry) → holds graph e.id ≡ false → not_held graph (e ∷ []) ≡ e ∷ []
not_held_one graph e new = rw new refl

-- A batch of one that is the next adds it, and nothing else.
one_added : (graph added waiting : List Entry) (e : Entry) → IsNext graph e → AddsOf graph (e ∷ []) added waiting → added ≡ e ∷ []
one_added graph [] waiting e is adds = absurd (stuck waiting (adds.rest ∙ ap (λ (g : List Entry). not_held g (e ∷ [])) (append-nil graph) ∙ not_held_one graph e is.new) adds.stuck)
  where
    stuck : (waiting : List Entry) → waiting ≡ e ∷ [] → AllByRecursion (λ x. lacking (graph ++ []) x ≡ None → ⊥) waiting → ⊥
    stuck waiting are each =
        let lack : (lacking (graph ++ []) e ≡ None → ⊥) × Unit {0} = subst (AllByRecursion (λ x. lacking (graph ++ []) x ≡ None → ⊥)) are each in
        lack.0 (ap (λ (g : List Entry). lacking g e) (append-nil graph) ∙ lacks_none graph e is.preds)
one_added graph (x ∷ []) waiting e is adds = ap (λ (y : Entry). y ∷ []) (one_alone e x adds.from.0)
one_added graph (x ∷ y ∷ more) waiting e is adds =
    let first : x ≡ e = one_alone e x adds.from.0 in
    let second : y ≡ e = one_alone e y adds.from.1.0 in
    let again : holds (graph ++ x ∷ []) y.id ≡ false = adds.next.1.0.new in
    let twice : holds (graph ++ e ∷ []) e.id ≡ false = subst (λ (z : Entry). holds (graph ++ z ∷ []) e.id ≡ false) first (subst (λ (z : Entry). holds (graph ++ x ∷ []) z.id ≡ false) second again) in
    absurd (true≢false (sym (holds_last graph e) ∙ twice))

-- members whose entries are those of one are it
entries_of_one : (added : List (List ℕ)) (bytes : List ℕ) → map entry_of added ≡ entry_of bytes ∷ [] → added ≡ bytes ∷ []
entries_of_one [] bytes is = absurd cc
entries_of_one (x ∷ []) bytes is = let same : entry_of x ≡ entry_of bytes = cc in ap (λ (e : Entry). e.bytes ∷ []) same
entries_of_one (x ∷ y ∷ more) bytes is = absurd cc

-- what a batch of one that is the next comes to
pub committed : (members : List (List ℕ)) (bytes : List ℕ) (done : Committed) (after : List (List ℕ)) → IsNext (map entry_of members) (entry_of bytes)
    → IsAdded store_limits members (bytes ∷ []) done after → Adds members bytes after
committed members bytes done after is added =
    let alone : added.added ≡ bytes ∷ [] = entries_of_one added.added bytes (one_added (map entry_of members) (map entry_of added.added) (map entry_of done.waiting) (entry_of bytes) is added.adds) in
    let behind : after ≡ members ++ bytes ∷ [] = added.behind ∙ ap (λ (l : List (List ℕ)). members ++ l) alone in
    inr (is, ap is_within (sym (map-append entry_of members (bytes ∷ [])) ∙ ap (map entry_of) (sym behind)) ∙ added.fit, behind)

too_much : (members : List (List ℕ)) (bytes : List ℕ) → IsNext (map entry_of members) (entry_of bytes) → IsTooMuch store_limits (map entry_of members) (entry_of bytes ∷ [])
    → PassesLimit (map entry_of members) (entry_of bytes)
too_much members bytes is much = record {
  new = is.new;
  preds = lacks_none (map entry_of members) (entry_of bytes) is.preds;
  over = subst (λ (l : List Entry). is_within (map entry_of members ++ l) ≡ false) (one_added (map entry_of members) much.added much.waiting (entry_of bytes) is much.adds) much.passes;
}

module _ (members : List (List ℕ)) (bytes : List ℕ) (after : List (List ℕ)) (old new : ℕ) where
  -- why it is not added
  pub not_taken : (number : ℕ) (fault : CommitFault) → IsNext (map entry_of members) (entry_of bytes) → Commits store_limits members (bytes ∷ []) (Err fault) old new after
      → StopsTaking members number bytes old new (not_added number fault)
  not_taken number Full is much = (refl, too_much members bytes is much.0)
  not_taken number DiskFault is rose = (rose.0, is)
  not_taken number Memory is same = tt

  -- and the list is as it was
  pub not_changed : (batch : List (List ℕ)) (fault : CommitFault) → Commits store_limits members batch (Err fault) old new after → after ≡ members
  not_changed batch Full much = much.1
  not_changed batch DiskFault rose = rose.1
  not_changed batch Memory same = same
