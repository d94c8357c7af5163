-- What taking a record does.
use Rattle.std.proofs.Common.{◌≡◌, inl, inr, ℕ, Bool, true, false, List, [], ◌∷◌, ◌++◌, length, refl, sym, ap, ◌∙◌, map, Option, Some, None, Result, Ok, Err, IfOk, IfSome, OnErr}
use Rattle.std.specs.Option.{is_some}
use Rattle.update_model.specs.declared.update_id.UpdateId.{UpdateId}
use Rattle.update_model.specs.Entry.{Entry}
use Rattle.update_model.specs.Graph.{holds, position_of, lacking, is_within}
use Rattle.update_model.proofs.Closed.{position_of-held, IsNext-from_tests}
use Rattle.update_codec.specs.Parts.{entry_of}
use Rattle.hash_graph.specs.declared.added.Added.{Added}
use Rattle.hash_graph.specs.declared.added.Added.TheVariants.{New, Known}
use Rattle.hash_graph.specs.declared.refusal.Refusal.{Refusal}
use Rattle.hash_graph.specs.declared.refusal.Refusal.TheVariants.{Lacks, Full, Memory}
use Rattle.hash_graph.specs.Answer.{IsNew, IsRefusedBy, answer_by, answer_of, list_after}
use Rattle.update_model.specs.Rule.{RuleData}
use Rattle.update_check.specs.Signed.{IsChecked}
use Rattle.update_stream.specs.Faults.{not_added}
use Rattle.update_stream.specs.Stream.{LacksPredecessor, PassesLimit}
use Rattle.update_stream.specs.Steps.{Adds, Takes}

-- what stands at a position is held, and what stands at none is not
held_at : (graph : List Entry) (id : UpdateId) (k : ℕ) → position_of graph id ≡ Some k → holds graph id ≡ true
held_at graph id k e = sym (position_of-held graph id) ∙ ap is_some e

pub not_held : (graph : List Entry) (id : UpdateId) → position_of graph id ≡ None → holds graph id ≡ false
not_held graph id e = sym (position_of-held graph id) ∙ ap is_some e

-- a member that is known changes nothing, and a new one stands last
pub adds : (members : List (List ℕ)) (r : List ℕ) (after : List (List ℕ)) (added : Added) → answer_of (map entry_of members) (entry_of r) ≡ Ok added
    → after ≡ list_after {M = List ℕ} (Ok added) members r → Adds members r after
adds members r after added e l =
    by_case (position_of (map entry_of members) (entry_of r).id) (lacking (map entry_of members) (entry_of r)) (is_within (map entry_of members ++ entry_of r ∷ [])) refl refl refl added e l
  where
    by_case : (p : Option ℕ) (lack : Option UpdateId) (fits : Bool) → position_of (map entry_of members) (entry_of r).id ≡ p → lacking (map entry_of members) (entry_of r) ≡ lack
        → is_within (map entry_of members ++ entry_of r ∷ []) ≡ fits → (a : Added) → answer_by p lack fits (length (map entry_of members)) ≡ Ok a
        → after ≡ list_after {M = List ℕ} (Ok a) members r → Adds members r after
    by_case (Some k) lack fits at_p at_l at_f (Known n) e l = inl (held_at (map entry_of members) (entry_of r).id k at_p, l)
    by_case (Some k) lack fits at_p at_l at_f (New n) e l = absurd cc
    by_case None (Some id) fits at_p at_l at_f a e l = absurd cc
    by_case None None false at_p at_l at_f a e l = absurd cc
    by_case None None true at_p at_l at_f (Known n) e l = absurd cc
    by_case None None true at_p at_l at_f (New n) e l = inr (IsNext-from_tests (map entry_of members) (entry_of r) at_p at_l, at_f, l)

pub lacks : (graph : List Entry) (e : Entry) (id : UpdateId) → answer_of graph e ≡ Err (Lacks id) → LacksPredecessor graph e id
lacks graph e id a = by_case (position_of graph e.id) (lacking graph e) (is_within (graph ++ e ∷ [])) refl refl a
  where
    by_case : (p : Option ℕ) (lack : Option UpdateId) (fits : Bool) → position_of graph e.id ≡ p → lacking graph e ≡ lack
        → answer_by p lack fits (length graph) ≡ Err (Lacks id) → LacksPredecessor graph e id
    by_case (Some k) lack fits at_p at_l a = absurd cc
    by_case None (Some other) fits at_p at_l a = let same : other ≡ id = cc in record { new = not_held graph e.id at_p; first = at_l ∙ ap Some same }
    by_case None None false at_p at_l a = absurd cc
    by_case None None true at_p at_l a = absurd cc

pub passes : (graph : List Entry) (e : Entry) → answer_of graph e ≡ Err Full → PassesLimit graph e
passes graph e a = by_case (position_of graph e.id) (lacking graph e) (is_within (graph ++ e ∷ [])) refl refl refl a
  where
    by_case : (p : Option ℕ) (lack : Option UpdateId) (fits : Bool) → position_of graph e.id ≡ p → lacking graph e ≡ lack → is_within (graph ++ e ∷ []) ≡ fits
        → answer_by p lack fits (length graph) ≡ Err Full → PassesLimit graph e
    by_case (Some k) lack fits at_p at_l at_f a = absurd cc
    by_case None (Some other) fits at_p at_l at_f a = absurd cc
    by_case None None false at_p at_l at_f a = record { new = not_held graph e.id at_p; preds = at_l; over = at_f }
    by_case None None true at_p at_l at_f a = absurd cc

-- why a graph does not take an update is the fault of its record
pub takes_fault : (members : List (List ℕ)) (r : List ℕ) (after : List (List ℕ)) (why : Refusal) → IsRefusedBy why (answer_of (map entry_of members) (entry_of r))
    → IfOk (not_added why) (λ fault. (rule : RuleData) → IsChecked rule r → Takes rule members r after fault)
takes_fault members r after (Lacks id) is = λ rule checked. (checked, lacks (map entry_of members) (entry_of r) id is)
takes_fault members r after Full is = λ rule checked. (checked, passes (map entry_of members) (entry_of r) is)
takes_fault members r after Memory is = tt

-- memory runs out only for a member that would stand last
pub lacks_memory : (why : Refusal) (answer : Result Added Refusal) → IsRefusedBy why answer → OnErr (not_added why) (IsNew answer)
lacks_memory (Lacks id) answer is = tt
lacks_memory Full answer is = tt
lacks_memory Memory answer is = is

pub if_fault : {T E P : Type 0} (result : Result (Option T) E) → P → IfOk result (λ fault. IfSome fault (λ _. P))
if_fault (Ok None) is = tt
if_fault (Ok (Some fault)) is = is
if_fault (Err e) is = tt
