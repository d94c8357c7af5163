-- What adding to a graph answers and leaves.
use Rattle.std.specs.Prelude.{◌≡◌, ◌≢◌, ℕ, Bool, true, false, List, [], ◌∷◌, ◌++◌, length, All, Contains, Option, None, Some, Result, Ok, Err}
use Rattle.std.specs.declared.cmp.Ordering.TheVariants.{Greater}
use Rattle.update_model.specs.declared.update_id.UpdateId.{UpdateId}
use Rattle.update_model.specs.Entry.{Entry, id_cmp}
use Rattle.update_model.specs.Graph.{holds, position_of, lacking, is_within}
use Rattle.hash_graph.specs.declared.added.Added.{Added}
use Rattle.hash_graph.specs.declared.added.Added.TheVariants.{New, Known}
use Rattle.hash_graph.specs.declared.refusal.Refusal.{Refusal}
use Rattle.hash_graph.specs.declared.refusal.Refusal.TheVariants.{Lacks, Full, Memory}
use Rattle.hash_graph.specs.declared.refused.Refused.{Refused}

-- An id that is held comes first, then a predecessor that is not held, then a limit.
abbrev pub answer_by : Option ℕ → Option UpdateId → Bool → ℕ → Result Added Refusal
answer_by (Some position) lack fits len = Ok (Known position)
answer_by None (Some id) fits len = Err (Lacks id)
answer_by None None false len = Err Full
answer_by None None true len = Ok (New len)

-- what adding an entry to a graph answers, unless memory runs out
abbrev pub answer_of : List Entry → Entry → Result Added Refusal
answer_of graph e = answer_by (position_of graph e.id) (lacking graph e) (is_within (graph ++ e ∷ [])) (length graph)

-- The member would stand last.
abbrev pub IsNew : Result Added Refusal → Type 0
IsNew (Ok (New len)) = Unit {0}
IsNew (Ok (Known position)) = ⊥
IsNew (Err why) = ⊥

-- Where the answer is a refusal, this is its cause; memory may run out only for a member that would stand last.
abbrev pub IsRefusedBy : Refusal → Result Added Refusal → Type 0
IsRefusedBy (Lacks id) answer = answer ≡ Err (Lacks id)
IsRefusedBy Full answer = answer ≡ Err Full
IsRefusedBy Memory answer = IsNew answer

-- The call answered so, but that memory may run out for a member that would stand last.
abbrev pub Answers : {M : Type 0} → Result Added (Refused M) → Result Added Refusal → Type 0
Answers (Ok added) answer = answer ≡ Ok added
Answers (Err refused) answer = IsRefusedBy refused.why answer

-- A new member stands at the end, and nothing else changes.
abbrev pub list_after : {M : Type 0} → Result Added (Refused M) → List M → M → List M
list_after (Ok (New position)) members m = members ++ m ∷ []
list_after (Ok (Known position)) members m = members
list_after (Err refused) members m = members

-- The id is the least of the predecessors that are not held.
pub record IsLeastLacking (graph : List Entry) (e : Entry) (id : UpdateId) : Type 0 where
  pub named : Contains e.preds id
  pub lacks : holds graph id ≡ false
  pub least : All (λ p. holds graph p ≡ false → id_cmp id p ≢ Greater) e.preds

-- A refusal that names an id names the least one.
abbrev pub NamesLeast : List Entry → Entry → Refusal → Type 0
NamesLeast graph e (Lacks id) = IsLeastLacking graph e id
NamesLeast graph e Full = Unit {0}
NamesLeast graph e Memory = Unit {0}
