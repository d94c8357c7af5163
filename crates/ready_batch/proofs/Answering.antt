-- What an answer of `Graph::add` says of the member.
use Rattle.std.proofs.Common.{◌≡◌, ℕ, Bool, true, false, not, List, [], ◌∷◌, ◌++◌, length, get_or, ◌<◌, Some, None, refl, sym, ap, ◌∙◌}
use Rattle.std.specs.Prelude.{is_some, Ok, Err}
use Rattle.std.specs.List.{slice_get}
use Rattle.std.proofs.lemmas.Option.{slice_get-get_or}
use Rattle.std.specs.declared.option.Option.{Option}
use Rattle.update_model.specs.declared.update_id.UpdateId.{UpdateId}
use Rattle.update_model.specs.Entry.{Entry}
use Rattle.update_model.specs.Graph.{holds, lacking, position_of, is_within, IsClosed}
use Rattle.update_model.proofs.Closed.{position_of-held, IsNext-from_tests}
use Rattle.hash_graph.specs.Answer.{answer_by, answer_of}
use Rattle.hash_graph.specs.declared.added.Added.TheVariants.{Known}
use Rattle.hash_graph.specs.declared.refusal.Refusal.TheVariants.{Full}
use Rattle.ready_batch.specs.Steps.{IsOver}

known_by : (o : Option ℕ) (lack : Option UpdateId) (fits : Bool) (len p : ℕ) → answer_by o lack fits len ≡ Ok (Known p) → is_some o ≡ true
known_by (Some position) lack fits len p e = refl
known_by None (Some id) fits len p e = absurd cc
known_by None None false len p e = absurd cc
known_by None None true len p e = absurd cc

-- whoever is known is held
pub known_held : (graph : List Entry) (e : Entry) (p : ℕ) → answer_of graph e ≡ Ok (Known p) → holds graph e.id ≡ true
known_held graph e p answer =
    sym (position_of-held graph e.id) ∙ known_by (position_of graph e.id) (lacking graph e) (is_within (graph ++ e ∷ [])) _ p answer

full_by : (o : Option ℕ) (lack : Option UpdateId) (fits : Bool) (len : ℕ) → answer_by o lack fits len ≡ Err Full → (o ≡ None) × (lack ≡ None) × (fits ≡ false)
full_by (Some position) lack fits len e = absurd cc
full_by None (Some id) fits len e = absurd cc
full_by None None false len e = (refl, refl, refl)
full_by None None true len e = absurd cc

-- where the graph is full for a member, this one may stand next, but for a limit
pub full_over : (graph : List Entry) (e : Entry) → IsClosed graph → answer_of graph e ≡ Err Full → IsOver graph e
full_over graph e closed answer =
    let parts = full_by (position_of graph e.id) (lacking graph e) (is_within (graph ++ e ∷ [])) _ answer in
    record { closed = closed; next = IsNext-from_tests graph e parts.0 parts.1; passes = parts.2 }

-- an id among these that has no position is not held
pub no_position : (graph : List Entry) (ids : List UpdateId) (i : ℕ) (d : UpdateId) (o : Option ℕ) → i < length ids → o ≡ position_of graph (get_or ids i d) → is_some o ≡ false
    → (id : UpdateId) × (slice_get ids i ≡ Some id) × (holds graph id ≡ false)
no_position graph ids i d o lt position none =
    (get_or ids i d, slice_get-get_or ids i d lt, sym (position_of-held graph (get_or ids i d)) ∙ ap is_some (sym position) ∙ none)

-- whether a position is found says whether the id is held
pub held_by_position : (graph : List Entry) (id same : UpdateId) (o : Option ℕ) (t b : Bool) → same ≡ id → o ≡ position_of graph same → is_some o ≡ not t → t ≡ b → holds graph id ≡ not b
held_by_position graph id same o t b is position none test =
    ap (holds graph) (sym is) ∙ sym (position_of-held graph same) ∙ ap is_some (sym position) ∙ none ∙ ap not test
