-- Laws of what a batch adds: in whatever order, the same ids are held.
use Rattle.std.proofs.Common.{◌≡◌, ◌≢◌, ◌⊎◌, inl, inr, true, not, List, [], ◌∷◌, ◌++◌, None, get_or, sym, ap, subst, ◌∙◌}
use Rattle.std.specs.Prelude.{Contains}
use Rattle.std.specs.List.{AllByRecursion}
use Rattle.std.specs.Cmp.{both_ways}
use Rattle.std.proofs.lemmas.List.Elements.{Contains-push, Contains-append_cases}
use Rattle.update_model.specs.declared.update_id.UpdateId.{UpdateId}
use Rattle.update_model.specs.Batch.{Adds}
use Rattle.update_model.specs.Entry.{Entry}
use Rattle.update_model.specs.Graph.{holds, lacking, Follows}
use Rattle.ready_batch.specs.Ready.{IsReady}
use Rattle.ready_batch.proofs.Elements.{of_each, each_push, contains_filter}
use Rattle.ready_batch.proofs.Holding.{true_or_false, holds_member, held_member, holds_more, holds_push_cases, lacks_none}

-- each member of the batch is held, or lacks a predecessor
abbrev pub AreSettled : List Entry → List Entry → Type 0
AreSettled after batch = (e : Entry) → Contains batch e → (holds after e.id ≡ true) ⊎ (lacking after e ≢ None)

pub settled : (before batch added waiting : List Entry) → Adds before batch added waiting → AreSettled (before ++ added) batch
settled before batch added waiting adds e c = elim (true_or_false (holds (before ++ added) e.id)) [
  | inl held ↦ inl held
  | inr lacks ↦ inr (of_each (λ x. lacking (before ++ added) x ≢ None) waiting e adds.stuck
      (subst (λ (l : List Entry). Contains l e) (sym adds.rest) (contains_filter (λ (x : Entry). not (holds (before ++ added) x.id)) batch e c (ap not lacks))))
]

-- so each that can be added in some order is held
pub ready_held : (after batch front rest : List Entry) → AreSettled after batch → Follows front rest → AllByRecursion (Contains batch) rest
    → ((id : UpdateId) → holds front id ≡ true → holds after id ≡ true) → AllByRecursion (λ e. holds after e.id ≡ true) rest
ready_held after batch front [] all_settled follows from held = tt
ready_held after batch front (e ∷ rest) all_settled follows from held =
    (here, ready_held after batch (front ++ e ∷ []) rest all_settled follows.1 from.1 more)
  where
    here : holds after e.id ≡ true
    here = elim (all_settled e from.0) [
      | inl is_held ↦ is_held
      | inr lacks ↦ absurd (lacks (lacks_none after e (λ k d lt. held (get_or e.preds k d) (follows.0.preds k d lt))))
    ]

    more : (id : UpdateId) → holds (front ++ e ∷ []) id ≡ true → holds after id ≡ true
    more id there = elim (holds_push_cases front e id there) [
      | inl before ↦ held id before
      | inr is ↦ ap (holds after) is ∙ here
    ]

held_too : (before batch added waiting other others_waiting : List Entry) → Adds before batch added waiting → Adds before batch other others_waiting
    → (id : UpdateId) → holds (before ++ added) id ≡ true → holds (before ++ other) id ≡ true
held_too before batch added waiting other others_waiting one two id held =
    let each = ready_held (before ++ other) batch before added (settled before batch other others_waiting two) one.next one.from (λ i h. holds_more before other i h) in
    let w = held_member (before ++ added) id held in
    subst (λ (i : UpdateId). holds (before ++ other) i ≡ true) (sym w.2)
    (elim (Contains-append_cases before added w.0 w.1) [
      | inl there ↦ holds_more before other w.0.id (holds_member before w.0 there)
      | inr new ↦ of_each (λ (e : Entry). holds (before ++ other) e.id ≡ true) added w.0 each new
    ])

pub hold_the_same : (before batch added waiting other others_waiting : List Entry) → Adds before batch added waiting → Adds before batch other others_waiting
    → (id : UpdateId) → holds (before ++ added) id ≡ holds (before ++ other) id
hold_the_same before batch added waiting other others_waiting one two id = both_ways _ _
    (held_too before batch added waiting other others_waiting one two id)
    (held_too before batch other others_waiting added waiting two one id)

pub ready_added : (before batch added waiting : List Entry) (e : Entry) → Adds before batch added waiting → Contains batch e → IsReady before batch e → holds (before ++ added) e.id ≡ true
ready_added before batch added waiting e adds c ready =
    let each = ready_held (before ++ added) batch before (ready.0 ++ e ∷ []) (settled before batch added waiting adds) ready.2 (each_push (Contains batch) ready.0 e ready.1 c) (λ i h. holds_more before added i h) in
    of_each (λ (x : Entry). holds (before ++ added) x.id ≡ true) (ready.0 ++ e ∷ []) e each (Contains-push ready.0 e)
